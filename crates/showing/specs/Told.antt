-- What is said of a text that was put, by its length, and of a refusal: its number, its place, and length 0. Definitions only.
use Rattle.std.specs.Prelude.{ℕ, [], Result, Ok, Err}
use Rattle.text.specs.declared.Written.{Written}
use Rattle.layout.specs.Told.{said as said_of}
use Rattle.chart.specs.Showing.{no_text, no_such_id, too_short}
use Rattle.showing.specs.declared.Refusal.{Refusal}
use Rattle.showing.specs.declared.Refusal.TheVariants.{File, NoRecording, NoRoom}

abbrev pub said : Refusal → Written
said (File refused) = (no_text [] (said_of refused)).result
said NoRecording = (no_text [] no_such_id).result
said NoRoom = (no_text [] too_short).result

abbrev pub told : Result ℕ Refusal → Written
told (Ok size) = record { number = 0; place = 0; length = size }
told (Err refusal) = said refusal
