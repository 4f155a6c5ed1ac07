-- 02, No. 2: what is said of a file that was written, by its length, or of lists that were refused. Definitions only.
use Rattle.std.specs.Prelude.{ℕ, Result, Ok, Err}
use Rattle.text.specs.declared.Written.{Written}
use Rattle.refusing.specs.declared.WriteRefusal.{WriteRefusal}
use Rattle.refusing.specs.Told.{refusal_number}

abbrev pub told : Result ℕ WriteRefusal → Written
told (Ok length) = record { number = 0; place = 0; length = length }
told (Err why) = record { number = refusal_number why; place = 0; length = 0 }
