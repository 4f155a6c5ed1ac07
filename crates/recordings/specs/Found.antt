-- What is found in a file of its recording k, and what is handed back for it. Definitions only.
use Rattle.std.specs.Prelude.{ℕ, List, [], Result, Ok, Err}
use Rattle.layout.specs.Told.{said}
use Rattle.layout.specs.Recordings.{no_recording, recording_by, no_such, bytes_of}
use Rattle.layout.specs.declared.Entry.{Entry}
use Rattle.layout.specs.declared.Recording.{Recording}
use Rattle.footprint.specs.declared.Footprint.{Footprint}
use Rattle.footprint.specs.Contents.{contents}
use Rattle.recordings.specs.declared.Missing.{Missing}
use Rattle.recordings.specs.declared.Missing.TheVariants.{File, NoSuch}

-- a refusal: its number and place, all else zero
abbrev pub no_recording_by : Missing → Recording
no_recording_by (File r) = no_recording (said r)
no_recording_by NoSuch = no_recording no_such

-- a recording: its entry, or a refusal
abbrev pub recorded : Result (Footprint × Entry) Missing → Recording
recorded (Ok p) = recording_by p.1
recorded (Err m) = no_recording_by m

-- a part: the entry's bytes, or none
abbrev pub parted : Result (Footprint × Entry) Missing → List ℕ
parted (Ok p) = bytes_of (contents p.0) p.1
parted (Err m) = []
