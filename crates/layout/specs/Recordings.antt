-- 01, "The footprint file": what is handed back of recording k, that of entry k. Definitions only.
use Rattle.std.specs.Prelude.{ℕ, ◌*◌, cond, List, [], eqb, ltb, take, drop, Float}
use Rattle.std.specs.Float.{binary64}
use Rattle.std.specs.Float.Ieee.{of_int}
use Rattle.layout.specs.Bytes.{i32_at}
use Rattle.layout.specs.Parts.{count_of, entry_at}
use Rattle.layout.specs.Verdict.{number_at, verdict}
use Rattle.layout.specs.declared.Verdict.{Verdict}
use Rattle.layout.specs.declared.Entry.{Entry}
use Rattle.layout.specs.declared.Recording.{Recording}

-- every question about a file goes through this: a refused file answers by what is said of it, and nothing else of it is looked at
unfoldable pub unless_refused : {A : Type 0} → List ℕ → (Verdict → A) → A → A
unfolding verdict
unless_refused file refused_by answer = cond (eqb (verdict file).number 0) answer (refused_by (verdict file))

-- a refusal: its number and place, all else zero
abbrev pub no_recording : Verdict → Recording
no_recording v = record { number = v.number; place = v.place; id = 0; first = 0; count = 0; set = 0; last = 0 }

-- an answer: the entry
abbrev pub recording_by : Entry → Recording
recording_by e = record { number = 0; place = 0; id = e.id; first = e.first; count = e.count; set = e.set; last = e.last }

-- what is said where there is no entry k
abbrev pub no_such : Verdict
no_such = number_at 10 0

unfoldable pub recording_of : List ℕ → ℕ → Recording
unfolding unless_refused count_of entry_at
recording_of file k = unless_refused file no_recording (cond (ltb k (count_of file)) (recording_by (entry_at file k)) (no_recording no_such))

-- the bytes of an entry's triangles: 24 times its count, from its first place on
abbrev pub bytes_of : List ℕ → Entry → List ℕ
bytes_of file e = take (24 * e.count) (drop e.first file)

unfoldable pub part_of : List ℕ → ℕ → List ℕ
unfolding unless_refused count_of entry_at
part_of file k = unless_refused file (λ v. []) (cond (ltb k (count_of file)) (bytes_of file (entry_at file k)) [])

-- a coordinate as f64, unchanged
unfoldable pub f64_at : List ℕ → ℕ → Float
unfolding i32_at
f64_at bytes at = of_int binary64 (i32_at bytes at)
