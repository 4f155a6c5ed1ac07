-- The rows of the refusal table as predicates of plain numbers, apart from the tests, and when a file has a number and a place. Statements only.
use Rattle.std.specs.Prelude.{ℕ, ◌+◌, ◌*◌, ◌<◌, ◌≤◌, ◌≡◌, ◌⊎◌, ◌↔◌, length, ℤ, pos, nat_abs}
use mathlib.Core.List.{List, Memᴰ}
use Rattle.floats.specs.Turns.{EarlierBy, FirstBy}
use Rattle.sets.specs.Editions.{KnownLast}
use Rattle.layout.specs.Parts.{Triangle, numbers_of, table_place, count_of, stored_length, entry_at, end_before, part_end, triangle_at}
use Rattle.layout.specs.Rules.{twice_area}
use Rattle.layout.specs.Verdict.{Row, bad_length, other_length, bad_trailer, bad_entry, id_again, wrong_end, out_of_range, flat, number_of, place_of, number_at, good, verdict}
use Rattle.layout.specs.declared.Entry.{Entry}

abbrev pub BadLength : ℕ → Type 0
BadLength length = (length < 12) ⊎ (65536 < length)

abbrev pub OtherLength : ℕ → ℕ → Type 0
OtherLength stored length = stored ≡ length → ⊥

abbrev pub BadTrailer : ℕ → ℕ → ℕ → Type 0
BadTrailer table count length = (64 < count) ⊎ (table + 12 * count + 12 ≡ length → ⊥)

-- end: where the entry before ended
abbrev pub BadEntry : Entry → ℕ → Type 0
BadEntry e end = (e.count ≡ 0) ⊎ (2 < e.set) ⊎ (KnownLast e.set e.last → ⊥) ⊎ (e.first ≡ end → ⊥)

-- an entry before entry i has its id
abbrev pub IdSeen : (ℕ → ℕ) → ℕ → Type 0
IdSeen id_of i = (j : ℕ) × (j < i) × (id_of j ≡ id_of i)

-- the last entry does not end at the table, or there is none and the table is not at 0
abbrev pub WrongEnd : (ℕ → ℕ) → ℕ → ℕ → Type 0
WrongEnd end_of_entry count table = ((i : ℕ) × (i + 1 ≡ count) × (end_of_entry i ≡ table → ⊥)) ⊎ ((count ≡ 0) × (table ≡ 0 → ⊥))

abbrev pub OutOfRange : Triangle → Type 0
OutOfRange t = (z : ℤ) × Memᴰ z (numbers_of t) × (1000000 < nat_abs z)

abbrev pub Flat : Triangle → Type 0
Flat t = twice_area t ≡ pos 0

-- the row applies to the file; a row of an entry or a triangle only if there is one
abbrev pub Applies : List ℕ → Row → Type 0
Applies file bad_length = BadLength (length file)
Applies file other_length = OtherLength (stored_length file) (length file)
Applies file bad_trailer = BadTrailer (table_place file) (count_of file) (length file)
Applies file (bad_entry i) = (i < count_of file) × BadEntry (entry_at file i) (end_before file i)
Applies file (id_again i) = (i < count_of file) × IdSeen (λ j. (entry_at file j).id) i
Applies file wrong_end = WrongEnd (λ i. part_end (entry_at file i)) (count_of file) (table_place file)
Applies file (out_of_range k) = (24 * k + 24 ≤ table_place file) × OutOfRange (triangle_at file k)
Applies file (flat k) = (24 * k + 24 ≤ table_place file) × Flat (triangle_at file k)

-- the order, said once more so that the list of rows can be held against it: by stages, and within a stage by turns
abbrev pub stage_of : Row → ℕ
stage_of bad_length = 0
stage_of other_length = 1
stage_of bad_trailer = 2
stage_of (bad_entry i) = 3
stage_of (id_again i) = 3
stage_of wrong_end = 4
stage_of (out_of_range k) = 5
stage_of (flat k) = 5

abbrev pub turn_of : Row → ℕ
turn_of bad_length = 0
turn_of other_length = 0
turn_of bad_trailer = 0
turn_of (bad_entry i) = 2 * i
turn_of (id_again i) = 2 * i + 1
turn_of wrong_end = 0
turn_of (out_of_range k) = 2 * k
turn_of (flat k) = 2 * k + 1

abbrev pub Earlier : Row → Row → Type 0
Earlier a b = EarlierBy stage_of turn_of a b

-- the row applies and no earlier row does
abbrev pub First : List ℕ → Row → Type 0
First file row = FirstBy stage_of turn_of (Applies file) row

pub record ExactlyWhen (file : List ℕ) : Type 0 where
  -- a row's number and place are said exactly if it applies and no earlier row does
  pub refused_by : (row : Row) → (verdict file ≡ number_at (number_of row) (place_of file row)) ↔ First file row
  -- nothing is said against the file exactly if no row applies
  pub accepted : (verdict file ≡ good) ↔ ((row : Row) → Applies file row → ⊥)
  -- and nothing else is ever said
  pub nothing_else : (verdict file ≡ good) ⊎ ((row : Row) × (verdict file ≡ number_at (number_of row) (place_of file row)))
