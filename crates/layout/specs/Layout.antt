-- 01, "The footprint file", with 02, No. 8: what a good file is, in facts about the file alone: the record has no word of refusals, of their order, or of how a file is read. Statements only.
use Rattle.std.specs.Prelude.{ℕ, ◌+◌, ◌*◌, ◌<◌, ◌≤◌, ◌≡◌, ◌↔◌, length, ℤ, pos, nat_abs}
use mathlib.Core.List.{List, Memᴰ}
use Rattle.sets.specs.Editions.{KnownLast}
use Rattle.layout.specs.Parts.{table_place, count_of, stored_length, entry_at, part_end, triangle_at, numbers_of}
use Rattle.layout.specs.Rules.{twice_area}
use Rattle.layout.specs.Verdict.{verdict, good}

pub record Layout (file : List ℕ) : Type 0 where
  -- the length is 12 to 65,536, and the trailer has it
  pub at_least12 : 12 ≤ length file
  pub at_most65536 : length file ≤ 65536
  pub length_stored : stored_length file ≡ length file
  -- at most 64 recordings; triangles, table and trailer fill the file
  pub at_most64 : count_of file ≤ 64
  pub filled : table_place file + 12 * count_of file + 12 ≡ length file
  -- every entry has triangles, a set that there is (0 training, 1 test, 2 in old files), and a last byte that may stand beside it (0, or 1 of a test recording)
  pub some_triangles : (i : ℕ) → i < count_of file → 0 < (entry_at file i).count
  pub known_set : (i : ℕ) → i < count_of file → (entry_at file i).set ≤ 2
  pub known_last : (i : ℕ) → i < count_of file → KnownLast (entry_at file i).set (entry_at file i).last
  -- the recordings lie end to end from 0 to the table
  pub from_start : 0 < count_of file → (entry_at file 0).first ≡ 0
  pub end_to_end : (i : ℕ) → i + 1 < count_of file → (entry_at file (i + 1)).first ≡ part_end (entry_at file i)
  pub to_table : (i : ℕ) → i + 1 ≡ count_of file → part_end (entry_at file i) ≡ table_place file
  pub none_no_triangles : count_of file ≡ 0 → table_place file ≡ 0
  -- no two entries have the same id
  pub ids_once : (i j : ℕ) → i < j → j < count_of file → (entry_at file i).id ≡ (entry_at file j).id → ⊥
  -- of every triangle before the table: its numbers are −1,000,000 to 1,000,000, and it has an area
  pub in_range : (k : ℕ) → 24 * k + 24 ≤ table_place file → (z : ℤ) → Memᴰ z (numbers_of (triangle_at file k)) → nat_abs z ≤ 1000000
  pub some_area : (k : ℕ) → 24 * k + 24 ≤ table_place file → twice_area (triangle_at file k) ≡ pos 0 → ⊥

-- nothing is said against a file exactly if it has the layout
abbrev pub AcceptedExactlyIf : Type 0
AcceptedExactlyIf = (file : List ℕ) → (verdict file ≡ good) ↔ Layout file
