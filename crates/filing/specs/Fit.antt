-- 02, No. 2, No. 7 and No. 8: which lists are written, in facts about the lists and the room alone: the record has no word of refusals or of their order. Statements only.
use Rattle.std.specs.Prelude.{ℕ, ◌+◌, ◌*◌, ◌<◌, ◌≤◌, ◌≡◌, ◌⊎◌, ◌↔◌, length, ℤ, pos, nat_abs}
use mathlib.Core.List.{Memᴰ}
use Rattle.sets.specs.Editions.{KnownLast}
use Rattle.layout.specs.Parts.{numbers_of}
use Rattle.layout.specs.Rules.{twice_area}
use Rattle.filing.specs.Given.{Given, recordings, triangles, id_at, count_at, set_at, last_at, sum_to, triangle_in}
use Rattle.filing.specs.File.{file_length}
use Rattle.filing.specs.Refusals.{bad_entry, refusal}
use Rattle.filing.specs.Rows.{Applies}

pub record Fit (g : Given) (room : ℕ) : Type 0 where
  -- as many counts, sets and last bytes as ids, and six numbers for each triangle
  pub counts : length g.counts ≡ recordings g
  pub sets : length g.sets ≡ recordings g
  pub lasts : length g.lasts ≡ recordings g
  pub whole : 6 * triangles g ≡ length g.numbers
  -- every recording has triangles, a set that is not retired (0 training, 1 test), a last byte that may stand beside it (0, or 1 of a test recording), and an id of its own; the counts add up to the triangles
  pub some_triangles : (i : ℕ) → i < recordings g → 0 < count_at g i
  pub known_set : (i : ℕ) → i < recordings g → set_at g i ≤ 1
  pub known_last : (i : ℕ) → i < recordings g → KnownLast (set_at g i) (last_at g i)
  pub ids_once : (i j : ℕ) → i < j → j < recordings g → id_at g i ≡ id_at g j → ⊥
  pub sum : sum_to g (recordings g) ≡ triangles g
  -- of every triangle: its numbers are −1,000,000 to 1,000,000, and it has an area
  pub in_range : (k : ℕ) → 6 * k + 6 ≤ length g.numbers → (z : ℤ) → Memᴰ z (numbers_of (triangle_in g k)) → nat_abs z ≤ 1000000
  pub some_area : (k : ℕ) → 6 * k + 6 ≤ length g.numbers → twice_area (triangle_in g k) ≡ pos 0 → ⊥
  -- at most 64 recordings, and a file of at most 65,536 bytes, which the room holds
  pub at_most64 : recordings g ≤ 64
  pub at_most65536 : file_length g ≤ 65536
  pub in_room : file_length g ≤ room

-- lists are not refused exactly if they are such
abbrev pub WrittenExactlyIf : Type 0
WrittenExactlyIf = (g : Given) (room : ℕ) → (refusal g room ≡ 0) ↔ Fit g room

-- what 14 comes to for lists: a count of zero, a set over 1, or a last byte that may not stand beside the set
abbrev pub EntryPlainly : Type 0
EntryPlainly = (g : Given) (room i : ℕ) → Applies g room (bad_entry i) ↔ ((i < recordings g) × ((count_at g i ≡ 0) ⊎ (1 < set_at g i) ⊎ (KnownLast (set_at g i) (last_at g i) → ⊥)))
