-- Two files of the same bytes but for one byte of their entries, the set or the last one. They have the same recordings, so of two of these the same is kept, and each has the same own area. Statements only.
use Rattle.std.specs.Prelude.{ℕ, ◌+◌, ◌*◌, ◌<◌, ◌≤◌, ◌≡◌, List, length}
use Rattle.layout.specs.Bytes.{byte_at, i32_at}
use Rattle.layout.specs.Parts.{table_place, count_of, stored_length, entry_place, entry_at}
use Rattle.layout.specs.Layout.{Layout}
use Rattle.listing.specs.Leaks.{recording_pairs, tally_for, own_for, touching, tested}

pub record Alike (file other : List ℕ) : Type 0 where
  -- as many recordings, each with the same id and as many triangles from the same place on
  pub as_many : count_of other ≡ count_of file
  pub id : (k : ℕ) → k < count_of file → (entry_at other k).id ≡ (entry_at file k).id
  pub first : (k : ℕ) → k < count_of file → (entry_at other k).first ≡ (entry_at file k).first
  pub count : (k : ℕ) → k < count_of file → (entry_at other k).count ≡ (entry_at file k).count
  -- the same numbers before the table
  pub number : (at : ℕ) → at + 4 ≤ table_place file → i32_at other at ≡ i32_at file at

-- N, the areas, what touches, what is tested: all that is kept of two recordings; and the own area of one
pub record KeptAlike (file other : List ℕ) : Type 0 where
  pub tally : (i j : ℕ) → i < count_of file → j < count_of file → tally_for other (i, j) ≡ tally_for file (i, j)
  pub own : (i : ℕ) → i < count_of file → own_for other i ≡ own_for file i
  -- so where the same recordings are test and training recordings, as many only touch, and as many triangle pairs are tested
  pub touching_same : recording_pairs other ≡ recording_pairs file → touching other ≡ touching file
  pub tested_same : recording_pairs other ≡ recording_pairs file → tested other ≡ tested file

abbrev pub AllKeptAlike : Type 0
AllKeptAlike = (file other : List ℕ) → Layout file → Alike file other → KeptAlike file other

-- ---- files of the same bytes but for byte r of each entry: 10 is the set, 11 the last byte
pub record SameBut (r : ℕ) (file other : List ℕ) : Type 0 where
  pub same_length : length other ≡ length file
  pub same_byte : (at : ℕ) → at < length file → ((k : ℕ) → k < count_of file → at ≡ table_place file + 12 * k + r → ⊥) → byte_at other at ≡ byte_at file at

pub record AlikeBut (r : ℕ) (file other : List ℕ) : Type 0 where
  pub alike : Alike file other
  pub table : table_place other ≡ table_place file
  pub stored : stored_length other ≡ stored_length file
  -- of an entry every other byte stays
  pub other_byte : (k q : ℕ) → k < count_of file → q < 12 → (q ≡ r → ⊥) → byte_at other (entry_place other k + q) ≡ byte_at file (entry_place file k + q)

abbrev pub AllAlikeBut : Type 0
AllAlikeBut = (r : ℕ) → 10 ≤ r → r < 12 → (file other : List ℕ) → Layout file → SameBut r file other → AlikeBut r file other
