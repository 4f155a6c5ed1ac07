-- 02, No. 7: an old file, and the same file with every 2 stored as 0; and that both have the same list but for the last line. Definitions and statements.
use Rattle.std.specs.Prelude.{ℕ, ◌+◌, ◌*◌, ◌<◌, ◌≡◌, Bool, length}
use Rattle.std.proofs.Math.Bool.{cond}
use mathlib.Core.List.{List, ◌++◌, map}
use Rattle.std.proofs.Math.Dec.{eqb}
use Rattle.floats.specs.Lists.{any}
use Rattle.sets.specs.Sets.{is_retired}
use Rattle.layout.specs.declared.Entry.{Entry}
use Rattle.layout.specs.Bytes.{Bytes, byte_at}
use Rattle.layout.specs.Parts.{table_place, count_of, entry_at}
use Rattle.layout.specs.Layout.{Layout}
use Rattle.layout.specs.Recordings.{part_of}
use Rattle.filing.specs.Promise.{NoneRetired}
use Rattle.listing.specs.Turns.{up_to}
use Rattle.listing.specs.Leaks.{leaks, touching, tested, formerly_held_back}
use Rattle.listing.specs.Words.{formerly_line, all_but_last, list_text}

-- a set as it is stored from now on
abbrev pub moved_set : ℕ → ℕ
moved_set set = cond (is_retired set) 0 set

module _ (file : List ℕ) where
  -- where the set of recording k stands
  abbrev pub set_place : ℕ → ℕ
  set_place k = table_place file + 12 * k + 10

  -- the set of a recording stands at this place
  unfoldable pub has_set : ℕ → Bool
  unfolding any up_to count_of table_place
  has_set at = any (λ k. eqb at (set_place k)) (up_to (count_of file))

  -- the byte at a place: every other one stays
  unfoldable pub moved_byte : ℕ → ℕ
  unfolding has_set
  moved_byte at = cond (has_set at) (moved_set (byte_at file at)) (byte_at file at)

  -- the same file with every 2 stored as 0
  unfoldable pub moved : List ℕ
  unfolding moved_byte up_to
  moved = map moved_byte (up_to (length file))

-- an entry of it
abbrev pub moved_entry : Entry → Entry
moved_entry e = record { id = e.id; first = e.first; count = e.count; set = moved_set e.set; last = e.last }

-- 2 is stored as 0, and every other set as it was
pub record MovedSets : Type 0 where
  pub two : moved_set 2 ≡ 0
  pub others : (set : ℕ) → (set ≡ 2 → ⊥) → moved_set set ≡ set

-- of any list of bytes: it is as long; a byte where the set of a recording stands is stored as such a set, and every other byte is as it was; so without set 2 it is the same file
pub record MovedBytes (file : List ℕ) : Type 0 where
  pub same_length : length (moved file) ≡ length file
  pub set_byte : (k : ℕ) → k < count_of file → set_place file k < length file → byte_at (moved file) (set_place file k) ≡ moved_set (byte_at file (set_place file k))
  pub other_byte : (at : ℕ) → at < length file → ((k : ℕ) → k < count_of file → at ≡ set_place file k → ⊥) → byte_at (moved file) at ≡ byte_at file at
  pub bytes : Bytes file → Bytes (moved file)
  pub as_before : NoneRetired file → moved file ≡ file

abbrev pub AllMovedBytes : Type 0
AllMovedBytes = (file : List ℕ) → MovedBytes file

-- of a good file
pub record MovedOver (file : List ℕ) : Type 0 where
  -- it is a good one too, with the same recordings, but for their sets, and the same parts
  pub good : Layout (moved file)
  pub as_many : count_of (moved file) ≡ count_of file
  pub entry : (k : ℕ) → k < count_of file → entry_at (moved file) k ≡ moved_entry (entry_at file k)
  pub part : (k : ℕ) → k < count_of file → part_of (moved file) k ≡ part_of file k
  -- the same leaks, and as many that only touch and that are tested
  pub same_leaks : leaks (moved file) ≡ leaks file
  pub same_touching : touching (moved file) ≡ touching file
  pub same_tested : tested (moved file) ≡ tested file
  -- and the same list but for its last line, which says 0 of the new file
  pub none_any_more : formerly_held_back (moved file) ≡ 0
  pub old_list : list_text file ≡ all_but_last (leaks file) (touching file) ++ formerly_line (formerly_held_back file)
  pub new_list : list_text (moved file) ≡ all_but_last (leaks file) (touching file) ++ formerly_line 0

abbrev pub AllMovedOver : Type 0
AllMovedOver = (file : List ℕ) → Layout file → MovedOver file
