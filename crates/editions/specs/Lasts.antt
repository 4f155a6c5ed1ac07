-- 02, No. 8: what does not turn on the edition. Two files of the same bytes but for last bytes have the same N, the same areas, the same numbers beside the leaks; and a leak by edition 2 is one by edition 1. Statements only.
use Rattle.std.specs.Prelude.{ℕ, ◌<◌, ◌≡◌}
use mathlib.Core.List.{List, Memᴰ}
use Rattle.layout.specs.Parts.{count_of}
use Rattle.layout.specs.Layout.{Layout}
use Rattle.layout.specs.Before.{AllOfFirst}
use Rattle.listing.specs.Leaks.{Leak, recording_pairs, tally_for, own_for, leak_pairs, leak_of, leaks, touching, tested, formerly_held_back}
use Rattle.alike.specs.Alike.{SameBut}

-- the last byte is byte 11 of an entry
abbrev pub SameButLasts : List ℕ → List ℕ → Type 0
SameButLasts file other = SameBut 11 file other

pub record SameBesideLeaks (file other : List ℕ) : Type 0 where
  -- the same recordings are compared, with the same ids; and of two of them N is the same, and so are the areas
  pub as_many : count_of other ≡ count_of file
  pub compared : recording_pairs other ≡ recording_pairs file
  pub line : (p : ℕ × ℕ) → Memᴰ p (recording_pairs file) → leak_of other p ≡ leak_of file p
  pub tally : (i j : ℕ) → i < count_of file → j < count_of file → tally_for other (i, j) ≡ tally_for file (i, j)
  pub own : (i : ℕ) → i < count_of file → own_for other i ≡ own_for file i
  -- the numbers beside the leaks
  pub touching_same : touching other ≡ touching file
  pub tested_same : tested other ≡ tested file
  pub formerly_same : formerly_held_back other ≡ formerly_held_back file
  -- where all of the other file goes by edition 1, every line of this one is one of its lines, with the same N
  pub fewer : AllOfFirst other → (p : ℕ × ℕ) → Memᴰ p (leak_pairs file) → Memᴰ p (leak_pairs other)
  pub lines : AllOfFirst other → (l : Leak) → Memᴰ l (leaks file) → Memᴰ l (leaks other)

abbrev pub AllSameBesideLeaks : Type 0
AllSameBesideLeaks = (file other : List ℕ) → Layout file → SameButLasts file other → SameBesideLeaks file other
