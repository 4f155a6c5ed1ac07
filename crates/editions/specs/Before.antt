-- The list as it was before 02, No. 8: every last byte 0, and a line for any two recordings with an overlapping triangle pair. Of a file without a last byte of 1 it is the list still. Definitions and statements.
use Rattle.std.specs.Prelude.{ℕ, ◌≡◌, cond, ◌↔◌, eqb, ltb}
use mathlib.Core.List.{List, map, Memᴰ}
use Rattle.floats.specs.Lists.{filter}
use Rattle.layout.specs.Before.{verdict_before, AllOfFirst}
use Rattle.listing.specs.Leaks.{Leak, recording_pairs, tally_for, leak_of, touching, formerly_held_back, beside}
use Rattle.listing.specs.Demand.{Compared, FirstLeak}
use Rattle.listing.specs.Words.{text_of, refused_line}
use Rattle.listing.specs.Listing.{ListAndRoom, no_list, list_from, list_of, output_of}

unfoldable pub leak_pairs_before : List ℕ → List (ℕ × ℕ)
unfolding filter recording_pairs tally_for
leak_pairs_before file = filter (λ p. ltb 0 (tally_for file p).overlapping) (recording_pairs file)

unfoldable pub leaks_before : List ℕ → List Leak
unfolding leak_pairs_before leak_of
leaks_before file = map (leak_of file) (leak_pairs_before file)

-- a line stood there for a test and a training recording if and only if a triangle pair of theirs overlaps, whatever the last bytes are
abbrev pub BeforeExactlyIf : Type 0
BeforeExactlyIf = (file : List ℕ) (i j : ℕ) → Memᴰ (i, j) (leak_pairs_before file) ↔ (Compared file i j × FirstLeak file i j)

unfoldable pub list_before : List ℕ → List ℕ → ListAndRoom
unfolding verdict_before leaks_before
list_before file room = let v = verdict_before file in cond (eqb v.number 0) (list_from (leaks_before file) (beside file) room) (no_list room v)

unfoldable pub output_before : List ℕ → List ℕ
unfolding verdict_before leaks_before
output_before file = let v = verdict_before file in cond (eqb v.number 0) (text_of (leaks_before file) (touching file) (formerly_held_back file)) (refused_line v)

-- for all bytes and all rooms: the result, the room afterwards, and what the program writes
abbrev pub ListedAsBefore : Type 0
ListedAsBefore = (file room : List ℕ) → AllOfFirst file → (list_before file room ≡ list_of file room) × (output_before file ≡ output_of file)
