-- 01, "The leak list", with 02, No. 1, No. 3, No. 7 and No. 8: which pairs of recordings have a line, in which order, and what the line names; which only touch; which triangle pairs are given to the triangle rules; and which recordings were formerly held back. Definitions only.
use Rattle.std.specs.Prelude.{ℕ, Bool, Float}
use mathlib.Core.List.{List, map}
use Rattle.std.proofs.Math.ListN.{length}
use Rattle.floats.specs.Lists.{filter}
use Rattle.layout.specs.Parts.{count_of, entry_at}
use Rattle.listing.specs.Turns.{up_to, each}
use Rattle.listing.specs.declared.Tally.{Tally}
use Rattle.sets.specs.Sets.{is_test, is_training, is_retired}
use Rattle.listing.specs.Pairs.{near_at, triangle_pairs, tally_of, own_area, leak, only_touch}

-- a leak line: the ids of the test and the training recording, and how many of their triangle pairs overlap
pub record Leak : Type 0 where
  pub test : ℕ
  pub train : ℕ
  pub pairs : ℕ

module _ (file : List ℕ) where
  -- the test recordings and the training recordings, by their numbers, in table order. What was held back once stands among the training recordings
  unfoldable pub tests : List ℕ
  unfolding filter up_to count_of entry_at
  tests = filter (λ i. is_test (entry_at file i).set) (up_to (count_of file))

  unfoldable pub trainings : List ℕ
  unfolding filter up_to count_of entry_at
  trainings = filter (λ j. is_training (entry_at file j).set) (up_to (count_of file))

  -- for each test recording each training recording
  unfoldable pub recording_pairs : List (ℕ × ℕ)
  unfolding tests trainings each
  recording_pairs = each (λ i. map (λ j. (i, j)) trainings) tests

  -- what is kept of the two recordings
  unfoldable pub tally_for : ℕ × ℕ → Tally
  unfolding tally_of entry_at
  tally_for p = tally_of file (entry_at file p.0) (entry_at file p.1)

  -- the own area of recording i
  unfoldable pub own_for : ℕ → Float
  unfolding own_area entry_at
  own_for i = own_area file (entry_at file i)

  -- two recordings have a line if they leak by the edition of the test recording
  abbrev pub is_leak : ℕ × ℕ → Bool
  is_leak p = leak (entry_at file p.0).last (own_for p.0) (tally_for p)

  unfoldable pub leak_pairs : List (ℕ × ℕ)
  unfolding recording_pairs tally_for own_for entry_at filter
  leak_pairs = filter is_leak recording_pairs

  -- with the ids of both, and N, how many of their triangle pairs overlap
  unfoldable pub leak_of : ℕ × ℕ → Leak
  unfolding entry_at tally_for
  leak_of p = record { test = (entry_at file p.0).id; train = (entry_at file p.1).id; pairs = (tally_for p).overlapping }

  unfoldable pub leaks : List Leak
  unfolding leak_pairs leak_of
  leaks = map leak_of leak_pairs

  -- two recordings that only touch are counted
  abbrev pub is_touching : ℕ × ℕ → Bool
  is_touching p = only_touch (tally_for p)

  unfoldable pub touching_pairs : List (ℕ × ℕ)
  unfolding recording_pairs tally_for filter
  touching_pairs = filter is_touching recording_pairs

  unfoldable pub touching : ℕ
  unfolding touching_pairs
  touching = length touching_pairs

  -- the triangle pairs of all test and training recordings: the two recordings, and a triangle of each
  unfoldable pub all_pairs : List ((ℕ × ℕ) × (ℕ × ℕ))
  unfolding recording_pairs triangle_pairs entry_at each
  all_pairs = each (λ p. map (λ q. (p, q)) (triangle_pairs (entry_at file p.0) (entry_at file p.1))) recording_pairs

  -- those whose boxes share a point are given to the triangle rules, and counted
  abbrev pub is_tested : (ℕ × ℕ) × (ℕ × ℕ) → Bool
  is_tested p = near_at file (entry_at file p.0.0) (entry_at file p.0.1) p.1.0 p.1.1

  unfoldable pub tested_pairs : List ((ℕ × ℕ) × (ℕ × ℕ))
  unfolding all_pairs near_at entry_at filter
  tested_pairs = filter is_tested all_pairs

  unfoldable pub tested : ℕ
  unfolding tested_pairs
  tested = length tested_pairs

  -- the recordings that are stored with the set that is retired, by their numbers, whether they meet a test recording or not
  unfoldable pub formerly : List ℕ
  unfolding filter up_to count_of entry_at
  formerly = filter (λ k. is_retired (entry_at file k).set) (up_to (count_of file))

  unfoldable pub formerly_held_back : ℕ
  unfolding formerly
  formerly_held_back = length formerly

-- what is counted beside the leaks
pub record Beside : Type 0 where
  pub touching : ℕ
  pub tested : ℕ
  pub formerly_held_back : ℕ

unfoldable pub beside : List ℕ → Beside
unfolding touching tested formerly_held_back
beside file = record { touching = touching file; tested = tested file; formerly_held_back = formerly_held_back file }
