-- 01's row 14, in which every last byte is 0: what it says of a file. 02, No. 8 allows a last byte of 1 for test recordings; of a file without one the reader says what it said. Definitions and statements.
use Rattle.std.specs.Prelude.{ℕ, ◌<◌, ◌≡◌, Bool, true, not, ◌||◌, eqb, ltb}
use Rattle.std.proofs.Math.Bool.{cond}
use mathlib.Core.List.{List, [], ◌∷◌}
use Rattle.layout.specs.Parts.{count_of, entry_at, end_before}
use Rattle.layout.specs.Verdict.{Row, bad_length, other_length, bad_trailer, bad_entry, id_again, wrong_end, out_of_range, flat, number_of, number_at, good, place_of, test, rows, verdict}
use Rattle.layout.specs.declared.Entry.{Entry}
use Rattle.layout.specs.declared.Verdict.{Verdict}

unfoldable pub is_bad_entry_before : Entry → ℕ → Bool
is_bad_entry_before e end = eqb e.count 0 || (ltb 2 e.set || (not (eqb e.last 0) || not (eqb e.first end)))

module _ (file : List ℕ) where
  -- every other row stays
  unfoldable pub test_before : Row → Bool
  unfolding is_bad_entry_before entry_at end_before test
  test_before bad_length = test file bad_length
  test_before other_length = test file other_length
  test_before bad_trailer = test file bad_trailer
  test_before (bad_entry i) = is_bad_entry_before (entry_at file i) (end_before file i)
  test_before (id_again i) = test file (id_again i)
  test_before wrong_end = test file wrong_end
  test_before (out_of_range k) = test file (out_of_range k)
  test_before (flat k) = test file (flat k)

  unfoldable pub first_before : List Row → Verdict
  unfolding test_before place_of
  first_before [] = good
  first_before (row ∷ rows) = let rest = first_before rows in cond (test_before row) (number_at (number_of row) (place_of file row)) rest

  unfoldable pub verdict_before : Verdict
  unfolding first_before rows
  verdict_before = first_before (rows file)

-- no entry of the table has a last byte of 1
abbrev pub AllOfFirst : List ℕ → Type 0
AllOfFirst file = (i : ℕ) → i < count_of file → (entry_at file i).last ≡ 1 → ⊥

-- every last byte but 0 was refused, whatever else the entry has
abbrev pub OnceRefused : Type 0
OnceRefused = (file : List ℕ) (i : ℕ) → ((entry_at file i).last ≡ 0 → ⊥) → test_before file (bad_entry i) ≡ true

abbrev pub SaidAsBefore : Type 0
SaidAsBefore = (file : List ℕ) → AllOfFirst file → verdict_before file ≡ verdict file
