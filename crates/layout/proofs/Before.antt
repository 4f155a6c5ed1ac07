-- Of a file without a last byte of 1 the reader says what it said when every last byte had to be 0: row by row the tests are the same. Assumes nothing.
use Prim.Native.Nat.{ℕ}
use mathlib.Core.Path.{◌≡◌, refl, ap₂}
use mathlib.Core.Bool.{Bool, true, false, ◌||◌, cond, and-false, or-false}
use mathlib.Core.Logic.{⊎_elim}
use mathlib.Core.List.Memᴰ
use mathlib.Core.List.Memᴰ.{head as here}
use mathlib.Core.List.Memᴰ.{tail as there}
use mathlib.Core.List.{List, [], ◌∷◌, Memᴰ}
use native.Mathlib.Omega.{arith}
use lib.Dec.{eqb, ltb}
use borrow.Author.Tests.{ne_eqb}
use Rattle.floats.specs.Turns.{in_turn}
use Rattle.floats.proofs.Turns.{turn_members}
use Rattle.layout.specs.Parts.{count_of, entry_at, end_before, triangles_of}
use Rattle.layout.specs.Rules.{is_bad_entry}
use Rattle.layout.specs.Verdict.{Row, bad_entry, id_again, out_of_range, flat, number_of, number_at, place_of, test, first_of, rows, verdict}
use Rattle.layout.specs.Before.{is_bad_entry_before, test_before, first_before, verdict_before, AllOfFirst, OnceRefused, SaidAsBefore}
use Rattle.layout.specs.declared.Entry.{Entry}

pub once_refused : OnceRefused
unfolding test_before is_bad_entry_before
once_refused file i n = rw (ne_eqb (entry_at file i).last 0 n) (any_two (eqb (entry_at file i).count 0) (ltb 2 (entry_at file i).set))
  where
    any_two : (a b : Bool) → (a || (b || true)) ≡ true
    any_two true b = refl
    any_two false true = refl
    any_two false false = refl

entry_as_before : (e : Entry) (end : ℕ) → (e.last ≡ 1 → ⊥) → is_bad_entry_before e end ≡ is_bad_entry e end
unfolding is_bad_entry_before is_bad_entry
entry_as_before e end n = rw (ne_eqb e.last 1 n, and-false (eqb e.set 1), or-false (eqb e.last 0)) refl

module _ (file : List ℕ) (none : AllOfFirst file) where
  abbrev Same : Row → Type 0
  Same row = test_before file row ≡ test file row

  -- the first of rows whose tests are the same
  first_Same : (list : List Row) → ((row : Row) → Memᴰ row list → Same row) → first_before file list ≡ first_of file list
  unfolding first_before first_of
  first_Same [] all = refl
  first_Same (row ∷ list) all = ap₂ (λ b rest. cond b (number_at (number_of row) (place_of file row)) rest) (all row (here refl)) (first_Same list (λ r m. all r (there m)))

  of_entries : (row : Row) → Memᴰ row (in_turn bad_entry id_again (count_of file) 0) → Same row
  of_entries = turn_members bad_entry id_again (count_of file) 0 Same (λ j l h. (unfold test_before test in entry_as_before (entry_at file j) (end_before file j) (none j (omega (arith, h))), unfold test_before in refl))

  of_triangles : (row : Row) → Memᴰ row (in_turn out_of_range flat (triangles_of file) 0) → Same row
  of_triangles = turn_members out_of_range flat (triangles_of file) 0 Same (λ j l h. (unfold test_before in refl, unfold test_before in refl))

  of_all : (row : Row) → Memᴰ row (rows file) → Same row
  unfolding rows test_before
  of_all row (here e) = rw e refl
  of_all row (there (here e)) = rw e refl
  of_all row (there (there (here e))) = rw e refl
  of_all row (there (there (there m))) = ⊎_elim (of_entries row) (λ k. ⊎_elim (λ e. rw e refl) (of_triangles row) (Memᴰ.cases_cons k)) (Memᴰ.append_cases (in_turn bad_entry id_again (count_of file) 0) m)

pub said_as_before : SaidAsBefore
unfolding verdict_before verdict
said_as_before file none = first_Same file none (rows file) (of_all file none)
