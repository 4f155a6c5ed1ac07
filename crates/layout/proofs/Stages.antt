-- The verdict stage by stage, as a reader comes to it: what the rows of a thing say together is its rule's number at its place, and one thing after the other is looked at. Assumes nothing.
use Prim.Native.Nat.{ℕ, suc, ◌+◌, ◌-◌, ◌<◌, ◌≤◌}
use mathlib.Core.Path.{◌≡◌, refl, sym, ap, ◌∙◌}
use mathlib.Core.Bool.{Bool, true, false, cond}
use mathlib.Core.List.{List, [], ◌∷◌, ◌++◌}
use native.Mathlib.Omega.{arith}
use borrow.Author.Tests.{eq-eqb, ne_eqb}
use Rattle.floats.specs.Turns.{in_turn}
use Rattle.layout.specs.Parts.{count_of, entry_place, triangle_place}
use Rattle.layout.specs.Rules.{entry_rule, triangle_rule}
use Rattle.layout.specs.Verdict.{Row, bad_entry, id_again, wrong_end, out_of_range, flat, number_of, place_of, test, rows, first_of, number_at, verdict}
use Rattle.layout.specs.Stages.{or_else, at_or, trailer_rows, table_rows, triangle_rows, entry_number, triangle_number, ByRules}
use Rattle.layout.specs.declared.Verdict.{Verdict}
use Rattle.layout.proofs.Tests.{nonzero}

pub refused : (v w : Verdict) → (v.number ≡ 0 → ⊥) → or_else v w ≡ v
refused v w h = rw (ne_eqb v.number 0 h) refl

pub passed : (v w : Verdict) → v.number ≡ 0 → or_else v w ≡ w
passed v w h = rw (eq-eqb v.number 0 h) refl

module _ (file : List ℕ) where
  pub append : (xs ys : List Row) → first_of file (xs ++ ys) ≡ or_else (first_of file xs) (first_of file ys)
  unfolding first_of
  append [] ys = refl
  append (row ∷ xs) ys = go (test file row) (append xs ys)
    where
      go : (b : Bool) → first_of file (xs ++ ys) ≡ or_else (first_of file xs) (first_of file ys) → cond b (number_at (number_of row) (place_of file row)) (first_of file (xs ++ ys)) ≡ or_else (cond b (number_at (number_of row) (place_of file row)) (first_of file xs)) (first_of file ys)
      go true h = sym (refused (number_at (number_of row) (place_of file row)) (first_of file ys) (nonzero row))
      go false h = h

  -- two rows of one thing, as one number at its place
  pair : (r s : Row) (rest : List Row) (place : ℕ) → place_of file r ≡ place → place_of file s ≡ place → first_of file (r ∷ s ∷ rest) ≡ at_or (cond (test file r) (number_of r) (cond (test file s) (number_of s) 0)) place (first_of file rest)
  unfolding first_of
  pair r s rest place p q = go (test file r) (test file s)
    where
      go : (a b : Bool) → cond a (number_at (number_of r) (place_of file r)) (cond b (number_at (number_of s) (place_of file s)) (first_of file rest)) ≡ at_or (cond a (number_of r) (cond b (number_of s) 0)) place (first_of file rest)
      go true b = ap (number_at (number_of r)) p ∙ rw (ne_eqb (number_of r) 0 (nonzero r)) refl
      go false true = ap (number_at (number_of s)) q ∙ rw (ne_eqb (number_of s) 0 (nonzero s)) refl
      go false false = refl

  -- a turn of a loop over things in turn: it stops, goes on, or ends
  module _ (first second : ℕ → Row) (number place : ℕ → ℕ) (says : (i : ℕ) (rest : List Row) → first_of file (first i ∷ second i ∷ rest) ≡ at_or (number i) (place i) (first_of file rest)) where
    step : (m i : ℕ) (rest : List Row) → first_of file (in_turn first second (suc m) i ++ rest) ≡ at_or (number i) (place i) (first_of file (in_turn first second m (i + 1) ++ rest))
    unfolding in_turn
    step m i rest = says i (in_turn first second m (i + 1) ++ rest)

    at : (k i : ℕ) (rest : List Row) → i < k → first_of file (in_turn first second (k - i) i ++ rest) ≡ at_or (number i) (place i) (first_of file (in_turn first second (k - (i + 1)) (i + 1) ++ rest))
    at k i rest h = let q : k - i ≡ suc (k - (i + 1)) = omega arith in ap (λ n. first_of file (in_turn first second n i ++ rest)) q ∙ step (k - (i + 1)) i rest

    pub stops : (k i : ℕ) (rest : List Row) {n p : ℕ} → i < k → n ≡ number i → p ≡ place i → (n ≡ 0 → ⊥) → number_at n p ≡ first_of file (in_turn first second (k - i) i ++ rest)
    stops k i rest {n} {p} h e q z = sym (at k i rest h ∙ rw (sym e, sym q, ne_eqb n 0 z) refl)

    pub goes_on : (k i : ℕ) (rest : List Row) {n : ℕ} → i < k → n ≡ number i → n ≡ 0 → first_of file (in_turn first second (k - i) i ++ rest) ≡ first_of file (in_turn first second (k - (i + 1)) (i + 1) ++ rest)
    goes_on k i rest {n} h e z = at k i rest h ∙ rw (sym e, eq-eqb n 0 z) refl

    pub ended : (k i : ℕ) (rest : List Row) → k ≤ i → first_of file (in_turn first second (k - i) i ++ rest) ≡ first_of file rest
    unfolding in_turn
    ended k i rest h = let q : k - i ≡ 0 = omega arith in rw q refl

  -- ---- of entries and of triangles
  pub entry_says : (i : ℕ) (rest : List Row) → first_of file (bad_entry i ∷ id_again i ∷ rest) ≡ at_or (entry_number file i) (entry_place file i) (first_of file rest)
  unfolding test place_of entry_rule
  entry_says i rest = pair (bad_entry i) (id_again i) rest (entry_place file i) refl refl

  pub triangle_says : (k : ℕ) (rest : List Row) → first_of file (out_of_range k ∷ flat k ∷ rest) ≡ at_or (triangle_number file k) (triangle_place k) (first_of file rest)
  unfolding test place_of triangle_rule
  triangle_says k rest = pair (out_of_range k) (flat k) rest (triangle_place k) refl refl

  -- ---- the whole: trailer, table, triangles
  pub by_stages_lem : verdict file ≡ or_else (first_of file (trailer_rows file)) (or_else (first_of file (table_rows file)) (first_of file (triangle_rows file)))
  unfolding verdict rows
  by_stages_lem =
      append (trailer_rows file) (in_turn bad_entry id_again (count_of file) 0 ++ (wrong_end ∷ triangle_rows file))
      ∙ ap (or_else (first_of file (trailer_rows file))) (ap (first_of file) (seam (in_turn bad_entry id_again (count_of file) 0) (triangle_rows file)) ∙ append (table_rows file) (triangle_rows file))
    where
      seam : (xs ys : List Row) → xs ++ (wrong_end ∷ ys) ≡ (xs ++ (wrong_end ∷ [])) ++ ys
      seam [] ys = refl
      seam (x ∷ xs) ys = ap (x ∷◌) (seam xs ys)

pub by_rules : (file : List ℕ) → ByRules file
by_rules file = record { by_stages = by_stages_lem file; entries = entry_says file; triangles = triangle_says file }
