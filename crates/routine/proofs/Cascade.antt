-- The table taken in two parts: the rows from the coordinates to the parameters, which the code asks first, and the last three. Assumes nothing.
use mathlib.Core.Path.{◌≡◌, refl, sym, ap, ◌∙◌}
use mathlib.Core.Logic.{◌⊎◌, inl, inr}
use mathlib.Core.Bool.{Bool, true, false, not, ◌&&◌, ◌||◌, cond}
use mathlib.Core.List.{List, [], ◌∷◌, ◌++◌}
use Prim.Native.Nat.{ℕ, ◌<◌, ◌≤◌}
use lib.Dec.{eqb}
use lib.ListN.{length}
use lib.Ieee.{Float}
use borrow.Author.Tests.{eq-eqb, ne_eqb, lt-ltb, le-ltb}
use Rattle.floats.specs.Lists.{all}
use Rattle.floats.specs.Finite.{finite}
use Rattle.triangles.specs.Refusals.{Row, coordinates, way_to_d, d_zero, way_to_e, e_zero, way_to_parameter, way_to_pair_test, way_to_position, way_to_area, number_of, way_of, row_test, first_of, refusal_of}
use Rattle.triangles.specs.Answers.{refusal, refused}
use Rattle.triangles.specs.Promise.{PairPromise}
use Rattle.routine.specs.Code.{front_of}
use Rattle.triangles.proofs.Rows.{nonzero, refused_is}

-- the rest is asked only where no row before it holds
first_then : (rows rest : List Row) (l room : List Float) → first_of (rows ++ rest) l room ≡ cond (eqb (first_of rows l room) 0) (first_of rest l room) (first_of rows l room)
unfolding first_of
first_then [] rest l room = refl
first_then (row ∷ rows) rest l room = go (row_test row l room) (first_then rows rest l room)
  where
    go : (b : Bool) → first_of (rows ++ rest) l room ≡ cond (eqb (first_of rows l room) 0) (first_of rest l room) (first_of rows l room) → cond b (number_of row) (first_of (rows ++ rest) l room) ≡ cond (eqb (cond b (number_of row) (first_of rows l room)) 0) (first_of rest l room) (cond b (number_of row) (first_of rows l room))
    go true e = sym (ap (λ t. cond t (first_of rest l room) (number_of row)) (ne_eqb (number_of row) 0 (nonzero l room row)))
    go false e = e

-- the last three rows have one number
abbrev pub back_fine : List Float → Bool
back_fine l = all finite (way_of way_to_pair_test l) && (all finite (way_of way_to_position l) && all finite (way_of way_to_area l))

back_is : (l room : List Float) → first_of (way_to_pair_test ∷ way_to_position ∷ way_to_area ∷ []) l room ≡ cond (back_fine l) 0 4
unfolding first_of row_test
back_is l room = go (all finite (way_of way_to_pair_test l)) (all finite (way_of way_to_position l)) (all finite (way_of way_to_area l))
  where
    go : (a b c : Bool) → ◌≡◌ {A = ℕ} (cond (not a) 4 (cond (not b) 4 (cond (not c) 4 0))) (cond (a && (b && c)) 0 4)
    go true true true = refl
    go true true false = refl
    go true false c = refl
    go false b c = refl

module _ (l room : List Float) where
  pub short : (length l ≡ 12 → ⊥) ⊎ (length room < 12) → refusal_of l room ≡ 1
  unfolding refusal_of first_of row_test
  short (inl h) = rw (ne_eqb (length l) 12 h) refl
  short (inr h) = rw (lt-ltb (length room) 12 h) (go (eqb (length l) 12))
    where
      go : (b : Bool) → cond (not b || true) 1 (first_of (coordinates ∷ way_to_d ∷ d_zero ∷ way_to_e ∷ e_zero ∷ way_to_parameter ∷ way_to_pair_test ∷ way_to_position ∷ way_to_area ∷ []) l room) ≡ 1
      go true = refl
      go false = refl

  module _ (n : length l ≡ 12) (m : 12 ≤ length room) where
    -- the row of lengths does not hold, and no other row of the front looks at the room
    past_lengths : refusal_of l room ≡ first_of ((coordinates ∷ way_to_d ∷ d_zero ∷ way_to_e ∷ e_zero ∷ way_to_parameter ∷ []) ++ (way_to_pair_test ∷ way_to_position ∷ way_to_area ∷ [])) l room
    unfolding refusal_of first_of row_test
    past_lengths = rw (eq-eqb (length l) 12 n, le-ltb (length room) 12 m) refl

    front_room : first_of (coordinates ∷ way_to_d ∷ d_zero ∷ way_to_e ∷ e_zero ∷ way_to_parameter ∷ []) l room ≡ front_of l
    unfolding front_of first_of row_test
    front_room = refl

    in_two : refusal_of l room ≡ cond (eqb (front_of l) 0) (cond (back_fine l) 0 4) (front_of l)
    in_two =
        past_lengths
        ∙ (first_then (coordinates ∷ way_to_d ∷ d_zero ∷ way_to_e ∷ e_zero ∷ way_to_parameter ∷ []) (way_to_pair_test ∷ way_to_position ∷ way_to_area ∷ []) l room
        ∙ (ap (λ k. cond (eqb k 0) (first_of (way_to_pair_test ∷ way_to_position ∷ way_to_area ∷ []) l room) k) front_room
        ∙ ap (λ k. cond (eqb (front_of l) 0) k (front_of l)) (back_is l room)))

    pub by_front : (front_of l ≡ 0 → ⊥) → refusal_of l room ≡ front_of l
    by_front h = in_two ∙ ap (λ b. cond b (cond (back_fine l) 0 4) (front_of l)) (ne_eqb (front_of l) 0 h)

    by_back : front_of l ≡ 0 → refusal_of l room ≡ cond (back_fine l) 0 4
    by_back h = in_two ∙ ap (λ b. cond b (cond (back_fine l) 0 4) (front_of l)) (eq-eqb (front_of l) 0 h)

    pub back_fine_lem : front_of l ≡ 0 → back_fine l ≡ true → refusal_of l room ≡ 0
    back_fine_lem h f = by_back h ∙ ap (λ b. cond b 0 4) f

    pub back_not_fine : front_of l ≡ 0 → back_fine l ≡ false → refusal_of l room ≡ 4
    back_not_fine h f = by_back h ∙ ap (λ b. cond b 0 4) f

  -- ---- the promise of a refusal and of an answer
  pub keeps_refusal : {k : ℕ} → refusal_of l room ≡ k → (k ≡ 0 → ⊥) → PairPromise l room (refusal k) room
  keeps_refusal {k} h z = let w = refused_is l room (λ e. z (sym h ∙ e)) ∙ ap (λ k. refused k room) h in record { result_is = rw w refl; after_is = rw w refl }
