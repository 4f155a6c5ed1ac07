-- Which pairs are far, by the tests: refusals 1 and 2 do not apply and the boxes share no point. Such a pair is apart, and any other is what the triangle rules say. Assumes nothing.
use mathlib.Core.Path.{◌≡◌, refl, sym, ap, ◌∙◌}
use mathlib.Core.Logic.{◌⊎◌, inl, inr}
use mathlib.Core.Bool.{Bool, true, false, false≢true}
use mathlib.Core.List.{List, Memᴰ}
use Prim.Native.Nat.{ℕ, ◌<◌}
use native.Mathlib.Omega.{arith}
use lib.Dec.{eqb}
use borrow.Author.Tests.{eqb-true, eqb-false, ne_eqb}
use lib.ListN.{length}
use lib.Ieee.{Float}
use Rattle.floats.specs.Finite.{finite}
use Rattle.floats.proofs.Lists.{taken, left}
use Rattle.boxes.specs.Near.{is_near, TwelveFinite, Far}
use Rattle.boxes.proofs.Pairs.{boxes_tell}
use Rattle.triangles.specs.declared.Decision.TheVariants.{Apart}
use Rattle.triangles.specs.Refusals.{lengths, coordinates, row_test, first_of, refusal_of}
use Rattle.triangles.specs.Decision.{enough, decided, by_rules, before_boxes, decision_of}
use Rattle.triangles.proofs.Rows.{test_Applies, refused_is}

module _ (l : List Float) where
  -- ---- refusals 1 and 2
  is_twelve : row_test lengths l enough ≡ false → length l ≡ 12
  is_twelve h = go (eqb (length l) 12) refl
    where
      go : (b : Bool) → eqb (length l) 12 ≡ b → length l ≡ 12
      go true e = eqb-true (length l) 12 e
      go false e = absurd (false≢true (sym h ∙ (test_Applies lengths l enough).1 (inl (eqb-false (length l) 12 e))))

  is_fine : row_test coordinates l enough ≡ false → (v : Float) → Memᴰ v l → finite v ≡ true
  is_fine h v m = go (finite v) refl
    where
      go : (b : Bool) → finite v ≡ b → finite v ≡ true
      go true e = e
      go false e = absurd (false≢true (sym h ∙ (test_Applies coordinates l enough).1 (v, m, e)))

  given : row_test lengths l enough ≡ false → row_test coordinates l enough ≡ false → TwelveFinite l
  given e f = record { twelve = is_twelve e; all_finite = is_fine f }

  not_far_1 : row_test lengths l enough ≡ true → Far l → ⊥
  not_far_1 h far = go ((test_Applies lengths l enough).0 h)
    where
      go : (length l ≡ 12 → ⊥) ⊎ (length enough < 12) → ⊥
      go (inl n) = n far.given.twelve
      go (inr n) = omega (arith, n)

  not_far_2 : row_test coordinates l enough ≡ true → Far l → ⊥
  not_far_2 h far = let n = (test_Applies coordinates l enough).0 h in false≢true (sym n.2 ∙ far.given.all_finite n.0 n.1)

  early : (k : ℕ) → before_boxes l ≡ k → refusal_of l enough ≡ k → (k ≡ 0 → ⊥) → decision_of l ≡ by_rules l
  unfolding decision_of by_rules decided
  early k p q n = rw (p, ne_eqb k 0 n) (sym (ap (λ w. decided w.answer) (refused_is l enough (λ z. n (sym q ∙ z))) ∙ rw (q, ne_eqb k 0 n) refl))

  -- what is said before the boxes: 1, 2 or nothing
  says_1 : row_test lengths l enough ≡ true → before_boxes l ≡ 1
  unfolding before_boxes first_of
  says_1 e = sym (taken _ e refl)

  says_2 : row_test lengths l enough ≡ false → row_test coordinates l enough ≡ true → before_boxes l ≡ 2
  unfolding before_boxes first_of
  says_2 e f = sym (left 1 e (taken _ f refl))

  says_none : row_test lengths l enough ≡ false → row_test coordinates l enough ≡ false → before_boxes l ≡ 0
  unfolding before_boxes first_of
  says_none e f = sym (left 1 e (left 2 f refl))

  -- ---- the decision
  pub decision_by : (Far l × (decision_of l ≡ Apart)) ⊎ ((Far l → ⊥) × (decision_of l ≡ by_rules l))
  decision_by = go (row_test lengths l enough) refl (row_test coordinates l enough) refl (is_near l) refl
    where
      go : (a : Bool) → row_test lengths l enough ≡ a → (b : Bool) → row_test coordinates l enough ≡ b → (c : Bool) → is_near l ≡ c → (Far l × (decision_of l ≡ Apart)) ⊎ ((Far l → ⊥) × (decision_of l ≡ by_rules l))
      go true e b f c g = inr (not_far_1 e, early 1 (says_1 e) (unfold refusal_of first_of in rw e refl) (λ z. omega (arith, z)))
      go false e true f c g = inr (not_far_2 f, early 2 (says_2 e f) (unfold refusal_of first_of in rw (e, f) refl) (λ z. omega (arith, z)))
      go false e false f true g = inr ((boxes_tell l (given e f)).near.0 g, unfold decision_of in rw (says_none e f, g) refl)
      go false e false f false g = inl ((boxes_tell l (given e f)).far.0 g, unfold decision_of in rw (says_none e f, g) refl)
