-- The rows from the coordinates to the parameters, by the last values alone: d, e and the three w. And where the sum of e and the three w is
-- finite, none of these rows looks at a value that is not. Assumes nothing.
use mathlib.Core.Path.{◌≡◌, refl, sym, ap, ap₂, ◌∙◌}
use mathlib.Core.Bool.{Bool, true, false, not, ◌&&◌, cond, and-false, false≢true}
use mathlib.Core.List.{List, [], ◌∷◌, ◌++◌}
use Prim.Native.Nat.{ℕ, zero, suc, ◌<◌}
use native.Mathlib.Omega.{arith}
use lib.Ieee.{Float, nan, binary64, add, eq}
use lib.ListN.{length, get_or}
use Rattle.floats.specs.Lists.{all}
use Rattle.floats.specs.Finite.{finite, nought}
use Rattle.floats.specs.Way.{fine}
use Rattle.floats.proofs.Lists.{all_append}
use Rattle.floats.proofs.Told.{FinitePoint, add_operands, cross_from_operands}
use Rattle.lines.proofs.Told.{w_operands}
use Rattle.lines.specs.declared.Params.{Params}
use Rattle.triangles.specs.Pair.{vertex_of, corner_of, d_of_v, e_of_u, parameters_of, params_of}
use Rattle.triangles.specs.Refusals.{way_to_parameter, parameters_way, way_of, row_test, first_of}
use Rattle.front.specs.Front.{front_by, clear_by, number_by}
use Rattle.routine.specs.Code.{front_of}
use Rattle.triangles.proofs.Told.{Told-d, Told-e, told_parameter}

turned_choice : {A : Type 0} (b : Bool) (x y : A) → cond (not b) x y ≡ cond b y x
turned_choice true x y = refl
turned_choice false x y = refl

-- three that hold where the last does
last_tells : (a b c : Bool) → (c ≡ true → (a ≡ true) × (b ≡ true)) → (a && (b && c)) ≡ c
last_tells a b true h = rw ((h refl).0, (h refl).1) refl
last_tells true b false h = and-false b
last_tells false b false h = refl

module _ (l : List Float) where
  abbrev w : ℕ → Float
  w i = (params_of l i).w

  w_tells : (i : ℕ) → finite (w i) ≡ true → (finite (d_of_v l).value ≡ true) × (finite (parameters_of l i).x.value ≡ true) × (finite (parameters_of l i).y.value ≡ true)
  unfolding params_of parameters_of d_of_v
  w_tells i h = w_operands (d_of_v l) (corner_of l 0) (corner_of l 1) (corner_of l 2) (vertex_of l i) h

  parameters_fine : (i : ℕ) → all finite (parameters_way (parameters_of l i)) ≡ finite (w i)
  unfolding params_of
  parameters_fine i =
      let p = parameters_of l i in
      let t = told_parameter l i in
      all_append finite p.x.way (p.y.way ++ p.w.way)
      ∙ (ap (λ b. fine p.x && b) (all_append finite p.y.way p.w.way)
      ∙ (ap₂ ◌&&◌ t.x (ap₂ ◌&&◌ t.y t.w) ∙ last_tells (finite p.x.value) (finite p.y.value) (finite p.w.value) (λ h. let r = w_tells i h in (r.1, r.2))))

  all_parameters_fine : all finite (way_of way_to_parameter l) ≡ (finite (w 0) && (finite (w 1) && finite (w 2)))
  unfolding way_of
  all_parameters_fine =
      let way : ℕ → List Float = λ i. parameters_way (parameters_of l i) in
      all_append finite (way 0) (way 1 ++ way 2)
      ∙ ap₂ ◌&&◌ (parameters_fine 0) (all_append finite (way 1) (way 2) ∙ ap₂ ◌&&◌ (parameters_fine 1) (parameters_fine 2))

  pub front_is : front_by l (d_of_v l).value (e_of_u l).value (params_of l 0) (params_of l 1) (params_of l 2) ≡ front_of l
  unfolding front_by front_of first_of row_test way_of
  front_is =
      rw (Told-d l, Told-e l, all_parameters_fine, turned_choice {A = ℕ} (finite (w 0) && (finite (w 1) && finite (w 2))) 4 0) refl

  -- ---- the sum of e and the three w
  coordinate : FinitePoint (vertex_of l 0) × FinitePoint (vertex_of l 1) × FinitePoint (vertex_of l 2) → FinitePoint (vertex_of l 3) × FinitePoint (vertex_of l 4) × FinitePoint (vertex_of l 5) → (k : ℕ) → k < 12 → finite (get_or l k nan) ≡ true
  coordinate u v zero h = u.0.0
  coordinate u v (suc zero) h = u.0.1
  coordinate u v (suc (suc zero)) h = u.1.0
  coordinate u v (suc (suc (suc zero))) h = u.1.1
  coordinate u v (suc (suc (suc (suc zero)))) h = u.2.0
  coordinate u v (suc (suc (suc (suc (suc zero))))) h = u.2.1
  coordinate u v (suc (suc (suc (suc (suc (suc zero)))))) h = v.0.0
  coordinate u v (suc (suc (suc (suc (suc (suc (suc zero))))))) h = v.0.1
  coordinate u v (suc (suc (suc (suc (suc (suc (suc (suc zero)))))))) h = v.1.0
  coordinate u v (suc (suc (suc (suc (suc (suc (suc (suc (suc zero))))))))) h = v.1.1
  coordinate u v (suc (suc (suc (suc (suc (suc (suc (suc (suc (suc zero)))))))))) h = v.2.0
  coordinate u v (suc (suc (suc (suc (suc (suc (suc (suc (suc (suc (suc zero))))))))))) h = v.2.1
  coordinate u v (suc (suc (suc (suc (suc (suc (suc (suc (suc (suc (suc (suc k)))))))))))) h = absurd (omega arith)

-- finite at each place is finite at all
all_places : (l : List Float) → ((k : ℕ) → k < length l → finite (get_or l k nan) ≡ true) → all finite l ≡ true
unfolding all
all_places [] h = refl
all_places (x ∷ l) h = ap₂ ◌&&◌ (h 0 (omega arith)) (all_places l (λ k b. h (suc k) (omega (arith, b))))

clear_parts : (a b c : Bool) → (a && (not b && not c)) ≡ true → (a ≡ true) × (b ≡ false) × (c ≡ false)
clear_parts true true c h = absurd (false≢true h)
clear_parts true false true h = absurd (false≢true h)
clear_parts true false false h = (refl, refl, refl)
clear_parts false b c h = absurd (false≢true h)

module _ (l : List Float) where
  u_finite : finite (e_of_u l).value ≡ true → FinitePoint (vertex_of l 0) × FinitePoint (vertex_of l 1) × FinitePoint (vertex_of l 2)
  unfolding e_of_u
  u_finite h = cross_from_operands (vertex_of l 0) (vertex_of l 1) (vertex_of l 2) h

  v_finite : finite (d_of_v l).value ≡ true → FinitePoint (corner_of l 0) × FinitePoint (corner_of l 1) × FinitePoint (corner_of l 2)
  unfolding d_of_v
  v_finite h = cross_from_operands (corner_of l 0) (corner_of l 1) (corner_of l 2) h

  -- where the sum is finite and neither d nor e is zero, no row of these holds
  front_clear : length l ≡ 12 → clear_by (d_of_v l).value (e_of_u l).value (params_of l 0) (params_of l 1) (params_of l 2) ≡ true → front_of l ≡ 0
  unfolding clear_by front_by
  front_clear n h =
      let seen = clear_parts (finite (add binary64 (add binary64 (add binary64 (w l 0) (w l 1)) (w l 2)) (e_of_u l).value)) (eq (d_of_v l).value nought) (eq (e_of_u l).value nought) h in
      let three = add_operands (add binary64 (add binary64 (w l 0) (w l 1)) (w l 2)) (e_of_u l).value seen.0 in
      let two = add_operands (add binary64 (w l 0) (w l 1)) (w l 2) three.0 in
      let one = add_operands (w l 0) (w l 1) two.0 in
      let d = (w_tells l 0 one.0).0 in
      let c = all_places l (λ k b. coordinate l (u_finite three.1) (v_finite d) k (omega (arith, b, n))) in
      sym (front_is l) ∙ rw (c, d, three.1, one.0, one.1, two.1, seen.1, seen.2) refl

-- ---- as the code comes to it
module _ (l : List Float) (d e : Float) (p q r : Params) (given : (d ≡ (d_of_v l).value) × (e ≡ (e_of_u l).value) × (p ≡ params_of l 0) × (q ≡ params_of l 1) × (r ≡ params_of l 2)) where
  pub to_front : {k : ℕ} → k ≡ front_by l d e p q r → k ≡ front_of l
  to_front h = h ∙ rw (given.0, given.1, given.2, given.3, given.4) (front_is l)

  pub by_clear : {b : Bool} → length l ≡ 12 → b ≡ clear_by d e p q r → b ≡ true → front_of l ≡ 0
  by_clear n s t = front_clear l n (rw (given.0, given.1, given.2, given.3, given.4) at (sym s ∙ t))

  -- the number that the code gives is that of the table
  pub number_is : {k : ℕ} → length l ≡ 12 → k ≡ number_by l d e p q r → k ≡ front_of l
  unfolding number_by
  number_is {k} n h = go (clear_by d e p q r) refl h
    where
      go : (b : Bool) → clear_by d e p q r ≡ b → k ≡ cond b 0 (front_by l d e p q r) → k ≡ front_of l
      go true c e = e ∙ sym (by_clear n (sym c) refl)
      go false c e = to_front e
