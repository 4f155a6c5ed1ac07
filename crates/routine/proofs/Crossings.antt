-- What the code has of the ring's places are the corners that the rules put there, and its test of the denominators, with that of the area, is the rows of the
-- positions and of the area: a finite area has finite corners, and a finite corner has a finite way but for its t's denominator. Assumes nothing.
use mathlib.Core.Path.{◌≡◌, refl, sym, ap, ap₂, ◌∙◌}
use mathlib.Core.Bool.{Bool, true, false, ◌&&◌, cond}
use mathlib.Core.List.{List, [], ◌∷◌, ◌++◌, map}
use Prim.Native.Nat.{ℕ, zero, suc, ◌<◌}
use native.Mathlib.Omega.{arith}
use lib.Ieee.{Float}
use lib.Ieee.Fits.{and_l, and_r}
use Rattle.floats.specs.Lists.{all}
use Rattle.floats.specs.Finite.{finite}
use Rattle.floats.specs.Way.{given, ◌⊖◌, fine}
use Rattle.floats.proofs.Lists.{so, os, all_append}
use Rattle.floats.proofs.Told.{FinitePoint}
use Rattle.lines.specs.Lines.{start, finish}
use Rattle.lines.specs.declared.Params.{Params}
use Rattle.lines.specs.Parameters.{parameter, carried}
use Rattle.ring.specs.Places.{Place, vertex, corner, crossing}
use Rattle.triangles.specs.declared.Kind.TheVariants.{Crossing}
use Rattle.triangles.specs.declared.Corner.{Corner}
use Rattle.triangles.specs.Pair.{vertex_of, params_of, carried_by, vertex_signs, signs_by}
use Rattle.triangles.specs.Positions.{Placed, fraction, between, crossing_from, placed_at, position_of, values_of_corners}
use Rattle.triangles.specs.Refusals.{positions_way}
use Rattle.triangles.proofs.Component.{component_fine, denominator_fine, fine_carried, end_below}
use Rattle.corners.specs.Corners.{valued}
use Rattle.crossings.specs.Crossing.{crossed_on}
use Rattle.routine.specs.declared.spots.Spot.{Spot}
use Rattle.routine.specs.Code.{params_at, cross_spot, cross_of, spot_of}

-- ---- of a pair
module _ (l : List Float) where
  abbrev pub params : List Params
  params = params_of l 0 ∷ params_of l 1 ∷ params_of l 2 ∷ []

  abbrev pub spot : Place → Spot
  spot = spot_of l params (vertex_signs l)

  params_at_lem : (i : ℕ) → i < 3 → params_at params i ≡ params_of l i
  params_at_lem zero h = refl
  params_at_lem (suc zero) h = refl
  params_at_lem (suc (suc zero)) h = refl
  params_at_lem (suc (suc (suc i))) h = absurd (omega arith)

  -- a spot has the corner that the rules put at its place; and the denominator's test
  pub record Stands (s : Spot) (c : Placed) : Type 0 where
    pub corner_is : s.corner ≡ valued c
    pub fine_way : s.fine ≡ true → FinitePoint c.position → (fine c.position.x && fine c.position.y) ≡ true
    pub way_fine : (fine c.position.x && fine c.position.y) ≡ true → s.fine ≡ true

  crossing_Stands : (e a i j : ℕ) → i < 3 → j < 3 → Stands (cross_of l params e a i j) (crossing_from l e a i j)
  unfolding cross_spot crossed_on crossing_from all
  crossing_Stands e a i j hi hj =
      let a_p = parameter (carried_by l i) a in
      let a_q = parameter (carried_by l j) a in
      let P = vertex_of l i in
      let Q = vertex_of l j in
      let fp = fine_carried l i a in
      let fq = fine_carried l j a in
      let vi : (parameter (carried (params_at params i)) a).value ≡ a_p.value = ap (λ p. (parameter (carried p) a).value) (params_at_lem i hi) in
      let vj : (parameter (carried (params_at params j)) a).value ≡ a_q.value = ap (λ p. (parameter (carried p) a).value) (params_at_lem j hj) in
      let by : Float → Float → Corner = λ p q. let t = fraction (given p) (given q) in record { kind = Crossing e a t.value; x = (between t P Q).x.value; y = (between t P Q).y.value } in
      record {
        corner_is = ap₂ by vi vj;
        fine_way = λ m h.
            let d = sym (ap₂ (λ p q. finite (given p ⊖ given q).value) vi vj) ∙ m in
            ap₂ ◌&&◌ (component_fine a_p a_q P.x Q.x fp fq refl refl d h.0) (component_fine a_p a_q P.y Q.y fp fq refl refl d h.1);
        way_fine = λ h.
            ap₂ (λ p q. finite (given p ⊖ given q).value) vi vj
            ∙ denominator_fine a_p a_q P.x Q.x fp fq refl refl (so (and_l (fine (between (fraction a_p a_q) P Q).x) (fine (between (fraction a_p a_q) P Q).y) (os h)));
      }

  pub stands : (p : Place) → Stands (spot p) (placed_at l p)
  unfolding spot_of placed_at all
  stands (vertex i) = record { corner_is = refl; fine_way = λ m h. refl; way_fine = λ h. refl }
  stands (corner k) = record { corner_is = refl; fine_way = λ m h. refl; way_fine = λ h. refl }
  stands (crossing e a) = go (signs_by l (start e) a)
    where
      go : (b : Bool) → Stands (cond b (cross_of l params e a (start e) (finish e)) (cross_of l params e a (finish e) (start e))) (cond b (crossing_from l e a (start e) (finish e)) (crossing_from l e a (finish e) (start e)))
      go true = crossing_Stands e a (start e) (finish e) (end_below e 0) (end_below e 1)
      go false = crossing_Stands e a (finish e) (start e) (end_below e 1) (end_below e 0)

  -- ---- of several places
  abbrev pub spot_fine : Place → Bool
  spot_fine p = (spot p).fine

  pub ways_fine : (ps : List Place) → all finite (positions_way (map (position_of l) ps)) ≡ true → all spot_fine ps ≡ true
  unfolding positions_way all
  ways_fine [] h = refl
  ways_fine (p ∷ ps) h =
      let c = position_of l p in
      let rest = positions_way (map (position_of l) ps) in
      let k = os (sym (all_append finite (c.x.way ++ c.y.way) rest) ∙ h) in
      ap₂ ◌&&◌ ((stands p).way_fine (sym (all_append finite c.x.way c.y.way) ∙ so (and_l (all finite (c.x.way ++ c.y.way)) (all finite rest) k)))
      (ways_fine ps (so (and_r (all finite (c.x.way ++ c.y.way)) (all finite rest) k)))

  pub fine_ways : (ps : List Place) → all spot_fine ps ≡ true → all finite (values_of_corners (map (position_of l) ps)) ≡ true → all finite (positions_way (map (position_of l) ps)) ≡ true
  unfolding positions_way values_of_corners all
  fine_ways [] h v = refl
  fine_ways (p ∷ ps) h v =
      let c = position_of l p in
      let rest = values_of_corners (map (position_of l) ps) in
      let yes = and_r (finite c.x.value) (finite c.y.value && all finite rest) (os v) in
      all_append finite (c.x.way ++ c.y.way) (positions_way (map (position_of l) ps))
      ∙ ap₂ ◌&&◌
      (all_append finite c.x.way c.y.way
      ∙ (stands p).fine_way (so (and_l (spot_fine p) (all spot_fine ps) (os h))) (so (and_l (finite c.x.value) (finite c.y.value && all finite rest) (os v)), so (and_l (finite c.y.value) (all finite rest) yes)))
      (fine_ways ps (so (and_r (spot_fine p) (all spot_fine ps) (os h))) (so (and_r (finite c.y.value) (all finite rest) yes)))
