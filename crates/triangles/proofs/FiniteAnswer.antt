-- What an answer holds is finite: a copied coordinate since the row of coordinates did not apply, a crossing's coordinate and the area since each
-- is the last value on its own way. Assumes nothing.
use mathlib.Core.Path.{◌≡◌, refl, sym, ◌∙◌}
use mathlib.Core.Logic.{inl}
use mathlib.Core.Bool.{Bool, true, false, cond}
use mathlib.Core.List.{List, [], ◌∷◌, ◌++◌, map}
use Prim.Native.Nat.{ℕ, ◌+◌, ◌-◌, ◌*◌, ◌<◌}
use native.Mathlib.Omega.{arith}
use lib.Dec.{T, eqb, ltb→lt}
use lib.Ieee.{Float, nan, of_bits}
use lib.Ieee.Fits.{and_i, and_l, and_r}
use lib.ListN.{length, get_or}
use borrow.Author.Tests.{eqb-true, eqb-false}
use Rattle.floats.specs.Lists.{all}
use Rattle.floats.specs.Finite.{finite}
use Rattle.floats.specs.Numbers.{Point}
use Rattle.floats.specs.Way.{Way, given, step, ◌⊕◌, ◌⊖◌, ◌⊗◌, negated, fine, f64}
use Rattle.floats.proofs.Lists.{so, os, all_at, all_of, all_get_d, all_append, fails_at}
use Rattle.floats.proofs.Told.{fine-step}
use Rattle.lines.specs.Lines.{start, finish}
use Rattle.lines.specs.Parameters.{parameter}
use Rattle.ring.specs.Places.{Place, vertex, corner, crossing, fifteen}
use Rattle.triangles.specs.Pair.{vertex_of, carried_by, signs_by, ring_of}
use Rattle.triangles.specs.Positions.{Placed, fraction, crossing_from, placed_at, position_of, ring_positions, values_of_corners, sum_to, half, area_of}
use Rattle.triangles.specs.Refusals.{Row, lengths, coordinates, way_to_position, way_to_area, positions_way, way_of, refusal_of}
use Rattle.triangles.specs.Answers.{answered, answer_of}
use Rattle.triangles.specs.Rows.{NotFinite, Applies}
use Rattle.triangles.specs.Promise.{AnswersFinite}
use Rattle.triangles.proofs.Rows.{by_none, number_is, answered_is}
use Rattle.triangles.proofs.Demand.{in_range, fifteen-in_range, sound, front}

-- the last value on a way that is fine
pub last_finite : (v : Float) (before : List Float) → T (fine (step v before)) → T (finite v)
last_finite v before t = and_r (all finite before) (finite v) (os (sym (fine-step v before) ∙ so t))

sum_finite : (a b : Way) → T (fine (a ⊕ b)) → T (finite (a ⊕ b).value)
sum_finite a b t = last_finite (a ⊕ b).value (a.way ++ b.way) t

product_finite : (a b : Way) → T (fine (a ⊗ b)) → T (finite (a ⊗ b).value)
product_finite a b t = last_finite (a ⊗ b).value (a.way ++ b.way) t

-- a row of values that does not apply
pub none_missing : (vs : List Float) → (NotFinite vs → ⊥) → T (all finite vs)
none_missing vs h = go (all finite vs) refl
  where
    go : (b : Bool) → all finite vs ≡ b → T (all finite vs)
    go true e = os e
    go false e = absurd (h (fails_at finite vs e))

-- both components of a point
abbrev FinitePoint : Point Way → Type 0
FinitePoint c = T (finite c.x.value) × T (finite c.y.value)

module _ (l : List Float) (coordinate : (k : ℕ) → k < 12 → T (finite (get_or l k nan))) where
  vertex_finite : (i : ℕ) → i < 6 → FinitePoint (vertex_of l i)
  vertex_finite i h = (coordinate (2 * i) (omega arith), coordinate (2 * i + 1) (omega arith))

  crossing_finite : (e a i j : ℕ) → T (fine (crossing_from l e a i j).position.x) → T (fine (crossing_from l e a i j).position.y) → FinitePoint (crossing_from l e a i j).position
  unfolding crossing_from
  crossing_finite e a i j tx ty =
      let P = vertex_of l i in
      let Q = vertex_of l j in
      let t = fraction (parameter (carried_by l i) a) (parameter (carried_by l j) a) in
      (sum_finite P.x (t ⊗ (Q.x ⊖ P.x)) tx, sum_finite P.y (t ⊗ (Q.y ⊖ P.y)) ty)

  -- the crossing reckoned from either end of its edge
  abbrev from_either : ℕ → ℕ → Bool → Placed
  from_either e a b = cond b (crossing_from l e a (start e) (finish e)) (crossing_from l e a (finish e) (start e))

  place_finite : (p : Place) → T (in_range p) → T (fine (position_of l p).x) → T (fine (position_of l p).y) → FinitePoint (position_of l p)
  unfolding placed_at in_range
  place_finite (vertex i) r tx ty = let h : i < 3 = ltb→lt i 3 r in vertex_finite i (omega arith)
  place_finite (corner k) r tx ty = let h : k < 3 = ltb→lt k 3 r in vertex_finite (3 + k) (omega arith)
  place_finite (crossing e a) r tx ty = go (signs_by l (start e) a) tx ty
    where
      go : (b : Bool) → T (fine (from_either e a b).position.x) → T (fine (from_either e a b).position.y) → FinitePoint (from_either e a b).position
      go true tx ty = crossing_finite e a (start e) (finish e) tx ty
      go false tx ty = crossing_finite e a (finish e) (start e) tx ty

  values_finite : (ps : List Place) → T (all in_range ps) → T (all finite (positions_way (map (position_of l) ps))) → T (all finite (values_of_corners (map (position_of l) ps)))
  unfolding all positions_way values_of_corners
  values_finite [] r t = tt
  values_finite (p ∷ ps) r t =
      let c = position_of l p in
      let rest = positions_way (map (position_of l) ps) in
      let t1 = os (sym (all_append finite (c.x.way ++ c.y.way) rest) ∙ so t) in
      let t2 = os (sym (all_append finite c.x.way c.y.way) ∙ so (and_l (all finite (c.x.way ++ c.y.way)) (all finite rest) t1)) in
      let f = place_finite p (and_l (in_range p) (all in_range ps) r) (and_l (fine c.x) (fine c.y) t2) (and_r (fine c.x) (fine c.y) t2) in
      and_i (finite c.x.value) _ f.0 (and_i (finite c.y.value) _ f.1 (values_finite ps (and_r (in_range p) (all in_range ps) r) (and_r (all finite (c.x.way ++ c.y.way)) (all finite rest) t1)))

area_finite : (cs : List (Point Way)) → T (fine (area_of cs)) → T (finite (area_of cs).value)
unfolding area_of of_bits
area_finite [] t = tt
area_finite (c ∷ cs) t =
    let sum = sum_to (c ∷ cs) (length (c ∷ cs) - 2) in
    product_finite (given half) (cond (f64.is_below_zero sum) (negated sum) sum) t

module _ (l room : List Float) where
  passed : refusal_of l room ≡ 0 → (row : Row) → Applies row l room → ⊥
  passed h = (by_none l room).0 h

  twelve : refusal_of l room ≡ 0 → length l ≡ 12
  twelve h = go (eqb (length l) 12) refl
    where
      go : (b : Bool) → eqb (length l) 12 ≡ b → length l ≡ 12
      go true e = eqb-true (length l) 12 e
      go false e = absurd (passed h lengths (inl (eqb-false (length l) 12 e)))

  coordinates_finite : refusal_of l room ≡ 0 → (k : ℕ) → k < 12 → T (finite (get_or l k nan))
  coordinates_finite h k b = all_get_d finite l k nan (none_missing l (passed h coordinates)) (rw (twelve h) b)

  pub ring_in_range : T (all in_range (ring_of l))
  unfolding ring_of
  ring_in_range = all_of in_range (ring_of l) (λ p m. all_at in_range fifteen fifteen-in_range ((sound l).holds.nothing_else p m))

  corners_finite : refusal_of l room ≡ 0 → T (all finite (values_of_corners (ring_positions l)))
  unfolding ring_positions way_of
  corners_finite h = values_finite l (coordinates_finite h) (ring_of l) ring_in_range (none_missing _ (passed h way_to_position))

pub finite_answer : AnswersFinite
unfolding answered answer_of way_of
finite_answer l room h =
    let z = sym (number_is l room) ∙ h in
    let q = answered_is l room z in
    record {
      corners = rw (q, front l room) (so (corners_finite l room z));
      area = rw q (so (area_finite (ring_positions l) (none_missing _ (passed l room z way_to_area))));
    }
