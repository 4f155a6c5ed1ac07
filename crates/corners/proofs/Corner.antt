-- What is told of a place of the ring, by its kind: a vertex of U, a corner of V, or a crossing, whose t lies from 0 to 1. Assumes nothing.
use mathlib.Core.Path.{◌≡◌, refl, sym, subst, ◌∙◌}
use mathlib.Core.Bool.{Bool, true, false, cond, true≢false}
use mathlib.Core.List.Memᴰ.{head as here}
use mathlib.Core.List.Memᴰ.{tail as there}
use mathlib.Core.List.{List, ◌∷◌, ◌++◌, Memᴰ, map}
use Prim.Native.Nat.{ℕ, ◌<◌}
use native.Mathlib.Omega.{arith}
use lib.Dec.{T, ltb, ltb→lt}
use lib.Ieee.{Float, binary64, sub}
use lib.Ieee.Fits.{and_l, and_r}
use Rattle.floats.specs.Lists.{all, differ}
use Rattle.floats.specs.Finite.{finite}
use Rattle.floats.specs.Way.{fine}
use Rattle.floats.proofs.Lists.{so, os, all_append}
use Rattle.floats.proofs.Fractions.{from_nought_to_one}
use Rattle.lines.specs.Lines.{start, finish}
use Rattle.lines.specs.Parameters.{parameter}
use Rattle.lines.specs.Crossings.{crosses}
use Rattle.ring.specs.Places.{Place, vertex, corner, crossing}
use Rattle.triangles.specs.Pair.{vertex_of, carried_by, signs_by, ring_of}
use Rattle.triangles.specs.Positions.{Placed, crossing_from, placed_at, position_of, ring_positions}
use Rattle.triangles.specs.Placing.{plus_end, other_end, parameter_at}
use Rattle.triangles.specs.Refusals.{way_to_position, positions_way, way_of}
use Rattle.triangles.specs.Rows.{NoRow}
use Rattle.triangles.specs.Decision.{enough}
use Rattle.triangles.proofs.Demand.{in_range}
use Rattle.triangles.proofs.Crossed.{crossed}
use Rattle.triangles.proofs.Component.{denominator_fine, fine_carried, end_below}
use Rattle.triangles.proofs.FiniteAnswer.{none_missing}
use Rattle.corners.specs.Corners.{valued, told}
use Rattle.corners.specs.Promise.{CrossingTold, PlaceTold}
use Rattle.corners.proofs.Signs.{parameter_fits, plus_at_least, minus_under}

-- of two signs that differ, one being plus
other_minus : (p q : Bool) → T (differ p q) → p ≡ true → q ≡ false
other_minus true true t h = absurd t
other_minus true false t h = refl
other_minus false q t h = absurd (true≢false (sym h))

other_plus : (p q : Bool) → T (differ p q) → p ≡ false → q ≡ true
other_plus true q t h = absurd (true≢false h)
other_plus false true t h = refl
other_plus false false t h = absurd t

-- a place of a list whose positions have finite ways
of_list : (l : List Float) (ps : List Place) → T (all finite (positions_way (map (position_of l) ps))) → {p : Place} → Memᴰ p ps → T (fine (position_of l p).x)
unfolding positions_way all
of_list l (q ∷ ps) t (here e) =
    let c = position_of l q in
    let rest = positions_way (map (position_of l) ps) in
    let u = os (sym (all_append finite (c.x.way ++ c.y.way) rest) ∙ so t) in
    let v = os (sym (all_append finite c.x.way c.y.way) ∙ so (and_l (all finite (c.x.way ++ c.y.way)) (all finite rest) u)) in
    subst (λ p. T (fine (position_of l p).x)) (sym e) (and_l (fine c.x) (fine c.y) v)
of_list l (q ∷ ps) t (there m) =
    let c = position_of l q in
    let rest = positions_way (map (position_of l) ps) in
    let u = os (sym (all_append finite (c.x.way ++ c.y.way) rest) ∙ so t) in
    of_list l ps (and_r (all finite (c.x.way ++ c.y.way)) (all finite rest) u) m
of_list l mathlib.Core.List.[] t {p = p} x'' = elim x'' [ ]

module _ (l : List Float) (passed : NoRow l enough) where
  position_fine : (p : Place) → Memᴰ p (ring_of l) → T (fine (position_of l p).x)
  unfolding ring_positions way_of
  position_fine p m = of_list l (ring_of l) (none_missing (way_of way_to_position l) (passed way_to_position)) m

  denominator : (e a i j : ℕ) → T (fine (crossing_from l e a i j).position.x) → finite (sub binary64 (parameter_at l i a) (parameter_at l j a)) ≡ true
  unfolding crossing_from all
  denominator e a i j t = denominator_fine (parameter (carried_by l i) a) (parameter (carried_by l j) a) (vertex_of l i).x (vertex_of l j).x (fine_carried l i a) (fine_carried l j a) refl refl (so t)

  -- the crossing of edge e with line a, from i, which is plus on it, to j, which is minus
  crossing_told : (e a i j : ℕ) → a < 3 → i < 3 → j < 3 → T (crosses (signs_by l (start e)) (signs_by l (finish e)) a) → signs_by l i a ≡ true → signs_by l j a ≡ false → T (fine (crossing_from l e a i j).position.x) →
      CrossingTold l (told (valued (crossing_from l e a i j))) i j
  unfolding crossing_from
  crossing_told e a i j A I J d p m t =
      let n = from_nought_to_one (parameter_at l i a) (parameter_at l j a) (parameter_fits l i a A) (parameter_fits l j a A) (plus_at_least l passed i I a A p) (minus_under l passed j J a A m) (denominator e a i j t) in
      record { differ = so d; plus = p; minus = m; at_least = plus_at_least l passed i I a A p; below = minus_under l passed j J a A m; t = refl; from = n.0; to = n.1; x = refl; y = refl }

  -- the crossing from either end of its edge
  abbrev from_either : ℕ → ℕ → Bool → Placed
  from_either e a b = cond b (crossing_from l e a (start e) (finish e)) (crossing_from l e a (finish e) (start e))

  pub place_told : (p : Place) → T (in_range p) → Memᴰ p (ring_of l) → PlaceTold l p (told (valued (placed_at l p)))
  unfolding placed_at crossing_from in_range
  place_told (vertex i) r m = record {
    is_place = refl;
    kinds = omega arith;
    numbers = (ltb→lt i 3 r, omega arith, omega arith);
    no_crossing = λ n. (refl, refl, refl);
    no_number = λ e. absurd (omega (arith, e));
    of_u = λ e. record { x = refl; y = refl };
    of_v = λ e. absurd (omega (arith, e));
    crossed = λ e. absurd (omega (arith, e));
  }
  place_told (corner k) r m = record {
    is_place = refl;
    kinds = omega arith;
    numbers = (ltb→lt k 3 r, omega arith, omega arith);
    no_crossing = λ n. (refl, refl, refl);
    no_number = λ e. absurd (omega (arith, e));
    of_u = λ e. absurd (omega (arith, e));
    of_v = λ e. record { x = refl; y = refl };
    crossed = λ e. absurd (omega (arith, e));
  }
  place_told (crossing e a) r m = go (signs_by l (start e) a) refl (position_fine (crossing e a) m)
    where
      E : e < 3
      E = ltb→lt e 3 (and_l (ltb e 3) (ltb a 3) r)

      A : a < 3
      A = ltb→lt a 3 (and_r (ltb e 3) (ltb a 3) r)

      told_from : (i j : ℕ) → CrossingTold l (told (valued (crossing_from l e a i j))) (plus_end l e a) (other_end l e a) → PlaceTold l (crossing e a) (told (valued (crossing_from l e a i j)))
      told_from i j c = record {
        is_place = refl;
        kinds = omega arith;
        numbers = (omega arith, E, A);
        no_crossing = λ n. absurd (n refl);
        no_number = λ z. refl;
        of_u = λ z. absurd (omega (arith, z));
        of_v = λ z. absurd (omega (arith, z));
        crossed = λ z. c;
      }

      go : (b : Bool) → signs_by l (start e) a ≡ b → T (fine (from_either e a b).position.x) → PlaceTold l (crossing e a) (told (valued (from_either e a b)))
      go true h t = told_from (start e) (finish e) (rw h (crossing_told e a (start e) (finish e) A (end_below e 0) (end_below e 1) (crossed l e a m) h (other_minus _ _ (crossed l e a m) h) t))
      go false h t = told_from (finish e) (start e) (rw h (crossing_told e a (finish e) (start e) A (end_below e 1) (end_below e 0) (crossed l e a m) (other_plus _ _ (crossed l e a m) h) h t))
