-- The ring of twelve whole centimetres in range lies at finite positions: where a crossing divides, it divides by a whole number that is not zero, since its line's parameter has different signs
-- at the two ends of its edge. Assumes nothing.
use Prim.Native.Nat.{ℕ, zero, suc, ◌+◌, ◌<◌}
use mathlib.Core.Path.{◌≡◌, refl, sym, ap, ap₂, subst, ◌∙◌}
use mathlib.Core.Bool.{Bool, true, false, cond}
use mathlib.Core.List.Memᴰ.{head as here}
use mathlib.Core.List.Memᴰ.{tail as there}
use mathlib.Core.List.{List, [], ◌∷◌, ◌++◌, map, Memᴰ}
use native.Mathlib.Omega.{arith}
use lib.Dec.{T, ltb, ltb→lt, lit≤, lit<}
use lib.ListN.{length}
use lib.IntN.{ℤ, pos, ◌-ℤ◌, ◌+ℤ◌, -ℤ-+ℤ_cancel, +ℤ_idl}
use lib.Ieee.{Float}
use lib.Ieee.Fits.{and_r}
use Rattle.floats.specs.Lists.{all, differ}
use Rattle.floats.specs.Finite.{finite}
use Rattle.floats.specs.Numbers.{Point}
use Rattle.floats.specs.Way.{Way, ◌⊕◌, ◌⊖◌, ◌⊗◌}
use Rattle.floats.specs.Whole.{is_not_negative}
use Rattle.floats.proofs.Lists.{all_at, all_append}
use Rattle.lines.specs.Lines.{start, finish}
use Rattle.lines.specs.Parameters.{parameter}
use Rattle.ring.specs.Places.{Place, vertex, corner, crossing, fifteen}
use Rattle.triangles.specs.Pair.{signs_by, ring_of}
use Rattle.triangles.specs.Positions.{Placed, crossing_from, placed_at, position_of, ring_positions, corner_at}
use Rattle.triangles.specs.Refusals.{positions_way}
use Rattle.triangles.proofs.Demand.{in_range as has_numbers, fifteen-in_range, sound}
use Rattle.centimetres.proofs.Ways.{Under, Whole, Under-plus, Under-times, Under-divided, under_more, Under-given, Whole-minus, Whole-Under}
use Rattle.centimetres.proofs.Parameters.{WholePoint}
use Rattle.triangles.proofs.Crossed.{crossed}
use Rattle.centimetres.proofs.Pair.{Twelve, ends, values, numbers_at, point_whole, parameter_at, sign_at}

-- a point below 2 ^ 70
pub record Near (c : Point Way) : Type 0 where
  pub x : Under 70 c.x
  pub y : Under 70 c.y

point_Near : {c : Point Way} {z : Point ℤ} → WholePoint c z → Near c
point_Near h = record { x = under_more (Whole-Under 20 h.x (lit< tt)) (lit≤ tt); y = under_more (Whole-Under 20 h.y (lit< tt)) (lit≤ tt) }

-- P + t·(Q − P), with t below 2 ^ 46
between_Under : {t p q : Way} {a b : ℤ} → Under 46 t → Whole 1000000 p a → Whole 1000000 q b → Under 70 (p ⊕ (t ⊗ (q ⊖ p)))
between_Under t p q = Under-plus (under_more (Whole-Under 20 p (lit< tt)) (lit≤ tt)) (Under-times t (Whole-Under 21 (Whole-minus q p (lit≤ tt)) (lit< tt)) (lit≤ tt)) (lit≤ tt)

-- numbers of different signs are not the same
apart : (a b : ℤ) → T (differ (is_not_negative a) (is_not_negative b)) → a -ℤ b ≡ pos 0 → ⊥
apart a b t e = go (is_not_negative b) (subst (λ z. T (differ (is_not_negative z) (is_not_negative b))) (sym (-ℤ-+ℤ_cancel a b) ∙ (ap (◌+ℤ b) e ∙ +ℤ_idl b)) t)
  where
    go : (s : Bool) → T (differ s s) → ⊥
    go true t = t
    go false t = t

other_way : (p q : Bool) → T (differ p q) → T (differ q p)
other_way true true t = t
other_way true false t = tt
other_way false true t = tt
other_way false false t = t

module _ {zs : List ℤ} (h : Twelve zs) where
  crossing_Near : (e a i j : ℕ) → a < 3 → i < 3 → j < 3 → T (differ (signs_by (values zs) i a) (signs_by (values zs) j a)) → Near (crossing_from (values zs) e a i j).position
  unfolding crossing_from
  crossing_Near e a i j A I J t =
      let n = apart (parameter (numbers_at zs i) a) (parameter (numbers_at zs j) a) (subst T (ap₂ differ (sign_at h i a I A) (sign_at h j a J A)) t) in
      let p = parameter_at h i a I in
      let f = Under-divided (Whole-Under 45 p (lit< tt)) (Whole-minus p (parameter_at h j a J) (lit≤ tt)) n (lit≤ tt) in
      let P = point_whole h i (omega arith) in
      let Q = point_whole h j (omega arith) in
      record { x = between_Under f P.x Q.x; y = between_Under f P.y Q.y }

  place_Near : (p : Place) → T (has_numbers p) → Memᴰ p (ring_of (values zs)) → Near (position_of (values zs) p)
  unfolding placed_at has_numbers
  place_Near (vertex i) r m = let b : i < 3 = ltb→lt i 3 r in point_Near (point_whole h i (omega arith))
  place_Near (corner k) r m = let b : k < 3 = ltb→lt k 3 r in point_Near (point_whole h (3 + k) (omega arith))
  place_Near (crossing e a) r m =
      let A = ltb→lt a 3 (and_r (ltb e 3) (ltb a 3) r) in
      go (crossing_from (values zs) e a (start e) (finish e)) (crossing_from (values zs) e a (finish e) (start e)) (signs_by (values zs) (start e) a) (crossing_Near e a (start e) (finish e) A (ends e 0) (ends e 1) (crossed (values zs) e a m))
      (crossing_Near e a (finish e) (start e) A (ends e 1) (ends e 0) (other_way (signs_by (values zs) (start e) a) (signs_by (values zs) (finish e) a) (crossed (values zs) e a m)))
    where
      go : (c d : Placed) (b : Bool) → Near c.position → Near d.position → Near (cond b c d).position
      go c d true h k = h
      go c d false h k = k

  pub position_Near : (p : Place) → Memᴰ p (ring_of (values zs)) → Near (position_of (values zs) p)
  unfolding ring_of
  position_Near p m = place_Near p (all_at has_numbers fifteen fifteen-in_range ((sound (values zs)).holds.nothing_else p m)) m

-- ---- of any list of places with such positions
module _ (l : List Float) where
  positions_fine : (ps : List Place) → ((p : Place) → Memᴰ p ps → Near (position_of l p)) → all finite (positions_way (map (position_of l) ps)) ≡ true
  unfolding positions_way all
  positions_fine [] h = refl
  positions_fine (p ∷ ps) h =
      let c = position_of l p in
      let n = h p (here refl) in
      all_append finite (c.x.way ++ c.y.way) (positions_way (map (position_of l) ps))
      ∙ rw (all_append finite c.x.way c.y.way, n.x.is_fine, n.y.is_fine, positions_fine ps (λ q m. h q (there m))) refl

  pub corner_Near : (ps : List Place) → ((p : Place) → Memᴰ p ps → Near (position_of l p)) → (k : ℕ) → k < length ps → Near (corner_at (map (position_of l) ps) k)
  corner_Near [] h k b = absurd (omega arith)
  corner_Near (p ∷ ps) h zero b = let n = h p (here refl) in record { x = Under-given n.x.below; y = Under-given n.y.below }
  corner_Near (p ∷ ps) h (suc k) b = corner_Near ps (λ q m. h q (there m)) k (omega arith)

-- ---- of the ring
pub ring_positions_fine : {zs : List ℤ} → Twelve zs → all finite (positions_way (ring_positions (values zs))) ≡ true
unfolding ring_positions
ring_positions_fine {zs} h = positions_fine (values zs) (ring_of (values zs)) (position_Near h)
