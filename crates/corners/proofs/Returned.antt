-- What the promise says of the definition it says of the result that was returned: 01's refusals first, then 6, then a corner of the ring, where an answer writes it. Assumes nothing.
use mathlib.Core.Logic.{◌↔◌}
use mathlib.Core.Path.{◌≡◌, refl, sym, ap, subst, ◌∙◌}
use mathlib.Core.Bool.{Bool, true, false}
use mathlib.Core.List.Memᴰ.{head as here}
use mathlib.Core.List.Memᴰ.{tail as there}
use mathlib.Core.List.{List, [], ◌∷◌, map, Memᴰ}
use Prim.Native.Nat.{ℕ, zero, suc, ◌+◌, ◌*◌, ◌<◌, ◌≤◌}
use native.Mathlib.Omega.{arith}
use lib.Dec.{T, eqb, ltb}
use lib.Ieee.{Float, nan}
use lib.ListN.{length, get_or, take}
use lib.Seq.{get_or-take}
use borrow.Author.Tests.{eqb-true, eqb-false, ltb-true, ltb-false, eq-eqb, ne_eqb, lt-ltb, le-ltb}
use Rattle.floats.proofs.Lists.{all_at}
use Rattle.ring.specs.Places.{Place, vertex}
use Rattle.triangles.specs.declared.Kind.{Kind}
use Rattle.triangles.specs.declared.Kind.TheVariants.{Vertex, Reference, Crossing}
use Rattle.triangles.specs.Pair.{ring_of}
use Rattle.triangles.specs.Positions.{placed_at, position_of, ring_positions, values_of_corners}
use Rattle.triangles.specs.Refusals.{Row, lengths, coordinates, way_to_d, d_zero, way_to_e, e_zero, way_to_parameter, way_to_pair_test, way_to_position, way_to_area, number_of}
use Rattle.triangles.specs.Answers.{whole_of, answered, answer_of}
use Rattle.triangles.specs.Rows.{RefusedBy, NoRow}
use Rattle.triangles.specs.Decision.{enough, answer_to}
use Rattle.triangles.proofs.Rows.{exactly_when, number_is, answered_is}
use Rattle.triangles.proofs.Decided.{any_room}
use Rattle.triangles.proofs.Demand.{in_range, front}
use Rattle.triangles.proofs.FiniteAnswer.{ring_in_range}
use Rattle.corners.specs.declared.Told.{Told}
use Rattle.corners.specs.Corners.{told_by, told, no_corner, corner_at, told_at}
use Rattle.corners.specs.Promise.{NoSecondCorner, Stands, PlaceTold, Zeros, CornerDemand, CornerReturned}
use Rattle.corners.proofs.Corner.{place_told}

pub no_second_corner : NoSecondCorner
no_second_corner values place r s p q = p.result_is ∙ sym q.result_is

-- ---- lists
pub member_at : (ps : List Place) (k : ℕ) → k < length ps → Memᴰ (get_or ps k (vertex 0)) ps
member_at [] k h = absurd (omega arith)
member_at (p ∷ ps) zero h = here refl
member_at (p ∷ ps) (suc k) h = there (member_at ps k (omega arith))

values_at : (l : List Float) (ps : List Place) (k : ℕ) → k < length ps →
    (get_or (values_of_corners (map (position_of l) ps)) (2 * k) nan ≡ (position_of l (get_or ps k (vertex 0))).x.value) × (get_or (values_of_corners (map (position_of l) ps)) (2 * k + 1) nan ≡ (position_of l (get_or ps k (vertex 0))).y.value)
unfolding values_of_corners
values_at l [] k h = absurd (omega arith)
values_at l (p ∷ ps) zero h = (refl, refl)
values_at l (p ∷ ps) (suc k) h =
    let r = values_at l ps k (omega arith) in
    let n : 2 * suc k ≡ suc (suc (2 * k)) = omega arith in
    let m : 2 * suc k + 1 ≡ suc (suc (2 * k + 1)) = omega arith in
    (ap (λ i. get_or (values_of_corners (map (position_of l) (p ∷ ps))) i nan) n ∙ r.0, ap (λ i. get_or (values_of_corners (map (position_of l) (p ∷ ps))) i nan) m ∙ r.1)

-- ---- what is told of a corner has number 0, and its position
told_number : (k : Kind) (x y : Float) → (told_by k x y).number ≡ 0
told_number (Vertex i) x y = refl
told_number (Reference i) x y = refl
told_number (Crossing e a t) x y = refl

told_x : (k : Kind) (x y : Float) → (told_by k x y).x ≡ x
told_x (Vertex i) x y = refl
told_x (Reference i) x y = refl
told_x (Crossing e a t) x y = refl

told_y : (k : Kind) (x y : Float) → (told_by k x y).y ≡ y
told_y (Vertex i) x y = refl
told_y (Reference i) x y = refl
told_y (Crossing e a t) x y = refl

not_both : (a b : ℕ) → a < b → b ≤ a → ⊥
not_both a b h k = omega (arith, h, k)

not_nought_and_six : (k : ℕ) → k ≡ 0 → k ≡ 6 → ⊥
not_nought_and_six k h j = omega (arith, h, j)

-- no row has number 6
not_six : (row : Row) → number_of row ≡ 6 → ⊥
not_six lengths e = omega (arith, e)
not_six coordinates e = omega (arith, e)
not_six way_to_d e = omega (arith, e)
not_six d_zero e = omega (arith, e)
not_six way_to_e e = omega (arith, e)
not_six e_zero e = omega (arith, e)
not_six way_to_parameter e = omega (arith, e)
not_six way_to_pair_test e = omega (arith, e)
not_six way_to_position e = omega (arith, e)
not_six way_to_area e = omega (arith, e)

-- ---- the three ways in which a corner is asked for
data Asked (l : List Float) (place : ℕ) (r : Told) : Type 0 where
  refused_first : ((answer_to l).number ≡ 0 → ⊥) → r ≡ no_corner (answer_to l).number → Asked l place r
  no_such_place : (answer_to l).number ≡ 0 → (answer_to l).n ≤ place → r ≡ no_corner 6 → Asked l place r
  stands_there : (answer_to l).number ≡ 0 → place < (answer_to l).n → r ≡ told (corner_at l place) → Asked l place r

module _ (l : List Float) (place : ℕ) where
  told_refused : ((answer_to l).number ≡ 0 → ⊥) → told_at l place ≡ no_corner (answer_to l).number
  unfolding told_at
  told_refused z = rw (ne_eqb (answer_to l).number 0 z) refl

  told_beyond : (answer_to l).number ≡ 0 → (answer_to l).n ≤ place → told_at l place ≡ no_corner 6
  unfolding told_at
  told_beyond z b = rw (eq-eqb (answer_to l).number 0 z, le-ltb place (answer_to l).n b) refl

  told_there : (answer_to l).number ≡ 0 → place < (answer_to l).n → told_at l place ≡ told (corner_at l place)
  unfolding told_at
  told_there z b = rw (eq-eqb (answer_to l).number 0 z, lt-ltb place (answer_to l).n b) refl

  asked : Asked l place (told_at l place)
  asked = go (eqb (answer_to l).number 0) refl (ltb place (answer_to l).n) refl
    where
      go : (b : Bool) → eqb (answer_to l).number 0 ≡ b → (c : Bool) → ltb place (answer_to l).n ≡ c → Asked l place (told_at l place)
      go true e true h = let z = eqb-true (answer_to l).number 0 e in let b = ltb-true place (answer_to l).n h in stands_there z b (told_there z b)
      go true e false h = let z = eqb-true (answer_to l).number 0 e in let b = ltb-false place (answer_to l).n h in no_such_place z b (told_beyond z b)
      go false e c h = let z = eqb-false (answer_to l).number 0 e in refused_first z (told_refused z)

  -- ---- of a pair that is answered
  module _ (z : (answer_to l).number ≡ 0) (b : place < (answer_to l).n) where
    whole : whole_of l enough ≡ answered l enough
    whole = answered_is l enough (sym (number_is l enough) ∙ z)

    ring_is : (whole_of l enough).ring ≡ ring_of l
    ring_is = ap (λ w. w.ring) whole ∙ (unfold answered in refl)

    count : (answer_to l).n ≡ length (ring_of l)
    count = ap (λ w. w.answer.n) whole ∙ (unfold answered answer_of in refl)

    within : place < length (ring_of l)
    within = subst (λ n. place < n) count b

    abbrev p : Place
    p = get_or (ring_of l) place (vertex 0)

    place_there : T (in_range p)
    place_there = all_at in_range (ring_of l) (ring_in_range l enough) (member_at (ring_of l) place within)

    -- where an answer writes it
    stands : (room : List Float) → 12 ≤ length room → Stands (whole_of l room).room place (told (corner_at l place))
    unfolding corner_at
    stands room long = record {
      x = told_x (placed_at l p).kind _ _ ∙ sym (at_room (2 * place) (omega (arith, within)) ∙ v.0);
      y = told_y (placed_at l p).kind _ _ ∙ sym (at_room (2 * place + 1) (omega (arith, within)) ∙ v.1);
    }
      where
        v : (get_or (values_of_corners (map (position_of l) (ring_of l))) (2 * place) nan ≡ (position_of l p).x.value) × (get_or (values_of_corners (map (position_of l) (ring_of l))) (2 * place + 1) nan ≡ (position_of l p).y.value)
        v = values_at l (ring_of l) place within

        same : whole_of l room ≡ answered l room
        same = answered_is l room (sym (number_is l room) ∙ (ap (λ a. a.number) (any_room l room long) ∙ z))

        front_is : take (2 * length (ring_of l)) (whole_of l room).room ≡ values_of_corners (map (position_of l) (ring_of l))
        front_is = ap (λ w. take (2 * length (ring_of l)) w.room) same ∙ (unfold answered answer_of ring_positions in front l room)

        at_room : (i : ℕ) → i < 2 * length (ring_of l) → get_or (whole_of l room).room i nan ≡ get_or (values_of_corners (map (position_of l) (ring_of l))) i nan
        at_room i h = sym (get_or-take (2 * length (ring_of l)) (whole_of l room).room i nan h) ∙ ap (λ v. get_or v i nan) front_is

  -- ---- of the definition
  abbrev r : Told
  r = told_at l place

  abbrev n : ℕ
  n = (answer_to l).n

  answered_when : ((answer_to l).number ≡ 0) ↔ NoRow l enough
  answered_when = (exactly_when l enough).answered

  corner_number : (told (corner_at l place)).number ≡ 0
  corner_number = told_number (corner_at l place).kind (corner_at l place).x (corner_at l place).y

  refused_by_lem : (k : ℕ) → (k ≡ 0 → ⊥) → (k ≡ 6 → ⊥) → (r.number ≡ k) ↔ RefusedBy k l enough
  refused_by_lem k z s = go asked
    where
      by : ((answer_to l).number ≡ k) ↔ RefusedBy k l enough
      by = (exactly_when l enough).refused_by k z

      go : Asked l place r → (r.number ≡ k) ↔ RefusedBy k l enough
      go (refused_first h e) = (λ q. by.0 (sym (ap (λ t. t.number) e) ∙ q), λ q. ap (λ t. t.number) e ∙ by.1 q)
      go (no_such_place h b e) = (λ q. absurd (s (sym q ∙ ap (λ t. t.number) e)), λ q. absurd (z (sym (by.1 q) ∙ h)))
      go (stands_there h b e) = (λ q. absurd (z (sym q ∙ (ap (λ t. t.number) e ∙ corner_number))), λ q. absurd (z (sym (by.1 q) ∙ h)))

  six_when : (r.number ≡ 6) ↔ (NoRow l enough × (n ≤ place))
  six_when = go asked
    where
      row_six : RefusedBy 6 l enough → ⊥
      row_six q = not_six q.0 q.2

      go : Asked l place r → (r.number ≡ 6) ↔ (NoRow l enough × (n ≤ place))
      go (refused_first h e) = (λ q. absurd (row_six (((exactly_when l enough).refused_by 6 (λ z. omega (arith, z))).0 (sym (ap (λ t. t.number) e) ∙ q))), λ q. absurd (h (answered_when.1 q.0)))
      go (no_such_place h b e) = (λ q. (answered_when.0 h, b), λ q. ap (λ t. t.number) e)
      go (stands_there h b e) = (λ q. absurd (not_nought_and_six r.number (ap (λ t. t.number) e ∙ corner_number) q), λ q. absurd (not_both place n b q.1))

  answered_by : (r.number ≡ 0) ↔ (NoRow l enough × (place < n))
  answered_by = go asked
    where
      go : Asked l place r → (r.number ≡ 0) ↔ (NoRow l enough × (place < n))
      go (refused_first h e) = (λ q. absurd (h (sym (ap (λ t. t.number) e) ∙ q)), λ q. absurd (h (answered_when.1 q.0)))
      go (no_such_place h b e) = (λ q. absurd (not_nought_and_six r.number q (ap (λ t. t.number) e)), λ q. absurd (not_both place n q.1 b))
      go (stands_there h b e) = (λ q. (answered_when.0 h, b), λ q. ap (λ t. t.number) e ∙ corner_number)

  zeros_of : (k : ℕ) → Zeros (no_corner k)
  zeros_of k = record { kind = refl; which = refl; edge = refl; line = refl; t = refl; x = refl; y = refl }

  zeros : (r.number ≡ 0 → ⊥) → Zeros r
  zeros h = go asked
    where
      go : Asked l place r → Zeros r
      go (refused_first z e) = subst Zeros (sym e) (zeros_of (answer_to l).number)
      go (no_such_place z b e) = subst Zeros (sym e) (zeros_of 6)
      go (stands_there z b e) = absurd (h (ap (λ t. t.number) e ∙ corner_number))

  -- a corner that is told
  there_is : r.number ≡ 0 → ((answer_to l).number ≡ 0) × (place < n) × (r ≡ told (corner_at l place))
  there_is h = go asked
    where
      go : Asked l place r → ((answer_to l).number ≡ 0) × (place < n) × (r ≡ told (corner_at l place))
      go (refused_first z e) = absurd (z (sym (ap (λ t. t.number) e) ∙ h))
      go (no_such_place z b e) = absurd (not_nought_and_six r.number h (ap (λ t. t.number) e))
      go (stands_there z b e) = (z, b, e)

  corner : r.number ≡ 0 → PlaceTold l (get_or (whole_of l enough).ring place (vertex 0)) r
  unfolding corner_at
  corner h =
      let t = there_is h in
      subst (PlaceTold l (get_or (whole_of l enough).ring place (vertex 0))) (sym t.2)
      (subst (λ ps. PlaceTold l (get_or ps place (vertex 0)) (told (corner_at l place))) (sym (ring_is t.0 t.1))
      (place_told l (answered_when.0 t.0) (p t.0 t.1) (place_there t.0 t.1) (member_at (ring_of l) place (within t.0 t.1))))

  written : r.number ≡ 0 → (room : List Float) → 12 ≤ length room → Stands (whole_of l room).room place r
  written h room long = let t = there_is h in subst (Stands (whole_of l room).room place) (sym t.2) (stands t.0 t.1 room long)

  of_definition : CornerDemand l place r
  of_definition = record { refused_by = refused_by_lem; six = six_when; answered = answered_by; zeros = zeros; corner = corner; written = written }

pub corner_returned : CornerReturned
corner_returned values place result k = subst (CornerDemand values place) (sym k.result_is) (of_definition values place)
