-- The last steps of the code, from the ring to the promise. Assumes nothing.
use mathlib.Core.Path.{◌≡◌, refl, sym, ap, ap₂, subst, ◌∙◌}
use mathlib.Core.Logic.{◌⊎◌, inl, inr}
use mathlib.Core.Bool.{Bool, true, false, ◌&&◌, false≢true}
use mathlib.Core.List.{List, [], ◌∷◌, map, Memᴰ}
use Prim.Native.Nat.{ℕ, ◌<◌, ◌≤◌, min}
use native.Mathlib.Omega.{arith}
use lib.Ieee.{Float, lt}
use lib.ListN.{length, take, length-take, length-map}
use Rattle.floats.specs.Lists.{all}
use Rattle.floats.specs.Finite.{finite, nought}
use Rattle.floats.specs.Numbers.{Point, cross_from}
use Rattle.floats.specs.Way.{Way, given, f64, at}
use Rattle.floats.specs.declared.Position.{Position}
use Rattle.floats.specs.declared.Triangle.{Triangle}
use Rattle.lines.specs.declared.Params.{Params}
use Rattle.lines.specs.Parameters.{parameters_by, values_of as values_of_params, signs_of}
use Rattle.table.specs.Table.{entry_for}
use Rattle.ring.specs.Places.{Place, fifteen}
use Rattle.walk.specs.declared.PlaceCode.{PlaceCode}
use Rattle.walk.specs.declared.Ring.{Ring}
use Rattle.walk.specs.Code.{code_of, befores, beyond_a_line, flags_and_ring as code_ring}
use Rattle.coded.proofs.Rings.{IsRing}
use Rattle.triangles.specs.declared.Answer.{Answer}
use Rattle.triangles.specs.Pair.{d_of_v, e_of_u, parameters_of, params_of, vertex_signs, edge_orders, ring_of}
use Rattle.triangles.specs.Positions.{position_of, ring_positions, values_of_corners, area_of}
use Rattle.triangles.specs.Refusals.{way_to_pair_test, way_to_position, way_to_area, positions_way, tests_way, way_of, refusal_of}
use Rattle.triangles.specs.Answers.{refusal, answer_of, written, answered}
use Rattle.triangles.specs.Promise.{PairPromise}
use Rattle.corners.specs.Corners.{corner_at}
use Rattle.front.specs.Front.{clear_by, beyond_by, triangle_from}
use Rattle.routine.specs.Code.{position_at, front_of, corners_of, all_fine, area_by, answered_with, values_of}
use Rattle.triangles.proofs.Demand.{sound}
use Rattle.triangles.proofs.Rows.{answered_is}
use Rattle.triangles.proofs.Told.{Told-area}
use Rattle.routine.proofs.Cascade.{back_fine, short, by_front, back_fine_lem, back_not_fine, keeps_refusal}
use Rattle.routine.proofs.Front.{by_clear}
use Rattle.routine.proofs.Edges.{signs_are, ring_is, beyond_nothing, beyond_untested}
use Rattle.routine.proofs.Crossings.{params, spot_fine, ways_fine, fine_ways}
use Rattle.routine.proofs.Laid.{spot_at, positioned, corner_laid, all_laid, all_fine_is, area_is, area_corners, same_values}

abbrev pub params_by_way : Way → Triangle → Position → Params
params_by_way d v u = values_of_params (parameters_by f64 d (at v.a) (at v.b) (at v.c) (at u))

-- ---- d and the parameters, as the code has them
by_value : (b : Bool) (D : Way) (v0 v1 v2 u : Point Way) → lt D.value nought ≡ b → values_of_params (parameters_by f64 (given D.value) v0 v1 v2 u) ≡ values_of_params (parameters_by f64 D v0 v1 v2 u)
by_value true D v0 v1 v2 u h = rw h refl
by_value false D v0 v1 v2 u h = rw h refl

module _ (l : List Float) (a b c : Position) (ha : a ≡ position_at l 3) (hb : b ≡ position_at l 4) (hc : c ≡ position_at l 5) where
  pub d_is : {d : Float} → d ≡ (cross_from f64 (at a) (at b) (at c)).value → d ≡ (d_of_v l).value
  unfolding d_of_v
  d_is h = h ∙ rw (ha, hb, hc) refl

  pub params_are : (i : ℕ) {d : Float} {u : Position} {p : Params} → d ≡ (d_of_v l).value → u ≡ position_at l i → p ≡ values_of_params (parameters_by f64 (given d) (at a) (at b) (at c) (at u)) → p ≡ params_of l i
  unfolding params_of parameters_of d_of_v
  params_are i hd hu h = h ∙ (rw (hd, hu, ha, hb, hc) refl ∙ by_value (lt (d_of_v l).value nought) (d_of_v l) (at (position_at l 3)) (at (position_at l 4)) (at (position_at l 5)) (at (position_at l i)) refl)

pub e_is : (l : List Float) {a b c : Position} {e : Float} → a ≡ position_at l 0 → b ≡ position_at l 1 → c ≡ position_at l 2 → e ≡ (cross_from f64 (at a) (at b) (at c)).value → e ≡ (e_of_u l).value
unfolding e_of_u
e_is l ha hb hc h = h ∙ rw (ha, hb, hc) refl

-- ---- a pair beyond a line
module _ (l room : List Float) (n : length l ≡ 12) (m : 12 ≤ length room) (front : front_of l ≡ 0) where
  beyond_ring : beyond_a_line (vertex_signs l) ≡ true → ring_of l ≡ []
  unfolding ring_of
  beyond_ring h = (beyond_nothing l h).no_ring

  untested_fine : beyond_a_line (vertex_signs l) ≡ true → all finite (way_of way_to_pair_test l) ≡ true
  unfolding way_of tests_way all
  untested_fine h = ap (λ t. all finite (tests_way l t)) (beyond_untested l h)

  positions_fine : beyond_a_line (vertex_signs l) ≡ true → all finite (way_of way_to_position l) ≡ true
  unfolding way_of ring_positions positions_way all
  positions_fine h = ap (λ r. all finite (positions_way (map (position_of l) r))) (beyond_ring h)

  area_fine : beyond_a_line (vertex_signs l) ≡ true → all finite (way_of way_to_area l) ≡ true
  unfolding way_of ring_positions area_of all
  area_fine h = ap (λ r. all finite (area_of (map (position_of l) r)).way) (beyond_ring h)

  beyond_fine : beyond_a_line (vertex_signs l) ≡ true → back_fine l ≡ true
  beyond_fine h = ap₂ ◌&&◌ (untested_fine h) (ap₂ ◌&&◌ (positions_fine h) (area_fine h))

  pub keeps_beyond : beyond_a_line (vertex_signs l) ≡ true → PairPromise l room (refusal 0) room
  unfolding answered answer_of written ring_positions values_of_corners area_of
  keeps_beyond h =
      let z = back_fine_lem l room n m front (beyond_fine h) in
      let q = answered_is l room z in
      let none = beyond_nothing l h in
      record {
        result_is = rw (q, beyond_ring h, none.no_vertex, none.no_corner, none.no_neighbour) refl;
        after_is = rw (q, beyond_ring h) refl;
      }

-- ---- the ring's corners
module _ (l room : List Float) (n : length l ≡ 12) (m : 12 ≤ length room) (front : front_of l ≡ 0) (tests : all finite (way_of way_to_pair_test l) ≡ true) where
  abbrev r : Ring
  r = code_ring (vertex_signs l) (entry_for (vertex_signs l)) (befores (edge_orders l))

  abbrev cs : List (Point Way)
  cs = ring_positions l

  is : IsRing (vertex_signs l) (edge_orders l) r
  is = ring_is l

  count : r.n ≡ length (ring_of l)
  unfolding ring_of
  count = is.counted

  codes : take (length (ring_of l)) (map (λ c. c.code) r.places) ≡ map code_of (ring_of l)
  unfolding ring_of
  codes = ap (λ k. take k (map (λ c. c.code) r.places)) (sym count) ∙ is.codes

  shorter : (a b : ℕ) → min a b ≡ a → a ≤ b
  shorter a b h = omega (arith, h)

  enough : length (ring_of l) ≤ length r.places
  enough =
      shorter (length (ring_of l)) (length r.places)
      (ap (min (length (ring_of l))) (sym (length-map r.places (λ c. c.code)))
      ∙ (sym (length-take (length (ring_of l)) (map (λ c. c.code) r.places)) ∙ (ap length codes ∙ length-map (ring_of l) code_of)))

  within : (p : Place) → Memᴰ p (ring_of l) → Memᴰ p fifteen
  unfolding ring_of
  within = (sound l).holds.nothing_else

  -- each of the code's places is that of the ring
  pub corner_kept : (k : ℕ) → k < r.n → (spot_at l (params l) (vertex_signs l) r.places k).corner ≡ corner_at l k
  unfolding corner_at
  corner_kept k h = corner_laid l (ring_of l) within r.places codes enough k (omega (arith, h, count))

  size : (length cs ≡ 0) ⊎ (3 ≤ length cs)
  unfolding ring_of ring_positions
  size = elim (sound l).size [
    | inl z ↦ inl (length-map (ring_of l) (position_of l) ∙ z)
    | inr b ↦ inr (omega (arith, b.0, length-map (ring_of l) (position_of l)))
  ]

  abbrev ring_places : List PlaceCode
  ring_places = take r.n r.places

  abbrev corners : List Position
  corners = corners_of l (params l) (vertex_signs l) ring_places

  abbrev are_fine : Bool
  are_fine = all_fine l (params l) (vertex_signs l) ring_places

  laid : corners ≡ map positioned cs
  unfolding ring_positions
  laid = ap (λ k. corners_of l (params l) (vertex_signs l) (take k r.places)) count ∙ all_laid l (ring_of l) within r.places codes enough

  spots_fine : are_fine ≡ all (spot_fine l) (ring_of l)
  spots_fine = ap (λ k. all_fine l (params l) (vertex_signs l) (take k r.places)) count ∙ all_fine_is l (ring_of l) within r.places codes enough

  area_value : area_by corners ≡ (area_of cs).value
  area_value = ap area_by laid ∙ area_is cs size

  -- ---- the test of the denominators and the area is that of the last two rows
  same_test : (a b c : Bool) → (c ≡ true → a ≡ true → b ≡ true) → (b ≡ true → a ≡ true) → (a && c) ≡ (b && c)
  same_test true true c f g = refl
  same_test false false c f g = refl
  same_test true false true f g = absurd (false≢true (f refl refl))
  same_test true false false f g = refl
  same_test false true c f g = absurd (false≢true (g refl))

  rows : (are_fine && finite (area_by corners)) ≡ (all finite (way_of way_to_position l) && all finite (way_of way_to_area l))
  unfolding way_of ring_positions
  rows =
      ap₂ ◌&&◌ spots_fine (ap finite area_value)
      ∙ (same_test (all (spot_fine l) (ring_of l)) (all finite (positions_way cs)) (finite (area_of cs).value) (λ a h. fine_ways l (ring_of l) h (area_corners cs size a)) (ways_fine l (ring_of l))
      ∙ ap (λ b. all finite (positions_way cs) && b) (sym (Told-area cs)))

  back : {b : Bool} → (are_fine && finite (area_by corners)) ≡ b → back_fine l ≡ b
  back h = ap₂ ◌&&◌ tests (sym rows ∙ h)

  pub keeps_answer : (are_fine && finite (area_by corners)) ≡ true → PairPromise l room (answered_with r (area_by corners) corners).answer (written (values_of corners) room)
  unfolding answered answer_of
  keeps_answer h =
      let q = answered_is l room (back_fine_lem l room n m front (back h)) in
      record {
        result_is = rw (q, area_value, count, is.vertices, is.corners, is.neighbouring) refl;
        after_is = rw q (ap (λ v. written v room) (ap values_of laid ∙ same_values cs));
      }

  pub keeps_late_refusal : (are_fine && finite (area_by corners)) ≡ false → PairPromise l room (refusal 4) room
  keeps_late_refusal h = keeps_refusal l room (back_not_fine l room n m front (back h)) (λ e. omega (arith, e))

-- ---- from d, e and the parameters on
module _ (l : List Float) (d e : Float) (p q r : Params) (n : length l ≡ 12) (named : (d ≡ (d_of_v l).value) × (e ≡ (e_of_u l).value) × (p ≡ params_of l 0) × (q ≡ params_of l 1) × (r ≡ params_of l 2)) where
  both : (a b : Bool) → (a && b) ≡ true → (a ≡ true) × (b ≡ true)
  both true b h = (refl, h)
  both false b h = absurd (false≢true h)

  pub beyond_kept : (room : List Float) → 12 ≤ length room → beyond_by d e p q r ≡ true → PairPromise l room (refusal 0) room
  unfolding beyond_by
  beyond_kept room m h =
      let seen = both (clear_by d e p q r) (beyond_a_line (signs_of p ∷ signs_of q ∷ signs_of r ∷ [])) h in
      keeps_beyond l room n m (by_clear l d e p q r named n refl seen.0) (rw (signs_are l, ← named.2, ← named.3, ← named.4) seen.1)

-- ---- from the lengths on
module _ (l room : List Float) {answer : Answer} where
  kept : (k : ℕ) → answer ≡ refusal k → refusal_of l room ≡ k → (k ≡ 0 → ⊥) → PairPromise l room answer room
  kept k e h z = subst (λ a. PairPromise l room a room) (sym e) (keeps_refusal l room h z)

  pub front_kept : {k : ℕ} → answer ≡ refusal k → length l ≡ 12 → 12 ≤ length room → k ≡ front_of l → (k ≡ 0 → ⊥) → PairPromise l room answer room
  front_kept {k} e n m h z = kept k e (by_front l room n m (λ f. z (h ∙ f)) ∙ sym h) z

  pub lengths_kept : answer ≡ refusal 1 → (length l ≡ 12 → ⊥) ⊎ (length room < 12) → PairPromise l room answer room
  lengths_kept e h = kept 1 e (short l room h) (λ z. omega (arith, z))

-- the values of the six positions, d, e and the parameters
pub all_given : (l : List Float) {pair : Triangle × Triangle} {d e : Float} {p q r : Params} → pair ≡ (triangle_from l 0, triangle_from l 6) →
    d ≡ (cross_from f64 (at pair.1.a) (at pair.1.b) (at pair.1.c)).value → e ≡ (cross_from f64 (at pair.0.a) (at pair.0.b) (at pair.0.c)).value →
    p ≡ params_by_way (given d) pair.1 pair.0.a → q ≡ params_by_way (given d) pair.1 pair.0.b → r ≡ params_by_way (given d) pair.1 pair.0.c →
    (d ≡ (d_of_v l).value) × (e ≡ (e_of_u l).value) × (p ≡ params_of l 0) × (q ≡ params_of l 1) × (r ≡ params_of l 2)
all_given l {pair} h hd he hp hq hr =
    let v0 : pair.1.a ≡ position_at l 3 = ap (λ t. t.1.a) h in
    let v1 : pair.1.b ≡ position_at l 4 = ap (λ t. t.1.b) h in
    let v2 : pair.1.c ≡ position_at l 5 = ap (λ t. t.1.c) h in
    let d = d_is l pair.1.a pair.1.b pair.1.c v0 v1 v2 hd in (
      d,
      e_is l (ap (λ t. t.0.a) h) (ap (λ t. t.0.b) h) (ap (λ t. t.0.c) h) he,
      params_are l pair.1.a pair.1.b pair.1.c v0 v1 v2 0 d (ap (λ t. t.0.a) h) hp,
      params_are l pair.1.a pair.1.b pair.1.c v0 v1 v2 1 d (ap (λ t. t.0.b) h) hq,
      params_are l pair.1.a pair.1.b pair.1.c v0 v1 v2 2 d (ap (λ t. t.0.c) h) hr,
    )
