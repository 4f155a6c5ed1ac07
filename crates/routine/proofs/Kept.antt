-- Of a pair's own d, e and parameters the steps of the code give the answer of the rules. Assumes nothing.
use mathlib.Core.Path.{◌≡◌, refl, sym, ap, subst, ◌∙◌}
use mathlib.Core.Bool.{Bool, true, false, ◌&&◌, cond}
use mathlib.Core.List.{List, [], ◌∷◌}
use Prim.Native.Nat.{ℕ, ◌<◌, ◌≤◌}
use native.Mathlib.Omega.{arith}
use lib.Dec.{eqb}
use lib.Ieee.{Float}
use lib.ListN.{length, take}
use borrow.Author.Tests.{eqb-true, eqb-false}
use Rattle.std.specs.Array.{IsWholeChunk}
use Rattle.floats.specs.Lists.{all}
use Rattle.floats.specs.Finite.{finite}
use Rattle.floats.specs.declared.Position.{Position}
use Rattle.lines.specs.declared.Params.{Params}
use Rattle.lines.specs.Parameters.{signs_of}
use Rattle.table.specs.Table.{entry_for, crossed_in}
use Rattle.edges.specs.declared.Order.{Order}
use Rattle.edges.specs.Code.{tested, order_by}
use Rattle.walk.specs.declared.Ring.{Ring}
use Rattle.walk.specs.Code.{befores, flags_and_ring}
use Rattle.front.specs.declared.Start.{Start}
use Rattle.front.specs.Front.{beyond_by, number_by}
use Rattle.triangles.specs.declared.Answer.{Answer}
use Rattle.triangles.specs.Pair.{d_of_v, e_of_u, params_of, vertex_signs, edge_orders}
use Rattle.triangles.specs.Refusals.{way_to_pair_test, way_to_position, way_to_area, way_of}
use Rattle.triangles.specs.Answers.{refusal, written}
use Rattle.triangles.specs.Promise.{PairPromise}
use Rattle.corners.specs.Corners.{corner_at}
use Rattle.routine.specs.Code.{front_of, corners_of, all_fine, area_by, values_of, Outcome, Starts, outcome_refused, answered_with, placed_as, ordered_by, settled_by, found_by}
use Rattle.routine.proofs.Cascade.{back_not_fine, keeps_refusal}
use Rattle.routine.proofs.Crossings.{params}
use Rattle.routine.proofs.Edges.{signs_are, befores_are, tests_fine}
use Rattle.routine.proofs.Front.{number_is}
use Rattle.routine.proofs.Laid.{spot_at}
use Rattle.routine.proofs.Entry.{corner_kept, keeps_answer, keeps_late_refusal, beyond_kept, front_kept}

-- of a pair's outcome, in whatever room: its answer and its corners' values keep the promise, and each of its places has the ring's corner
pub record Keeps (l room : List Float) (o : Outcome) : Type 0 where
  pub promise : PairPromise l room o.answer (written (values_of o.corners) room)
  pub place : o.answer.number ≡ 0 → (k : ℕ) → k < o.answer.n → (spot_at l (params l) (vertex_signs l) o.places k).corner ≡ corner_at l k

-- an outcome without a ring
bare_Keeps : (l room : List Float) (k : ℕ) → PairPromise l room (refusal k) room → Keeps l room (outcome_refused k)
unfolding written
bare_Keeps l room k h = record { promise = h; place = λ z i b. absurd (omega arith) }

module _ (l room : List Float) (n : length l ≡ 12) (m : 12 ≤ length room) where
  module _ (front : front_of l ≡ 0) where
    -- ---- from the ring on
    abbrev w : Ring
    w = flags_and_ring (vertex_signs l) (entry_for (vertex_signs l)) (befores (edge_orders l))

    abbrev corners : List Position
    corners = corners_of l (params l) (vertex_signs l) (take w.n w.places)

    placed_Keeps : all finite (way_of way_to_pair_test l) ≡ true → Keeps l room (placed_as l (params l) (vertex_signs l) (flags_and_ring (vertex_signs l) (entry_for (vertex_signs l)) (befores (edge_orders l))))
    unfolding placed_as
    placed_Keeps tests = go (all_fine l (params l) (vertex_signs l) (take w.n w.places) && finite (area_by corners)) refl
      where
        go : (b : Bool) → (all_fine l (params l) (vertex_signs l) (take w.n w.places) && finite (area_by corners)) ≡ b → Keeps l room (cond b (answered_with w (area_by corners) corners) (outcome_refused 4))
        go true h = record { promise = keeps_answer l room n m front tests h; place = λ z. corner_kept l room n m front tests }
        go false h = bare_Keeps l room 4 (keeps_late_refusal l room n m front tests h)

    -- ---- from the parameters on
    abbrev ss : List (List Bool)
    ss = signs_of (params_of l 0) ∷ signs_of (params_of l 1) ∷ signs_of (params_of l 2) ∷ []

    abbrev along : ℕ → ℕ → ℕ → Order
    along e i j = order_by (tested (params_of l i) (params_of l j) (signs_of (params_of l i))) (signs_of (params_of l i)) (crossed_in (entry_for ss) e)

    abbrev bs : List ℕ
    bs = (along 0 0 1).before ∷ (along 1 1 2).before ∷ (along 2 0 2).before ∷ []

    abbrev are_fine : Bool
    are_fine = (along 0 0 1).fine && ((along 1 1 2).fine && (along 2 0 2).fine)

    own_ring : all finite (way_of way_to_pair_test l) ≡ true → Keeps l room (placed_as l (params l) ss (flags_and_ring ss (entry_for ss) bs))
    own_ring tests = subst (λ s. Keeps l room (placed_as l (params l) s (flags_and_ring s (entry_for s) bs))) (signs_are l) (subst (λ b. Keeps l room (placed_as l (params l) (vertex_signs l) (flags_and_ring (vertex_signs l) (entry_for (vertex_signs l)) b))) (befores_are l) (placed_Keeps tests))

    ordered_keeps : Keeps l room (ordered_by l (params_of l 0) (params_of l 1) (params_of l 2))
    unfolding ordered_by
    ordered_keeps = go are_fine refl
      where
        go : (f : Bool) → are_fine ≡ f → Keeps l room (cond f (placed_as l (params l) ss (flags_and_ring ss (entry_for ss) bs)) (outcome_refused 4))
        go true h = own_ring (sym (tests_fine l) ∙ h)
        go false h = bare_Keeps l room 4 (keeps_refusal l room (back_not_fine l room n m front (ap (λ b. b && (all finite (way_of way_to_position l) && all finite (way_of way_to_area l))) (sym (tests_fine l) ∙ h))) (λ z. omega (arith, z)))

  -- ---- from d, e and the parameters on
  module _ (d e : Float) (p q r : Params) (named : (d ≡ (d_of_v l).value) × (e ≡ (e_of_u l).value) × (p ≡ params_of l 0) × (q ≡ params_of l 1) × (r ≡ params_of l 2)) where
    pub settled_Keeps : Keeps l room (settled_by l d e p q r)
    unfolding settled_by
    settled_Keeps = go (eqb (number_by l d e p q r) 0) refl
      where
        go : (b : Bool) → eqb (number_by l d e p q r) 0 ≡ b → Keeps l room (cond b (ordered_by l p q r) (outcome_refused (number_by l d e p q r)))
        go true h = rw (named.2, named.3, named.4) (ordered_keeps (sym (number_is l d e p q r named n refl) ∙ eqb-true (number_by l d e p q r) 0 h))
        go false h = bare_Keeps l room (number_by l d e p q r) (front_kept l room refl n m (number_is l d e p q r named n refl) (eqb-false (number_by l d e p q r) 0 h))

    pub found_Keeps : Keeps l room (found_by l d e p q r)
    unfolding found_by
    found_Keeps = go (beyond_by d e p q r) refl
      where
        go : (b : Bool) → beyond_by d e p q r ≡ b → Keeps l room (cond b (outcome_refused 0) (settled_by l d e p q r))
        go true h = bare_Keeps l room 0 (beyond_kept l d e p q r n named room m h)
        go false h = settled_Keeps

-- ---- as the code comes to it: the values as an array, and what was found in it
pub told_Keeps : (l room : List Float) {t : List Float} → IsWholeChunk l t 12 → 12 ≤ length room → {s : Start} → Starts t s → {o : Outcome} → o ≡ found_by t s.d s.e s.p s.q s.r → Keeps l room o
told_Keeps l room {t} ht m {s} named h =
    subst (Keeps l room) (sym h)
    (subst (λ v. Keeps l room (found_by v s.d s.e s.p s.q s.r)) (sym ht.same) (found_Keeps l room ht.long m s.d s.e s.p s.q s.r (subst (λ v. Starts v s) ht.same named)))

-- what is answered and what stands in the room afterwards, as an outcome has it
pub kept_as : (l room : List Float) {o : Outcome} {answer : Answer} {after : List Float} → Keeps l room o → answer ≡ o.answer → after ≡ written (values_of o.corners) room → PairPromise l room answer after
kept_as l room k e h = record { result_is = e ∙ k.promise.result_is; after_is = h ∙ k.promise.after_is }

pub nothing_written : (room : List Float) → room ≡ written (values_of []) room
unfolding written
nothing_written room = refl
