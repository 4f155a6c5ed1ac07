-- The lent room keeps its length, and what lies beyond the corners: an answer has at most six corners, and a room of under twelve values is
-- refused. Assumes nothing.
use mathlib.Core.Path.{◌≡◌, refl, ap, ◌∙◌}
use mathlib.Core.Logic.{inl, inr}
use mathlib.Core.Bool.{Bool, true, false}
use mathlib.Core.List.{List}
use Prim.Native.Nat.{ℕ, ◌*◌, ◌≤◌}
use native.Mathlib.Omega.{arith}
use lib.Dec.{eqb, ltb}
use lib.ListN.{length, drop, length-append, length-drop}
use lib.Seq.{drop_at}
use lib.Ieee.{Float}
use borrow.Author.Tests.{eqb-true, eqb-false, ltb-true, ltb-false}
use Rattle.ring.specs.Demand.{NoneOrThreeToSix}
use Rattle.triangles.specs.Pair.{ring_of}
use Rattle.triangles.specs.Positions.{ring_positions, values_of_corners}
use Rattle.triangles.specs.Refusals.{lengths, refusal_of}
use Rattle.triangles.specs.Answers.{answered, answer_of, written}
use Rattle.triangles.specs.Promise.{RestKept}
use Rattle.triangles.proofs.Rows.{by_none, refused_is, answered_is}
use Rattle.triangles.proofs.Demand.{sound, count_of_values}

at_most_six : {n : ℕ} → NoneOrThreeToSix n → n ≤ 6
at_most_six (inl h) = omega arith
at_most_six (inr h) = omega (arith, h.1)

module _ (l room : List Float) where
  pub ring_fits : length (ring_of l) ≤ 6
  unfolding ring_of
  ring_fits = at_most_six (sound l).size

  room_fits : refusal_of l room ≡ 0 → 12 ≤ length room
  room_fits h = go (ltb (length room) 12) refl
    where
      go : (b : Bool) → ltb (length room) 12 ≡ b → 12 ≤ length room
      go true e = absurd ((by_none l room).0 h lengths (inr (ltb-true (length room) 12 e)))
      go false e = ltb-false (length room) 12 e

  kept_answered : refusal_of l room ≡ 0 → RestKept l room
  unfolding answered answer_of written
  kept_answered h =
      let q = answered_is l room h in
      let vs = values_of_corners (ring_positions l) in
      record {
        same_length = rw q (length-append vs (drop (length vs) room) ∙ rw length-drop (omega (arith, room_fits h, ring_fits, count_of_values l)));
        rest = rw q (drop_at vs (drop (length vs) room) (2 * length (ring_of l)) (count_of_values l) ∙ ap (λ n. drop n room) (count_of_values l));
      }

  pub rest_kept : RestKept l room
  rest_kept = go (eqb (refusal_of l room) 0) refl
    where
      go : (b : Bool) → eqb (refusal_of l room) 0 ≡ b → RestKept l room
      go true e = kept_answered (eqb-true (refusal_of l room) 0 e)
      go false e = let q = refused_is l room (eqb-false (refusal_of l room) 0 e) in record { same_length = rw q refl; rest = rw q refl }
