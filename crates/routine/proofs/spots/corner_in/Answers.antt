-- One place of the ring, with the sign of its edge's start alone.
use mathlib.Core.Path.{◌≡◌, ap, ◌∙◌}
use Rattle.lines.specs.Lines.{sign, signs_at}
use Rattle.walk.specs.Code.{place_of_code}
use Rattle.routine.specs.Code.{signs_from, spot_of}
use Rattle.routine.proofs.Decoded.{at_position, at_crossing, sign_from}
use Rattle.routine.proofs.spots.corner_in.Goals as goal
use Rattle.routine.proofs.spots.corner_in.Goals.{in-Some, in-None}

pub returns : goal.returns
returns c =
    let ps = c.args.params in
    let spot : c.match-meeting_in.spot ≡ spot_of c.args.values.now ps (signs_from ps) (place_of_code c.args.place.code) =
    elim c.match-meeting_in.branch [
      | in-Some w ↦
          let a = w.in-Some.m.line in
          w.spot-is ∙ at_crossing _ ps (signs_from ps) _ w.in-Some.ensures.value (ap (λ s. sign s a) w.signs_of-s.ensures ∙ (sign_from ps _ a w.end_of.ensures.1 ∙ ap (λ i. signs_at (signs_from ps) i a) w.end_of.ensures.0)) w.crossed-spot.ensures
      | in-None w ↦ w.spot-is ∙ at_position _ ps (signs_from ps) _ w.in-None.ensures.value w.copied_at-spot.ensures
    ] in
    ap (λ s. s.corner) spot
