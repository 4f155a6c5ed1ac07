-- Each turn lays one more position.
use mathlib.Core.Path.{◌≡◌, refl, ap, ◌∙◌}
use native.Mathlib.Omega.{arith}
use borrow.Author.Rules.{rules}
use lib.ListN.{get_or, take}
use Rattle.std.proofs.lemmas.List.{length-take}
use Rattle.floats.specs.Lists.{all}
use Rattle.lines.specs.Lines.{signs_at}
use Rattle.walk.specs.Code.{coded, place_of_code}
use Rattle.routine.specs.Code.{spot_of, spots_of}
use Rattle.routine.proofs.Decoded.{at_position, at_crossing}
use Rattle.routine.proofs.Turns.{one_laid, one_fine}
use Rattle.routine.proofs.spots.corners_of.Goals as goal
use Rattle.routine.proofs.spots.corners_of.Goals.{in-Some, in-None}

pub loop-i-init : goal.loop-i-init
unfolding spots_of all
loop-i-init c = record { six = refl; laid = refl; is_fine = refl }

pub loop-i-preserved : goal.loop-i-preserved
loop-i-preserved c =
    let g = c.args in
    let i = c.loop-i.i in
    let inv = c.loop-i.invariant in
    let b = c.loop-i-test.true in
    let spot : c.match-meeting_in.spot ≡ spot_of g.values.now g.params g.signs (place_of_code (get_or (take g.n g.places) i (coded 0)).code) =
    elim c.match-meeting_in.branch [
      | in-Some w ↦ w.spot-is ∙ at_crossing _ g.params g.signs _ w.in-Some.ensures.value (ap (λ i. signs_at g.signs i w.in-Some.m.line) w.end_of.ensures.0) w.crossed-spot.ensures
      | in-None w ↦ w.spot-is ∙ at_position _ g.params g.signs _ w.in-None.ensures.value w.copied_at-spot.ensures
    ] in
    record {
      six = search rules;
      laid = one_laid _ g.params g.signs (take g.n g.places) i (coded 0) b _ spot _ (let m = length-take g.n g.places in omega (arith, b, m, inv.six, c.requires)) inv.laid;
      is_fine = one_fine _ g.params g.signs (take g.n g.places) i (coded 0) b _ spot inv.is_fine;
    }
