-- 01's refusals first, then the place, then the corner.
use native.Mathlib.Omega.{arith}
use Rattle.triangles.specs.Decision.{enough}
use Rattle.routine.proofs.Kept.{told_Keeps}
use Rattle.routine.proofs.Asked.{corner_short, found_refused, found_none, found_beyond, found_told}
use Rattle.routine.proofs.corner_at.Goals as goal

pub returns-in_default : goal.returns-in_default
returns-in_default c = corner_short c.args.values.now c.args.place c.in_default.ensures.cases c.number.ensures c.no_corner.ensures

pub returns-in_default-found : goal.returns-in_default-found
returns-in_default-found c =
    let l = c.args.values.now in
    found_none l c.args.place (told_Keeps l enough c.in-Some.ensures.cases (omega arith) c.start_of-s.ensures (rw c.in_default-found.is at c.in-Ok.ensures)) c.no_corner-in_default-found.ensures

pub returns-then-place-f : goal.returns-then-place-f
returns-then-place-f c =
    let l = c.args.values.now in
    found_told l c.args.place c.in-Some-found.f (told_Keeps l enough c.in-Some.ensures.cases (omega arith) c.start_of-s.ensures (rw c.in-Some-found.is at c.in-Ok.ensures)) c.in-Some.ensures.cases c.start_of-s.ensures c.if-place-f.true c.corner_in.ensures c.told_of.ensures

pub returns-else-place-f : goal.returns-else-place-f
returns-else-place-f c =
    let l = c.args.values.now in
    found_beyond l c.args.place c.in-Some-found.f (told_Keeps l enough c.in-Some.ensures.cases (omega arith) c.start_of-s.ensures (rw c.in-Some-found.is at c.in-Ok.ensures)) c.if-place-f.false c.no_corner-in-Ok.ensures

pub returns-in-Err : goal.returns-in-Err
returns-in-Err c =
    let l = c.args.values.now in
    found_refused l c.args.place c.in-Err.k (told_Keeps l enough c.in-Some.ensures.cases (omega arith) c.start_of-s.ensures c.in-Err.ensures) c.number-in-Err.ensures c.no_corner-in-Err.ensures
