-- Lengths first, then what was found.
use mathlib.Core.Path.{refl, ap, ◌∙◌}
use mathlib.Core.Logic.{inl, inr}
use Rattle.triangles.specs.Answers.{refusal}
use Rattle.routine.proofs.Entry.{lengths_kept}
use Rattle.routine.proofs.Kept.{told_Keeps, kept_as, nothing_written}
use Rattle.routine.proofs.intersect.Goals as goal

pub returns-in_default : goal.returns-in_default
returns-in_default c = lengths_kept _ _ (c.without_ring.ensures ∙ ap refusal c.number.ensures) (inl c.in_default.ensures.cases)

pub returns-then-room-lt12 : goal.returns-then-room-lt12
returns-then-room-lt12 c = lengths_kept _ _ (c.without_ring-then-room-lt12.ensures ∙ ap refusal c.number-then-room-lt12.ensures) (inr c.if-room-lt12.true)

pub returns-in-Some-found : goal.returns-in-Some-found
returns-in-Some-found c =
    let room = c.args.room.now in
    kept_as _ room (told_Keeps _ room c.in-Some.ensures.cases c.if-room-lt12.false c.start_of.ensures (rw c.in-Some-found.is at c.in-Ok.ensures)) refl c.write.ensures

pub returns-in-None : goal.returns-in-None
returns-in-None c =
    let room = c.args.room.now in
    kept_as _ room (told_Keeps _ room c.in-Some.ensures.cases c.if-room-lt12.false c.start_of.ensures (rw c.in-None.is at c.in-Ok.ensures)) c.without_ring-in-None.ensures (nothing_written room)

pub returns-in-Err : goal.returns-in-Err
returns-in-Err c =
    let room = c.args.room.now in
    kept_as _ room (told_Keeps _ room c.in-Some.ensures.cases c.if-room-lt12.false c.start_of.ensures c.in-Err.ensures) (c.without_ring-in-Err.ensures ∙ ap refusal c.number-in-Err.ensures) (nothing_written room)
