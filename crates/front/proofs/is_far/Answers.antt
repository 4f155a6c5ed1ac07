-- Another length, boxes that share a point, or a test of every value.
use Rattle.front.proofs.Boxes.{other_length, sharing, sharing_none}
use Rattle.front.proofs.is_far.Goals as goal

pub returns-in_default : goal.returns-in_default
returns-in_default c = other_length _ c.in_default.ensures.cases

pub returns-then-share_point : goal.returns-then-share_point
returns-then-share_point c = sharing _ c.in-Some.ensures.cases c.pair_of.ensures c.box_of.ensures c.box_of-2.ensures c.share_point.ensures c.if-share_point.true

pub returns : goal.returns
returns c = sharing_none _ c.in-Some.ensures.cases c.pair_of.ensures c.box_of.ensures c.box_of-2.ensures c.share_point.ensures c.if-share_point.false c.all_finite.ensures
