-- The files worked by hand are moved over so. Assumes nothing.
use mathlib.Core.Path.{refl}
use Rattle.moving.specs.Moved.{moved}
use Rattle.moving.specs.Worked.{ByHand}

pub by_hand : ByHand
unfolding moved
by_hand = record { one = refl; stays = refl; others = refl }
