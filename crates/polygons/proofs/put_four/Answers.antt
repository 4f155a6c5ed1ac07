-- Two digits behind two.
use Prim.Native.Nat.{◌/◌}
use Rattle.polygons.proofs.Numbers.{four_digits}
use Rattle.polygons.proofs.Stores.{next_fits, put_then}
use Rattle.text.proofs.Room.{put_as}
use Rattle.text.specs.Code.{digits}
use Rattle.polygons.proofs.put_four.Goals as goal

pub put_two-requires : goal.put_two-requires
unfolding digits
put_two-requires c = next_fits (digits 2 (c.args.w / 100)) (digits 2 c.args.w) c.put_two-p.ensures c.requires

pub returns : goal.returns
unfolding digits
returns c = put_as (four_digits c.args.w) (put_then (digits 2 (c.args.w / 100)) (digits 2 c.args.w) c.put_two-p.ensures c.requires c.put_two.ensures)
