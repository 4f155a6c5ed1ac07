-- The two bytes of the pair are the two digits.
use Rattle.polygons.proofs.Numbers.{two_digits}
use Rattle.text.proofs.Room.{put_as}
use mathlib.Core.Path.{◌∙◌}
use Rattle.polygons.proofs.put_two.Goals as goal

pub returns : goal.returns
returns c = put_as (c.to_le_bytes.ensures ∙ two_digits c.pair_of.result c.args.w c.pair_of.ensures) c.put_bytes.ensures
