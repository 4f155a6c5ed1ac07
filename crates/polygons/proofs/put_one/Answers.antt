-- The byte of the last digit.
use Rattle.polygons.proofs.Numbers.{one-digit}
use Rattle.text.proofs.Room.{put_as}
use mathlib.Core.List.{[], ◌∷◌}
use mathlib.Core.Path.{ap, ◌∙◌}
use Rattle.polygons.proofs.put_one.Goals as goal

pub returns : goal.returns
returns c = put_as (ap (λ d. d ∷ []) c.digit.ensures ∙ one-digit c.args.w) c.put_bytes.ensures
