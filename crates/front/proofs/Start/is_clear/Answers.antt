-- The sum and the two zeros, as the definition has them.
use mathlib.Core.Path.{ap}
use mathlib.Core.Bool.{not, ◌&&◌}
use lib.Ieee.{add, eq, ne, of_bits}
use Rattle.floats.specs.Finite.{nought}
use Rattle.front.specs.Front.{clear_by}
use Rattle.front.proofs.Start.is_clear.Goals as goal

pub returns : goal.returns
unfolding clear_by add eq ne of_bits
returns c =
    let s = c.args.self in
    ap (λ b. b && (not (eq s.d nought) && not (eq s.e nought))) c.is_finite.ensures
