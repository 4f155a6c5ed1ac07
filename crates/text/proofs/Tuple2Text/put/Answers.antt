-- Where both fit, they are put one behind the other; where not, nothing is put.
use mathlib.Core.Path.{refl}
use mathlib.Core.List.{◌++◌}
use native.Mathlib.Omega.{arith}
use Rattle.text.proofs.Room.{put_not, put_behind}
use Rattle.text.proofs.Tuple2Text.put.Goals as goal

pub returns-in_err-length-clause-placed : goal.returns-in_err-length-clause-placed
returns-in_err-length-clause-placed g c =
    let p = c.args.self.now in
    rw c.from_residual.ensures (put_not c.args.room.now (g.A.Text.text p.0 ++ g.B.Text.text p.1) c.args.at (λ h. c.in_err-length.ensures (omega arith)) refl)

pub returns-in_err-behind-clause-placed : goal.returns-in_err-behind-clause-placed
returns-in_err-behind-clause-placed g c =
    let p = c.args.self.now in
    rw c.from_residual-in_err-behind.ensures (put_not c.args.room.now (g.A.Text.text p.0 ++ g.B.Text.text p.1) c.args.at (rw c.in_ok-length.ensures.1 at c.in_err-behind.ensures) refl)

pub returns-clause-placed : goal.returns-clause-placed
returns-clause-placed g c = (put_behind {next = c.in_ok-next.next} c.put-2.result c.in_ok-next.ensures.placed c.put-2.ensures.placed c.put-2.ensures.fits (rw c.in_ok-length.ensures.1 at c.in_ok-behind.ensures).0).0

pub returns-clause-fits : goal.returns-clause-fits
returns-clause-fits g c =
    let fit = (rw c.in_ok-length.ensures.1 at c.in_ok-behind.ensures).0 in
    (λ s. fit, λ h. (put_behind {next = c.in_ok-next.next} c.put-2.result c.in_ok-next.ensures.placed c.put-2.ensures.placed c.put-2.ensures.fits fit).1)
