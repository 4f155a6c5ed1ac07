-- Where there is no room nothing is put.
use Rattle.chart.specs.Words.{triangle_text}
use Rattle.layout.specs.Parts.{triangle_by}
use Rattle.std.proofs.lemmas.Bool.{false≢true}
use Rattle.text.proofs.Room.{put_not}
use mathlib.Core.Path.{refl}
use native.Mathlib.Omega.{arith}
use Rattle.polygons.proofs.put.Goals as goal

pub returns-in_err-left-clause-placed : goal.returns-in_err-left-clause-placed
returns-in_err-left-clause-placed c = let n = c.in_err-left.ensures in
    rw c.from_residual.ensures (put_not c.args.room.now (triangle_text (triangle_by c.args.six)) c.args.at (λ h. n (omega (arith, h))) refl)

pub returns-then-not-is_enough-clause-placed : goal.returns-then-not-is_enough-clause-placed
returns-then-not-is_enough-clause-placed c = let s = c.in_ok-left.ensures in
    put_not c.args.room.now (triangle_text (triangle_by c.args.six)) c.args.at (λ h. false≢true (c.if-not-is_enough.ensures.1 (omega (arith, s.1, h)))) refl
