-- What does not fit is not put; what fits is laid digit by digit.
use mathlib.Core.Path.{refl, ap, ◌∙◌}
use Rattle.text.specs.Code.{digits}
use Rattle.text.specs.Decimal.{decimal}
use Rattle.text.proofs.Laws.{all_digits}
use Rattle.text.proofs.Room.{put_not, put_part, part_length}
use Rattle.text.proofs.put_decimal.Goals as goal

pub returns-in_err-behind-clause-placed : goal.returns-in_err-behind-clause-placed
returns-in_err-behind-clause-placed c = let g = c.args in rw c.from_residual.ensures (put_not g.room.now (decimal g.n) g.at (rw c.width.ensures.0 at c.in_err-behind.ensures) refl)

pub returns-clause-placed : goal.returns-clause-placed
returns-clause-placed c = let g = c.args in
    let h = rw c.width.ensures.0 at c.in_ok-behind.ensures in
    put_part g.room.now (decimal g.n) g.at h (c.fill_digits.ensures ∙ ap (λ k. digits k g.n) (part_length g.room.now (decimal g.n) g.at h) ∙ all_digits g.n)
