-- A file that is refused is refused at once.
use mathlib.Core.Path.{sym, ap, ◌∙◌}
use Rattle.layout.proofs.Told.{above}
use Rattle.leaklist.proofs.Written.{keeps_refusal}
use Rattle.leaklist.proofs.leaks.Goals as goal

pub returns-in-Err : goal.returns-in-Err
returns-in-Err c =
    let said = c.from-v.ensures in
    keeps_refusal c.args.file.now c.args.room.now (said ∙ c.in-Err.ensures.verdict) (λ z. above c.in-Err.refused.why (sym (ap (λ v. v.number) said) ∙ z)) c.no_list.ensures
