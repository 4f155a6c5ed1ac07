-- 14 for a set over 1; else the reader's rule, whose reason is the writer's.
use mathlib.Core.Path.{sym, ap, ◌∙◌}
use Rattle.layout.specs.Told.{ruled}
use Rattle.refusing.proofs.Turns.{over_one, up_to_one, entry_reason, by_reason}
use Rattle.refusing.proofs.entry_rule.Goals as goal

pub returns-then-e-gt1 : goal.returns-then-e-gt1
returns-then-e-gt1 c = let e = c.args.e in over_one e e.first c.args.seen c.if-e-gt1.true

pub map_err-requires : goal.map_err-requires
map_err-requires c = λ f p. let e = c.args.e in entry_reason e e.first c.args.seen f (sym (ap ruled p) ∙ c.entry_rule.ensures)

pub returns : goal.returns
returns c = let e = c.args.e in by_reason _ _ c.map_err.ensures.cases (λ f w l. l) ∙ up_to_one e e.first c.args.seen c.if-e-gt1.false c.entry_rule.ensures
