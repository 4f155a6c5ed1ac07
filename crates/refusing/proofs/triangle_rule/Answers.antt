-- The reader's rule, whose reason is the writer's.
use mathlib.Core.Path.{sym, ap, ◌∙◌}
use Rattle.layout.specs.Rules.{triangle_rule}
use Rattle.layout.specs.Told.{ruled}
use Rattle.refusing.proofs.Turns.{triangle_reason, by_reason}
use Rattle.refusing.proofs.triangle_rule.Goals as goal

pub map_err-requires : goal.map_err-requires
map_err-requires c = λ e p. triangle_reason _ e (sym (ap ruled p) ∙ c.triangle_rule.ensures)

pub returns : goal.returns
returns c = by_reason _ _ c.map_err.ensures.cases (λ e w l. l) ∙ (c.triangle_rule.ensures ∙ ap triangle_rule c.bits.ensures)
