-- A promise that is an equation, or has one for its first fact, fixes the answer. Assumes nothing.
use mathlib.Core.Path.{sym, ap₂, ◌∙◌}
use Rattle.floats.specs.OneAnswer.{EquationsFix}

pub equations_fix : EquationsFix
equations_fix = record {
  alone = λ A it a b p q. p ∙ sym q;
  with_more = λ A it More a b p q. p.0 ∙ sym q.0;
  both = λ A B it left More a b p q. ap₂ (λ x y. (x, y)) (p.0 ∙ sym q.0) (p.1 ∙ sym q.1);
}
