-- No second answer fits: whatever meets the promise, result and room, is what else meets it, for all inputs. Assumes nothing.
use mathlib.Core.Path.{sym, ◌∙◌}
use Rattle.triangles.specs.Promise.{NoSecondPair}

pub no_second_pair : NoSecondPair
no_second_pair values room r s a b p q = (p.result_is ∙ sym q.result_is, p.after_is ∙ sym q.after_is)
