-- Counted from the lower end, the numbers are out of range where they are, and have the same cross.
use mathlib.Core.Path.{sym, ◌∙◌}
use Rattle.layout.proofs.Cross.{says_17, says_18, says_0}
use Rattle.judge.proofs.triangle_rule.Goals as goal

pub returns-then-is_above_top : goal.returns-then-is_above_top
returns-then-is_above_top c = says_17 _ _ _ _ _ _ c.element_fits.fits c.element_fits2.fits c.element_fits3.fits c.element_fits4.fits c.element_fits5.fits c.element_fits6.fits c.from_bottom.ensures c.from_bottom-2.ensures c.from_bottom-3.ensures c.from_bottom-4.ensures c.from_bottom-5.ensures c.from_bottom-6.ensures c.is_above_top.ensures c.if-is_above_top.true

pub is_flat-requires : goal.is_flat-requires
is_flat-requires c = sym c.is_above_top.ensures ∙ c.if-is_above_top.false

pub returns-then-is_flat : goal.returns-then-is_flat
returns-then-is_flat c = says_18 _ _ _ _ _ _ c.element_fits.fits c.element_fits2.fits c.element_fits3.fits c.element_fits4.fits c.element_fits5.fits c.element_fits6.fits c.from_bottom.ensures c.from_bottom-2.ensures c.from_bottom-3.ensures c.from_bottom-4.ensures c.from_bottom-5.ensures c.from_bottom-6.ensures c.is_above_top.ensures c.if-is_above_top.false c.is_flat.ensures c.if-is_flat.true

pub returns : goal.returns
returns c = says_0 _ _ _ _ _ _ c.element_fits.fits c.element_fits2.fits c.element_fits3.fits c.element_fits4.fits c.element_fits5.fits c.element_fits6.fits c.from_bottom.ensures c.from_bottom-2.ensures c.from_bottom-3.ensures c.from_bottom-4.ensures c.from_bottom-5.ensures c.from_bottom-6.ensures c.is_above_top.ensures c.if-is_above_top.false c.is_flat.ensures c.if-is_flat.false
