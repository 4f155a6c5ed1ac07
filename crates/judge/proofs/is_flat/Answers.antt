-- Every difference and product fits in 64 bits, so the cross is exact.
use Rattle.layout.proofs.Cross.{product_fits, cross_fits, cross_nought, within}
use Rattle.judge.proofs.is_flat.Goals as goal

pub overflow_mul-result : goal.overflow_mul-result
overflow_mul-result c = let w = within c.args.six c.requires in product_fits _ _ _ _ (w 2) (w 0) (w 5) (w 1)

pub overflow_mul-result-2 : goal.overflow_mul-result-2
overflow_mul-result-2 c = let w = within c.args.six c.requires in product_fits _ _ _ _ (w 3) (w 1) (w 4) (w 0)

pub overflow_sub-result : goal.overflow_sub-result
overflow_sub-result c = let w = within c.args.six c.requires in cross_fits _ _ _ _ _ _ (w 0) (w 1) (w 2) (w 3) (w 4) (w 5)

pub returns : goal.returns
returns c = let w = within c.args.six c.requires in cross_nought _ _ _ _ _ _ (w 0) (w 1) (w 2) (w 3) (w 4) (w 5)
