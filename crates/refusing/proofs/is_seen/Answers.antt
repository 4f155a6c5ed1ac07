-- The fold over the first ids is the test of the ids before, the latest first.
use mathlib.Core.Bool.{◌||◌}
use mathlib.Core.Path.{◌∙◌}
use lib.Dec.{eqb}
use lib.ListN.{get_or, take}
use native.Mathlib.Omega.{arith}
use Rattle.std.proofs.Common.{rules, tests}
use Rattle.std.proofs.lemmas.Iterator.{YieldsList-from_slice}
use Rattle.std.proofs.lemmas.Iterator.Consumers.{fold_from_yields_List}
use Rattle.refusing.proofs.Turns.{seen_fold}
use Rattle.refusing.proofs.is_seen.Goals as goal

pub returns : goal.returns
returns c =
    let ids = c.args.ids.now in
    let id = get_or ids c.args.i 0 in
    fold_from_yields_List _ (λ seen other. eqb id other || seen) _ _ c.fold.ensures.ran (YieldsList-from_slice (take c.args.i ids) cc) (λ a x b q k. search (rules, tests)) ∙ seen_fold ids id c.args.i (omega arith)
