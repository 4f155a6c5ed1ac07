-- Before each turn the entries that are left say what all say.
use lib.ListN.{length}
use mathlib.Core.Path.{refl, sym, ◌∙◌}
use native.Mathlib.Omega.{arith}
use Rattle.std.proofs.lemmas.Result.{err_from_is_err_and}
use Rattle.filing.specs.Lists.{given}
use Rattle.filing.specs.Refusals.{entry_number}
use Rattle.refusing.proofs.Told.{never_0}
use Rattle.refusing.proofs.Turns.{first_stop, first_go, first_end, entry_is}
use Rattle.refusing.proofs.entries.Goals as goal

pub returns-in_err-entry_rule : goal.returns-in_err-entry_rule
returns-in_err-entry_rule c =
    let l = c.loop-i in
    let g = c.args.lists in
    let p = err_from_is_err_and c.from_residual.result c.from_residual.ensures.1 in
    rw (p.1, p.2) (sym (l.invariant ∙ first_stop (entry_number (given g)) (length g.ids.now) l.i c.loop-i-test.true (entry_is (given g) l.i c.is_seen.ensures c.from.ensures c.from-in-loop-i.ensures c.in_err-entry_rule.ensures) (never_0 c.in_err-entry_rule.field-0.0)))

pub loop-i-preserved : goal.loop-i-preserved
loop-i-preserved c =
    let l = c.loop-i in
    let g = c.args.lists in
    l.invariant ∙ first_go (entry_number (given g)) (length g.ids.now) l.i c.loop-i-test.true (entry_is (given g) l.i c.is_seen.ensures c.from.ensures c.from-in-loop-i.ensures c.in_ok-entry_rule.ensures) refl

pub returns : goal.returns
returns c =
    let l = c.loop-i in
    let g = c.args.lists in
    sym (l.invariant ∙ first_end (entry_number (given g)) (length g.ids.now) l.i (omega arith))
