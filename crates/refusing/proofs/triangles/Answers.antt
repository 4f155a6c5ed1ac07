-- Before each turn the triangles that are left say what all say.
use Prim.Native.Nat.{◌/◌, ◌<◌}
use mathlib.Core.List.{[]}
use lib.ListN.{length}
use mathlib.Core.Path.{refl, sym, ◌∙◌}
use native.Mathlib.Omega.{arith}
use Rattle.std.proofs.lemmas.Result.{err_from_is_err_and}
use Rattle.filing.specs.Given.{given_of}
use Rattle.filing.specs.Refusals.{triangle_number}
use Rattle.refusing.proofs.Told.{never_0}
use Rattle.refusing.proofs.Turns.{first_stop, first_go, first_end, cut_six}
use Rattle.refusing.proofs.triangles.Goals as goal

pub returns-in_err-triangle_rule : goal.returns-in_err-triangle_rule
returns-in_err-triangle_rule c =
    let l = c.loop-six in
    let numbers = c.args.numbers.now in
    let n = length numbers / 6 in
    let p = err_from_is_err_and c.from_residual.result c.from_residual.ensures.1 in
    let last : l.six-index < n = omega arith in
    rw (p.1, p.2) (sym (l.invariant ∙ first_stop (triangle_number (given_of [] [] [] [] numbers)) n l.six-index last (cut_six numbers n l.six-index _ c.as_chunks.ensures.front last c.in_err-triangle_rule.ensures) (never_0 c.in_err-triangle_rule.field-0.0)))

pub loop-six-preserved : goal.loop-six-preserved
loop-six-preserved c =
    let l = c.loop-six in
    let numbers = c.args.numbers.now in
    let n = length numbers / 6 in
    let last : l.six-index < n = omega arith in
    l.invariant ∙ first_go (triangle_number (given_of [] [] [] [] numbers)) n l.six-index last (cut_six numbers n l.six-index _ c.as_chunks.ensures.front last c.in_ok-triangle_rule.ensures) refl

pub returns : goal.returns
returns c =
    let l = c.loop-six in
    let numbers = c.args.numbers.now in
    sym (l.invariant ∙ first_end (triangle_number (given_of [] [] [] [] numbers)) (length numbers / 6) l.six-index (omega arith))
