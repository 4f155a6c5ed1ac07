-- Each turn looks at the set of one more entry of the table.
use mathlib.Core.Path.{◌≡◌, ap, ◌∙◌}
use native.Mathlib.Omega.{arith}
use lib.ListN.{length}
use Rattle.sets.specs.Sets.{is_retired}
use Rattle.leaklist.specs.Code.{formerly_to}
use Rattle.leaklist.proofs.Gathered.{set_is, formerly_none, formerly_turn, formerly_all}
use Rattle.leaklist.proofs.found.Night.formerly.Goals as goal

pub loop-k-init : goal.loop-k-init
loop-k-init c = (omega arith, formerly_none c.args.self.now.file.now)

pub loop-k-preserved : goal.loop-k-preserved
loop-k-preserved c = let night = c.args.self.now in
    let l = c.loop-k in
    let one = c.one_if-sum.ensures in
    (omega (arith, l.invariant.0, one.1), formerly_turn night.file.now l.k l.invariant.1 (c.is_retired.ensures ∙ ap is_retired (set_is night.file.now l.k night.at night.place c.u8_at-set.ensures)) one.0)

pub returns : goal.returns
returns c = let night = c.args.self.now in
    let l = c.loop-k in
    let e : l.k ≡ length night.own.now = omega (arith, l.auto.k-end, c.loop-k-test.false) in
    l.invariant.1 ∙ (ap (formerly_to night.file.now) (e ∙ night.gathered.recordings) ∙ formerly_all night.file.now)
