-- The first line ends before its line feed, and what is behind that is still to come.
use Rattle.std.proofs.Common.{◌≡◌, length, rules, arith, ap}
use Rattle.cases.proofs.Laws.{no_line, next_line}
use Rattle.cases.proofs.EachLineIterator.next.Goals as goal

pub returns-then-is_empty-clause-steps : goal.returns-then-is_empty-clause-steps
returns-then-is_empty-clause-steps c = let e : length c.args.self.now.rest.now ≡ 0 = search rules in let n = no_line c.args.self.now.rest.now e in (n, n)

pub returns-clause-steps : goal.returns-clause-steps
returns-clause-steps c = let e : length c.args.self.now.rest.now ≡ 0 → ⊥ = search rules in next_line c.args.self.now.rest.now e c.until-line.ensures.0 c.behind-self.ensures

pub returns-clause-goes : goal.returns-clause-goes
returns-clause-goes c = let e : length c.args.self.now.rest.now ≡ 0 → ⊥ = search rules in let n = ap length (next_line c.args.self.now.rest.now e c.until-line.ensures.0 c.behind-self.ensures) in record { on = λ f. (search rules, search rules, omega (arith, n)); keeps = search rules; rests = search rules }
