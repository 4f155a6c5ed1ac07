-- Each test leaves one width.
use borrow.Author.Rules.{rules}
use mathlib.Core.Path.{sym}
use native.Mathlib.Omega.{arith}
use Rattle.text.proofs.Laws.{width_small, width_is}
use Rattle.text.proofs.width.Goals as goal

pub returns-then-n-lt10 : goal.returns-then-n-lt10
returns-then-n-lt10 c = (sym (width_small c.args.n c.if-n-lt10.true), omega arith, omega arith)

pub returns-then-n-lt100 : goal.returns-then-n-lt100
returns-then-n-lt100 c = (sym (width_is 1 c.args.n (omega (arith, c.if-n-lt10.false)) (omega (arith, c.if-n-lt100.true))), omega (arith, c.if-n-lt10.false), omega arith)

pub returns-then-n-lt1000 : goal.returns-then-n-lt1000
returns-then-n-lt1000 c = (sym (width_is 2 c.args.n (omega (arith, c.if-n-lt100.false)) (omega (arith, c.if-n-lt1000.true))), omega (arith, c.if-n-lt100.false), omega arith)

pub returns-then-n-lt10000 : goal.returns-then-n-lt10000
returns-then-n-lt10000 c = (sym (width_is 3 c.args.n (omega (arith, c.if-n-lt1000.false)) (omega (arith, c.if-n-lt10000.true))), omega (arith, c.if-n-lt1000.false), omega arith)

pub returns-then-n-lt100000 : goal.returns-then-n-lt100000
returns-then-n-lt100000 c = (sym (width_is 4 c.args.n (omega (arith, c.if-n-lt10000.false)) (omega (arith, c.if-n-lt100000.true))), omega (arith, c.if-n-lt10000.false), omega arith)

pub returns-then-n-lt1000000 : goal.returns-then-n-lt1000000
returns-then-n-lt1000000 c = (sym (width_is 5 c.args.n (omega (arith, c.if-n-lt100000.false)) (omega (arith, c.if-n-lt1000000.true))), omega (arith, c.if-n-lt100000.false), omega arith)

pub returns-then-n-lt10000000 : goal.returns-then-n-lt10000000
returns-then-n-lt10000000 c = (sym (width_is 6 c.args.n (omega (arith, c.if-n-lt1000000.false)) (omega (arith, c.if-n-lt10000000.true))), omega (arith, c.if-n-lt1000000.false), omega arith)

pub returns-then-n-lt100000000 : goal.returns-then-n-lt100000000
returns-then-n-lt100000000 c = (sym (width_is 7 c.args.n (omega (arith, c.if-n-lt10000000.false)) (omega (arith, c.if-n-lt100000000.true))), omega (arith, c.if-n-lt10000000.false), omega arith)

pub returns-then-n-lt1000000000 : goal.returns-then-n-lt1000000000
returns-then-n-lt1000000000 c = (sym (width_is 8 c.args.n (omega (arith, c.if-n-lt100000000.false)) (omega (arith, c.if-n-lt1000000000.true))), omega (arith, c.if-n-lt100000000.false), omega arith)

pub returns : goal.returns
returns c = (sym (width_is 9 c.args.n (omega (arith, c.if-n-lt1000000000.false)) (search rules)), omega (arith, c.if-n-lt1000000000.false), omega arith)
