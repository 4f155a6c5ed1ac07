-- What is left to read gives the number of all; a digit that takes it beyond 2^32 takes all beyond it.
use Rattle.std.proofs.Common.{rules, ◌≡◌, sym, refl, ◌∙◌, None, length}
use Rattle.words.proofs.Ids.{digit_read, beyond, all_read}
use Rattle.words.proofs.value_of.Goals as goal

pub loop-b-preserved : goal.loop-b-preserved
loop-b-preserved c = let l = c.loop-b in digit_read c.args.word.now l.n l.b-index _ _ c.loop-b-test.true refl l.invariant.0 (sym c.one_more.ensures ∙ c.in_ok-n.was)

pub returns-in_err-n : goal.returns-in_err-n
returns-in_err-n c =
    let l = c.loop-b in
    let none : c.from_residual.result ≡ None = search rules in
    none ∙ beyond c.args.word.now l.n l.b-index _ c.loop-b-test.true refl l.invariant.0 (sym c.one_more.ensures ∙ c.in_err-n.was)

pub returns : goal.returns
returns c = let l = c.loop-b in let e : l.b-index ≡ length c.args.word.now = search rules in all_read c.args.word.now l.n l.b-index e l.invariant.1 l.invariant.0
