-- The number that was read is put down again, for which ten bytes are enough, and compared with the word.
use Rattle.std.proofs.Common.{rules, ◌≡◌, sym, ap, ◌∙◌, None, arith}
use Rattle.words.proofs.Ids.{no_number, is_id, is_none, below, decimal_front, decimal_fits}
use Rattle.words.specs.Id.{same, told}
use Rattle.words.proofs.id_of.Goals as goal

pub returns-in_err-id : goal.returns-in_err-id
returns-in_err-id c =
    let none : c.from_residual.result ≡ None = search rules in
    ap told none ∙ no_number c.args.word.now (sym c.value_of.ensures ∙ c.in_err-id.was)

pub returns-in_err-k : goal.returns-in_err-k
returns-in_err-k c = absurd (decimal_fits _ (below c.args.word.now (sym c.value_of.ensures ∙ c.in_ok-id.was)) (λ l. c.put_decimal.ensures.fits.1 (omega (arith, l))) c.in_err-k.was)

pub returns-then-same : goal.returns-then-same
returns-then-same c =
    let word = c.args.word.now in
    let v = sym c.value_of.ensures ∙ c.in_ok-id.was in
    is_id word v (ap (λ t. same t word) (sym (c.front.ensures ∙ decimal_front c.in_ok-k.ensures.placed (below word v) (omega arith))) ∙ sym c.same.ensures ∙ c.if-same.true)

pub returns : goal.returns
returns c =
    let word = c.args.word.now in
    let v = sym c.value_of.ensures ∙ c.in_ok-id.was in
    is_none word v (ap (λ t. same t word) (sym (c.front.ensures ∙ decimal_front c.in_ok-k.ensures.placed (below word v) (omega arith))) ∙ sym c.same.ensures ∙ c.if-same.false)
