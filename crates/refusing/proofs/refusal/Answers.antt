-- Each return is a row of the cascade, after the tests that led there.
use Prim.Native.Nat.{ℕ}
use mathlib.Core.Path.{◌≡◌, sym, ap, ◌∙◌}
use Rattle.std.proofs.lemmas.Result.{err_from_is_err_and}
use Rattle.filing.specs.Given.{Given, given_of}
use Rattle.filing.specs.Refusals.{number_if, is_unequal, refusal}
use Rattle.refusing.proofs.Told.{never_0}
use Rattle.refusing.proofs.Cascade.{by_lists, by_entry, by_sum, by_triangle, by_last}
use Rattle.refusing.proofs.refusal.Goals as goal

-- what is said of the lists made is said of those handed in
of_same : {a b : Given} (room : ℕ) {n : ℕ} → a ≡ b → n ≡ refusal a room → n ≡ refusal b room
of_same room e p = p ∙ ap (λ g. refusal g room) e

taken : {a b : Given} → a ≡ b → 0 ≡ number_if (is_unequal b) 15 → 0 ≡ number_if (is_unequal a) 15
taken e p = p ∙ ap (λ g. number_if (is_unequal g) 15) (sym e)

pub returns-in_err-lists : goal.returns-in_err-lists
returns-in_err-lists c =
    let a = c.args in
    let p = err_from_is_err_and c.from_residual.result c.from_residual.ensures.1 in
    rw (p.1, p.2) (by_lists (given_of a.ids.now a.counts.now a.sets.now a.lasts.now a.numbers.now) a.room c.in_err-lists.ensures.number (never_0 c.in_err-lists.field-0.0))

pub returns-in_err-entries : goal.returns-in_err-entries
returns-in_err-entries c =
    let room = c.args.room in
    let l = c.in_ok-lists.ensures in
    let p = err_from_is_err_and c.from_residual-in_err-entries.result c.from_residual-in_err-entries.ensures.1 in
    rw (p.1, p.2) (of_same room l.same (by_entry _ room (taken l.same l.number) c.in_err-entries.ensures (never_0 c.in_err-entries.field-0.0)))

pub returns-in_err-adds_up : goal.returns-in_err-adds_up
returns-in_err-adds_up c =
    let room = c.args.room in
    let l = c.in_ok-lists.ensures in
    let p = err_from_is_err_and c.from_residual-in_err-adds_up.result c.from_residual-in_err-adds_up.ensures.1 in
    rw (p.1, p.2) (of_same room l.same (by_sum _ room (taken l.same l.number) c.in_ok-entries.ensures c.in_err-adds_up.ensures (never_0 c.in_err-adds_up.field-0.0)))

pub returns-in_err-triangles : goal.returns-in_err-triangles
returns-in_err-triangles c =
    let room = c.args.room in
    let l = c.in_ok-lists.ensures in
    let p = err_from_is_err_and c.from_residual-in_err-triangles.result c.from_residual-in_err-triangles.ensures.1 in
    rw (p.1, p.2) (of_same room l.same (by_triangle _ room (taken l.same l.number) c.in_ok-entries.ensures c.in_ok-adds_up.ensures c.in_err-triangles.ensures (never_0 c.in_err-triangles.field-0.0)))

pub returns : goal.returns
returns c =
    let room = c.args.room in
    let l = c.in_ok-lists.ensures in
    of_same room l.same (by_last _ room (taken l.same l.number) c.in_ok-entries.ensures c.in_ok-adds_up.ensures c.in_ok-triangles.ensures c.at_last.ensures)
