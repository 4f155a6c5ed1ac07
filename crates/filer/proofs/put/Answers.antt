-- A refusal is answered before the room is touched; else the whole file is put.
use lib.ListN.{length}
use mathlib.Core.Path.{sym}
use Rattle.std.proofs.lemmas.Result.{err_from_is_err_and}
use Rattle.filing.specs.Given.{given_of}
use Rattle.filing.proofs.Fit.{fits}
use Rattle.refusing.proofs.Told.{never_0}
use Rattle.filer.proofs.Files.{refused, answered}
use Rattle.filer.proofs.put.Goals as goal

pub returns-in_err-refusal : goal.returns-in_err-refusal
returns-in_err-refusal c =
    let a = c.args in
    let p = err_from_is_err_and c.from_residual.result c.from_residual.ensures.1 in
    rw (p.1, p.2) (refused (given_of a.ids.now a.counts.now a.sets.now a.lasts.now a.numbers.now) a.room.now c.in_err-refusal.ensures (never_0 c.in_err-refusal.field-0.0))

pub invariant_of-put_file : goal.invariant_of-put_file
invariant_of-put_file c =
    let a = c.args in
    let f = fits (given_of a.ids.now a.counts.now a.sets.now a.lasts.now a.numbers.now) (length a.room.now) (sym c.in_ok-refusal.ensures) in
    record { as_many_counts = f.counts; as_many_sets = f.sets; as_many_lasts = f.lasts; whole_triangles = f.whole }

pub put_file-requires : goal.put_file-requires
put_file-requires c = let a = c.args in fits (given_of a.ids.now a.counts.now a.sets.now a.lasts.now a.numbers.now) (length a.room.now) (sym c.in_ok-refusal.ensures)

pub returns : goal.returns
returns c =
    let a = c.args in
    let g = given_of a.ids.now a.counts.now a.sets.now a.lasts.now a.numbers.now in
    let h = sym c.in_ok-refusal.ensures in
    answered g a.room.now (fits g (length a.room.now) h) h c.put_file.ensures
