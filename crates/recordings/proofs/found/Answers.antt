-- The file's refusal, or what its entry k is.
use mathlib.Core.Path.{sym, ◌∙◌}
use Rattle.std.proofs.lemmas.Result.{err_from_is_err_and}
use Rattle.recordings.proofs.Recorded.{refused_recording, refused_part, entry_recording, entry_part, no_entry_recording, no_entry_part, no_such_is}
use Rattle.recordings.proofs.found.Goals as goal

pub returns-in_err-footprint-clause-recording : goal.returns-in_err-footprint-clause-recording
returns-in_err-footprint-clause-recording c = let p = err_from_is_err_and c.from_residual.result c.from_residual.ensures.1 in rw (p.1, p.2) (refused_recording _ c.args.k c.in_err-footprint.field-0.0 c.in_err-footprint.ensures.verdict)

pub returns-in_err-footprint-clause-part : goal.returns-in_err-footprint-clause-part
returns-in_err-footprint-clause-part c = let p = err_from_is_err_and c.from_residual.result c.from_residual.ensures.1 in rw (p.1) (refused_part _ c.args.k c.in_err-footprint.field-0.0 c.in_err-footprint.ensures.verdict)

pub returns-in_err-e-clause-recording : goal.returns-in_err-e-clause-recording
returns-in_err-e-clause-recording c =
    let p = err_from_is_err_and c.from_residual-in_err-e.result c.from_residual-in_err-e.ensures.1 in
    let o = c.in_err-e.ensures in
    let n = no_such_is c.entry.result o.ok_part o.value in
    rw (p.1, p.2, n, ← c.in_ok-footprint.ensures.kept) (no_entry_recording _ c.args.k c.in_ok-footprint.footprint.good (sym o.ok_part ∙ c.entry.ensures))

pub returns-in_err-e-clause-part : goal.returns-in_err-e-clause-part
returns-in_err-e-clause-part c =
    let p = err_from_is_err_and c.from_residual-in_err-e.result c.from_residual-in_err-e.ensures.1 in
    rw (p.1, ← c.in_ok-footprint.ensures.kept) (no_entry_part _ c.args.k c.in_ok-footprint.footprint.good (sym c.in_err-e.ensures.ok_part ∙ c.entry.ensures))

pub returns-clause-recording : goal.returns-clause-recording
returns-clause-recording c = rw (← c.in_ok-footprint.ensures.kept) (entry_recording _ c.args.k c.in_ok-footprint.footprint.good (sym c.in_ok-e.ensures.ok_part ∙ c.entry.ensures))

pub returns-clause-part : goal.returns-clause-part
returns-clause-part c = rw (← c.in_ok-footprint.ensures.kept) (entry_part _ c.args.k c.in_ok-footprint.footprint.good (sym c.in_ok-e.ensures.ok_part ∙ c.entry.ensures))
