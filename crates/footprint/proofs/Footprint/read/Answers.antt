-- The three stages make the verdict.
use mathlib.Core.Path.{refl, sym, ap}
use Rattle.std.proofs.lemmas.Result.{err_from_is_err_and}
use Rattle.layout.specs.declared.Verdict.{Verdict}
use Rattle.layout.proofs.Told.{above}
use Rattle.footprint.proofs.Verdicts.{by_trailer, by_table, by_triangles}
use Rattle.footprint.proofs.Footprint.read.Goals as goal

pub returns-in_err-table-clause-verdict : goal.returns-in_err-table-clause-verdict
returns-in_err-table-clause-verdict c = let p = err_from_is_err_and c.from_residual.result c.from_residual.ensures.1 in rw (p.1, p.2) (by_trailer _ c.in_err-table.ensures.verdict (above c.in_err-table.field-0.0.why))

pub returns-in_err-entries-clause-verdict : goal.returns-in_err-entries-clause-verdict
returns-in_err-entries-clause-verdict c = let p = err_from_is_err_and c.from_residual-in_err-entries.result c.from_residual-in_err-entries.ensures.1 in rw (p.1, p.2) (by_table _ c.in_ok-table.ensures.verdict refl c.in_err-entries.ensures (above c.in_err-entries.field-0.0.why))

pub returns-in_err-triangles-clause-verdict : goal.returns-in_err-triangles-clause-verdict
returns-in_err-triangles-clause-verdict c = let p = err_from_is_err_and c.from_residual-in_err-triangles.result c.from_residual-in_err-triangles.ensures.1 in rw (p.1, p.2) (by_triangles _ c.in_ok-table.ensures.verdict refl c.in_ok-entries.ensures refl c.in_err-triangles.ensures)

pub invariant_of-result : goal.invariant_of-result
invariant_of-result c = record { good = sym (ap (λ (v : Verdict). v.number) (by_triangles _ c.in_ok-table.ensures.verdict refl c.in_ok-entries.ensures refl c.in_ok-triangles.ensures)) }

pub returns-clause-verdict : goal.returns-clause-verdict
returns-clause-verdict c = by_triangles _ c.in_ok-table.ensures.verdict refl c.in_ok-entries.ensures refl c.in_ok-triangles.ensures
