-- Three rows, asked in their order.
use native.Mathlib.Omega.{arith}
use borrow.Author.Tests.{eq-eqb, ne_eqb, lt-ltb, le-ltb}
use Rattle.layout.specs.Parts.{stored_length, count_of, table_place}
use Rattle.layout.specs.Verdict.{first_of, test, place_of}
use Rattle.footprint.proofs.stages.trailer.Goals as goal
use Rattle.footprint.proofs.stages.trailer.Goals.{then-n-lt-TRAILER-via-then-n-lt-TRAILER, then-n-lt-TRAILER-via-else-n-lt-TRAILER+then-n-gt-MOST_BYTES, then-count-gt-MOST_RECORDINGS-via-then-count-gt-MOST_RECORDINGS, then-count-gt-MOST_RECORDINGS-via-else-count-gt-MOST_RECORDINGS+then-place-count}

pub returns-then-n-lt-TRAILER-clause-verdict : goal.returns-then-n-lt-TRAILER-clause-verdict
unfolding first_of test place_of stored_length count_of table_place
returns-then-n-lt-TRAILER-clause-verdict c = rw c.refused.ensures (elim c.then-n-lt-TRAILER.branch [ then-n-lt-TRAILER-via-then-n-lt-TRAILER w ↦ simp (lt-ltb _ _ w.if-n-lt-TRAILER.true) | then-n-lt-TRAILER-via-else-n-lt-TRAILER+then-n-gt-MOST_BYTES w ↦ simp (le-ltb _ _ w.if-n-lt-TRAILER.false, lt-ltb _ _ w.if-n-gt-MOST_BYTES.true) ])

pub returns-then-u32_at-n-clause-verdict : goal.returns-then-u32_at-n-clause-verdict
unfolding first_of test place_of stored_length count_of table_place
returns-then-u32_at-n-clause-verdict c = rw c.refused-then-u32_at-n.ensures (simp (le-ltb _ _ c.if-n-lt-TRAILER.false, le-ltb _ _ c.if-n-gt-MOST_BYTES.false, ← c.u32_at.ensures, ne_eqb _ _ c.if-u32_at-n.true))

pub returns-then-count-gt-MOST_RECORDINGS-clause-verdict : goal.returns-then-count-gt-MOST_RECORDINGS-clause-verdict
unfolding first_of test place_of stored_length count_of table_place
returns-then-count-gt-MOST_RECORDINGS-clause-verdict c = rw c.refused-then-count-gt-MOST_RECORDINGS.ensures (elim c.then-count-gt-MOST_RECORDINGS.branch [ then-count-gt-MOST_RECORDINGS-via-then-count-gt-MOST_RECORDINGS w ↦ simp (le-ltb _ _ c.if-n-lt-TRAILER.false, le-ltb _ _ c.if-n-gt-MOST_BYTES.false, ← c.u32_at.ensures, eq-eqb _ _ c.if-u32_at-n.false, ← c.u32_at-count.ensures, lt-ltb _ _ w.if-count-gt-MOST_RECORDINGS.true) | then-count-gt-MOST_RECORDINGS-via-else-count-gt-MOST_RECORDINGS+then-place-count w ↦ simp (le-ltb _ _ c.if-n-lt-TRAILER.false, le-ltb _ _ c.if-n-gt-MOST_BYTES.false, ← c.u32_at.ensures, eq-eqb _ _ c.if-u32_at-n.false, ← c.u32_at-count.ensures, le-ltb _ _ w.if-count-gt-MOST_RECORDINGS.false, ← c.u32_at-place.ensures, ne_eqb _ _ w.if-place-count.true) ])

pub returns-clause-verdict : goal.returns-clause-verdict
unfolding first_of test place_of stored_length count_of table_place
returns-clause-verdict c = simp (le-ltb _ _ c.if-n-lt-TRAILER.false, le-ltb _ _ c.if-n-gt-MOST_BYTES.false, ← c.u32_at.ensures, eq-eqb _ _ c.if-u32_at-n.false, ← c.u32_at-count.ensures, le-ltb _ _ c.if-count-gt-MOST_RECORDINGS.false, ← c.u32_at-place.ensures, eq-eqb _ _ c.if-place-count.false)

pub returns-clause-fits : goal.returns-clause-fits
unfolding table_place count_of
returns-clause-fits c = record { is_table = c.u32_at-place.ensures; is_count = c.u32_at-count.ensures; at_most65536 = omega arith; at_most64 = omega arith; filled = omega arith }
