-- The entries are the first arrays of what stands from the table on.
use native.Mathlib.Omega.{arith}
use Rattle.footprint.proofs.Chunks.{rest_is}
use Rattle.footprint.proofs.Good.{entries_are}
use Rattle.footprint.proofs.Footprint.entries.Goals as goal

pub returns : goal.returns
returns c =
    let n = c.count.ensures.value in
    let t = c.table_place.ensures in
    entries_are c.args.self.bytes.now t.value n (omega (arith, t.inside, n)) (rest_is c.table_place.result c.args.self.bytes.now) c.as_chunks.ensures.front
