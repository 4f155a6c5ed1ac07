-- All that stands before the table, as arrays of 24 bytes.
use native.Mathlib.Omega.{arith}
use mathlib.Core.Path.{refl}
use Rattle.footprint.proofs.Good.{triangles_are}
use Rattle.footprint.proofs.Footprint.triangles.Goals as goal

pub returns : goal.returns
returns c = let t = c.table_place.ensures in triangles_are c.args.self.bytes.now t.value (omega (arith, t.inside)) refl c.as_chunks.ensures.front
