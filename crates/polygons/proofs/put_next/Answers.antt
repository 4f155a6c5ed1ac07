-- The comma, the space, and the point.
use Rattle.chart.specs.Words.{comma}
use Rattle.polygons.proofs.Stores.{first_fits, next_fits, put_then}
use native.Mathlib.Omega.{arith}
use Rattle.polygons.proofs.put_next.Goals as goal

pub put_bytes-p-requires : goal.put_bytes-p-requires
put_bytes-p-requires c = (omega arith, first_fits comma _ _ c.requires)

pub put_point-requires : goal.put_point-requires
put_point-requires c = next_fits comma _ c.put_bytes-p.ensures c.requires

pub returns : goal.returns
returns c = put_then comma _ c.put_bytes-p.ensures c.requires c.put_point.ensures
