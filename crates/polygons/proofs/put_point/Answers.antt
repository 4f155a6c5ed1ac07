-- Two numbers, and the space between them.
use Rattle.chart.specs.Words.{space, point_text}
use Rattle.polygons.proofs.Stores.{first_fits, next_fits, put_then}
use native.Mathlib.Omega.{arith}
use Rattle.polygons.proofs.put_point.Goals as goal

pub put_number-p-requires : goal.put_number-p-requires
unfolding point_text
put_number-p-requires c = first_fits _ _ _ c.requires

pub put_bytes-q-requires : goal.put_bytes-q-requires
unfolding point_text
put_bytes-q-requires c = let f1 = next_fits _ _ c.put_number-p.ensures c.requires in (omega arith, first_fits space _ _ f1)

pub put_number-requires : goal.put_number-requires
unfolding point_text
put_number-requires c = let f1 = next_fits _ _ c.put_number-p.ensures c.requires in next_fits space _ c.put_bytes-q.ensures f1

pub returns : goal.returns
unfolding point_text
returns c = let f1 = next_fits _ _ c.put_number-p.ensures c.requires in
    put_then _ _ c.put_number-p.ensures c.requires (put_then space _ c.put_bytes-q.ensures f1 c.put_number.ensures)
