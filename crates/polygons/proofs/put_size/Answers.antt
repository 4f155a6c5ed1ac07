-- Whole metres, the point, and two digits.
use Prim.Native.Nat.{◌/◌}
use mathlib.Core.List.{[], ◌∷◌}
use Rattle.chart.specs.Numbers.{point, size_text}
use Rattle.polygons.proofs.Stores.{first_fits, next_fits, put_then}
use Rattle.text.specs.Code.{digits}
use Rattle.text.specs.Decimal.{decimal}
use native.Mathlib.Omega.{arith}
use Rattle.polygons.proofs.put_size.Goals as goal

pub put_whole-p-requires : goal.put_whole-p-requires
unfolding size_text
put_whole-p-requires c = (omega (arith, c.requires.0), first_fits (decimal (c.args.n / 100)) _ _ c.requires.1)

pub put_bytes-q-requires : goal.put_bytes-q-requires
unfolding size_text digits
put_bytes-q-requires c = let f1 = next_fits (decimal (c.args.n / 100)) _ c.put_whole-p.ensures c.requires.1 in (omega arith, first_fits (point ∷ []) (digits 2 c.args.n) _ f1)

pub put_two-requires : goal.put_two-requires
unfolding size_text digits
put_two-requires c = let f1 = next_fits (decimal (c.args.n / 100)) _ c.put_whole-p.ensures c.requires.1 in next_fits (point ∷ []) (digits 2 c.args.n) c.put_bytes-q.ensures f1

pub returns : goal.returns
unfolding size_text digits
returns c = let f1 = next_fits (decimal (c.args.n / 100)) _ c.put_whole-p.ensures c.requires.1 in
    put_then (decimal (c.args.n / 100)) _ c.put_whole-p.ensures c.requires.1 (put_then (point ∷ []) (digits 2 c.args.n) c.put_bytes-q.ensures f1 c.put_two.ensures)
