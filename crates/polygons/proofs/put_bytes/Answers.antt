-- A part of the room is overwritten, which is as long as what is put there.
use Prim.Native.Nat.{◌+◌, ◌-◌}
use Rattle.std.proofs.Common.{length-drop}
use Rattle.std.proofs.lemmas.List.{length-take-le}
use Rattle.text.proofs.Room.{put_part}
use lib.ListN.{length, drop}
use mathlib.Core.Path.{◌≡◌, sym, ap, ◌∙◌}
use native.Mathlib.Omega.{arith}
use Rattle.polygons.proofs.put_bytes.Goals as goal

pub returns : goal.returns
returns g c = let l = length-drop c.args.at c.args.room.now in
    let k : c.args.at + g.row.N - c.args.at ≡ g.row.N = omega arith in
    let t = length-take-le (c.args.at + g.row.N - c.args.at) (drop c.args.at c.args.room.now) (omega (arith, k, l, c.requires)) in
    let n : length c.args.bytes ≡ g.row.N = sym (ap length c.copy_from_slice.ensures.after) ∙ (c.copy_from_slice.ensures.len ∙ (t ∙ k)) in
    put_part c.args.room.now c.args.bytes c.args.at (omega (arith, c.requires, n), omega (arith, n)) c.copy_from_slice.ensures.after
