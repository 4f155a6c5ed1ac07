-- Before each turn the triangles that are left say what all say.
use Prim.Native.Nat.{◌/◌}
use mathlib.Core.Path.{refl, sym, ◌∙◌}
use mathlib.Core.List.{[]}
use Rattle.layout.specs.Parts.{triangle_place}
use Rattle.layout.specs.Verdict.{out_of_range, flat, first_of}
use Rattle.layout.specs.Stages.{triangle_number}
use Rattle.layout.proofs.Told.{above}
use Rattle.layout.proofs.Stages.{triangle_says, stops, goes_on, ended}
use Rattle.footprint.proofs.Verdicts.{from_start, count_is, count_over, array_is, triangle_in_array}
use Rattle.footprint.proofs.stages.triangles.Goals as goal

pub loop-k-init : goal.loop-k-init
loop-k-init c = from_start _ c.requires.is_table

pub returns-in-Err : goal.returns-in-Err
returns-in-Err c =
    let l = c.loop-k in
    let file = c.args.file.now in
    let below = count_is file c.args.table.place c.args.table.count l.k c.requires.filled c.loop-k-test.true c.as_chunks.ensures.front_len in
    let number = triangle_in_array file l.k (array_is file c.args.table.place c.args.table.count l.k c.requires.filled c.as_chunks.ensures.front [] below) c.six_of.ensures c.in-Err.ensures in
    rw c.refused.ensures (stops file out_of_range flat (triangle_number file) triangle_place (triangle_says file) (c.args.table.place / 24) l.k [] below number refl (above c.in-Err.why) ∙ sym l.invariant)

pub loop-k-preserved : goal.loop-k-preserved
loop-k-preserved c =
    let l = c.loop-k in
    let file = c.args.file.now in
    let below = count_is file c.args.table.place c.args.table.count l.k c.requires.filled c.loop-k-test.true c.as_chunks.ensures.front_len in
    let number = triangle_in_array file l.k (array_is file c.args.table.place c.args.table.count l.k c.requires.filled c.as_chunks.ensures.front [] below) c.six_of.ensures c.in_default.ensures in
    l.invariant ∙ goes_on file out_of_range flat (triangle_number file) triangle_place (triangle_says file) (c.args.table.place / 24) l.k [] below number refl

pub returns : goal.returns
returns c =
    let l = c.loop-k in
    let file = c.args.file.now in
    let over = count_over file c.args.table.place c.args.table.count l.k c.requires.filled c.loop-k-test.false c.as_chunks.ensures.front_len in
    sym (l.invariant ∙ (ended file out_of_range flat (triangle_number file) triangle_place (triangle_says file) (c.args.table.place / 24) l.k [] over ∙ unfold first_of in refl))
