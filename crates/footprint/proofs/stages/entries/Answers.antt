-- Before each turn the entries that are left say what all say, and `end` is where those before end.
use native.Mathlib.Omega.{arith}
use mathlib.Core.Path.{refl, sym, ◌∙◌}
use mathlib.Core.List.{[], ◌∷◌}
use Rattle.layout.specs.Parts.{end_before, entry_place}
use Rattle.layout.specs.Verdict.{bad_entry, id_again, wrong_end}
use Rattle.layout.specs.Stages.{entry_number}
use Rattle.layout.proofs.Told.{above}
use Rattle.layout.proofs.Stages.{entry_says, stops, goes_on, ended}
use Rattle.footprint.proofs.Table.{place_is, entry_is, entry_in_array, fewer, seen_of, array_of, number_is, end_is, at_start, wrong_end_lem, right_end}
use Rattle.footprint.proofs.stages.entries.Goals as goal

pub loop-i-init : goal.loop-i-init
loop-i-init c = record { left = at_start _ c.requires.is_count; ends = unfold end_before in refl; small = omega arith }

pub returns-in-Err : goal.returns-in-Err
returns-in-Err c =
    let l = c.loop-i in
    let file = c.args.file.now in
    let t = c.requires.is_table in
    let more = fewer file c.args.table.place c.args.table.count c.requires.filled in
    let read = entry_in_array file t l.i (array_of file t c.as_chunks.ensures.front l.i [] (omega (arith, more, c.loop-i-test.true))) c.entry_at-e.ensures.0 in
    let looked = seen_of file t c.as_chunks.ensures.front c.entry_at-e.result.id l.i (omega (arith, more, c.loop-i-test.true)) c.is_seen-seen.ensures in
    let number = number_is file t l.i c.entry_at-e.result l.end c.is_seen-seen.result read l.invariant.ends looked c.in-Err.ensures in
    rw c.refused.ensures (stops file bad_entry id_again (entry_number file) (entry_place file) (entry_says file) c.args.table.count l.i (wrong_end ∷ []) c.loop-i-test.true number (place_is file t l.i) (above c.in-Err.why) ∙ sym l.invariant.left)

pub loop-i-preserved : goal.loop-i-preserved
loop-i-preserved c =
    let l = c.loop-i in
    let file = c.args.file.now in
    let t = c.requires.is_table in
    let more = fewer file c.args.table.place c.args.table.count c.requires.filled in
    let read = entry_in_array file t l.i (array_of file t c.as_chunks.ensures.front l.i [] (omega (arith, more, c.loop-i-test.true))) c.entry_at-e.ensures.0 in
    let looked = seen_of file t c.as_chunks.ensures.front c.entry_at-e.result.id l.i (omega (arith, more, c.loop-i-test.true)) c.is_seen-seen.ensures in
    let number = number_is file t l.i c.entry_at-e.result l.end c.is_seen-seen.result read l.invariant.ends looked c.in_default.ensures in
    record {
      left = l.invariant.left ∙ goes_on file bad_entry id_again (entry_number file) (entry_place file) (entry_says file) c.args.table.count l.i (wrong_end ∷ []) c.loop-i-test.true number refl;
      ends = end_is file l.i c.entry_at-e.result l.end c.is_seen-seen.result (entry_is file t l.i read) c.in_default.ensures refl;
      small = omega (arith, c.entry_at-e.ensures.1, l.invariant.small);
    }

pub returns-then-end-table : goal.returns-then-end-table
returns-then-end-table c =
    let h = c.loop-i-test.false in
    let l = c.loop-i in
    let file = c.args.file.now in
    let q = c.requires in
    rw c.refused-then-end-table.ensures (wrong_end_lem file q.is_count q.is_table l.invariant.ends l.auto.i-end h c.if-end-table.true ∙ sym (l.invariant.left ∙ ended file bad_entry id_again (entry_number file) (entry_place file) (entry_says file) c.args.table.count l.i (wrong_end ∷ []) h))

pub returns : goal.returns
returns c =
    let h = c.loop-i-test.false in
    let l = c.loop-i in
    let file = c.args.file.now in
    let q = c.requires in
    right_end file q.is_count q.is_table l.invariant.ends l.auto.i-end h c.if-end-table.false ∙ sym (l.invariant.left ∙ ended file bad_entry id_again (entry_number file) (entry_place file) (entry_says file) c.args.table.count l.i (wrong_end ∷ []) h)
