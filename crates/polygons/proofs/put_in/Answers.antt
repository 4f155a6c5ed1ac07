-- Piece by piece, and behind each there is room for the rest.
use Rattle.chart.specs.Words.{polygon_word, polygon_text, triangle_text, polygon_end}
use Rattle.polygons.proofs.Pieces.{first, second, third, fourth}
use Rattle.polygons.proofs.Stores.{first_fits, next_fits, put_then}
use native.Mathlib.Omega.{arith}
use Rattle.polygons.proofs.put_in.Goals as goal

pub put_bytes-a-requires : goal.put_bytes-a-requires
unfolding triangle_text polygon_text
put_bytes-a-requires c = (omega arith, first_fits polygon_word _ _ c.requires)

pub put_point-b-requires : goal.put_point-b-requires
unfolding triangle_text polygon_text
put_point-b-requires c = let f1 = next_fits polygon_word _ c.put_bytes-a.ensures c.requires in first_fits (first c.args.six) _ _ f1

pub put_next-c-requires : goal.put_next-c-requires
unfolding triangle_text polygon_text
put_next-c-requires c = let s = c.args.six in
    let f1 = next_fits polygon_word _ c.put_bytes-a.ensures c.requires in
    let f2 = next_fits (first s) _ c.put_point-b.ensures f1 in
    first_fits (second s) _ _ f2

pub put_next-d-requires : goal.put_next-d-requires
unfolding triangle_text polygon_text
put_next-d-requires c = let s = c.args.six in
    let f1 = next_fits polygon_word _ c.put_bytes-a.ensures c.requires in
    let f2 = next_fits (first s) _ c.put_point-b.ensures f1 in
    let f3 = next_fits (second s) _ c.put_next-c.ensures f2 in
    first_fits (third s) _ _ f3

pub put_next-e-requires : goal.put_next-e-requires
unfolding triangle_text polygon_text
put_next-e-requires c = let s = c.args.six in
    let f1 = next_fits polygon_word _ c.put_bytes-a.ensures c.requires in
    let f2 = next_fits (first s) _ c.put_point-b.ensures f1 in
    let f3 = next_fits (second s) _ c.put_next-c.ensures f2 in
    let f4 = next_fits (third s) _ c.put_next-d.ensures f3 in
    first_fits (fourth s) _ _ f4

pub put_bytes-requires : goal.put_bytes-requires
unfolding triangle_text polygon_text
put_bytes-requires c = let s = c.args.six in
    let f1 = next_fits polygon_word _ c.put_bytes-a.ensures c.requires in
    let f2 = next_fits (first s) _ c.put_point-b.ensures f1 in
    let f3 = next_fits (second s) _ c.put_next-c.ensures f2 in
    let f4 = next_fits (third s) _ c.put_next-d.ensures f3 in
    (omega arith, next_fits (fourth s) polygon_end c.put_next-e.ensures f4)

pub returns : goal.returns
unfolding triangle_text polygon_text
returns c = let s = c.args.six in
    let f0 = c.requires in
    let f1 = next_fits polygon_word _ c.put_bytes-a.ensures f0 in
    let f2 = next_fits (first s) _ c.put_point-b.ensures f1 in
    let f3 = next_fits (second s) _ c.put_next-c.ensures f2 in
    let f4 = next_fits (third s) _ c.put_next-d.ensures f3 in
    put_then polygon_word _ c.put_bytes-a.ensures f0
    (put_then (first s) _ c.put_point-b.ensures f1
    (put_then (second s) _ c.put_next-c.ensures f2
    (put_then (third s) _ c.put_next-d.ensures f3
    (put_then (fourth s) _ c.put_next-e.ensures f4 c.put_bytes.ensures))))
