-- The whole list is measured against the room; then its first line is put, the leak lines behind it, and the two closing lines behind those.
use mathlib.Core.Path.{refl}
use mathlib.Core.Bool.{false≢true}
use mathlib.Core.List.{map}
use native.Mathlib.Omega.{arith}
use lib.ListN.{length}
use Rattle.listing.specs.Words.{text_of}
use Rattle.text.proofs.Room.{put_not, put_next, Put-length}
use Rattle.writing.specs.Triples.{leak_of}
use Rattle.writing.proofs.Lines.{how_many, text_Measured, Put-list}
use Rattle.writing.proofs.put_list.Goals as goal

pub returns-then-room-size-clause-placed : goal.returns-then-room-size-clause-placed
returns-then-room-size-clause-placed c = let g = c.args in
    let ls = map leak_of g.triples.now in
    let m = text_Measured ls (length g.triples.now) g.touching g.formerly (how_many g.triples.now) c.first_length-first.ensures.0 c.lines_length.ensures.0 c.touching_length-behind.ensures.0 c.formerly_length-last.ensures.0 in
    put_not g.room.now (text_of ls g.touching g.formerly) 0 (λ h. omega (arith, h, m, c.if-room-size.true)) refl

pub returns-then-room-size-clause-fits : goal.returns-then-room-size-clause-fits
returns-then-room-size-clause-fits c = let g = c.args in
    let ls = map leak_of g.triples.now in
    let m = text_Measured ls (length g.triples.now) g.touching g.formerly (how_many g.triples.now) c.first_length-first.ensures.0 c.lines_length.ensures.0 c.touching_length-behind.ensures.0 c.formerly_length-last.ensures.0 in
    (λ s. absurd (false≢true s), λ h. absurd (omega (arith, h, m, c.if-room-size.true)))

pub put_lines-requires : goal.put_lines-requires
put_lines-requires c = let put = c.in_ok-p.ensures.placed in
    let h = c.if-room-size.false in
    let first = c.first_length-first.ensures.0 in
    omega (arith, h, first, c.lines_length.ensures.0, Put-length put, put_next put (omega (arith, h, first)))

-- there is room for the first closing line behind the lines
pub returns-in_err-r-clause-placed : goal.returns-in_err-r-clause-placed
returns-in_err-r-clause-placed c = let a = c.in_ok-p.ensures.placed in
    let b = c.in_ok-q.ensures in
    let h = c.if-room-size.false in
    let first = c.first_length-first.ensures.0 in
    let lines = c.lines_length.ensures.0 in
    let behind = c.touching_length-behind.ensures.0 in
    let p = put_next a (omega (arith, h, first)) in
    let m = Put-length a in
    absurd (false≢true (c.in_err-r.ensures.fits.1 (omega (arith, h, first, lines, behind, p, m, Put-length b, put_next b (omega (arith, h, first, lines, p, m))))))

pub returns-in_err-r-clause-fits : goal.returns-in_err-r-clause-fits
returns-in_err-r-clause-fits c = let a = c.in_ok-p.ensures.placed in
    let b = c.in_ok-q.ensures in
    let h = c.if-room-size.false in
    let first = c.first_length-first.ensures.0 in
    let lines = c.lines_length.ensures.0 in
    let behind = c.touching_length-behind.ensures.0 in
    let p = put_next a (omega (arith, h, first)) in
    let m = Put-length a in
    absurd (false≢true (c.in_err-r.ensures.fits.1 (omega (arith, h, first, lines, behind, p, m, Put-length b, put_next b (omega (arith, h, first, lines, p, m))))))

pub returns-clause-placed : goal.returns-clause-placed
returns-clause-placed c = let g = c.args in
    (Put-list (map leak_of g.triples.now) (length g.triples.now) g.touching g.formerly (how_many g.triples.now) c.put_formerly.result
    c.first_length-first.ensures.0 c.lines_length.ensures.0 c.touching_length-behind.ensures.0 c.formerly_length-last.ensures.0 c.if-room-size.false
    c.in_ok-p.ensures.placed c.in_ok-q.ensures c.in_ok-r.ensures.placed c.put_formerly.ensures.placed c.put_formerly.ensures.fits).0

pub returns-clause-fits : goal.returns-clause-fits
returns-clause-fits c = let g = c.args in
    let h = c.if-room-size.false in
    let m = text_Measured (map leak_of g.triples.now) (length g.triples.now) g.touching g.formerly (how_many g.triples.now) c.first_length-first.ensures.0 c.lines_length.ensures.0 c.touching_length-behind.ensures.0 c.formerly_length-last.ensures.0 in
    let all = Put-list (map leak_of g.triples.now) (length g.triples.now) g.touching g.formerly (how_many g.triples.now) c.put_formerly.result
    c.first_length-first.ensures.0 c.lines_length.ensures.0 c.touching_length-behind.ensures.0 c.formerly_length-last.ensures.0 h
    c.in_ok-p.ensures.placed c.in_ok-q.ensures c.in_ok-r.ensures.placed c.put_formerly.ensures.placed c.put_formerly.ensures.fits in
    (λ s. omega (arith, h, m), λ f. all.1)
