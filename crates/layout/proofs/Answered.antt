-- Demand 2 of files: what is returned of a recording that is answered is its entry, and the part is where that says. Assumes nothing.
use mathlib.Core.Path.{◌≡◌, refl, ap, ◌∙◌}
use native.Mathlib.Omega.{arith}
use lib.ListN.{length}
use Rattle.layout.specs.Parts.{entry_at}
use Rattle.layout.specs.Verdict.{verdict}
use Rattle.layout.specs.Recordings.{recording_by}
use Rattle.layout.specs.Promise.{FileReturnedTwo, EmptyRefused}
use Rattle.layout.proofs.Returned.{is_good, there_is, returned_one}
use Rattle.layout.proofs.Inside.{parts_inside}

pub returned_two : FileReturnedTwo
returned_two file k r part p q z =
    let w = (returned_one file k (verdict file) r part refl p q).answered.0 z in
    let l = w.0 in
    let t = there_is file k (is_good file l) w.1 in
    let e : r ≡ recording_by (entry_at file k) = p ∙ t.0 in
    let i = parts_inside file k l w.1 in
    record {
      entry = e;
      some_triangles = rw e (l.some_triangles k w.1);
      known_set = rw e (l.known_set k w.1);
      known_last = rw e (l.known_last k w.1);
      in_file = rw e i.in_file;
      bytes = rw e (q ∙ t.1);
      part_length = rw (e, q) i.part_length;
    }

pub empty_refused : EmptyRefused
empty_refused file k r part p q e z =
    let d = returned_two file k r part p q z in
    let n : length part ≡ 0 = ap length e in
    let c = d.some_triangles in
    let h = d.part_length in
    omega arith
