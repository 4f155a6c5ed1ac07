-- All is prepared, all is gathered, old recordings are counted, and the list of it is written.
use Prim.Native.Nat.{◌/◌}
use mathlib.Core.Path.{◌≡◌, subst, ◌∙◌}
use native.Mathlib.Omega.{arith}
use borrow.Author.Rules.{rules}
use lib.ListN.{length}
use Rattle.std.proofs.lemmas.List.{length-take}
use Rattle.layout.specs.Parts.{count_of, triangles_of}
use Rattle.listing.specs.Promise.{ListPromise}
use Rattle.leaklist.proofs.Gathered.{few_in, opened, ready, gathering, gathered}
use Rattle.leaklist.proofs.Written.{keeps}
use Rattle.leaklist.proofs.listed.Goals as goal

pub slice_bounds-shapes-end : goal.slice_bounds-shapes-end
slice_bounds-shapes-end c = omega (arith, few_in c.args.file c.table_place-at.ensures.value, c.no_shapes-shapes.ensures)

pub slice_bounds-shapes-end-2 : goal.slice_bounds-shapes-end-2
slice_bounds-shapes-end-2 c = omega (arith, few_in c.args.file c.table_place-at.ensures.value, c.no_shapes-shapes.ensures, length-take (c.table_place-at.result / 24) c.no_shapes-shapes.result)

pub prepare-requires : goal.prepare-requires
prepare-requires c = omega (arith, few_in c.args.file c.table_place-at.ensures.value, length-take (c.table_place-at.result / 24) c.no_shapes-shapes.result)

pub slice_bounds-bounds-end : goal.slice_bounds-bounds-end
slice_bounds-bounds-end c = omega (arith, few_in c.args.file c.table_place-at.ensures.value, c.no_bounds-bounds.ensures)

pub slice_bounds-bounds-end-2 : goal.slice_bounds-bounds-end-2
slice_bounds-bounds-end-2 c = omega (arith, few_in c.args.file c.table_place-at.ensures.value, c.no_bounds-bounds.ensures, length-take (c.table_place-at.result / 24) c.no_bounds-bounds.result)

pub slice_bounds-own-end : goal.slice_bounds-own-end
slice_bounds-own-end c = omega (arith, c.count.ensures.most, c.no_own-own.ensures)

pub slice_bounds-own-end-2 : goal.slice_bounds-own-end-2
slice_bounds-own-end-2 c = omega (arith, c.count.ensures.most, c.no_own-own.ensures, length-take c.count.result c.no_own-own.result)

pub frame_own-requires : goal.frame_own-requires
frame_own-requires c =
    let o = opened c.args.file c.bytes-bytes.result.now c.bytes-bytes.ensures c.table_place-at.ensures.value c.count.ensures.value in
    (omega (arith, c.count.ensures.most, c.no_own-own.ensures, length-take c.count.result c.no_own-own.result), o.place, o.in_file)

pub invariant_of-triangles : goal.invariant_of-triangles
invariant_of-triangles c =
    let bytes = c.bytes-bytes.result.now in
    let o = opened c.args.file c.bytes-bytes.result.now c.bytes-bytes.ensures c.table_place-at.ensures.value c.count.ensures.value in
    let size : length c.prepare.new.table ≡ triangles_of bytes = omega (arith, o.few, o.all, c.no_shapes-shapes.ensures, length-take (c.table_place-at.result / 24) c.no_shapes-shapes.result, c.prepare.auto.table) in
    record {
      most = omega (arith, o.few, o.all, size);
      framed = omega (arith, o.few, o.all, size, c.no_bounds-bounds.ensures, length-take (c.table_place-at.result / 24) c.no_bounds-bounds.result, c.frame.auto.bounds);
      ready = ready bytes c.prepare.new.table c.frame.new.bounds o.good size c.prepare.ensures c.frame.ensures;
    }

pub invariant_of-night : goal.invariant_of-night
invariant_of-night c =
    let bytes = c.bytes-bytes.result.now in
    let o = opened c.args.file c.bytes-bytes.result.now c.bytes-bytes.ensures c.table_place-at.ensures.value c.count.ensures.value in
    let size : length c.prepare.new.table ≡ triangles_of bytes = omega (arith, o.few, o.all, c.no_shapes-shapes.ensures, length-take (c.table_place-at.result / 24) c.no_shapes-shapes.result, c.prepare.auto.table) in
    let most = c.count.ensures.most in
    let recordings : length c.frame_own.new.own ≡ count_of bytes = omega (arith, most, o.recordings, c.no_own-own.ensures, length-take c.count.result c.no_own-own.result, c.frame_own.auto.own) in
    record {
      place = o.place;
      in_file = o.in_file;
      few = omega (arith, most, o.recordings, recordings);
      gathered = gathering bytes c.prepare.new.table c.frame.new.bounds c.frame_own.new.own o.good size recordings c.prepare.ensures c.frame.ensures c.frame_own.ensures;
    }

pub returns : goal.returns
returns c =
    let bytes = c.bytes-bytes.result.now in
    let o = opened c.args.file c.bytes-bytes.result.now c.bytes-bytes.ensures c.table_place-at.ensures.value c.count.ensures.value in
    let found = c.gather.new.found in
    let all = c.gather.ensures in
    subst (λ f. ListPromise f c.args.room.now c.write_triples.result c.write_triples.new.room) c.bytes-bytes.ensures
    (keeps bytes c.args.room.now found.triples found.counts _ o.good (all.0 ∙ gathered bytes) c.write_triples.ensures c.formerly.ensures all.1 (search rules))
