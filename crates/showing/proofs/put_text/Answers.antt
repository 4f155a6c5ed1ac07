-- Measured against the room; then the first polygon, the others behind it, and the end.
use Prim.Native.Nat.{◌≤◌}
use Rattle.chart.specs.Words.{collection_text, others}
use Rattle.polygons.proofs.Stores.{first_fits}
use Rattle.showing.proofs.Polygons.{put_anyway, whole_length, for_first, for_rest, for_end, all_put}
use Rattle.showing.specs.Code.{text_at, texts_of}
use Rattle.std.proofs.lemmas.Bool.{false≢true}
use Rattle.text.proofs.Room.{Put-nothing}
use lib.ListN.{length}
use native.Mathlib.Omega.{arith}
use Rattle.showing.proofs.put_text.Goals as goal

pub returns-then-room-size-clause-placed : goal.returns-then-room-size-clause-placed
returns-then-room-size-clause-placed c = let s = whole_length c.in_ok-first.ensures.cases.0 c.polygon_length.ensures.0 c.others_length.ensures.0 in
    Put-nothing c.args.room.now (collection_text (texts_of c.args.triangles.now)) 0 _ s (omega (arith, c.if-room-size.true))

pub returns-then-room-size-clause-fits : goal.returns-then-room-size-clause-fits
returns-then-room-size-clause-fits c = let s = whole_length c.in_ok-first.ensures.cases.0 c.polygon_length.ensures.0 c.others_length.ensures.0 in
    (λ e. absurd (false≢true e), λ h. absurd (omega (arith, s, h, c.if-room-size.true)))

pub returns-in_err-b-clause-placed : goal.returns-in_err-b-clause-placed
returns-in_err-b-clause-placed c = let split = c.in_ok-first.ensures.cases.0 in
    let s = whole_length split c.polygon_length.ensures.0 c.others_length.ensures.0 in
    let f = for_first split (omega (arith, s, c.if-room-size.false)) c.in_ok-a.ensures.placed in
    absurd (false≢true (c.in_err-b.ensures.fits.1 (first_fits (text_at c.in_ok-first.first.now) _ _ f)))

pub returns-in_err-b-clause-fits : goal.returns-in_err-b-clause-fits
returns-in_err-b-clause-fits c = let split = c.in_ok-first.ensures.cases.0 in
    let s = whole_length split c.polygon_length.ensures.0 c.others_length.ensures.0 in
    let f = for_first split (omega (arith, s, c.if-room-size.false)) c.in_ok-a.ensures.placed in
    absurd (false≢true (c.in_err-b.ensures.fits.1 (first_fits (text_at c.in_ok-first.first.now) _ _ f)))

pub put_others-c-requires : goal.put_others-c-requires
put_others-c-requires c = let split = c.in_ok-first.ensures.cases.0 in
    let s = whole_length split c.polygon_length.ensures.0 c.others_length.ensures.0 in
    let f = for_rest split (omega (arith, s, c.if-room-size.false)) c.in_ok-a.ensures.placed c.in_ok-b.ensures.placed in
    first_fits (others (texts_of c.in_ok-first.rest.now)) _ _ f

pub returns-clause-placed : goal.returns-clause-placed
returns-clause-placed c = let split = c.in_ok-first.ensures.cases.0 in
    let s = whole_length split c.polygon_length.ensures.0 c.others_length.ensures.0 in
    let f : length (collection_text (texts_of c.args.triangles.now)) ≤ length c.args.room.now = omega (arith, s, c.if-room-size.false) in
    all_put split f c.in_ok-a.ensures.placed c.in_ok-b.ensures.placed c.put_others-c.ensures
    (put_anyway _ 0 _ (c.put_bytes-2.ensures.fits.1 (for_end split f c.in_ok-a.ensures.placed c.in_ok-b.ensures.placed c.put_others-c.ensures)) c.put_bytes-2.ensures.placed)

pub returns-clause-fits : goal.returns-clause-fits
returns-clause-fits c = let split = c.in_ok-first.ensures.cases.0 in
    let s = whole_length split c.polygon_length.ensures.0 c.others_length.ensures.0 in (
      λ some. omega (arith, s, c.if-room-size.false),
      λ f. c.put_bytes-2.ensures.fits.1 (for_end split f c.in_ok-a.ensures.placed c.in_ok-b.ensures.placed c.put_others-c.ensures),
    )
