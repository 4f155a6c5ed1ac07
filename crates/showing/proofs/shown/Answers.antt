-- The file is refused or good, the recording that has the id is there or not, and its text fits or not.
use Prim.Native.Nat.{◌/◌}
use Rattle.footprint.specs.Contents.{contents}
use Rattle.chart.specs.Promise.{ShowPromise}
use Rattle.chart.specs.Words.{collection_text}
use Rattle.chart.specs.Recorded.{number_with}
use Rattle.layout.proofs.Returned.{has_Layout}
use Rattle.layout.specs.Recordings.{bytes_of}
use Rattle.showing.proofs.Answered.{one_refusal, file_refused, no_recording, is_there, answered}
use Rattle.showing.proofs.Searched.{entry_found, some_triangles, recording_is}
use Rattle.showing.specs.Code.{texts_of}
use Rattle.showing.specs.Told.{said, told}
use Rattle.showing.specs.declared.Refusal.TheVariants.{NoRecording, NoRoom}
use Rattle.std.proofs.lemmas.Result.{err_from_is_err_and}
use Rattle.std.specs.Option.{ok_or}
use Rattle.std.specs.Simd.{first_chunks}
use lib.ListN.{length}
use mathlib.Core.Path.{sym, ap, subst, ◌∙◌}
use Rattle.showing.proofs.shown.Goals as goal

pub returns-in_err-file : goal.returns-in_err-file
returns-in_err-file c = let p = err_from_is_err_and c.from_residual.result c.from_residual.ensures.1 in
    rw (p.1, p.2) (file_refused c.args.file.now c.args.id c.args.room.now _ c.in_err-file.ensures.verdict)

pub returns-in_err-entry : goal.returns-in_err-entry
returns-in_err-entry c = let p = err_from_is_err_and c.from_residual-in_err-entry.result c.from_residual-in_err-entry.ensures.1 in
    let f = c.in_ok-file.file in
    let none = c.in_err-entry.ensures.ok_part in
    rw (p.1, p.2)
    (subst (λ r. ShowPromise c.args.file.now c.args.id c.args.room.now (said r) c.args.room.now) (sym (one_refusal _ _ (c.in_err-entry.ensures.value ∙ ap (λ o. ok_or o NoRecording) none)))
    (subst (λ b. ShowPromise b c.args.id c.args.room.now (said NoRecording) c.args.room.now) c.in_ok-file.ensures.kept
    (no_recording (contents f) c.args.id c.args.room.now f.good (sym (sym none ∙ (c.entry_with.ensures ∙ entry_found (contents f) c.args.id))))))

pub put_text-requires : goal.put_text-requires
put_text-requires c = let f = c.in_ok-file.file in
    let i = is_there (contents f) (number_with (contents f) c.args.id) (sym (c.entry_with.ensures ∙ entry_found (contents f) c.args.id) ∙ c.in_ok-entry.ensures.ok_part) in
    rw (c.as_chunks.ensures.front_len, c.part.ensures ∙ ap (bytes_of (contents f)) i.1) (some_triangles (contents f) (has_Layout (contents f) f.good) i.0)

pub returns : goal.returns
returns c = let f = c.in_ok-file.file in
    let i = is_there (contents f) (number_with (contents f) c.args.id) (sym (c.entry_with.ensures ∙ entry_found (contents f) c.args.id) ∙ c.in_ok-entry.ensures.ok_part) in
    let part = c.part.ensures ∙ ap (bytes_of (contents f)) i.1 in
    let e = ap (λ ts. collection_text (texts_of ts)) (c.as_chunks.ensures.front ∙ ap (λ p. first_chunks 24 (length p / 24) p) part) ∙ recording_is (contents f) (has_Layout (contents f) f.good) i.0 in
    subst (λ r. ShowPromise c.args.file.now c.args.id c.args.room.now (told r) c.put_text.new.room) (sym c.ok_or-2.ensures.value)
    (subst (λ b. ShowPromise b c.args.id c.args.room.now (told (ok_or c.put_text.result NoRoom)) c.put_text.new.room) c.in_ok-file.ensures.kept
    (answered (contents f) c.args.id c.args.room.now f.good i.0 e c.put_text.result c.put_text.ensures.placed c.put_text.ensures.fits))
