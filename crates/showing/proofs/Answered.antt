-- What is answered at each end of the writer: the file's own refusal, 21, 20, or the text. Assumes nothing.
use Prim.Native.Nat.{ℕ, ◌<◌, ◌≤◌}
use mathlib.Core.Path.{◌≡◌, refl, sym, ap, ◌∙◌}
use mathlib.Core.List.{List, []}
use mathlib.Core.Bool.{Bool, true, false, cond}
use native.Mathlib.Omega.{arith}
use lib.Dec.{ltb}
use lib.ListN.{length}
use borrow.Author.Tests.{ltb-true, ltb-false}
use Rattle.std.specs.Prelude.{◌↔◌}
use Rattle.std.specs.Option.{IsSome, unwrap_or, ok_or}
use Rattle.std.proofs.Common.{Option, Some, None, Result, Ok, Err}
use Rattle.std.proofs.lemmas.Bool.{false≢true}
use Rattle.std.proofs.lemmas.Option.{cond_some, none-some}
use Rattle.text.specs.Room.{Put}
use Rattle.text.specs.Saying.{WrittenAndRoom}
use Rattle.text.specs.declared.Written.{Written}
use Rattle.text.proofs.Room.{whole_or_nothing}
use Rattle.layout.specs.declared.Entry.{Entry}
use Rattle.layout.specs.declared.Refused.{Refused}
use Rattle.layout.specs.declared.Verdict.{Verdict}
use Rattle.layout.specs.Parts.{count_of, entry_at}
use Rattle.layout.specs.Told.{said as said_of}
use Rattle.layout.specs.Verdict.{verdict}
use Rattle.layout.proofs.Told.{above}
use Rattle.footprint.specs.Contents.{entry_in}
use Rattle.chart.specs.Recorded.{number_with, recording_text}
use Rattle.chart.specs.Showing.{no_text, shown_in, shown_of}
use Rattle.chart.specs.Promise.{ShowPromise}
use Rattle.chart.proofs.Returned.{by_file_lem, by_id_lem, past_id, in_short, in_whole}
use Rattle.showing.specs.declared.Refusal.{Refusal}
use Rattle.showing.specs.declared.Refusal.TheVariants.{File, NoRecording, NoRoom}
use Rattle.showing.specs.Told.{said, told}

-- one refusal stands in one result
pub one_refusal : {A : Type 0} (a b : Refusal) → ◌≡◌ {A = Result A Refusal} (Err a) (Err b) → a ≡ b
one_refusal {A} a b h = ap reason h
  where
    reason : Result A Refusal → Refusal
    reason (Ok x) = a
    reason (Err e) = e

-- entry k is there, or k is past them all
pub is_there : (file : List ℕ) (k : ℕ) {e : Entry} → entry_in file k ≡ Some e → (k < count_of file) × (e ≡ entry_at file k)
unfolding entry_in
is_there file k {e} h = let p = cond_some (ltb k (count_of file)) (entry_at file k) e h in (ltb-true _ _ p.0, sym p.1)

pub is_past : (file : List ℕ) (k : ℕ) → entry_in file k ≡ None → count_of file ≤ k
unfolding entry_in
is_past file k h = go (ltb k (count_of file)) refl h
  where
    go : (b : Bool) → ltb k (count_of file) ≡ b → cond b (Some (entry_at file k)) None ≡ None → count_of file ≤ k
    go true e n = absurd (none-some _ (sym n))
    go false e n = ltb-false _ _ e

module _ (file : List ℕ) (id : ℕ) (room : List ℕ) where
  answers : {w : WrittenAndRoom} {r : Written} {after : List ℕ} → shown_of file id room ≡ w → r ≡ w.result → after ≡ w.room → ShowPromise file id room r after
  answers e f g = record { result_is = f ∙ sym (ap (λ v. v.result) e); after_is = g ∙ sym (ap (λ v. v.room) e) }

  pub file_refused : (refused : Refused) → said_of refused ≡ verdict file → ShowPromise file id room (said (File refused)) room
  file_refused refused h = answers (by_file_lem file id room (λ z. above refused.why (ap (λ (v : Verdict). v.number) h ∙ z))) (ap (λ (v : Verdict). (no_text [] v).result) h) refl

  module _ (good : (verdict file).number ≡ 0) where
    pub no_recording : entry_in file (number_with file id) ≡ None → ShowPromise file id room (said NoRecording) room
    no_recording h = answers (by_id_lem file id room good (is_past file (number_with file id) h)) refl refl

    pub answered : number_with file id < count_of file → {text after : List ℕ} → text ≡ recording_text file (number_with file id) → (o : Option ℕ)
        → Put room 0 text after (unwrap_or o 0) → (IsSome o ↔ (length text ≤ length room)) → ShowPromise file id room (told (ok_or o NoRoom)) after
    answered h {text} {after} e o put fits = go o put fits
      where
        shown : shown_of file id room ≡ shown_in room text
        shown = past_id file id room good h ∙ ap (shown_in room) (sym e)

        sized : (n m : ℕ) → n ≡ m → told (Ok n) ≡ told (Ok m)
        sized n m = ap (λ k. told (Ok k))

        go : (o : Option ℕ) → Put room 0 text after (unwrap_or o 0) → (IsSome o ↔ (length text ≤ length room)) → ShowPromise file id room (told (ok_or o NoRoom)) after
        go None put fits =
            let none : length text ≤ length room → ⊥ = λ l. false≢true (fits.1 l) in
            let short : length room < length text = omega (arith, none) in
            answers (shown ∙ in_short room text short) refl ((whole_or_nothing put).nothing (omega (arith, short))).0
        go (Some n) put fits =
            let l = fits.0 refl in
            answers (shown ∙ in_whole room text l) (sized n (length text) (let w = ((whole_or_nothing put).whole (omega (arith, l))).1 in omega (arith, w))) put.after_is
