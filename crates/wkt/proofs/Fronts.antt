-- What is said of a file stands whole at the front of a room of 256,546 bytes. Assumes nothing.
use Prim.Native.Nat.{ℕ, ◌<◌, ◌≤◌}
use mathlib.Core.Path.{◌≡◌, refl, sym, ap, subst, ◌∙◌}
use mathlib.Core.Bool.{Bool, true, false}
use mathlib.Core.List.{List, ◌++◌}
use native.Mathlib.Omega.{arith}
use lib.Dec.{eqb, ltb}
use borrow.Author.Tests.{eqb-true, eqb-false, lt-ltb, le-ltb, ltb-true, ltb-false}
use lib.ListN.{length, length-append}
use Rattle.text.specs.Room.{laid, Put}
use Rattle.text.specs.declared.Written.{Written}
use Rattle.text.proofs.Room.{put_front, put_two, put_as}
use Rattle.layout.specs.Parts.{count_of}
use Rattle.layout.specs.Verdict.{number_at, verdict}
use Rattle.layout.proofs.Returned.{is_good, has_Layout, file_first_lem, not_refused}
use Rattle.listing.specs.Words.{feed, refused_line}
use Rattle.chart.specs.Recorded.{Has, number_with, recording_text}
use Rattle.chart.specs.Showing.{no_such_id}
use Rattle.chart.specs.Promise.{ShowPromise}
use Rattle.chart.proofs.Recorded.{ids_numbered}
use Rattle.chart.proofs.Widest.{always_enough}
use Rattle.chart.proofs.Returned.{by_file_lem, by_id_lem, past_id, in_whole, show_returned}
use Rattle.wording.proofs.Lines.{refused_short}
use Rattle.input.specs.Answer.{AtFront}
use Rattle.wkt.specs.Answer.{text_or_line, output_of, Outputs}

-- ---- the three outputs
module _ (id : ℕ) (file : List ℕ) where
  refused_is : ((verdict file).number ≡ 0 → ⊥) → output_of id file ≡ refused_line (verdict file)
  unfolding output_of
  refused_is h = file_first_lem (List ℕ) file refused_line (text_or_line id file) h

  no_id_is : (verdict file).number ≡ 0 → count_of file ≤ number_with file id → output_of id file ≡ refused_line no_such_id
  unfolding output_of text_or_line
  no_id_is z h = not_refused file refused_line (text_or_line id file) z ∙ rw (le-ltb (number_with file id) (count_of file) h) refl

  text_is : (verdict file).number ≡ 0 → number_with file id < count_of file → output_of id file ≡ recording_text file (number_with file id) ++ feed
  unfolding output_of text_or_line
  text_is z h = not_refused file refused_line (text_or_line id file) z ∙ rw (lt-ltb (number_with file id) (count_of file) h) refl

pub outputs : Outputs
outputs id file = record {
  text = λ good k h. let only = (ids_numbered file id).only good k h in let there = (ids_numbered file id).there.1 (k, h) in text_is id file (is_good file good) there ∙ ap (λ m. recording_text file m ++ feed) (sym only);
  no_such_id = λ good none. no_id_is id file (is_good file good) (at_least (ltb (number_with file id) (count_of file)) refl none);
  refused = λ none. refused_is id file (λ z. none (has_Layout file z));
}
  where
    at_least : (b : Bool) → ltb (number_with file id) (count_of file) ≡ b → (((k : ℕ) × Has file id k) → ⊥) → count_of file ≤ number_with file id
    at_least true e none = absurd (none ((ids_numbered file id).there.0 (ltb-true (number_with file id) (count_of file) e)))
    at_least false e none = ltb-false (number_with file id) (count_of file) e

-- ---- what stands at the front of the room
module _ (id : ℕ) (file room : List ℕ) (large : 256546 ≤ length room) {a : Written} {mid : List ℕ} (promised : ShowPromise file id room a mid) where
  -- the recording's text is no longer than the room, less the line feed
  text_fits : (verdict file).number ≡ 0 → number_with file id < count_of file → length (recording_text file (number_with file id)) ≤ 256545
  text_fits z h = (always_enough file (number_with file id) (has_Layout file z) h).always

  pub line_AtFront : (a.number ≡ 0 → ⊥) → a.number < 4294967296 → a.place < 4294967296 → {after : List ℕ} {n : ℕ} → Put mid 0 (refused_line (number_at a.number a.place)) after n → AtFront (output_of id file) room n after
  line_AtFront refused small near {after} {n} put =
      let same : mid ≡ room = ((show_returned file id room a mid promised).zeros refused).1 in
      let line : refused_line (number_at a.number a.place) ≡ output_of id file = go (eqb (verdict file).number 0) (ltb (number_with file id) (count_of file)) refl refl in
      let short = refused_short a.number a.place small near in
      let long = ap length line in
      record { put = subst (λ r. Put r 0 (output_of id file) after n) same (put_as line put); fits = omega (arith, short, long, large) }
    where
      go : (x y : Bool) → eqb (verdict file).number 0 ≡ x → ltb (number_with file id) (count_of file) ≡ y → refused_line (number_at a.number a.place) ≡ output_of id file
      go false y p q =
          let h = eqb-false (verdict file).number 0 p in
          ap (λ (w : Written). refused_line (number_at w.number w.place)) (promised.result_is ∙ ap (λ w. w.result) (by_file_lem file id room h)) ∙ sym (refused_is id file h)
      go true false p q =
          let z = eqb-true (verdict file).number 0 p in
          let h = ltb-false (number_with file id) (count_of file) q in
          ap (λ (w : Written). refused_line (number_at w.number w.place)) (promised.result_is ∙ ap (λ w. w.result) (by_id_lem file id room z h)) ∙ sym (no_id_is id file z h)
      go true true p q =
          let z = eqb-true (verdict file).number 0 p in
          let h = ltb-true (number_with file id) (count_of file) q in
          let fit = text_fits z h in
          absurd (refused (ap (λ (w : Written). w.number) (promised.result_is ∙ ap (λ w. w.result) (past_id file id room z h ∙ in_whole room (recording_text file (number_with file id)) (omega (arith, fit, large))))))

  pub text_AtFront : a.number ≡ 0 → {after : List ℕ} {n : ℕ} → Put mid a.length feed after n → AtFront (output_of id file) room n after
  text_AtFront answered {after} {n} put =
      let d = (show_returned file id room a mid promised).answered.0 answered in
      let there = (ids_numbered file id).there.1 (d.1.0, d.1.1) in
      let z = is_good file d.0 in
      let text = recording_text file (number_with file id) in
      let fit = text_fits z there in
      let whole = past_id file id room z there ∙ in_whole room text (omega (arith, fit, large)) in
      let len : a.length ≡ length text = ap (λ (w : Written). w.length) (promised.result_is ∙ ap (λ w. w.result) whole) in
      let laid-is = promised.after_is ∙ ap (λ w. w.room) whole in
      let p : Put room 0 text mid a.length = subst (λ r. Put room 0 text r a.length) (sym laid-is) (subst (Put room 0 text (laid room 0 text)) (sym len) (put_front room text (omega (arith, fit, large)))) in
      let both = length-append text feed in
      let said = text_is id file z there in
      let long = ap length said in
      record { put = put_as (sym said) (put_two p put (omega (arith, fit, large))); fits = omega (arith, long, both, fit, large) }
