-- No second answer fits, and what was returned, fact by fact, read off the promise. Assumes nothing.
use Prim.Native.Nat.{ℕ, ◌<◌, ◌≤◌}
use mathlib.Core.Path.{◌≡◌, refl, sym, ap, subst, ◌∙◌}
use mathlib.Core.Logic.{◌⊎◌, inl, inr}
use mathlib.Core.Bool.{Bool, true, false}
use mathlib.Core.List.{List}
use native.Mathlib.Omega.{arith}
use lib.Dec.{eqb, ltb}
use borrow.Author.Tests.{eqb-true, eqb-false, lt-ltb, le-ltb, ltb-true, ltb-false}
use lib.ListN.{length}
use Rattle.text.specs.Room.{laid, WholeOrNothing}
use Rattle.text.specs.Saying.{WrittenAndRoom, written_in}
use Rattle.text.proofs.Room.{whole_or_nothing, put_front}
use Rattle.layout.specs.Parts.{count_of}
use Rattle.layout.specs.Verdict.{verdict}
use Rattle.layout.proofs.Returned.{number_range, is_good, has_Layout, file_first_lem, not_refused}
use Rattle.chart.specs.Recorded.{number_with, recording_text, Has}
use Rattle.chart.specs.Showing.{no_text, no_such_id, too_short, shown_in, shown_of}
use Rattle.chart.specs.Promise.{NoSecondText, ShowDemand, ShowReturned}
use Rattle.chart.proofs.Recorded.{ids_numbered}

pub no_second_text : NoSecondText
no_second_text file id room r s a b p q = (p.result_is ∙ sym q.result_is, p.after_is ∙ sym q.after_is)

module _ (file : List ℕ) (id : ℕ) (room : List ℕ) where
  -- ---- the four ways
  pub by_file_lem : ((verdict file).number ≡ 0 → ⊥) → shown_of file id room ≡ no_text room (verdict file)
  unfolding shown_of
  by_file_lem h = file_first_lem WrittenAndRoom file (no_text room) _ h

  pub by_id_lem : (verdict file).number ≡ 0 → count_of file ≤ number_with file id → shown_of file id room ≡ no_text room no_such_id
  unfolding shown_of
  by_id_lem z h = not_refused file (no_text room) _ z ∙ rw (le-ltb (number_with file id) (count_of file) h) refl

  pub past_id : (verdict file).number ≡ 0 → number_with file id < count_of file → shown_of file id room ≡ shown_in room (recording_text file (number_with file id))
  unfolding shown_of
  past_id z h = not_refused file (no_text room) _ z ∙ rw (lt-ltb (number_with file id) (count_of file) h) refl

pub in_short : (room text : List ℕ) → length room < length text → shown_in room text ≡ no_text room too_short
unfolding shown_in
in_short room text h = rw (lt-ltb (length room) (length text) h) refl

pub in_whole : (room text : List ℕ) → length text ≤ length room → shown_in room text ≡ written_in room text
unfolding shown_in
in_whole room text h = rw (le-ltb (length room) (length text) h) refl

module _ (file : List ℕ) (id : ℕ) (room : List ℕ) where
  -- the text of the recording that was found
  text : List ℕ
  text = recording_text file (number_with file id)

  data Kind : Type 0 where
    by_file : ((verdict file).number ≡ 0 → ⊥) → Kind
    by_id : (verdict file).number ≡ 0 → count_of file ≤ number_with file id → Kind
    by_room : (verdict file).number ≡ 0 → number_with file id < count_of file → length room < length text → Kind
    by_text : (verdict file).number ≡ 0 → number_with file id < count_of file → length text ≤ length room → Kind

  kind : Kind
  kind = go (eqb (verdict file).number 0) (ltb (number_with file id) (count_of file)) (ltb (length room) (length text)) refl refl refl
    where
      go : (a b c : Bool) → eqb (verdict file).number 0 ≡ a → ltb (number_with file id) (count_of file) ≡ b → ltb (length room) (length text) ≡ c → Kind
      go false b c p q r = by_file (eqb-false _ _ p)
      go true false c p q r = by_id (eqb-true _ _ p) (ltb-false _ _ q)
      go true true true p q r = by_room (eqb-true _ _ p) (ltb-true _ _ q) (ltb-true _ _ r)
      go true true false p q r = by_text (eqb-true _ _ p) (ltb-true _ _ q) (ltb-false _ _ r)

  -- where none was found, no recording has the id
  none : count_of file ≤ number_with file id → ((k : ℕ) × Has file id k) → ⊥
  none h p = let a = (ids_numbered file id).there.1 p in omega (arith, a, h)

  -- of a good file, the text of a recording that has the id is the one that was found
  the_text : (verdict file).number ≡ 0 → (k : ℕ) → Has file id k → recording_text file k ≡ text
  unfolding text
  the_text z k h = ap (recording_text file) ((ids_numbered file id).only (has_Layout file z) k h)

  refusal_file : (h : (verdict file).number ≡ 0 → ⊥) → ShowDemand file id room (no_text room (verdict file)).result room
  refusal_file h =
      let n = number_range file h in
      record {
        file_first = λ z. (refl, refl);
        no_such_id = (λ z. let g = n.1 in absurd (omega (arith, z, g)), λ z. absurd (h (is_good file z.0)));
        too_short = (λ z. let g = n.1 in absurd (omega (arith, z, g)), λ z. absurd (h (is_good file z.0)));
        answered = (λ z. absurd (h z), λ z. absurd (h (is_good file z.0)));
        no_place = λ z. absurd (no_kind (verdict file).number n z);
        numbers = λ z. inl n;
        zeros = λ z. (refl, refl);
        whole = λ z. absurd (h z);
        same_length = refl;
        rest = refl;
      }
    where
      no_kind : (k : ℕ) → (11 ≤ k) × (k ≤ 18) → (k ≡ 0) ⊎ ((k ≡ 20) ⊎ (k ≡ 21)) → ⊥
      no_kind k h (inl z) = let g = h.0 in omega (arith, g, z)
      no_kind k h (inr (inl z)) = let g = h.1 in omega (arith, g, z)
      no_kind k h (inr (inr z)) = let g = h.1 in omega (arith, g, z)

  refusal_id : (z : (verdict file).number ≡ 0) → count_of file ≤ number_with file id → ShowDemand file id room (no_text room no_such_id).result room
  refusal_id z h = record {
    file_first = λ n. absurd (n z);
    no_such_id = (λ e. (has_Layout file z, none h), λ p. refl);
    too_short = (λ e. absurd (omega (arith, e)), λ p. absurd (none h (p.1.0, p.1.1)));
    answered = (λ e. absurd (omega (arith, e)), λ p. absurd (none h (p.1.0, p.1.1)));
    no_place = λ e. refl;
    numbers = λ e. inr (inr refl);
    zeros = λ e. (refl, refl);
    whole = λ e. absurd (omega (arith, e));
    same_length = refl;
    rest = refl;
  }

  refusal_room : (z : (verdict file).number ≡ 0) → number_with file id < count_of file → length room < length text → ShowDemand file id room (no_text room too_short).result room
  refusal_room z i h =
      let has = (ids_numbered file id).has i in
      record {
        file_first = λ n. absurd (n z);
        no_such_id = (λ e. absurd (omega (arith, e)), λ p. absurd (p.1 (number_with file id, has)));
        too_short = (λ e. (has_Layout file z, (number_with file id, has, unfold text in h)), λ p. refl);
        answered = (λ e. absurd (omega (arith, e)), λ p. let g = p.1.2 in let t = ap length (the_text z p.1.0 p.1.1) in absurd (omega (arith, g, h, t)));
        no_place = λ e. refl;
        numbers = λ e. inr (inl refl);
        zeros = λ e. (refl, refl);
        whole = λ e. absurd (omega (arith, e));
        same_length = refl;
        rest = refl;
      }

  stands : length text ≤ length room → WholeOrNothing room 0 text (laid room 0 text) (length text)
  stands h = whole_or_nothing (put_front room text h)

  an_answer : (z : (verdict file).number ≡ 0) → number_with file id < count_of file → length text ≤ length room → ShowDemand file id room (written_in room text).result (laid room 0 text)
  an_answer z i h =
      let has = (ids_numbered file id).has i in
      record {
        file_first = λ n. absurd (n z);
        no_such_id = (λ e. absurd (omega (arith, e)), λ p. absurd (p.1 (number_with file id, has)));
        too_short = (λ e. absurd (omega (arith, e)), λ p. let g = p.1.2 in let t = ap length (the_text z p.1.0 p.1.1) in absurd (omega (arith, g, h, t)));
        answered = (λ e. (has_Layout file z, (number_with file id, has, unfold text in h)), λ p. refl);
        no_place = λ e. refl;
        numbers = λ e. absurd (e refl);
        zeros = λ e. absurd (e refl);
        whole = λ e k g. (ap length (sym (the_text z k g)), ((stands h).whole (omega (arith, h))).0 ∙ sym (the_text z k g));
        same_length = (stands h).same_length;
        rest = (stands h).rest;
      }

  demand : ShowDemand file id room (shown_of file id room).result (shown_of file id room).room
  demand = go kind
    where
      go : Kind → ShowDemand file id room (shown_of file id room).result (shown_of file id room).room
      go (by_file h) = rw (by_file_lem file id room h) (refusal_file h)
      go (by_id z h) = rw (by_id_lem file id room z h) (refusal_id z h)
      go (by_room z i h) = rw (past_id file id room z i, in_short room (recording_text file (number_with file id)) (unfold text in h)) (refusal_room z i h)
      go (by_text z i h) = rw (past_id file id room z i, in_whole room (recording_text file (number_with file id)) (unfold text in h)) (unfold text in an_answer z i h)

pub show_returned : ShowReturned
show_returned file id room result after p =
    subst (λ r. ShowDemand file id room r after) (sym p.result_is) (subst (ShowDemand file id room (shown_of file id room).result) (sym p.after_is) (demand file id room))
