-- No second answer fits, and demands 1 and 2 of the list, each read off the promise. Assumes nothing.
use Prim.Native.Nat.{ℕ, ◌<◌, ◌≤◌}
use mathlib.Core.Path.{◌≡◌, refl, sym, ap, subst, ◌∙◌}
use mathlib.Core.Logic.{◌⊎◌, inl, inr}
use mathlib.Core.Bool.{Bool, true, false}
use mathlib.Core.List.{List}
use native.Mathlib.Omega.{arith}
use lib.Dec.{eqb, ltb}
use borrow.Author.Tests.{eqb-true, eqb-false, lt-ltb, le-ltb, ltb-true, ltb-false}
use lib.ListN.{length}
use Rattle.text.specs.Room.{laid, WholeOrNothing}
use Rattle.text.proofs.Room.{whole_or_nothing, put_front}
use Rattle.layout.specs.Verdict.{verdict}
use Rattle.layout.proofs.Returned.{number_range, is_good, has_Layout, file_first_lem, not_refused}
use Rattle.listing.specs.Leaks.{leaks, beside}
use Rattle.listing.specs.Words.{list_text, refused_line}
use Rattle.listing.specs.Listing.{ListAndRoom, no_list, too_short, list_in, list_from, list_of, output_of}
use Rattle.listing.specs.Promise.{NoSecondList, ListDemand1, ListReturnedOne, Written, ListReturnedTwo, Outputs}
use Rattle.listing.proofs.Demand.{demand2}

pub no_second_list : NoSecondList
no_second_list file room r s a b p q = (p.result_is ∙ sym q.result_is, p.after_is ∙ sym q.after_is)

module _ (file room : List ℕ) where
  -- ---- the three ways
  pub by_file_lem : ((verdict file).number ≡ 0 → ⊥) → list_of file room ≡ no_list room (verdict file)
  unfolding list_of
  by_file_lem h = file_first_lem ListAndRoom file (no_list room) _ h

  pub past_file : (verdict file).number ≡ 0 → list_of file room ≡ list_from (leaks file) (beside file) room
  unfolding list_of
  past_file z = not_refused file (no_list room) _ z

  pub by_room_lem : (verdict file).number ≡ 0 → length room < length (list_text file) → list_of file room ≡ no_list room too_short
  unfolding list_from list_text beside
  by_room_lem z h = past_file z ∙ rw (lt-ltb (length room) (length (list_text file)) h) refl

  pub by_list_lem : (verdict file).number ≡ 0 → length (list_text file) ≤ length room → list_of file room ≡ list_in room (list_text file) (length (leaks file)) (beside file)
  unfolding list_from list_text beside
  by_list_lem z h = past_file z ∙ rw (le-ltb (length room) (length (list_text file)) h) refl

  data Kind : Type 0 where
    by_file : ((verdict file).number ≡ 0 → ⊥) → Kind
    by_room : (verdict file).number ≡ 0 → length room < length (list_text file) → Kind
    by_list : (verdict file).number ≡ 0 → length (list_text file) ≤ length room → Kind

  kind : Kind
  kind = go (eqb (verdict file).number 0) (ltb (length room) (length (list_text file))) refl refl
    where
      go : (a b : Bool) → eqb (verdict file).number 0 ≡ a → ltb (length room) (length (list_text file)) ≡ b → Kind
      go false b p q = by_file (eqb-false _ _ p)
      go true true p q = by_room (eqb-true _ _ p) (ltb-true _ _ q)
      go true false p q = by_list (eqb-true _ _ p) (ltb-false _ _ q)

  -- ---- demand 1
  refusal_file : (h : (verdict file).number ≡ 0 → ⊥) → ListDemand1 file room (no_list room (verdict file)).result room
  refusal_file h =
      let n = number_range file h in
      record {
        file_first = λ z. (refl, refl);
        too_short = (λ z. let g = n.0 in absurd (omega (arith, z, g)), λ z. absurd (h (is_good file z.0)));
        answered = (λ z. absurd (h z), λ z. absurd (h (is_good file z.0)));
        no_place = λ z. absurd (no_kind (verdict file).number n.0 z);
        numbers = λ z. inr n;
        zeros = λ z. (refl, refl, refl, refl, refl, refl);
        same_length = refl;
        rest = refl;
      }
    where
      no_kind : (k : ℕ) → 11 ≤ k → (k ≡ 0) ⊎ (k ≡ 7) → ⊥
      no_kind k h (inl z) = omega (arith, h, z)
      no_kind k h (inr z) = omega (arith, h, z)

  refusal_room : (z : (verdict file).number ≡ 0) → length room < length (list_text file) → ListDemand1 file room (no_list room too_short).result room
  refusal_room z h = record {
    file_first = λ n. absurd (n z);
    too_short = (λ e. (has_Layout file z, h), λ p. refl);
    answered = (λ e. absurd (omega (arith, e)), λ p. let g = p.1 in absurd (omega (arith, g, h)));
    no_place = λ e. refl;
    numbers = λ e. inl refl;
    zeros = λ e. (refl, refl, refl, refl, refl, refl);
    same_length = refl;
    rest = refl;
  }

  stands : length (list_text file) ≤ length room → WholeOrNothing room 0 (list_text file) (laid room 0 (list_text file)) (length (list_text file))
  stands h = whole_or_nothing (put_front room (list_text file) h)

  an_answer : (z : (verdict file).number ≡ 0) → length (list_text file) ≤ length room → ListDemand1 file room (list_in room (list_text file) (length (leaks file)) (beside file)).result (laid room 0 (list_text file))
  an_answer z h = record {
    file_first = λ n. absurd (n z);
    too_short = (λ e. absurd (omega (arith, e)), λ p. let g = p.1 in absurd (omega (arith, g, h)));
    answered = (λ e. (has_Layout file z, h), λ p. refl);
    no_place = λ e. refl;
    numbers = λ e. absurd (e refl);
    zeros = λ e. absurd (e refl);
    same_length = (stands h).same_length;
    rest = (stands h).rest;
  }

  demand1 : ListDemand1 file room (list_of file room).result (list_of file room).room
  demand1 = go kind
    where
      go : Kind → ListDemand1 file room (list_of file room).result (list_of file room).room
      go (by_file h) = rw (by_file_lem h) (refusal_file h)
      go (by_room z h) = rw (by_room_lem z h) (refusal_room z h)
      go (by_list z h) = rw (by_list_lem z h) (an_answer z h)

  -- ---- demand 2
  listed : (list_of file room).result.number ≡ 0 → Written file (list_of file room).result (list_of file room).room
  listed n = go kind
    where
      go : Kind → Written file (list_of file room).result (list_of file room).room
      go (by_file h) = absurd (h (ap (λ w. w.result.number) (sym (by_file_lem h)) ∙ n))
      go (by_room z h) = let e : ◌≡◌ {A = ℕ} 7 0 = ap (λ w. w.result.number) (sym (by_room_lem z h)) ∙ n in absurd (omega (arith, e))
      go (by_list z h) = rw (by_list_lem z h) (record {
        length_is = refl;
        leaks_is = refl;
        touching_is = unfold beside in refl;
        tested_is = unfold beside in refl;
        formerly_is = unfold beside in refl;
        text = ((stands h).whole (omega (arith, h))).0;
        demand = demand2 file;
      })

pub returned_one : ListReturnedOne
returned_one file room result after p = subst (λ r. ListDemand1 file room r after) (sym p.result_is) (subst (ListDemand1 file room (list_of file room).result) (sym p.after_is) (demand1 file room))

pub returned_two : ListReturnedTwo
returned_two file room result after p n =
    subst (λ r. Written file r after) (sym p.result_is) (subst (Written file (list_of file room).result) (sym p.after_is) (listed file room (ap (λ r. r.number) (sym p.result_is) ∙ n)))

-- ---- the program's output
pub outputs : Outputs
outputs file = record {
  good = λ l. unfold output_of in not_refused file refused_line (list_text file) (is_good file l);
  refused = λ n. unfold output_of in file_first_lem (List ℕ) file refused_line (list_text file) (λ z. n (has_Layout file z));
}
