-- The list of what was gathered, in the room or refused, is the list of the rules, and what is told of a file is that list or the line of its refusal. Assumes nothing.
use Prim.Native.Nat.{ℕ, ◌≤◌}
use mathlib.Core.Path.{◌≡◌, refl, sym, ap, ap₂, subst, ◌∙◌}
use mathlib.Core.List.{List, [], map}
use native.Mathlib.Omega.{arith}
use borrow.Author.Tests.{eq-eqb, ne_eqb}
use lib.ListN.{length, take}
use Rattle.text.specs.Room.{laid, Put}
use Rattle.text.proofs.Room.{put_front}
use Rattle.layout.specs.Verdict.{verdict, number_at}
use Rattle.layout.specs.declared.Verdict.{Verdict}
use Rattle.layout.specs.Layout.{Layout}
use Rattle.layout.proofs.Returned.{is_good}
use Rattle.listing.specs.declared.Listed.{Listed}
use Rattle.listing.specs.declared.Counts.{Counts}
use Rattle.listing.specs.Leaks.{touching, tested, formerly_held_back, beside}
use Rattle.listing.specs.Words.{list_text, refused_line}
use Rattle.listing.specs.Listing.{no_list, list_from, list_of}
use Rattle.listing.specs.Promise.{ListPromise}
use Rattle.listing.proofs.Returned.{by_file_lem, past_file, by_list_lem, returned_one}
use Rattle.writing.specs.Triples.{leak_of, held, beside_in, WrittenAs}
use Rattle.writing.proofs.Written.{triples_held}
use Rattle.leaklist.specs.Code.{leaks_of, found_in, found_by_rules, told_of}

-- ---- the list of a good file
pub keeps : (file room : List ℕ) (found : List (List ℕ)) (c : Counts) (formerly : ℕ) {r : Listed} {after : List ℕ} → Layout file → found_in found c ≡ found_by_rules file → WrittenAs (map leak_of (take (held found c.leaks) found)) (beside_in c formerly) room r after → formerly ≡ formerly_held_back file → c.leaks ≤ 4096 → length found ≡ 4096 → ListPromise file room r after
keeps file room found c formerly {r} {after} good h w old most size =
    let s = past_file file room (is_good file good) in
    let all = triples_held found c.leaks most (omega (arith, most, size)) in
    let ls = ap (leaks_of found) all ∙ ap (λ f. f.leaks) h in
    let t = beside_is (ap (λ f. f.touching) h) (ap (λ f. f.tested) h) in
    record {
      result_is = w.result_is ∙ (ap₂ (λ l n. (list_from l n room).result) ls t ∙ ap (λ v. v.result) (sym s));
      after_is = w.after_is ∙ (ap₂ (λ l n. (list_from l n room).room) ls t ∙ ap (λ v. v.room) (sym s));
    }
  where
    beside_is : c.touching ≡ touching file → c.tested ≡ tested file → beside_in c formerly ≡ beside file
    beside_is p q = unfold beside in rw (p, q, old) refl

-- ---- a refused file
pub keeps_refusal : (file room : List ℕ) {v : Verdict} {r : Listed} → v ≡ verdict file → (v.number ≡ 0 → ⊥) → r ≡ (no_list [] (number_at v.number v.place)).result → ListPromise file room r room
keeps_refusal file room {v} h n p =
    let s = by_file_lem file room (λ z. n (ap (λ x. x.number) h ∙ z)) in
    record { result_is = p ∙ (ap (λ x. (no_list [] x).result) h ∙ ap (λ w. w.result) (sym s)); after_is = ap (λ w. w.room) (sym s) }

-- ---- what is told of a file
told_no : (file room : List ℕ) {a : Listed} → a ≡ (list_of file room).result → (a.number ≡ 0 → ⊥) → refused_line (number_at a.number a.place) ≡ told_of file room
unfolding told_of
told_no file room h n = ap (λ r. refused_line (number_at r.number r.place)) h ∙ sym (rw (ne_eqb (list_of file room).result.number 0 (λ z. n (ap (λ r. r.number) h ∙ z))) refl)

told_yes : (file room : List ℕ) → (list_of file room).result.number ≡ 0 → list_text file ≡ told_of file room
unfolding told_of
told_yes file room z = sym (rw (eq-eqb (list_of file room).result.number 0 z) refl)

pub told_refused : (file room : List ℕ) {a : Listed} {mid after : List ℕ} {r : ℕ} → ListPromise file room a mid → (a.number ≡ 0 → ⊥) → Put mid 0 (refused_line (number_at a.number a.place)) after r → Put room 0 (told_of file room) after r
told_refused file room {a} {mid} {after} {r} p n q =
    let same = ((returned_one file room a mid p).zeros n).5 in
    subst (λ t. Put room 0 t after r) (told_no file room p.result_is n) (subst (λ m. Put m 0 (refused_line (number_at a.number a.place)) after r) same q)

pub told_list : (file room : List ℕ) {a : Listed} {after : List ℕ} → ListPromise file room a after → a.number ≡ 0 → Put room 0 (told_of file room) after a.length
told_list file room {a} {after} p z =
    let d = returned_one file room a after p in
    let fit = d.answered.0 z in
    let w = by_list_lem file room (is_good file fit.0) fit.1 in
    let front = put_front room (list_text file) fit.1 in
    let after_is : after ≡ laid room 0 (list_text file) = p.after_is ∙ ap (λ x. x.room) w in
    let length_is : a.length ≡ length (list_text file) = ap (λ r. r.length) p.result_is ∙ ap (λ x. x.result.length) w in
    subst (λ t. Put room 0 t after a.length) (told_yes file room (ap (λ r. r.number) (sym p.result_is) ∙ z))
    (subst (λ m. Put room 0 (list_text file) m a.length) (sym after_is) (subst (Put room 0 (list_text file) (laid room 0 (list_text file))) (sym length_is) front))
