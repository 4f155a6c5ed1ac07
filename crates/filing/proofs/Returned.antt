-- No second answer fits; what was returned, fact by fact; and 02's two statements of what was returned. Each is read off the promise. Assumes nothing.
use Prim.Native.Nat.{ℕ, ◌≤◌}
use mathlib.Core.Path.{◌≡◌, refl, sym, ap, subst, ◌∙◌}
use mathlib.Core.Logic.{◌↔◌}
use mathlib.Core.Bool.{Bool, true, false}
use mathlib.Core.List.{List}
use native.Mathlib.Omega.{arith}
use lib.Dec.{eqb}
use lib.ListN.{length, take}
use borrow.Author.Tests.{eq-eqb, ne_eqb, eqb-true, eqb-false}
use Rattle.text.specs.Room.{laid, WholeOrNothing}
use Rattle.text.specs.Saying.{written_in}
use Rattle.text.specs.declared.Written.{Written}
use Rattle.text.proofs.Room.{put_front, whole_or_nothing}
use Rattle.layout.proofs.Accepted.{accepted_exactly_if}
use Rattle.filing.specs.Given.{Given}
use Rattle.filing.specs.File.{file_length, file_of}
use Rattle.filing.specs.Refusals.{Row, number_of, refusal}
use Rattle.filing.specs.Rows.{Applies, First}
use Rattle.filing.specs.Written.{not_written, written}
use Rattle.filing.specs.Taken.{taken_from}
use Rattle.filing.specs.Promise.{NoSecondWrite, WriteDemand1, WriteReturned, SameRecordings, WrittenIsAccepted, VeryBytes, OldIsRefused}
use Rattle.filing.proofs.Order.{in_table}
use Rattle.filing.proofs.Rows.{exactly_when}
use Rattle.filing.proofs.Fit.{fits, not_refused}
use Rattle.filing.proofs.Read.{file_length_lem}
use Rattle.filing.proofs.Accepted.{same_recordings}
use Rattle.filing.proofs.Kept.{fit, length_is, very_bytes, old_says}

pub no_second_write : NoSecondWrite
no_second_write g room r s a b p q = (p.result_is ∙ sym q.result_is, p.after_is ∙ sym q.after_is)

module _ (g : Given) (room : List ℕ) where
  pub is_refused : (refusal g (length room) ≡ 0 → ⊥) → written g room ≡ not_written room (refusal g (length room))
  unfolding written
  is_refused h = rw (ne_eqb (refusal g (length room)) 0 h) refl

  pub is_written : refusal g (length room) ≡ 0 → written g room ≡ written_in room (file_of g)
  unfolding written
  is_written z = rw (eq-eqb (refusal g (length room)) 0 z) refl

  -- the number that is answered is the refusal's
  number_is : (written g room).result.number ≡ refusal g (length room)
  number_is = go (eqb (refusal g (length room)) 0) refl
    where
      go : (b : Bool) → eqb (refusal g (length room)) 0 ≡ b → (written g room).result.number ≡ refusal g (length room)
      go true e = let z = eqb-true _ _ e in ap (λ w. w.result.number) (is_written z) ∙ sym z
      go false e = ap (λ w. w.result.number) (is_refused (eqb-false _ _ e))

  length_of : refusal g (length room) ≡ 0 → length (file_of g) ≡ file_length g
  length_of z = file_length_lem g (length room) (fits g (length room) z)

  stands : refusal g (length room) ≡ 0 → WholeOrNothing room 0 (file_of g) (laid room 0 (file_of g)) (length (file_of g))
  stands z = let n = length_of z in let f = (fits g (length room) z).in_room in whole_or_nothing (put_front room (file_of g) (omega (arith, n, f)))

  front : refusal g (length room) ≡ 0 → take (length (file_of g)) (laid room 0 (file_of g)) ≡ file_of g
  front z = let n = length_of z in let f = (fits g (length room) z).in_room in ((stands z).whole (omega (arith, n, f))).0

  range : (n : ℕ) → refusal g (length room) ≡ n → (n ≡ 0 → ⊥) → (13 ≤ n) × (n ≤ 19)
  range n e h = let w = ((exactly_when g (length room)).refused_by n).0 (e, h) in let t = in_table w.0 in let q = w.2 in (omega (arith, t.0, q), omega (arith, t.1, q))

  told : (x : ℕ) → x ≡ refusal g (length room) → ((n : ℕ) → ((x ≡ n) × (n ≡ 0 → ⊥)) ↔ ((row : Row) × First g (length room) row × (number_of row ≡ n))) × ((x ≡ 0) ↔ ((row : Row) → Applies g (length room) row → ⊥))
  told x e = rw e ((exactly_when g (length room)).refused_by, (exactly_when g (length room)).accepted)

  demand1 : WriteDemand1 g room (written g room).result (written g room).room
  demand1 = go (eqb (refusal g (length room)) 0) refl
    where
      go : (b : Bool) → eqb (refusal g (length room)) 0 ≡ b → WriteDemand1 g room (written g room).result (written g room).room
      go true e =
          let z = eqb-true (refusal g (length room)) 0 e in
          let n = length_of z in
          let m = (fits g (length room) z).at_most65536 in
          rw (is_written z) (record {
            refused_by = (told 0 (sym z)).0;
            accepted = (told 0 (sym z)).1;
            numbers = λ h. absurd (h refl);
            no_place = refl;
            zeros = λ h. absurd (h refl);
            whole = λ h. front z;
            length_is = λ h. (n, refl, omega (arith, n, m));
            same_length = (stands z).same_length;
            rest = (stands z).rest;
          })
      go false e =
          let h = eqb-false (refusal g (length room)) 0 e in
          rw (is_refused h) (record {
            refused_by = (exactly_when g (length room)).refused_by;
            accepted = (exactly_when g (length room)).accepted;
            numbers = range (refusal g (length room)) refl;
            no_place = refl;
            zeros = λ z. (refl, refl);
            whole = λ z. absurd (h z);
            length_is = λ z. absurd (h z);
            same_length = refl;
            rest = refl;
          })

pub write_returned : WriteReturned
write_returned g room r after p = rw (p.result_is, p.after_is) (demand1 g room)

-- ---- 02's two statements
pub written_is_accepted : WrittenIsAccepted
written_is_accepted g room r after ids p z =
    let none : refusal g (length room) ≡ 0 = sym (number_is g room) ∙ (sym (ap (λ (x : Written). x.number) p.result_is) ∙ z) in
    let there = (write_returned g room r after p).whole z in
    subst (SameRecordings g) (sym there) (same_recordings g (length room) (fits g (length room) none) ids)

pub very_bytes_again : VeryBytes
very_bytes_again file room r after bytes a none_old h p =
    let l = (accepted_exactly_if file).0 a in
    let none : refusal (taken_from file) (length room) ≡ 0 = not_refused (taken_from file) (length room) (fit file l none_old (length room) h) in
    let z : r.number ≡ 0 = ap (λ (x : Written). x.number) p.result_is ∙ (number_is (taken_from file) room ∙ none) in
    let d = write_returned (taken_from file) room r after p in
    (z, (d.length_is z).0 ∙ length_is file l, d.whole z ∙ very_bytes file l bytes)

pub old_is_refused : OldIsRefused
old_is_refused file room r after a some p =
    let l = (accepted_exactly_if file).0 a in
    let n : r.number ≡ 14 = ap (λ (x : Written). x.number) p.result_is ∙ (number_is (taken_from file) room ∙ old_says file l (length room) some) in
    let z = (write_returned (taken_from file) room r after p).zeros (λ e. omega (arith, n, e)) in
    (n, z.0, z.1)
