-- No second answer fits, and demand 1 of files, each read off the promises. Assumes nothing.
use Prim.Native.Nat.{ℕ, ◌+◌, ◌*◌, ◌<◌, ◌≤◌}
use mathlib.Core.Path.{◌≡◌, refl, sym, ap, ◌∙◌}
use mathlib.Core.Logic.{inl, inr, ⊎_elim}
use mathlib.Core.Bool.{Bool, true, false}
use mathlib.Core.List.{List, []}
use native.Mathlib.Omega.{arith}
use lib.Dec.{eqb, ltb}
use borrow.Author.Tests.{eq-eqb, ne_eqb, eqb-true, eqb-false, lt-ltb, le-ltb, ltb-true, ltb-false}
use lib.ListN.{length}
use Rattle.layout.specs.Parts.{table_place, count_of, entry_place, entry_at}
use Rattle.layout.specs.Verdict.{Row, bad_length, other_length, bad_trailer, bad_entry, id_again, wrong_end, out_of_range, flat, number_of, place_of, good, verdict}
use Rattle.layout.specs.Layout.{Layout}
use Rattle.layout.specs.Rows.{Applies, First}
use Rattle.layout.specs.Recordings.{unless_refused, no_recording, recording_by, no_such, bytes_of, recording_of, part_of}
use Rattle.layout.specs.Promise.{NoSecondOfFile, FileFirst, Zeros, FileDemand1, FileReturnedOne}
use Rattle.layout.specs.declared.Verdict.{Verdict}
use Rattle.layout.specs.declared.Recording.{Recording}
use Rattle.layout.proofs.Tests.{in_table}
use Rattle.layout.proofs.Rows.{exactly_when}
use Rattle.layout.proofs.Accepted.{same, accepted_exactly_if}

pub no_second_of_file : NoSecondOfFile
no_second_of_file = record { check = λ file a b p q. p ∙ sym q; recording = λ file k a b p q. p ∙ sym q; part = λ file k a b p q. p ∙ sym q }

-- ---- the file's own refusal comes first, whatever is asked
pub file_first_lem : FileFirst
unfolding unless_refused
file_first_lem A file f answer h = rw (ne_eqb (verdict file).number 0 h) refl

pub not_refused : {A : Type 0} (file : List ℕ) (f : Verdict → A) (answer : A) → (verdict file).number ≡ 0 → unless_refused file f answer ≡ answer
unfolding unless_refused
not_refused file f answer h = rw (eq-eqb (verdict file).number 0 h) refl

-- ---- the place lies in the file
trailer_fits : (file : List ℕ) → (Applies file bad_trailer → ⊥) → table_place file + 12 * count_of file + 12 ≡ length file
trailer_fits file h = same _ _ (λ n. h (inr n))

place_in_row : (file : List ℕ) (row : Row) → First file row → place_of file row ≤ length file
unfolding place_of entry_place
place_in_row file bad_length f = omega arith
place_in_row file other_length f = omega arith
place_in_row file bad_trailer f = omega arith
place_in_row file (bad_entry i) f = let h = f.applies.0 in let t = trailer_fits file (f.none_before bad_trailer (inl (omega arith))) in omega arith
place_in_row file (id_again i) f = let h = f.applies.0 in let t = trailer_fits file (f.none_before bad_trailer (inl (omega arith))) in omega arith
place_in_row file wrong_end f = let t = trailer_fits file (f.none_before bad_trailer (inl (omega arith))) in omega arith
place_in_row file (out_of_range k) f = let h = f.applies.0 in let t = trailer_fits file (f.none_before bad_trailer (inl (omega arith))) in omega arith
place_in_row file (flat k) f = let h = f.applies.0 in let t = trailer_fits file (f.none_before bad_trailer (inl (omega arith))) in omega arith

place_in : (file : List ℕ) → (verdict file).place ≤ length file
place_in file = ⊎_elim
    (λ g. rw g (omega arith))
    (λ w. rw w.1 (place_in_row file w.0 (((exactly_when file).refused_by w.0).0 w.1)))
    (exactly_when file).nothing_else

module _ (file : List ℕ) where
  pub number-good : (verdict file).number ≡ 0 → verdict file ≡ good
  number-good z = ⊎_elim (λ g. g) (λ w. let t = in_table w.0 in let q : number_of w.0 ≡ 0 = sym (ap (λ (v : Verdict). v.number) w.1) ∙ z in absurd (omega (arith, t.0))) (exactly_when file).nothing_else

  pub number_range : ((verdict file).number ≡ 0 → ⊥) → (11 ≤ (verdict file).number) × ((verdict file).number ≤ 18)
  number_range h = ⊎_elim
      (λ g. absurd (h (ap (λ (v : Verdict). v.number) g)))
      (λ w. let t = in_table w.0 in let q : (verdict file).number ≡ number_of w.0 = ap (λ (v : Verdict). v.number) w.1 in (omega (arith, t.0), omega (arith, t.1)))
      (exactly_when file).nothing_else

  pub is_good : Layout file → (verdict file).number ≡ 0
  is_good l = ap (λ (v : Verdict). v.number) ((accepted_exactly_if file).1 l)

  pub has_Layout : (verdict file).number ≡ 0 → Layout file
  has_Layout z = (accepted_exactly_if file).0 (number-good z)

  -- ---- the three answers of a recording and its part
  module _ (k : ℕ) where
    pub by_file_lem : ((verdict file).number ≡ 0 → ⊥) → (recording_of file k ≡ no_recording (verdict file)) × (part_of file k ≡ [])
    unfolding recording_of part_of
    by_file_lem h = (file_first_lem Recording file no_recording _ h, file_first_lem (List ℕ) file (λ v. []) _ h)

    pub no_such_lem : (verdict file).number ≡ 0 → count_of file ≤ k → (recording_of file k ≡ no_recording no_such) × (part_of file k ≡ [])
    unfolding recording_of part_of
    no_such_lem z h = (not_refused file no_recording _ z ∙ rw (le-ltb k (count_of file) h) refl, not_refused file (λ v. []) _ z ∙ rw (le-ltb k (count_of file) h) refl)

    pub there_is : (verdict file).number ≡ 0 → k < count_of file → (recording_of file k ≡ recording_by (entry_at file k)) × (part_of file k ≡ bytes_of file (entry_at file k))
    unfolding recording_of part_of
    there_is z h = (not_refused file no_recording _ z ∙ rw (lt-ltb k (count_of file) h) refl, not_refused file (λ v. []) _ z ∙ rw (lt-ltb k (count_of file) h) refl)

    data Kind : Type 0 where
      by_file : ((verdict file).number ≡ 0 → ⊥) → Kind
      unknown : (verdict file).number ≡ 0 → count_of file ≤ k → Kind
      known : (verdict file).number ≡ 0 → k < count_of file → Kind

    kind : Kind
    kind = go (eqb (verdict file).number 0) (ltb k (count_of file)) refl refl
      where
        go : (a b : Bool) → eqb (verdict file).number 0 ≡ a → ltb k (count_of file) ≡ b → Kind
        go false b p q = by_file (eqb-false _ _ p)
        go true false p q = unknown (eqb-true _ _ p) (ltb-false _ _ q)
        go true true p q = known (eqb-true _ _ p) (ltb-true _ _ q)

    noughts : (v : Verdict) → Zeros (no_recording v)
    noughts v = record { id = refl; first = refl; count = refl; set = refl; last = refl }

    demand1 : FileDemand1 file k (verdict file) (recording_of file k) (part_of file k)
    demand1 = go kind
      where
        go : Kind → FileDemand1 file k (verdict file) (recording_of file k) (part_of file k)
        go (by_file h) = let r = by_file_lem h in let n = number_range h in record {
          refused_by = (exactly_when file).refused_by;
          accepted = accepted_exactly_if file;
          nothing_else = (exactly_when file).nothing_else;
          in_file = place_in file;
          file_first = λ e. rw r.0 (refl, refl);
          answered = rw r.0 ((λ z. absurd (h z)), (λ l. absurd (h (is_good l.0))));
          no_such = rw r.0 ((λ z. absurd (omega (arith, n.0))), (λ l. absurd (h (is_good l.0))));
          no_place = rw r.0 (λ z. absurd (omega (arith, n.0)));
          numbers = λ e. rw r.0 (omega (arith, n.0), n.1);
          zeros = λ e. rw r.0 (noughts (verdict file));
          no_part = λ e. r.1;
        }
        go (unknown z h) = let r = no_such_lem z h in record {
          refused_by = (exactly_when file).refused_by;
          accepted = accepted_exactly_if file;
          nothing_else = (exactly_when file).nothing_else;
          in_file = place_in file;
          file_first = λ e. absurd (e z);
          answered = rw r.0 ((λ (e : ◌≡◌ {A = ℕ} 10 0). absurd (omega arith)), (λ l. let c = l.1 in absurd (omega arith)));
          no_such = rw r.0 ((λ e. (has_Layout z, h)), (λ l. refl));
          no_place = rw r.0 (λ e. refl);
          numbers = λ e. rw r.0 (omega arith, omega arith);
          zeros = λ e. rw r.0 (noughts no_such);
          no_part = λ e. r.1;
        }
        go (known z h) = let r = there_is z h in record {
          refused_by = (exactly_when file).refused_by;
          accepted = accepted_exactly_if file;
          nothing_else = (exactly_when file).nothing_else;
          in_file = place_in file;
          file_first = λ e. absurd (e z);
          answered = rw r.0 ((λ e. (has_Layout z, h)), (λ l. refl));
          no_such = rw r.0 ((λ (e : ◌≡◌ {A = ℕ} 0 10). absurd (omega arith)), (λ l. let c = l.1 in absurd (omega arith)));
          no_place = rw r.0 (λ (e : ◌≡◌ {A = ℕ} 0 10). absurd (omega arith));
          numbers = λ e. absurd (e (rw r.0 refl));
          zeros = λ e. absurd (e (rw r.0 refl));
          no_part = λ e. absurd (e (rw r.0 refl));
        }

pub returned_one : FileReturnedOne
returned_one file k v r part p q s = rw (p, q, s) (demand1 file k)
