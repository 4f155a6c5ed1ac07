-- What is said of a file is what its first row that applies says, and good if none does: the list of rows is searched from its front, and each row in it has its own
-- number and place. Assumes nothing.
use Prim.Native.Nat.{ℕ, ◌+◌, ◌-◌, ◌*◌, ◌/◌}
use mathlib.Core.Path.{◌≡◌, refl, sym, ap, ap₂, subst, ◌∙◌}
use mathlib.Core.Logic.{◌⊎◌, inl, inr}
use mathlib.Core.Bool.{cond}
use mathlib.Core.List.{List, [], ◌∷◌}
use native.Mathlib.Omega.{arith}
use lib.ListN.{get_or}
use Rattle.layout.specs.Parts.{table_place, entry_place}
use Rattle.layout.specs.Verdict.{Row, bad_length, other_length, bad_trailer, bad_entry, id_again, wrong_end, out_of_range, flat, number_of, place_of, test, rows, first_of, number_at, good, verdict}
use Rattle.layout.specs.Rows.{Applies, stage_of, turn_of, First, ExactlyWhen}
use Rattle.layout.specs.declared.Verdict.{Verdict}
use Rattle.floats.proofs.First.{NoneOf, Leads, search_first, none_found, found}
use Rattle.floats.proofs.Turns.{in_pair, pair_first, pair_second, only_first, no_row, first_row}
use Rattle.layout.proofs.Tests.{nonzero, applies}
use Rattle.layout.proofs.Order.{listed, exists, sorted}

-- ---- a row is known by its stage and turn
by_stage : ℕ → ℕ → Row
unfolding in_pair
by_stage n t = get_or (bad_length ∷ other_length ∷ bad_trailer ∷ in_pair bad_entry id_again t ∷ wrong_end ∷ in_pair out_of_range flat t ∷ []) n bad_length

by_stage_lem : (row : Row) → by_stage (stage_of row) (turn_of row) ≡ row
unfolding by_stage
by_stage_lem bad_length = refl
by_stage_lem other_length = refl
by_stage_lem bad_trailer = refl
by_stage_lem (bad_entry i) = pair_first bad_entry id_again i
by_stage_lem (id_again i) = pair_second bad_entry id_again i
by_stage_lem wrong_end = refl
by_stage_lem (out_of_range k) = pair_first out_of_range flat k
by_stage_lem (flat k) = pair_second out_of_range flat k

known : (a b : Row) → stage_of a ≡ stage_of b → turn_of a ≡ turn_of b → a ≡ b
known a b q e = sym (by_stage_lem a) ∙ (ap₂ by_stage q e ∙ by_stage_lem b)

-- ---- and by its number and place
module _ (file : List ℕ) where
  by_number : ℕ → ℕ → Row
  by_number n p =
      let i = (p - table_place file) / 12 in
      let k = p / 24 in
      get_or (bad_length ∷ other_length ∷ bad_trailer ∷ bad_entry i ∷ wrong_end ∷ id_again i ∷ out_of_range k ∷ flat k ∷ []) (n - 11) bad_length

  by_number_lem : (row : Row) → by_number (number_of row) (place_of file row) ≡ row
  unfolding by_number place_of entry_place
  by_number_lem bad_length = refl
  by_number_lem other_length = refl
  by_number_lem bad_trailer = refl
  by_number_lem (bad_entry i) = let q : (table_place file + 12 * i - table_place file) / 12 ≡ i = omega arith in ap bad_entry q
  by_number_lem (id_again i) = let q : (table_place file + 12 * i - table_place file) / 12 ≡ i = omega arith in ap id_again q
  by_number_lem wrong_end = refl
  by_number_lem (out_of_range k) = let q : 24 * k / 24 ≡ k = omega arith in ap out_of_range q
  by_number_lem (flat k) = let q : 24 * k / 24 ≡ k = omega arith in ap flat q

  saying : Row → Verdict
  saying row = number_at (number_of row) (place_of file row)

  same_row : (a b : Row) → saying a ≡ saying b → a ≡ b
  unfolding saying
  same_row a b h = sym (by_number_lem a) ∙ (ap₂ by_number (ap (λ (v : Verdict). v.number) h) (ap (λ (v : Verdict). v.place) h) ∙ by_number_lem b)

  not_good : (row : Row) → saying row ≡ good → ⊥
  unfolding saying
  not_good row h = nonzero row (ap (λ (v : Verdict). v.number) h)

  -- ---- what is found along a list of rows
  nil : first_of file [] ≡ good
  unfolding first_of
  nil = refl

  cons : (row : Row) (list : List Row) → first_of file (row ∷ list) ≡ cond (test file row) (saying row) (first_of file list)
  unfolding first_of saying
  cons row list = refl

  -- ---- the file's rows
  none : NoneOf (test file) (rows file) → (row : Row) → Applies file row → ⊥
  none = no_row stage_of turn_of (test file) (rows file) (applies file) (listed file)

  first : (r : Leads (test file) (rows file)) → First file r.one
  first = first_row stage_of turn_of (test file) (rows file) (applies file) (listed file) (exists file) (sorted file)

  -- each refusal exactly when its row is the first that applies
  pub exactly_when : ExactlyWhen file
  unfolding verdict saying
  exactly_when = go (search_first (test file) (rows file))
    where
      go : NoneOf (test file) (rows file) ⊎ Leads (test file) (rows file) → ExactlyWhen file
      go (inl n) = let says = none_found (test file) saying good (first_of file) nil cons (rows file) n in record {
        refused_by = λ row. ((λ h. absurd (not_good row (sym h ∙ says))), (λ f. absurd (none n row f.applies)));
        accepted = ((λ h. none n), (λ h. says));
        nothing_else = inl says;
      }
      go (inr r) = let says = found (test file) saying good (first_of file) nil cons r in record {
        refused_by = λ row. (
          (λ h. subst (First file) (same_row r.one row (sym says ∙ h)) (first r)),
          (λ f. says ∙ ap saying (only_first stage_of turn_of known r.one row (first r) f)),
        );
        accepted = ((λ h. absurd (not_good r.one (sym says ∙ h))), (λ h. absurd (h r.one (first r).applies)));
        nothing_else = inr (r.one, says);
      }
