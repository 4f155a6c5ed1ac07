-- The number that is said is that of the first row that applies, and 0 if none does. Assumes nothing.
use Prim.Native.Nat.{ℕ}
use mathlib.Core.Path.{◌≡◌, refl, sym, ap, ap₂, ◌∙◌}
use mathlib.Core.Logic.{◌⊎◌, inl, inr}
use mathlib.Core.Bool.{cond}
use mathlib.Core.List.{List, [], ◌∷◌}
use lib.ListN.{get_or}
use Rattle.floats.proofs.First.{NoneOf, Leads, search_first, none_found, found}
use Rattle.floats.proofs.Turns.{in_pair, pair_first, pair_second, only_first, no_row, first_row}
use Rattle.filing.specs.Given.{Given}
use Rattle.filing.specs.Refusals.{Row, unequal, bad_entry, id_again, wrong_sum, out_of_range, flat, too_many, no_room, number_of}
use Rattle.filing.specs.Rows.{stage_of, turn_of, First, ExactlyWhen}
use Rattle.filing.proofs.Order.{nonzero, test, first_of, rows, by_rows, told, listed, exists, sorted}

-- ---- a row is known by its stage and turn
by_stage : ℕ → ℕ → Row
unfolding in_pair
by_stage n t = get_or (unequal ∷ in_pair bad_entry id_again t ∷ wrong_sum ∷ in_pair out_of_range flat t ∷ too_many ∷ no_room ∷ []) n unequal

by_stage_lem : (row : Row) → by_stage (stage_of row) (turn_of row) ≡ row
unfolding by_stage
by_stage_lem unequal = refl
by_stage_lem (bad_entry i) = pair_first bad_entry id_again i
by_stage_lem (id_again i) = pair_second bad_entry id_again i
by_stage_lem wrong_sum = refl
by_stage_lem (out_of_range k) = pair_first out_of_range flat k
by_stage_lem (flat k) = pair_second out_of_range flat k
by_stage_lem too_many = refl
by_stage_lem no_room = refl

known : (a b : Row) → stage_of a ≡ stage_of b → turn_of a ≡ turn_of b → a ≡ b
known a b q e = sym (by_stage_lem a) ∙ (ap₂ by_stage q e ∙ by_stage_lem b)

-- ---- each refusal exactly when its row is the first that applies
module _ (g : Given) (room : ℕ) where
  nil : first_of g room [] ≡ 0
  unfolding first_of
  nil = refl

  cons : (row : Row) (list : List Row) → first_of g room (row ∷ list) ≡ cond (test g room row) (number_of row) (first_of g room list)
  unfolding first_of
  cons row list = refl

  one_row_lem : (a b : Row) → First g room a → First g room b → a ≡ b
  one_row_lem = only_first stage_of turn_of known

  pub exactly_when : ExactlyWhen g room
  exactly_when = go (search_first (test g room) (rows g room))
    where
      go : NoneOf (test g room) (rows g room) ⊎ Leads (test g room) (rows g room) → ExactlyWhen g room
      go (inl n) =
          let none = no_row stage_of turn_of (test g room) (rows g room) (told g room) (listed g room) n in
          let says = by_rows g room ∙ none_found (test g room) number_of 0 (first_of g room) nil cons (rows g room) n in record {
            refused_by = λ n. ((λ h. absurd (h.1 (sym h.0 ∙ says))), (λ w. absurd (none w.0 w.1.applies)));
            one_row = one_row_lem;
            accepted = ((λ h. none), (λ h. says));
          }
      go (inr r) =
          let first = first_row stage_of turn_of (test g room) (rows g room) (told g room) (listed g room) (exists g room) (sorted g room) r in
          let says = by_rows g room ∙ found (test g room) number_of 0 (first_of g room) nil cons r in record {
            refused_by = λ n. ((λ h. (r.one, first, sym says ∙ h.0)), (λ w. (says ∙ (ap number_of (one_row_lem r.one w.0 first w.1) ∙ w.2), λ z. nonzero w.0 (w.2 ∙ z))));
            one_row = one_row_lem;
            accepted = ((λ h. absurd (nonzero r.one (sym says ∙ h))), (λ h. absurd (h r.one first.applies)));
          }
