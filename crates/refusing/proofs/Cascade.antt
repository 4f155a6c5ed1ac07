-- The refusals one after the other, each where those before it say nothing. Assumes nothing.
use Prim.Native.Nat.{ℕ}
use mathlib.Core.Path.{◌≡◌, refl, ◌∙◌}
use mathlib.Core.List.{[]}
use borrow.Author.Tests.{ne_eqb}
use Rattle.filing.specs.Given.{Given, given_of, recordings, triangles, triangle_in}
use Rattle.filing.specs.Refusals.{number_if, or_else, first_from, is_unequal, entry_number, is_wrong_sum, triangle_number, is_too_many, has_no_room, refusal}

-- the first of two numbers, where it says something and where not
stop : (a rest : ℕ) {n : ℕ} → n ≡ a → (n ≡ 0 → ⊥) → n ≡ or_else a rest
stop a rest {n} e z = rw (← e, ne_eqb n 0 z) refl

go : (a rest : ℕ) → 0 ≡ a → rest ≡ or_else a rest
go a rest e = rw (← e) refl

module _ (g : Given) (room : ℕ) where
  abbrev entries_say : ℕ
  entries_say = first_from (entry_number g) (recordings g) 0

  abbrev triangles_say : ℕ
  triangles_say = first_from (triangle_number (given_of [] [] [] [] g.numbers)) (triangles g) 0

  abbrev last_says : ℕ
  last_says = or_else (number_if (is_too_many g) 13) (number_if (has_no_room g room) 19)

  abbrev after_sum : ℕ
  after_sum = or_else triangles_say last_says

  abbrev after_entries : ℕ
  after_entries = or_else (number_if (is_wrong_sum g) 15) after_sum

  abbrev after_lists : ℕ
  after_lists = or_else entries_say after_entries

  -- the cascade, in the words of the code
  in_turn : or_else (number_if (is_unequal g) 15) after_lists ≡ refusal g room
  unfolding refusal triangle_number triangle_in
  in_turn = refl

  pub by_lists : {n : ℕ} → n ≡ number_if (is_unequal g) 15 → (n ≡ 0 → ⊥) → n ≡ refusal g room
  by_lists e z = stop (number_if (is_unequal g) 15) after_lists e z ∙ in_turn

  module _ (u : 0 ≡ number_if (is_unequal g) 15) where
    past_lists : after_lists ≡ refusal g room
    past_lists = go (number_if (is_unequal g) 15) after_lists u ∙ in_turn

    pub by_entry : {n : ℕ} → n ≡ entries_say → (n ≡ 0 → ⊥) → n ≡ refusal g room
    by_entry e z = stop entries_say after_entries e z ∙ past_lists

    module _ (o : 0 ≡ entries_say) where
      past_entries : after_entries ≡ refusal g room
      past_entries = go entries_say after_entries o ∙ past_lists

      pub by_sum : {n : ℕ} → n ≡ number_if (is_wrong_sum g) 15 → (n ≡ 0 → ⊥) → n ≡ refusal g room
      by_sum e z = stop (number_if (is_wrong_sum g) 15) after_sum e z ∙ past_entries

      module _ (s : 0 ≡ number_if (is_wrong_sum g) 15) where
        past_sum : after_sum ≡ refusal g room
        past_sum = go (number_if (is_wrong_sum g) 15) after_sum s ∙ past_entries

        pub by_triangle : {n : ℕ} → n ≡ triangles_say → (n ≡ 0 → ⊥) → n ≡ refusal g room
        by_triangle e z = stop triangles_say last_says e z ∙ past_sum

        pub by_last : 0 ≡ triangles_say → {n : ℕ} → n ≡ last_says → n ≡ refusal g room
        by_last t e = e ∙ (go triangles_say last_says t ∙ past_sum)
