-- The rows of the writer's refusals as predicates of the lists, apart from the tests, and when each number is said. Statements only.
use Rattle.std.specs.Prelude.{ℕ, ◌+◌, ◌*◌, ◌<◌, ◌≤◌, ◌≡◌, ◌⊎◌, ◌↔◌, length}
use Rattle.floats.specs.Turns.{EarlierBy, FirstBy}
use Rattle.layout.specs.Rows.{BadEntry, IdSeen, OutOfRange, Flat}
use Rattle.filing.specs.Given.{Given, recordings, triangles, id_at, set_at, sum_to, entry_of, triangle_in}
use Rattle.filing.specs.File.{file_length}
use Rattle.filing.specs.Refusals.{Row, unequal, bad_entry, id_again, wrong_sum, out_of_range, flat, too_many, no_room, number_of, refusal}

-- the lists of recordings differ in length, or the numbers are not those of whole triangles
abbrev pub Unequal : Given → Type 0
Unequal g = (length g.counts ≡ length g.ids → ⊥) ⊎ (length g.sets ≡ length g.ids → ⊥) ⊎ (length g.lasts ≡ length g.ids → ⊥) ⊎ ((t : ℕ) → 6 * t ≡ length g.numbers → ⊥)

-- the row applies to the lists and a room of so many bytes; a row of an entry or a triangle only if there is one. What is wrong with an entry or a triangle is what the reader says, and with an entry also set 2
abbrev pub Applies : Given → ℕ → Row → Type 0
Applies g room unequal = Unequal g
Applies g room (bad_entry i) = (i < recordings g) × ((set_at g i ≡ 2) ⊎ BadEntry (entry_of g i) (24 * sum_to g i))
Applies g room (id_again i) = (i < recordings g) × IdSeen (id_at g) i
Applies g room wrong_sum = sum_to g (recordings g) ≡ triangles g → ⊥
Applies g room (out_of_range k) = (6 * k + 6 ≤ length g.numbers) × OutOfRange (triangle_in g k)
Applies g room (flat k) = (6 * k + 6 ≤ length g.numbers) × Flat (triangle_in g k)
Applies g room too_many = 64 < recordings g
Applies g room no_room = (room < file_length g) ⊎ (65536 < file_length g)

-- the order, said once more: 15 at once; the entries; 15 by the counts; the triangles; 13; 19
abbrev pub stage_of : Row → ℕ
stage_of unequal = 0
stage_of (bad_entry i) = 1
stage_of (id_again i) = 1
stage_of wrong_sum = 2
stage_of (out_of_range k) = 3
stage_of (flat k) = 3
stage_of too_many = 4
stage_of no_room = 5

-- entries in turn, 14 before 16; triangles in turn, 17 before 18
abbrev pub turn_of : Row → ℕ
turn_of unequal = 0
turn_of (bad_entry i) = 2 * i
turn_of (id_again i) = 2 * i + 1
turn_of wrong_sum = 0
turn_of (out_of_range k) = 2 * k
turn_of (flat k) = 2 * k + 1
turn_of too_many = 0
turn_of no_room = 0

abbrev pub Earlier : Row → Row → Type 0
Earlier a b = EarlierBy stage_of turn_of a b

-- the row applies and no earlier row does
abbrev pub First : Given → ℕ → Row → Type 0
First g room row = FirstBy stage_of turn_of (Applies g room) row

pub record ExactlyWhen (g : Given) (room : ℕ) : Type 0 where
  -- a number other than 0 is said exactly if it is that of the row that applies with no earlier one applying
  pub refused_by : (n : ℕ) → ((refusal g room ≡ n) × (n ≡ 0 → ⊥)) ↔ ((row : Row) × First g room row × (number_of row ≡ n))
  -- of which there is one at most
  pub one_row : (a b : Row) → First g room a → First g room b → a ≡ b
  -- 0 is said exactly if no row applies
  pub accepted : (refusal g room ≡ 0) ↔ ((row : Row) → Applies g room row → ⊥)
