-- 01, "The leak list": what is written to lent room stands there whole, from a place on, and the rest stays; where the room is too short nothing is written, so the length is known before the first value is put. Said of values of any kind, which are called a text here. Definitions and statements.
use Rattle.std.specs.Prelude.{ℕ, ◌+◌, ◌<◌, ◌≤◌, ◌≡◌, ◌↔◌, Bool, cond, List, ◌++◌, leb, length, take, drop, Option, IsSome, unwrap_or}

module _ {A : Type 0} where
  -- a text is measured by a number: it is so long
  abbrev pub Measured : List A → ℕ → Type 0
  Measured text size = size ≡ length text

  -- there is room for the text from the place on
  abbrev pub fits : List A → ℕ → List A → Bool
  fits room at text = leb (at + length text) (length room)

  -- the room with the text in it; as it was, where it does not fit
  unfoldable pub laid : List A → ℕ → List A → List A
  laid room at text = cond (fits room at text) (take at room ++ text ++ drop (at + length text) room) room

  -- the place behind the text; the same place, where it does not fit
  unfoldable pub behind : List A → ℕ → List A → ℕ
  behind room at text = cond (fits room at text) (at + length text) at

  -- what is promised of putting a text: the room afterwards and the place that is handed back
  pub record Put (room : List A) (at : ℕ) (text after : List A) (next : ℕ) : Type 0 where
    pub after_is : after ≡ laid room at text
    pub next_is : next ≡ behind room at text

  -- the same as facts of the two rooms
  pub record WholeOrNothing (room : List A) (at : ℕ) (text after : List A) (next : ℕ) : Type 0 where
    -- where it fits, the text stands from the place on, and the place behind it is handed back; where not, all is as it was
    pub whole : at + length text ≤ length room → (take (length text) (drop at after) ≡ text) × (next ≡ at + length text)
    pub nothing : length room < at + length text → (after ≡ room) × (next ≡ at)
    -- in both cases the room keeps its length, what lies before the place, and what lies behind
    pub same_length : length after ≡ length room
    pub front : take at after ≡ take at room
    pub rest : drop next after ≡ drop next room

-- no second room and no second place meets the promise
abbrev pub NoSecondPut : Type 1
NoSecondPut = (A : Type 0) (room : List A) (at : ℕ) (text a b : List A) (m n : ℕ) → Put room at text a m → Put room at text b n → (a ≡ b) × (m ≡ n)

-- whatever was put stands there whole or not at all, and the rest is kept
abbrev pub PutsWhole : Type 1
PutsWhole = (A : Type 0) (room : List A) (at : ℕ) (text after : List A) (next : ℕ) → Put room at text after next → WholeOrNothing room at text after next

-- nor do a second room and a second answer, where the answer is the place behind the text if it fits, and none if not
abbrev pub NoSecondPlace : Type 1
NoSecondPlace = (A : Type 0) (room : List A) (at : ℕ) (text a b : List A) (m n : Option ℕ) → Put room at text a (unwrap_or m at) → (IsSome m ↔ (at + length text ≤ length room)) → Put room at text b (unwrap_or n at) → (IsSome n ↔ (at + length text ≤ length room)) → (a ≡ b) × (m ≡ n)
