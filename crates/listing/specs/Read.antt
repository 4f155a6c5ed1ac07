-- 01, "The leak list", with 02, No. 1 and No. 7, read back: whoever takes the numbers out of the text, from left to right, has the number of leaks, of each leak its two ids and N, then the number of pairs of recordings that only touch, and last the number of recordings that were formerly held back, and nothing else; and between the first line and the two closing lines there is one for each leak. Definitions and statements.
use Rattle.std.specs.Prelude.{ℕ, ◌+◌, ◌-◌, ◌*◌, ◌≡◌, Bool, true, false, cond, List, [], ◌∷◌, ◌++◌, eqb, length}
use Rattle.floats.specs.Lists.{count}
use Rattle.text.specs.Decimal.{is_digit}
use Rattle.layout.specs.declared.Verdict.{Verdict}
use Rattle.listing.specs.Turns.{each}
use Rattle.listing.specs.Leaks.{Leak, leaks, touching, formerly_held_back}
use Rattle.listing.specs.Words.{list_text, refused_line}

-- the numbers of a text, one for each run of digits; `n` is what was read of the run that one is in
unfoldable pub numbers_by : Bool → ℕ → List ℕ → List ℕ
numbers_by false n [] = []
numbers_by true n [] = n ∷ []
numbers_by false n (b ∷ bs) = cond (is_digit b) (numbers_by true (b - 48) bs) (numbers_by false 0 bs)
numbers_by true n (b ∷ bs) = cond (is_digit b) (numbers_by true (10 * n + (b - 48)) bs) (n ∷ numbers_by false 0 bs)

abbrev pub numbers_in : List ℕ → List ℕ
numbers_in text = numbers_by false 0 text

-- the lines of a text: its line feeds
abbrev pub feeds : List ℕ → ℕ
feeds text = count (eqb 10) text

abbrev pub three_of : Leak → List ℕ
three_of l = l.test ∷ l.train ∷ l.pairs ∷ []

pub record ReadBack (file : List ℕ) : Type 0 where
  pub numbers : numbers_in (list_text file) ≡ length (leaks file) ∷ (each three_of (leaks file) ++ (touching file ∷ formerly_held_back file ∷ []))
  pub lines : feeds (list_text file) ≡ length (leaks file) + 3

abbrev pub ListsReadBack : Type 0
ListsReadBack = (file : List ℕ) → ReadBack file

-- the line of a refusal has its number and its place
pub record RefusalReadBack (v : Verdict) : Type 0 where
  pub numbers : numbers_in (refused_line v) ≡ v.number ∷ v.place ∷ []
  pub lines : feeds (refused_line v) ≡ 1

abbrev pub RefusalsReadBack : Type 0
RefusalsReadBack = (v : Verdict) → RefusalReadBack v
