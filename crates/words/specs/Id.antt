-- 02, No. 6, as a command has it: which words are ids. Definitions and statements.
use Rattle.std.specs.Prelude.{ℕ, ◌+◌, ◌-◌, ◌*◌, ◌<◌, ◌≡◌, ◌↔◌, Bool, true, false, ◌&&◌, cond, List, [], ◌∷◌, eqb, ltb, Option, Some, None}
use Rattle.text.specs.Decimal.{decimal, read_on, read}

-- what a word is taken for: the id that it is, or none, and then 0 stands beside it
pub record Id : Type 0 where
  pub there : Bool
  pub id : ℕ

-- a word is an id: the decimal of a number below 2^32
pub record IsId (word : List ℕ) (n : ℕ) : Type 0 where
  pub in_range : n < 4294967296
  pub written : word ≡ decimal n

-- two texts are the same, byte by byte
unfoldable pub same : List ℕ → List ℕ → Bool
same [] [] = true
same [] (y ∷ ys) = false
same (x ∷ xs) [] = false
same (x ∷ xs) (y ∷ ys) = eqb x y && same xs ys

-- a number, where it is below 2^32
abbrev pub in_range : ℕ → Option ℕ
in_range n = cond (ltb n 4294967296) (Some n) None

-- the number behind so much of a word, with one more byte as a digit
abbrev pub one_more : ℕ → ℕ → Option ℕ
one_more n b = in_range (10 * n + (b - 48))

-- the number that bytes stand for as digits, where it is below 2^32
unfoldable pub number_in : List ℕ → Option ℕ
unfolding read_on
number_in word = in_range (read word)

abbrev pub no_id : Id
no_id = record { there = false; id = 0 }

-- the same, of an id or none as the code has it
abbrev pub told : Option ℕ → Id
told None = no_id
told (Some n) = record { there = true; id = n }

-- no second answer of the code is told as the same
abbrev pub NoSecondTold : Type 0
NoSecondTold = (a b : Option ℕ) → told a ≡ told b → a ≡ b

-- what a word is taken for: it is read as digits, and is an id if that number is in range and its decimal is the word
unfoldable pub id_of : List ℕ → Id
unfolding read_on same decimal
id_of word = let n = read word in cond (ltb n 4294967296 && same (decimal n) word) (record { there = true; id = n }) no_id

-- what a command with so many words, its own name among them, is asked for: one id, behind its name
unfoldable pub asked : ℕ → List ℕ → Id
unfolding id_of
asked count word = cond (eqb count 2) (id_of word) no_id

-- a word is taken for an id exactly if it is one, and for that one
pub record IdRead (word : List ℕ) : Type 0 where
  pub there : ((id_of word).there ≡ true) ↔ ((n : ℕ) × IsId word n)
  pub that : (n : ℕ) → IsId word n → (id_of word).id ≡ n

abbrev pub IdsRead : Type 0
IdsRead = (word : List ℕ) → IdRead word

-- ids worked by hand: 0, 7 and 4294967295 are ids; 4294967296, 4294967303, 07, 00, +7, -0, "7 ", " 7", 7a and no bytes are none
pub record WordsWorked : Type 0 where
  pub nought : id_of (48 ∷ []) ≡ record { there = true; id = 0 }
  pub seven : id_of (55 ∷ []) ≡ record { there = true; id = 7 }
  pub greatest : id_of (52 ∷ 50 ∷ 57 ∷ 52 ∷ 57 ∷ 54 ∷ 55 ∷ 50 ∷ 57 ∷ 53 ∷ []) ≡ record { there = true; id = 4294967295 }
  pub too_great : id_of (52 ∷ 50 ∷ 57 ∷ 52 ∷ 57 ∷ 54 ∷ 55 ∷ 50 ∷ 57 ∷ 54 ∷ []) ≡ no_id
  pub wrapped : id_of (52 ∷ 50 ∷ 57 ∷ 52 ∷ 57 ∷ 54 ∷ 55 ∷ 51 ∷ 48 ∷ 51 ∷ []) ≡ no_id
  pub zero_before : id_of (48 ∷ 55 ∷ []) ≡ no_id
  pub two_zeros : id_of (48 ∷ 48 ∷ []) ≡ no_id
  pub plus : id_of (43 ∷ 55 ∷ []) ≡ no_id
  pub minus_zero : id_of (45 ∷ 48 ∷ []) ≡ no_id
  pub space_behind : id_of (55 ∷ 32 ∷ []) ≡ no_id
  pub space_before : id_of (32 ∷ 55 ∷ []) ≡ no_id
  pub letter : id_of (55 ∷ 97 ∷ []) ≡ no_id
  pub empty : id_of [] ≡ no_id
