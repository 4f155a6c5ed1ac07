-- 01, "The leak list": numbers are decimal. Definitions and statements.
use Rattle.std.specs.Prelude.{ℕ, zero, suc, ◌+◌, ◌-◌, ◌*◌, ◌/◌, ◌%◌, ◌<◌, ◌≤◌, ◌≡◌, Bool, true, false, ◌&&◌, ltb, leb, length, get_or}
use mathlib.Core.List.{List, [], ◌∷◌, ◌++◌, Memᴰ}

-- the byte of a digit; 48 is that of 0
abbrev pub digit : ℕ → ℕ
digit d = 48 + d

-- a byte is a digit's; 57 is that of 9
abbrev pub is_digit : ℕ → Bool
is_digit b = leb 48 b && leb b 57

-- a number under ten is its digit; any other is its tens, put down by `tens`, and then its last digit
abbrev pub put_down : Bool → (ℕ → List ℕ) → ℕ → List ℕ
put_down true tens n = digit n ∷ []
put_down false tens n = tens (n / 10) ++ (digit (n % 10) ∷ [])

-- .. and so on with the tens, so many times at most
unfoldable pub decimal_by : ℕ → ℕ → List ℕ
decimal_by zero n = digit n ∷ []
decimal_by (suc times) n = put_down (ltb n 10) (decimal_by times) n

-- n times are enough
unfoldable pub decimal : ℕ → List ℕ
unfolding decimal_by
decimal n = decimal_by n n

-- the number that digits stand for, read from the left, `before` being what was read
unfoldable pub read_on : ℕ → List ℕ → ℕ
read_on before [] = before
read_on before (b ∷ bytes) = read_on (10 * before + (b - 48)) bytes

abbrev pub read : List ℕ → ℕ
read bytes = read_on 0 bytes

-- a text is n in decimal: it has digits only, one at least, reads back as n, and begins with 0 only if that is all
pub record InDecimal (n : ℕ) (text : List ℕ) : Type 0 where
  pub digits : (b : ℕ) → Memᴰ b text → (48 ≤ b) × (b ≤ 57)
  pub some : 0 < length text
  pub reads_back : read text ≡ n
  pub no_leading_zero : get_or text 0 0 ≡ 48 → length text ≡ 1

abbrev pub Decimals : Type 0
Decimals = (n : ℕ) → InDecimal n (decimal n)
