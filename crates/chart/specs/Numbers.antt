-- 02, No. 6: metres with two decimals, from whole centimetres, as bytes. Definitions only.
use Rattle.std.specs.Prelude.{ℕ, suc, ◌/◌, ◌%◌, List, [], ◌∷◌, ◌++◌, ℤ, pos, negsuc}
use Rattle.text.specs.Decimal.{digit, decimal}

-- the minus sign, and the decimal point
abbrev pub minus : ℕ
minus = 45

abbrev pub point : ℕ
point = 46

-- so many centimetres, without a sign: the whole metres, the point, and two decimals
unfoldable pub size_text : ℕ → List ℕ
unfolding decimal
size_text n = decimal (n / 100) ++ (point ∷ digit (n / 10 % 10) ∷ digit (n % 10) ∷ [])

-- a number of centimetres: the minus sign stands before the whole number where that is below zero, so zero has none
unfoldable pub metres : ℤ → List ℕ
unfolding size_text
metres (pos n) = size_text n
metres (negsuc n) = minus ∷ size_text (suc n)
