-- The decimal of every number has digits only, one at least, no needless zero in front, and reads back as the number. Assumes nothing.
use Prim.Native.Nat.{ℕ, ◌+◌, ◌-◌, ◌*◌, ◌/◌, ◌%◌, ◌<◌, ◌≤◌}
use mathlib.Core.Path.{◌≡◌, refl, ap, sym, subst, ◌∙◌}
use mathlib.Core.Bool.{Bool, true, false}
use mathlib.Core.List.Memᴰ.{head as here}
use mathlib.Core.List.Memᴰ.{tail as there}
use mathlib.Core.List.{List, [], ◌∷◌, ◌++◌, Memᴰ}
use native.Mathlib.Omega.{arith}
use lib.Dec.{ltb}
use borrow.Author.Tests.{ltb-true, ltb-false, le-leb}
use lib.ListN.{length, get_or, get_or-append}
use Rattle.text.specs.Decimal.{digit, is_digit, decimal, read_on, read, Decimals}
use Rattle.text.proofs.Laws.{by_tens, under_ten, tens_and_last, width_small, width_large}

abbrev IsDigit : ℕ → Type 0
IsDigit b = (48 ≤ b) × (b ≤ 57)

abbrev pub AllDigits : List ℕ → Type 0
AllDigits text = (b : ℕ) → Memᴰ b text → IsDigit b

pub is_digit_lem : (b : ℕ) → 48 ≤ b → b ≤ 57 → is_digit b ≡ true
is_digit_lem b h k = rw (le-leb 48 b h, le-leb b 57 k) refl

one_digit : (d : ℕ) → d < 10 → AllDigits (digit d ∷ [])
one_digit d h b (here e) = subst IsDigit (sym e) (omega arith, omega (arith, h))
one_digit d h b (there x4) = elim x4 [ ]

append_digits : (xs ys : List ℕ) → AllDigits xs → AllDigits ys → AllDigits (xs ++ ys)
append_digits [] ys p q b m = q b m
append_digits (x ∷ xs) ys p q b (here e) = p b (here e)
append_digits (x ∷ xs) ys p q b (there m) = append_digits xs ys (λ b m. p b (there m)) q b m

all_digits : (n : ℕ) → AllDigits (decimal n)
all_digits = by_tens (λ n. AllDigits (decimal n))
    (λ n h. subst AllDigits (sym (under_ten n h)) (one_digit n h))
    (λ n h tens. subst AllDigits (sym (tens_and_last n h)) (append_digits (decimal (n / 10)) (digit (n % 10) ∷ []) tens (one_digit (n % 10) (omega arith))))

some_digit : (n : ℕ) → 0 < length (decimal n)
some_digit = by_tens (λ n. 0 < length (decimal n)) (λ n h. omega (arith, width_small n h)) (λ n h tens. omega (arith, width_large n h))

read_append : (before : ℕ) (xs ys : List ℕ) → read_on before (xs ++ ys) ≡ read_on (read_on before xs) ys
unfolding read_on
read_append before [] ys = refl
read_append before (x ∷ xs) ys = read_append (10 * before + (x - 48)) xs ys

read_last : (before d : ℕ) → read_on before (digit d ∷ []) ≡ 10 * before + d
unfolding read_on
read_last before d = omega arith

reads_back_lem : (n : ℕ) → read (decimal n) ≡ n
reads_back_lem = by_tens (λ n. read (decimal n) ≡ n) small large
  where
    none_before : (n : ℕ) → 10 * 0 + n ≡ n
    none_before n = omega arith

    small : (n : ℕ) → n < 10 → read (decimal n) ≡ n
    small n h = ap read (under_ten n h) ∙ (read_last 0 n ∙ none_before n)

    again : (n m : ℕ) → m ≡ n / 10 → 10 * m + n % 10 ≡ n
    again n m h = omega (arith, h)

    large : (n : ℕ) → 10 ≤ n → read (decimal (n / 10)) ≡ n / 10 → read (decimal n) ≡ n
    large n h tens = ap read (tens_and_last n h) ∙ (read_append 0 (decimal (n / 10)) (digit (n % 10) ∷ []) ∙ (read_last (read (decimal (n / 10))) (n % 10) ∙ again n (read (decimal (n / 10))) tens))

-- only 0 begins with a zero
first_digit : (n : ℕ) → 0 < n → get_or (decimal n) 0 0 ≡ 48 → ⊥
first_digit = by_tens (λ n. 0 < n → get_or (decimal n) 0 0 ≡ 48 → ⊥) small large
  where
    first_of : (n : ℕ) → n < 10 → get_or (decimal n) 0 0 ≡ 48 + n
    first_of n h = ap (λ t. get_or t 0 0) (under_ten n h)

    small : (n : ℕ) → n < 10 → 0 < n → get_or (decimal n) 0 0 ≡ 48 → ⊥
    small n h p e = let q = sym (first_of n h) ∙ e in omega (arith, q, p)

    large : (n : ℕ) → 10 ≤ n → (0 < n / 10 → get_or (decimal (n / 10)) 0 0 ≡ 48 → ⊥) → 0 < n → get_or (decimal n) 0 0 ≡ 48 → ⊥
    large n h tens p e =
        tens (omega (arith, h)) (sym (get_or-append (decimal (n / 10)) (digit (n % 10) ∷ []) 0 0 (some_digit (n / 10))) ∙ (ap (λ t. get_or t 0 0) (sym (tens_and_last n h)) ∙ e))

no_leading_zero_lem : (n : ℕ) → get_or (decimal n) 0 0 ≡ 48 → length (decimal n) ≡ 1
no_leading_zero_lem n e = go (ltb n 10) refl
  where
    go : (b : Bool) → ltb n 10 ≡ b → length (decimal n) ≡ 1
    go true h = width_small n (ltb-true n 10 h)
    go false h = absurd (first_digit n (omega (arith, ltb-false n 10 h)) e)

pub decimals : Decimals
decimals n = record { digits = all_digits n; some = some_digit n; reads_back = reads_back_lem n; no_leading_zero = no_leading_zero_lem n }
