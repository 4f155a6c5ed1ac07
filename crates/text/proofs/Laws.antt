-- Laws of decimals, and of the loop that puts digits. Assumes nothing.
use Prim.Native.Nat.{ℕ, zero, suc, ◌+◌, ◌-◌, ◌/◌, ◌%◌, ◌^◌, ◌<◌, ◌≤◌}
use mathlib.Core.Path.{◌≡◌, refl, ap, ap₂, sym, ◌∙◌}
use mathlib.Core.Bool.{Bool, true, false}
use mathlib.Core.List.{List, [], ◌∷◌, ◌++◌, append_assoc}
use native.Mathlib.Omega.{arith}
use native.Mathlib.Nat.{pow-suc}
use native.Mathlib.Numerals.{add-one}
use lib.ListN.{length, drop, set, length-append, length-set}
use lib.Seq.{drop-cons}
use Rattle.std.proofs.Common.{get_or-set_same}
use Rattle.std.proofs.lemmas.List.{drop-set-lt}
use lib.Dec.{ltb}
use borrow.Author.Tests.{ltb-true, ltb-false, lt-ltb, le-ltb}
use Rattle.text.specs.Decimal.{digit, decimal_by, decimal}
use Rattle.text.specs.Code.{digits}

-- ---- numbers by their tens: what holds under ten, and of a number if of its tens, holds of all
up_to : (P : ℕ → Type 0) → ((n : ℕ) → n < 10 → P n) → ((n : ℕ) → 10 ≤ n → P (n / 10) → P n) → (f n : ℕ) → n ≤ f → P n
up_to P small large zero n h = small n (omega (arith, h))
up_to P small large (suc f) n h = go (ltb n 10) refl (up_to P small large f (n / 10) (omega (arith, h)))
  where
    go : (b : Bool) → ltb n 10 ≡ b → P (n / 10) → P n
    go true e tens = small n (ltb-true n 10 e)
    go false e tens = large n (ltb-false n 10 e) tens

pub by_tens : (P : ℕ → Type 0) → ((n : ℕ) → n < 10 → P n) → ((n : ℕ) → 10 ≤ n → P (n / 10) → P n) → (n : ℕ) → P n
by_tens P small large n = up_to P small large n n (omega arith)

-- ---- decimals
by_small : (f n : ℕ) → n < 10 → decimal_by f n ≡ digit n ∷ []
unfolding decimal_by
by_small zero n h = refl
by_small (suc f) n h = rw (lt-ltb n 10 h) refl

by_large : (f n : ℕ) → 10 ≤ n → decimal_by (suc f) n ≡ decimal_by f (n / 10) ++ (digit (n % 10) ∷ [])
unfolding decimal_by
by_large f n h = rw (le-ltb n 10 h) refl

-- more tens than a number has change nothing
by_more : (f g n : ℕ) → n ≤ f → n ≤ g → decimal_by f n ≡ decimal_by g n
by_more zero g n p q = by_small zero n (omega (arith, p)) ∙ sym (by_small g n (omega (arith, p)))
by_more (suc f) zero n p q = by_small (suc f) n (omega (arith, q)) ∙ sym (by_small zero n (omega (arith, q)))
by_more (suc f) (suc g) n p q = go (ltb n 10) refl (by_more f g (n / 10) (omega (arith, p)) (omega (arith, q)))
  where
    go : (b : Bool) → ltb n 10 ≡ b → decimal_by f (n / 10) ≡ decimal_by g (n / 10) → decimal_by (suc f) n ≡ decimal_by (suc g) n
    go true e next = by_small (suc f) n (ltb-true n 10 e) ∙ sym (by_small (suc g) n (ltb-true n 10 e))
    go false e next = by_large f n (ltb-false n 10 e) ∙ (ap (λ t. t ++ (digit (n % 10) ∷ [])) next ∙ sym (by_large g n (ltb-false n 10 e)))

pub under_ten : (n : ℕ) → n < 10 → decimal n ≡ digit n ∷ []
unfolding decimal
under_ten n h = by_small n n h

pub tens_and_last : (n : ℕ) → 10 ≤ n → decimal n ≡ decimal (n / 10) ++ (digit (n % 10) ∷ [])
unfolding decimal
tens_and_last n h =
    ap (λ f. decimal_by f n) (pred_suc n h) ∙ (by_large (n - 1) n h ∙ ap (λ t. t ++ (digit (n % 10) ∷ [])) (by_more (n - 1) (n / 10) (n / 10) (omega (arith, h)) (omega arith)))
  where
    pred_suc : (n : ℕ) → 10 ≤ n → n ≡ suc (n - 1)
    pred_suc n h = omega (arith, h)

pub width_small : (n : ℕ) → n < 10 → length (decimal n) ≡ 1
width_small n h = ap length (under_ten n h)

pub width_large : (n : ℕ) → 10 ≤ n → length (decimal n) ≡ length (decimal (n / 10)) + 1
width_large n h = ap length (tens_and_last n h) ∙ length-append (decimal (n / 10)) (digit (n % 10) ∷ [])

-- a number below a power of ten has no more digits than that power has zeros
pub width_most : (k n : ℕ) → n < 10 ^ suc k → length (decimal n) ≤ suc k
width_most zero n h = let w = width_small n h in omega (arith, w)
width_most (suc k) n h = go (ltb n 10) refl (width_most k (n / 10) (let p = pow-suc 10 (suc k) in omega (arith, h, p)))
  where
    go : (b : Bool) → ltb n 10 ≡ b → length (decimal (n / 10)) ≤ suc k → length (decimal n) ≤ suc (suc k)
    go true e tens = let w = width_small n (ltb-true n 10 e) in omega (arith, w)
    go false e tens = let w = width_large n (ltb-false n 10 e) in omega (arith, w, tens)

-- and one that is not has more
width_least : (k n : ℕ) → 10 ^ k ≤ n → suc k ≤ length (decimal n)
width_least zero n h = go (ltb n 10) refl
  where
    go : (b : Bool) → ltb n 10 ≡ b → 1 ≤ length (decimal n)
    go true e = let w = width_small n (ltb-true n 10 e) in omega (arith, w)
    go false e = let w = width_large n (ltb-false n 10 e) in omega (arith, w)
width_least (suc k) n h =
    let p = pow-suc 10 k in
    let q = power_some k in
    let w = width_large n (omega (arith, h, p, q)) in
    let tens = width_least k (n / 10) (omega (arith, h, p)) in
    omega (arith, w, tens)
  where
    power_some : (k : ℕ) → 1 ≤ 10 ^ k
    power_some zero = omega arith
    power_some (suc k) = let p = pow-suc 10 k in let q = power_some k in omega (arith, p, q)

pub width_is : (k n : ℕ) → 10 ^ k ≤ n → n < 10 ^ suc k → length (decimal n) ≡ suc k
width_is k n h g = let a = width_least k n h in let b = width_most k n g in omega (arith, a, b)

-- ---- the code's digits
pub digits_none : (n : ℕ) → digits 0 n ≡ []
unfolding digits
digits_none n = refl

digits-suc : (k n : ℕ) → digits (suc k) n ≡ digits k (n / 10) ++ (digit (n % 10) ∷ [])
unfolding digits
digits-suc k n = refl

pub digits-length : (k n : ℕ) → length (digits k n) ≡ k
unfolding digits
digits-length zero n = refl
digits-length (suc k) n = length-append (digits k (n / 10)) (digit (n % 10) ∷ []) ∙ (ap (λ m. m + 1) (digits-length k (n / 10)) ∙ add-one k)

-- as many digits as the decimal has are the decimal
pub all_digits : (n : ℕ) → digits (length (decimal n)) n ≡ decimal n
all_digits = by_tens (λ n. digits (length (decimal n)) n ≡ decimal n) small large
  where
    last : (n : ℕ) → n < 10 → n % 10 ≡ n
    last n h = omega (arith, h)

    small : (n : ℕ) → n < 10 → digits (length (decimal n)) n ≡ decimal n
    small n h = ap (λ k. digits k n) (width_small n h) ∙ (digits-suc 0 n ∙ (ap₂ (λ t d. t ++ (digit d ∷ [])) (digits_none (n / 10)) (last n h) ∙ sym (under_ten n h)))

    large : (n : ℕ) → 10 ≤ n → digits (length (decimal (n / 10))) (n / 10) ≡ decimal (n / 10) → digits (length (decimal n)) n ≡ decimal n
    large n h tens =
        ap (λ k. digits k n) (width_large n h ∙ add-one (length (decimal (n / 10))))
        ∙ (digits-suc (length (decimal (n / 10))) n ∙ (ap (λ t. t ++ (digit (n % 10) ∷ [])) tens ∙ sym (tens_and_last n h)))

-- ---- digits put from the last to the first
-- a value that is stored, and what lies behind it
drop-stored : (room : List ℕ) (j d : ℕ) → j < length room → drop j (set room j d) ≡ d ∷ drop (suc j) room
drop-stored room j d h =
    let n = length-set room j d in
    drop-cons (set room j d) j 0 (omega (arith, h, n)) ∙ ap₂ (λ (x : ℕ) (xs : List ℕ). x ∷ xs) (get_or-set_same room j d 0 h) (drop-set-lt (suc j) room j d (omega arith))

-- a digit more, put in front of those that are there
digits_more : (room : List ℕ) (j m d : ℕ) → j < length room → d ≡ digit (m % 10) → digits j (m / 10) ++ drop j (set room j d) ≡ digits (suc j) m ++ drop (suc j) room
digits_more room j m d h e =
    ap (λ r. digits j (m / 10) ++ r) (drop-stored room j d h ∙ ap (λ x. x ∷ drop (suc j) room) e)
    ∙ (sym (append_assoc (digits j (m / 10)) (digit (m % 10) ∷ []) (drop (suc j) room)) ∙ ap (λ t. t ++ drop (suc j) room) (sym (digits-suc j m)))

-- a turn of the loop that puts them
pub digits_turn : (room : List ℕ) (i m d : ℕ) → 0 < i → i ≤ length room → d ≡ digit (m % 10) → digits (i - 1) (m / 10) ++ drop (i - 1) (set room (i - 1) d) ≡ digits i m ++ drop i room
digits_turn room i m d h g e =
    let s : suc (i - 1) ≡ i = omega (arith, h) in
    digits_more room (i - 1) m d (omega (arith, h, g)) e ∙ ap (λ k. digits k m ++ drop k room) s
