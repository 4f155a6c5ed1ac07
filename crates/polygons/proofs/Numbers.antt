-- A number's sign and size by its 32 bits, and its text in the pieces in which the code puts it. Assumes nothing.
use Prim.Native.Nat.{ℕ, suc, ◌+◌, ◌-◌, ◌*◌, ◌/◌, ◌%◌, ◌^◌, ◌<◌, ◌≤◌}
use mathlib.Core.Path.{◌≡◌, refl, sym, ap, ap₂, subst, ◌∙◌}
use mathlib.Core.Bool.{Bool, true, false}
use mathlib.Core.List.{List, [], ◌∷◌, ◌++◌, append_assoc}
use native.Mathlib.Omega.{arith}
use lib.Dec.{ltb}
use borrow.Author.Tests.{lt-ltb, le-ltb, ltb-true, ltb-false}
use lib.IntN.{ℤ, pos, negsuc, nat_abs}
use lib.ListN.{length, set, length-append, length-set}
use mir.Val.{bool_byte, sel, to_z, of_z}
use mir.Syntax.{w16, w32}
use Rattle.std.specs.Int.{to_le_bytes}
use lib.Signed.{lt_z}
use Rattle.std.proofs.lemmas.Int.{of_z-to_z}
use Rattle.text.specs.Code.{digits}
use Rattle.text.specs.Decimal.{digit, decimal}
use Rattle.text.specs.Room.{Measured, Put}
use Rattle.text.proofs.Decimal.{decimals}
use Rattle.text.proofs.Room.{put_two, put_as}
use Rattle.text.proofs.Laws.{width_small, width_most, width_is, tens_and_last, all_digits}
use Rattle.layout.specs.Bytes.{signed}
use Rattle.chart.specs.Numbers.{size_text, metres}
use Rattle.polygons.specs.Code.{pair_of, sign_text}
use Rattle.polygons.proofs.Stores.{one-Put, Put-over}

-- ---- sign and size
plus : (v : ℕ) → v < 2147483648 → signed v ≡ pos v
unfolding signed
plus v h = rw (lt-ltb v 2147483648 h) refl

minus : (v : ℕ) → 2147483648 ≤ v → v < 4294967296 → signed v ≡ negsuc (4294967296 - suc v)
unfolding signed
minus v h k = rw (le-ltb v 2147483648 h, lt-ltb v 4294967296 k) refl

pub cast_is : (v : ℕ) → v < 4294967296 → to_z w32 v ≡ signed v
cast_is v k = go (ltb v 2147483648) refl
  where
    go : (b : Bool) → ltb v 2147483648 ≡ b → to_z w32 v ≡ signed v
    go true e = ap (λ b. sel b (pos v) (negsuc (4294967296 - suc v))) e ∙ sym (plus v (ltb-true v 2147483648 e))
    go false e = ap (λ b. sel b (pos v) (negsuc (4294967296 - suc v))) e ∙ sym (minus v (ltb-false v 2147483648 e) k)

-- an i32 as it is read again from its bits
pub read_again : (v : ℕ) {z : ℤ} → v < 4294967296 → z ≡ to_z w32 v → to_z w32 (of_z w32 z) ≡ signed v
read_again v k e = ap (λ z. to_z w32 (of_z w32 z)) e ∙ (ap (to_z w32) (of_z-to_z w32 v k) ∙ cast_is v k)

pub sign_Measured : (z : ℤ) → Measured (sign_text z) (bool_byte (lt_z z (pos 0))) × (bool_byte (lt_z z (pos 0)) ≤ 1)
unfolding sign_text
sign_Measured (pos n) = rw (le-ltb n 0 (omega arith)) (refl, omega arith)
sign_Measured (negsuc n) = (refl, omega arith)

pub metres_is : (z : ℤ) → sign_text z ++ size_text (nat_abs z) ≡ metres z
unfolding sign_text metres
metres_is (pos n) = refl
metres_is (negsuc n) = refl

-- ---- lengths
pub size_length : (n : ℕ) → length (size_text n) ≡ length (decimal (n / 100)) + 3
unfolding size_text
size_length n = length-append (decimal (n / 100)) _

pub metres_length : (z : ℤ) {l m : ℕ} → Measured (sign_text z) l → Measured (size_text (nat_abs z)) m → Measured (metres z) (l + m)
metres_length z {l} {m} h k =
    let a = length-append (sign_text z) (size_text (nat_abs z)) in
    let b = ap length (metres_is z) in
    omega (arith, a, b, h, k)

-- ---- digits
pub pair_is : (w : ℕ) → 12336 + 256 * (w % 100) - 2559 * (w % 100 / 10) ≡ pair_of w
pair_is w = below (w % 100) (omega arith) ∙ ap₂ (λ t o. 48 + t + 256 * (48 + o)) (tens w) (ones w)
  where
    below : (c : ℕ) → c < 100 → 12336 + 256 * c - 2559 * (c / 10) ≡ 48 + c / 10 + 256 * (48 + c % 10)
    below c h = omega (arith, h)

    tens : (w : ℕ) → w % 100 / 10 ≡ w / 10 % 10
    tens w = omega arith

    ones : (w : ℕ) → w % 100 % 10 ≡ w % 10
    ones w = omega arith

pub one-digit : (w : ℕ) → digit (w % 10) ∷ [] ≡ digits 1 w
unfolding digits
one-digit w = refl

pub two_digits : (p w : ℕ) → p ≡ pair_of w → to_le_bytes w16 p ≡ digits 2 w
unfolding digits
two_digits p w e = ap₂ (λ a b. a ∷ b ∷ []) (low p (w / 10 % 10) (w % 10) (omega arith) (omega arith) e) (high p (w / 10 % 10) (w % 10) (omega arith) (omega arith) e)
  where
    low : (p t o : ℕ) → t < 10 → o < 10 → p ≡ 48 + t + 256 * (48 + o) → p % 256 ≡ 48 + t
    low p t o h k e = omega (arith, h, k, e)

    high : (p t o : ℕ) → t < 10 → o < 10 → p ≡ 48 + t + 256 * (48 + o) → p / 256 % 256 ≡ 48 + o
    high p t o h k e = omega (arith, h, k, e)

tens_again : (w : ℕ) → w / 10 / 10 ≡ w / 100
tens_again w = omega arith

tens_thrice : (w : ℕ) → w / 10 / 10 / 10 ≡ w / 100 / 10
tens_thrice w = omega arith

pub four_digits : (w : ℕ) → digits 2 (w / 100) ++ digits 2 w ≡ digits 4 w
unfolding digits
four_digits w = rw (tens_thrice w, tens_again w) refl

-- as many digits as a number has are the number
pub short_is : (k w : ℕ) → 10 ^ k ≤ w → w < 10 ^ suc k → digits (suc k) w ≡ decimal w
short_is k w h g = ap (λ n. digits n w) (sym (width_is k w h g)) ∙ all_digits w

three_digits : (w : ℕ) → digits 1 (w / 100) ++ digits 2 w ≡ digits 3 w
unfolding digits
three_digits w = rw (tens_again w) refl

pub three_is : (w : ℕ) → 100 ≤ w → w < 1000 → digits 1 (w / 100) ++ digits 2 w ≡ decimal w
three_is w h g = three_digits w ∙ short_is 2 w h g

pub small_is : (w : ℕ) → w < 10 → digits 1 w ≡ decimal w
small_is w h = ap (λ n. digits n w) (sym (width_small w h)) ∙ all_digits w

-- four digits behind the rest
pub long_is : (w : ℕ) → 10000 ≤ w → decimal (w / 10000) ++ digits 4 w ≡ decimal w
unfolding digits
long_is w h =
    sym (tens_and_last w (omega (arith, h))
    ∙ (ap (λ t. t ++ (digit (w % 10) ∷ [])) (tens_and_last (w / 10) (omega (arith, h))
    ∙ ap (λ t. t ++ (digit (w / 10 % 10) ∷ [])) (tens_and_last (w / 10 / 10) (omega (arith, h))
    ∙ ap (λ t. t ++ (digit (w / 10 / 10 % 10) ∷ [])) (tens_and_last (w / 10 / 10 / 10) (omega (arith, h)))))
    ∙ (joined (decimal (w / 10 / 10 / 10 / 10)) (digit (w / 10 / 10 / 10 % 10)) (digit (w / 10 / 10 % 10)) (digit (w / 10 % 10)) (digit (w % 10))
    ∙ ap (λ n. decimal n ++ digits 4 w) (whole w))))
  where
    whole : (w : ℕ) → w / 10 / 10 / 10 / 10 ≡ w / 10000
    whole w = omega arith

    joined : (t : List ℕ) (a b c d : ℕ) → (((t ++ (a ∷ [])) ++ (b ∷ [])) ++ (c ∷ [])) ++ (d ∷ []) ≡ t ++ (a ∷ b ∷ c ∷ d ∷ [])
    joined t a b c d = append_assoc ((t ++ (a ∷ [])) ++ (b ∷ [])) (c ∷ []) (d ∷ []) ∙ (append_assoc (t ++ (a ∷ [])) (b ∷ []) (c ∷ d ∷ []) ∙ append_assoc t (a ∷ []) (b ∷ c ∷ d ∷ []))

pub ten_thousand_is : 49 ∷ 48 ∷ 48 ∷ 48 ∷ 48 ∷ [] ≡ decimal 10000
ten_thousand_is = unfold digits in short_is 4 10000 (omega arith) (omega arith)

-- ---- a number in a room
pub number_some : (v : ℕ) → 3 < length (metres (signed v))
number_some v =
    let z = signed v in
    let a = ap length (metres_is z) in
    let b = length-append (sign_text z) (size_text (nat_abs z)) in
    let c = size_length (nat_abs z) in
    let d = (decimals (nat_abs z / 100)).some in
    omega (arith, a, b, c, d)

-- no number is longer than twelve bytes, whatever its 32 bits
pub number_most : (v : ℕ) → v < 4294967296 → length (metres (signed v)) ≤ 12
number_most v k =
    let z = signed v in
    let a = ap length (metres_is z) in
    let b = length-append (sign_text z) (size_text (nat_abs z)) in
    let c = size_length (nat_abs z) in
    let d = width_most 7 (nat_abs z / 100) (let h = size_most v k in omega (arith, h)) in
    let e = sign_Measured z in
    omega (arith, a, b, c, d, e.0, e.1)
  where
    size_most : (v : ℕ) → v < 4294967296 → nat_abs (signed v) ≤ 2147483648
    size_most v k = go (ltb v 2147483648) refl
      where
        go : (b : Bool) → ltb v 2147483648 ≡ b → nat_abs (signed v) ≤ 2147483648
        go true e = let h = ltb-true v 2147483648 e in let s = ap nat_abs (plus v h) in omega (arith, h, s)
        go false e = let h = ltb-false v 2147483648 e in let s = ap nat_abs (minus v h k) in omega (arith, h, s)

module _ (room : List ℕ) (at v : ℕ) {s n : ℕ} (sign : Measured (sign_text (signed v)) s) (size : n ≡ nat_abs (signed v)) (fits : at + length (metres (signed v)) ≤ length room) where
  pub behind_sign : at + s + length (size_text n) ≤ length (set room at 45)
  behind_sign =
      let z = signed v in
      let a = ap length (metres_is z) in
      let b = length-append (sign_text z) (size_text (nat_abs z)) in
      let c = ap (λ k. length (size_text k)) size in
      let d = length-set room at 45 in
      omega (arith, a, b, c, d, sign, fits)

-- over the minus sign where the number has none, and behind it where it has
pub number_put : (room : List ℕ) (at v : ℕ) → v < 4294967296 → {s n : ℕ} → Measured (sign_text (signed v)) s → n ≡ nat_abs (signed v) → at + length (metres (signed v)) ≤ length room → {after : List ℕ} {next : ℕ} → Put (set room at 45) (at + s) (size_text n) after next → Put room at (metres (signed v)) after next
unfolding sign_text
number_put room at v k {s} {n} sign size fits {after} {next} p =
    let q = put_as (ap size_text size) p in
    put_as (metres_is (signed v)) (go (signed v) sign (subst (λ t. at + length t ≤ length room) (sym (metres_is (signed v))) fits) q)
  where
    go : (z : ℤ) → Measured (sign_text z) s → at + length (sign_text z ++ size_text (nat_abs z)) ≤ length room → Put (set room at 45) (at + s) (size_text (nat_abs z)) after next → Put room at (sign_text z ++ size_text (nat_abs z)) after next
    go (pos m) h f q =
        let l = size_length m in
        let e : at + s ≡ at = omega (arith, h) in
        Put-over room 45 (subst (λ i. Put (set room at 45) i (size_text m) after next) e q) f (omega (arith, l))
    go (negsuc m) h f q =
        let e : at + s ≡ at + 1 = omega (arith, h) in
        put_two (one-Put room at 45 (omega (arith, f))) (subst (λ i. Put (set room at 45) i (size_text (suc m)) after next) e q) (omega (arith, f))
