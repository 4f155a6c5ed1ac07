-- A digit of three truth values, and a number of three digits, there and back. Assumes nothing.
use mathlib.Core.Path.{◌≡◌, refl, ap, ap₂, ◌∙◌}
use mathlib.Core.Bool.{Bool, true, false, cond}
use mathlib.Core.List.{List, [], ◌∷◌}
use Prim.Native.Nat.{ℕ, ◌+◌, ◌*◌, ◌/◌, ◌%◌, ◌<◌}
use native.Mathlib.Omega.{arith}
use lib.Bits.{bit_or}
use lib.Dec.{ltb}
use lib.ListN.{get_or}
use mir.Val.{bool_byte}
use borrow.Author.Tests.{ltb-true}
use Rattle.floats.proofs.Lists.{so, each, each_at, same_by_three}
use Rattle.lines.specs.Lines.{sign}
use Rattle.table.specs.Table.{digit_of, flags_in, index_of, signs_in}

-- the three as one digit
abbrev digit : Bool → Bool → Bool → ℕ
digit x y z = cond x 4 0 + cond y 2 0 + cond z 1 0

-- shifted to their places, as the code does
abbrev shifted : Bool → Bool → Bool → ℕ
shifted x y z = bit_or (bool_byte x * 4 % 65536) (bit_or (bool_byte y * 2 % 65536) (bool_byte z))

pub is_digit : (x y z : Bool) → shifted x y z ≡ digit x y z
unfolding each
is_digit = same_by_three shifted digit tt

pub below_eight : (x y z : Bool) → digit x y z < 8
unfolding each
below_eight x y z =
    ltb-true (digit x y z) 8
    (so (each_at (λ z. ltb (digit x y z) 8)
    (each_at (λ y. each (λ z. ltb (digit x y z) 8))
    (each_at (λ x. each (λ y. each (λ z. ltb (digit x y z) 8))) tt x) y) z))

-- a digit's truth values
pub there_and_back : (x y z : Bool) → flags_in (digit x y z) ≡ x ∷ y ∷ z ∷ []
there_and_back true true true = refl
there_and_back true true false = refl
there_and_back true false true = refl
there_and_back true false false = refl
there_and_back false true true = refl
there_and_back false true false = refl
there_and_back false false true = refl
there_and_back false false false = refl

-- those of a longer number are those of its last digit
last_digit : (a d : ℕ) → d < 8 → flags_in (8 * a + d) ≡ flags_in d
last_digit a d h = rw (first, second, third) refl
  where
    first : (8 * a + d) / 4 % 2 ≡ d / 4 % 2
    first = omega (arith, h)

    second : (8 * a + d) / 2 % 2 ≡ d / 2 % 2
    second = omega (arith, h)

    third : (8 * a + d) % 2 ≡ d % 2
    third = omega (arith, h)

-- ---- nine signs
-- as they stand in the lists
abbrev nine : List (List Bool) → List (List Bool)
nine ss =
    let row : ℕ → List Bool = λ i. (let s = get_or ss i [] in sign s 0 ∷ sign s 1 ∷ sign s 2 ∷ []) in
    row 0 ∷ row 1 ∷ row 2 ∷ []

pub digit_below : (s : List Bool) → digit_of s < 8
digit_below s = below_eight (sign s 0) (sign s 1) (sign s 2)

module _ (a b c : ℕ) (hb : b < 8) (hc : c < 8) where
  first_digit : (64 * a + 8 * b + c) / 64 ≡ a
  first_digit = omega (arith, hb, hc)

  second_digit : (64 * a + 8 * b + c) / 8 ≡ 8 * a + b
  second_digit = omega (arith, hb, hc)

  third_digit : 64 * a + 8 * b + c ≡ 8 * (8 * a + b) + c
  third_digit = omega arith

-- an index stands for the signs that it was made of
pub signs_back : (ss : List (List Bool)) → signs_in (index_of ss) ≡ nine ss
signs_back ss =
    let d : ℕ → ℕ = λ i. digit_of (get_or ss i []) in
    let b : (i : ℕ) → d i < 8 = λ i. digit_below (get_or ss i []) in
    let back : (s : List Bool) → flags_in (digit_of s) ≡ sign s 0 ∷ sign s 1 ∷ sign s 2 ∷ [] = λ s. there_and_back (sign s 0) (sign s 1) (sign s 2) in
    ap₂ ◌∷◌ (ap flags_in (first_digit (d 0) (d 1) (d 2) (b 1) (b 2)) ∙ back (get_or ss 0 []))
    (ap₂ (λ s t. s ∷ t ∷ []) (ap flags_in (second_digit (d 0) (d 1) (d 2) (b 1) (b 2)) ∙ (last_digit (d 0) (d 1) (b 1) ∙ back (get_or ss 1 [])))
    (ap flags_in (third_digit (d 0) (d 1) (d 2) (b 1) (b 2)) ∙ (last_digit (8 * d 0 + d 1) (d 2) (b 2) ∙ back (get_or ss 2 []))))
