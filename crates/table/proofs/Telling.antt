-- What an entry tells, truth value by truth value, is what the rules say of the signs. Assumes nothing.
use mathlib.Core.Path.{◌≡◌, refl, sym, ap, ◌∙◌}
use mathlib.Core.Bool.{Bool, true, false, ◌||◌}
use mathlib.Core.List.{List, map}
use Prim.Native.Nat.{ℕ, zero, suc, ◌<◌}
use native.Mathlib.Omega.{arith}
use Rattle.floats.specs.Lists.{all, any}
use Rattle.floats.proofs.Lists.{left, fails_all}
use Rattle.lines.specs.Lines.{lines, three, up_from, start, finish, sign, signs_at}
use Rattle.lines.specs.Crossings.{crosses, some_plus}
use Rattle.order.proofs.Every.{in_three}
use Rattle.ring.specs.Flags.{vertex_in}
use Rattle.table.specs.Table.{digit_of, flags_in, in_v_of, entry_for, Tells, MinusThrice, TableTells}
use Rattle.table.proofs.Digits.{there_and_back}
use Rattle.table.proofs.Entries.{reads_in_v, reads_crossed}

-- the truth values of the digit of three of them
flag_at : (f : ℕ → Bool) (a : ℕ) → a < 3 → sign (flags_in (digit_of (map f three))) a ≡ f a
flag_at f zero h = ap (λ s. sign s 0) (there_and_back (f 0) (f 1) (f 2))
flag_at f (suc zero) h = ap (λ s. sign s 1) (there_and_back (f 0) (f 1) (f 2))
flag_at f (suc (suc zero)) h = ap (λ s. sign s 2) (there_and_back (f 0) (f 1) (f 2))
flag_at f (suc (suc (suc a))) h = absurd (omega (arith, h))

-- plus on some line, or minus on all three
either_way : (x y z : Bool) → (((x ≡ false) × (y ≡ false) × (z ≡ false)) → ⊥) → (x || (y || (z || false))) ≡ true
either_way true y z n = refl
either_way false true z n = refl
either_way false false true n = refl
either_way false false false n = absurd (n (refl, refl, refl))

module _ (ss : List (List Bool)) where
  plus_somewhere : (i : ℕ) → (MinusThrice ss i → ⊥) → some_plus 3 (signs_at ss i) ≡ true
  unfolding some_plus any lines up_from
  plus_somewhere i n = either_way (signs_at ss i 0) (signs_at ss i 1) (signs_at ss i 2) (λ m. n (thrice m))
    where
      thrice : (signs_at ss i 0 ≡ false) × (signs_at ss i 1 ≡ false) × (signs_at ss i 2 ≡ false) → MinusThrice ss i
      thrice m zero h = m.0
      thrice m (suc zero) h = m.1
      thrice m (suc (suc zero)) h = m.2
      thrice m (suc (suc (suc a))) h = absurd (omega (arith, h))

  minus_everywhere : (i : ℕ) → MinusThrice ss i → some_plus 3 (signs_at ss i) ≡ false
  unfolding some_plus any lines up_from
  minus_everywhere i m = rw (m 0 (omega arith), m 1 (omega arith), m 2 (omega arith)) refl

  module _ (n : (i : ℕ) → i < 3 → MinusThrice ss i → ⊥) where
    none : all (λ i. some_plus 3 (signs_at ss i)) three ≡ true
    unfolding all
    none = rw (plus_somewhere 0 (n 0 (omega arith)), plus_somewhere 1 (n 1 (omega arith)), plus_somewhere 2 (n 2 (omega arith))) refl

    tells : Tells ss
    unfolding in_v_of
    tells = record {
      crossings = λ e a h k. ap (λ d. sign (flags_in d) a) (reads_crossed ss none e h) ∙ flag_at (crosses (signs_at ss (start e)) (signs_at ss (finish e))) a k;
      vertices = λ i h. ap (λ d. sign (flags_in d) i) (reads_in_v ss none) ∙ flag_at (vertex_in (signs_at ss)) i h;
    }

  zero_there : (i : ℕ) → i < 3 → MinusThrice ss i → entry_for ss ≡ 0
  unfolding entry_for
  zero_there i h m = sym (left _ (fails_all (λ i. some_plus 3 (signs_at ss i)) three (in_three i h) (minus_everywhere i m)) refl)

pub table_tells : TableTells
table_tells = record { told = tells; holds_zero = zero_there }
