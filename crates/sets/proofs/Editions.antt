-- Which last bytes there are beside a set, and what they make of a recording. Assumes nothing.
use Prim.Native.Nat.{ℕ}
use mathlib.Core.Path.{◌≡◌, refl, sym, ◌∙◌}
use mathlib.Core.Logic.{◌⊎◌, inl, inr}
use mathlib.Core.Bool.{Bool, true, false, not, ◌&&◌, ◌||◌, true≢false}
use native.Mathlib.Omega.{arith}
use lib.Dec.{eqb}
use borrow.Author.Tests.{eqb-true, eq-eqb}
use Rattle.sets.specs.Editions.{is_wrong_last, ByLast, KnownLast, AllLasts}

pub by_last : ByLast
by_last = record { editions = (refl, refl); training = (refl, refl); test = (refl, refl, refl, refl, refl); retired = (refl, refl, refl) }

module _ (set last : ℕ) where
  right_to : is_wrong_last set last ≡ false → KnownLast set last
  right_to h = go (eqb last 0) refl (eqb set 1) refl (eqb last 1) refl h
    where
      go : (a : Bool) → eqb last 0 ≡ a → (b : Bool) → eqb set 1 ≡ b → (c : Bool) → eqb last 1 ≡ c → not (a || (b && c)) ≡ false → KnownLast set last
      go true e b f c g h = inl (eqb-true last 0 e)
      go false e true f true g h = inr (eqb-true set 1 f, eqb-true last 1 g)
      go false e true f false g h = absurd (true≢false h)
      go false e false f c g h = absurd (true≢false h)

  right_from : KnownLast set last → is_wrong_last set last ≡ false
  right_from (inl z) = rw (eq-eqb last 0 z) refl
  right_from (inr z) = go (eqb last 0)
    where
      go : (a : Bool) → not (a || (eqb set 1 && eqb last 1)) ≡ false
      go true = refl
      go false = rw (eq-eqb set 1 z.0, eq-eqb last 1 z.1) refl

  wrong_from : (KnownLast set last → ⊥) → is_wrong_last set last ≡ true
  wrong_from n = go (is_wrong_last set last) refl
    where
      go : (b : Bool) → is_wrong_last set last ≡ b → b ≡ true
      go true e = refl
      go false e = absurd (n (right_to e))

  of_tests_lem : KnownLast set last → last ≡ 1 → set ≡ 1
  of_tests_lem (inl z) e = absurd (omega (arith, z, e))
  of_tests_lem (inr z) e = z.0

  one_of_two_lem : KnownLast set last → (last ≡ 0) ⊎ (last ≡ 1)
  one_of_two_lem (inl z) = inl z
  one_of_two_lem (inr z) = inr z.1

-- what cannot be wrong is right
pub known_last_lem : (set last : ℕ) → ((KnownLast set last → ⊥) → ⊥) → KnownLast set last
known_last_lem set last h = go (is_wrong_last set last) refl
  where
    go : (b : Bool) → is_wrong_last set last ≡ b → KnownLast set last
    go true e = absurd (h (λ k. true≢false (sym e ∙ right_from set last k)))
    go false e = right_to set last e

pub all_lasts : AllLasts
all_lasts set last = record {
  second = (eqb-true last 1, eq-eqb last 1);
  wrong = (λ h k. true≢false (sym h ∙ right_from set last k), wrong_from set last);
  right = (right_to set last, right_from set last);
  of_tests = of_tests_lem set last;
  one_of_two = one_of_two_lem set last;
}
