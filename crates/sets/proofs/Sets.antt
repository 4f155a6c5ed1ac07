-- What each set makes of a recording, set by set. Assumes nothing.
use Prim.Native.Nat.{ℕ, zero, suc, ◌≤◌}
use mathlib.Core.Path.{◌≡◌, refl}
use mathlib.Core.Logic.{◌⊎◌, inl, inr}
use mathlib.Core.Bool.{Bool, true, false, ◌||◌, or-true}
use native.Mathlib.Omega.{arith}
use lib.Dec.{eqb}
use borrow.Author.Tests.{eqb-true, eq-eqb}
use Rattle.sets.specs.Sets.{is_test, is_training, BySet, TrainingSet, AllRoles}

pub by_set : BySet
by_set = record { zero = (refl, refl, refl); one = (refl, refl, refl); two = (refl, refl, refl); three = (refl, refl, refl) }

pub is_training_lem : (set : ℕ) → TrainingSet set → is_training set ≡ true
is_training_lem set (inl z) = rw (eq-eqb set 0 z) refl
is_training_lem set (inr z) = rw (eq-eqb set 2 z) (or-true (eqb set 0))

training_is : (set : ℕ) → is_training set ≡ true → TrainingSet set
training_is set h = go (eqb set 0) refl h
  where
    go : (b : Bool) → eqb set 0 ≡ b → (b || eqb set 2) ≡ true → TrainingSet set
    go true e h = inl (eqb-true set 0 e)
    go false e h = inr (eqb-true set 2 h)

not_both_lem : (set : ℕ) → set ≡ 1 → TrainingSet set → ⊥
not_both_lem set h (inl z) = omega (arith, h, z)
not_both_lem set h (inr z) = omega (arith, h, z)

one_of_two_lem : (set : ℕ) → set ≤ 2 → (is_test set ≡ true) ⊎ (is_training set ≡ true)
one_of_two_lem zero h = inr (is_training_lem 0 (inl refl))
one_of_two_lem (suc zero) h = inl (eq-eqb 1 1 refl)
one_of_two_lem (suc (suc zero)) h = inr (is_training_lem 2 (inr refl))
one_of_two_lem (suc (suc (suc n))) h = absurd (omega (arith, h))

pub all_roles : AllRoles
all_roles set = record {
  test = (eqb-true set 1, eq-eqb set 1);
  retired = (eqb-true set 2, eq-eqb set 2);
  training = (training_is set, is_training_lem set);
  not_both = λ h g. not_both_lem set (eqb-true set 1 h) (training_is set g);
  one_of_two = one_of_two_lem set;
}
