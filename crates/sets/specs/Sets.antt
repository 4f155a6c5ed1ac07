-- 01, "The footprint file", with 02, No. 7: what the set that a recording is stored with makes of it. Whoever asks for test or training recordings asks here. Definitions and statements.
use Rattle.std.specs.Prelude.{ℕ, ◌≤◌, ◌≡◌, ◌⊎◌, ◌↔◌, Bool, true, false, ◌||◌, eqb}

-- 1 is test
abbrev pub is_test : ℕ → Bool
is_test set = eqb set 1

-- 2, once held back, is retired
abbrev pub is_retired : ℕ → Bool
is_retired set = eqb set 2

-- 0 is training, and so is what was held back once
abbrev pub is_training : ℕ → Bool
is_training set = eqb set 0 || is_retired set

-- set by set
pub record BySet : Type 0 where
  pub zero : (is_test 0 ≡ false) × (is_training 0 ≡ true) × (is_retired 0 ≡ false)
  pub one : (is_test 1 ≡ true) × (is_training 1 ≡ false) × (is_retired 1 ≡ false)
  pub two : (is_test 2 ≡ false) × (is_training 2 ≡ true) × (is_retired 2 ≡ true)
  pub three : (is_test 3 ≡ false) × (is_training 3 ≡ false) × (is_retired 3 ≡ false)

-- the same in facts
abbrev pub TrainingSet : ℕ → Type 0
TrainingSet set = (set ≡ 0) ⊎ (set ≡ 2)

pub record Roles (set : ℕ) : Type 0 where
  pub test : (is_test set ≡ true) ↔ (set ≡ 1)
  pub retired : (is_retired set ≡ true) ↔ (set ≡ 2)
  pub training : (is_training set ≡ true) ↔ TrainingSet set
  -- no set is both
  pub not_both : is_test set ≡ true → is_training set ≡ true → ⊥
  -- and of the sets that a file may have none is neither, so no recording is left out
  pub one_of_two : set ≤ 2 → (is_test set ≡ true) ⊎ (is_training set ≡ true)

abbrev pub AllRoles : Type 0
AllRoles = (set : ℕ) → Roles set
