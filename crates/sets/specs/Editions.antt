-- 02, No. 8: what an entry's last byte makes of a recording, and which last bytes there are. Whoever asks for an edition, or whether a last byte may stand beside a set, asks here. Definitions and statements.
use Rattle.std.specs.Prelude.{ℕ, ◌≡◌, ◌⊎◌, ◌↔◌, Bool, true, false, not, ◌&&◌, ◌||◌, eqb}
use Rattle.sets.specs.Sets.{is_test}

-- 0 is edition 1 of the leak rule, 1 is edition 2
abbrev pub is_second : ℕ → Bool
is_second last = eqb last 1

-- 0 may stand beside every set, 1 beside that of a test recording, and nothing else
abbrev pub is_wrong_last : ℕ → ℕ → Bool
is_wrong_last set last = not (eqb last 0 || (is_test set && is_second last))

-- set by set
pub record ByLast : Type 0 where
  pub editions : (is_second 0 ≡ false) × (is_second 1 ≡ true)
  pub training : (is_wrong_last 0 0 ≡ false) × (is_wrong_last 0 1 ≡ true)
  pub test : (is_wrong_last 1 0 ≡ false) × (is_wrong_last 1 1 ≡ false) × (is_wrong_last 1 2 ≡ true) × (is_wrong_last 1 128 ≡ true) × (is_wrong_last 1 255 ≡ true)
  pub retired : (is_wrong_last 2 0 ≡ false) × (is_wrong_last 2 1 ≡ true) × (is_wrong_last 2 2 ≡ true)

-- the same in facts
abbrev pub KnownLast : ℕ → ℕ → Type 0
KnownLast set last = (last ≡ 0) ⊎ ((set ≡ 1) × (last ≡ 1))

pub record LastByte (set last : ℕ) : Type 0 where
  pub second : (is_second last ≡ true) ↔ (last ≡ 1)
  pub wrong : (is_wrong_last set last ≡ true) ↔ (KnownLast set last → ⊥)
  pub right : (is_wrong_last set last ≡ false) ↔ KnownLast set last
  -- so a last byte of 1 is a test recording's, and there is no third one
  pub of_tests : KnownLast set last → last ≡ 1 → set ≡ 1
  pub one_of_two : KnownLast set last → (last ≡ 0) ⊎ (last ≡ 1)

abbrev pub AllLasts : Type 0
AllLasts = (set last : ℕ) → LastByte set last
