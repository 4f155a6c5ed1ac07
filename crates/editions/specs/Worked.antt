-- 01's example, and the same file with a last byte of 1 for its test recording: which is of edition 1 throughout, what was said of either before there were editions, and that they are the same but for last bytes. Statements.
use Rattle.std.specs.Prelude.{ℕ, ◌≡◌, List}
use Rattle.layout.specs.Worked.{v, u, seven, changed, pair_of, example}
use Rattle.layout.specs.Verdict.{number_at, good, verdict}
use Rattle.layout.specs.Before.{AllOfFirst, verdict_before}
use Rattle.editions.specs.Lasts.{SameButLasts}

abbrev pub second_example : List ℕ
second_example = pair_of v u seven (changed 9 24 1 0 1 1)

pub record ByHand : Type 0 where
  pub first : AllOfFirst example
  pub not_second : AllOfFirst second_example → ⊥
  -- good now and before; good now, and refused before at its entry
  pub example_said : (verdict_before example ≡ good) × (verdict example ≡ good)
  pub second_said : (verdict_before second_example ≡ number_at 14 60) × (verdict second_example ≡ good)
  pub same : SameButLasts example second_example
