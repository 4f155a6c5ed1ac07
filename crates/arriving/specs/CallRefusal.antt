-- 02, No. 9: the refusals of a call by their numbers, and what a test of a call says. Definitions only.
use Rattle.std.specs.Prelude.{ℕ, Result, Ok, Err}
use Rattle.arriving.specs.declared.CallRefusal.{CallRefusal}
use Rattle.arriving.specs.declared.CallRefusal.TheVariants.{AfterEnd, OtherLength}

abbrev pub number_of : CallRefusal → ℕ
number_of AfterEnd = 22
number_of OtherLength = 23

-- the number that is said of a call: 0 where it is taken
abbrev pub told : Result (Unit {0}) CallRefusal → ℕ
told (Ok _) = 0
told (Err why) = number_of why
