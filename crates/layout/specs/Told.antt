-- The refusals of a footprint file as reasons with their places, and what is said for each: the number of the refusal table. Definitions and statements.
use Rattle.std.specs.Prelude.{ℕ, ◌≡◌, Result, Ok, Err}
use Rattle.std.specs.Result.{result_err}
use Rattle.layout.specs.Verdict.{number_at, good}
use Rattle.layout.specs.declared.Fault.{Fault}
use Rattle.layout.specs.declared.Fault.TheVariants.{FileLength, StoredLength, Trailer, Entry, Table, SameId, OutOfRange, NoArea}
use Rattle.layout.specs.declared.Refused.{Refused}
use Rattle.layout.specs.declared.Verdict.{Verdict}

abbrev pub fault_number : Fault → ℕ
fault_number FileLength = 11
fault_number StoredLength = 12
fault_number Trailer = 13
fault_number Entry = 14
fault_number Table = 15
fault_number SameId = 16
fault_number OutOfRange = 17
fault_number NoArea = 18

-- what is said of a file for a refusal: its number at its place
abbrev pub said : Refused → Verdict
said r = number_at (fault_number r.why) r.place

-- and for a result: 0 at 0 where it is good
abbrev pub told : {A : Type 0} → Result A Refused → Verdict
told (Ok a) = good
told (Err r) = said r

-- the number that the rule of an entry or of a triangle gives: 0 where there is nothing against it
abbrev pub ruled : {A : Type 0} → Result A Fault → ℕ
ruled (Ok a) = 0
ruled (Err why) = fault_number why

-- no two reasons have one number, no two refusals say the same, and two results that say the same are the same refusal or both good
pub record Distinct : Type 1 where
  pub faults : (a b : Fault) → fault_number a ≡ fault_number b → a ≡ b
  pub refusals : (a b : Refused) → said a ≡ said b → a ≡ b
  pub results : (A B : Type 0) (a : Result A Refused) (b : Result B Refused) → told a ≡ told b → result_err a ≡ result_err b
  pub rules : (A B : Type 0) (a : Result A Fault) (b : Result B Fault) → ruled a ≡ ruled b → result_err a ≡ result_err b
