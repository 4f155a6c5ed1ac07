-- 02, No. 2, No. 7 and No. 8: the writer's refusals by their numbers, and what a result says. Definitions and a statement.
use Rattle.std.specs.Prelude.{ℕ, ◌≡◌, Result, Ok, Err}
use Rattle.std.specs.Result.{result_err}
use Rattle.layout.specs.declared.Fault.{Fault}
use Rattle.layout.specs.declared.Fault.TheVariants.{FileLength, StoredLength, Trailer, Table}
use Rattle.refusing.specs.declared.WriteRefusal.{WriteRefusal}
use Rattle.refusing.specs.declared.WriteRefusal.TheVariants.{TooMany, Entry, Unequal, SameId, OutOfRange, NoArea, NoRoom}

abbrev pub refusal_number : WriteRefusal → ℕ
refusal_number TooMany = 13
refusal_number Entry = 14
refusal_number Unequal = 15
refusal_number SameId = 16
refusal_number OutOfRange = 17
refusal_number NoArea = 18
refusal_number NoRoom = 19

-- the number that is said: 0 where nothing is refused
abbrev pub told : {A : Type 0} → Result A WriteRefusal → ℕ
told (Ok a) = 0
told (Err why) = refusal_number why

-- the reader's reasons against an entry and a triangle; the others are of a file's bytes
abbrev pub IsOfRule : Fault → Type 0
IsOfRule FileLength = ⊥
IsOfRule StoredLength = ⊥
IsOfRule Trailer = ⊥
IsOfRule Fault.Entry = Unit {0}
IsOfRule Table = ⊥
IsOfRule Fault.SameId = Unit {0}
IsOfRule Fault.OutOfRange = Unit {0}
IsOfRule Fault.NoArea = Unit {0}

-- two results that say the same number refuse for the same reason, or both refuse nothing
abbrev pub NoSecondRefusal : Type 1
NoSecondRefusal = (A B : Type 0) (a : Result A WriteRefusal) (b : Result B WriteRefusal) → told a ≡ told b → result_err a ≡ result_err b
