-- Each reason has a number of its own, and none has 0. Assumes nothing.
use Prim.Native.Nat.{ℕ}
use mathlib.Core.Path.{◌≡◌, refl, sym, ap, ◌∙◌}
use native.Mathlib.Omega.{arith}
use Rattle.std.specs.Prelude.{cond, eqb, Ok, Err, Some}
use Rattle.refusing.specs.Told.{refusal_number, NoSecondRefusal}
use Rattle.refusing.specs.declared.WriteRefusal.{WriteRefusal}
use Rattle.refusing.specs.declared.WriteRefusal.TheVariants.{TooMany, Entry, Unequal, SameId, OutOfRange, NoArea, NoRoom}

pub never_0 : (why : WriteRefusal) → refusal_number why ≡ 0 → ⊥
never_0 TooMany e = omega (arith, e)
never_0 Entry e = omega (arith, e)
never_0 Unequal e = omega (arith, e)
never_0 SameId e = omega (arith, e)
never_0 OutOfRange e = omega (arith, e)
never_0 NoArea e = omega (arith, e)
never_0 NoRoom e = omega (arith, e)

-- the reason of a number
by_number : ℕ → WriteRefusal
by_number n = cond (eqb n 13) TooMany (cond (eqb n 14) Entry (cond (eqb n 15) Unequal (cond (eqb n 16) SameId (cond (eqb n 17) OutOfRange (cond (eqb n 18) NoArea NoRoom)))))

back : (a : WriteRefusal) → by_number (refusal_number a) ≡ a
unfolding by_number
back TooMany = refl
back Entry = refl
back Unequal = refl
back SameId = refl
back OutOfRange = refl
back NoArea = refl
back NoRoom = refl

pub no_second_refusal : NoSecondRefusal
no_second_refusal A B (Ok x) (Ok y) h = refl
no_second_refusal A B (Ok x) (Err r) h = absurd (never_0 r (sym h))
no_second_refusal A B (Err r) (Ok y) h = absurd (never_0 r h)
no_second_refusal A B (Err r) (Err s) h = ap Some (sym (back r) ∙ (ap by_number h ∙ back s))
