-- Each refusal has a number of its own, and none has 0. Assumes nothing.
use Prim.Native.Nat.{ℕ}
use mathlib.Core.Path.{◌≡◌, refl, sym, ap, ◌∙◌}
use native.Mathlib.Omega.{arith}
use Rattle.std.specs.Prelude.{cond, eqb, Result, Ok, Err, ⊤}
use Rattle.front.specs.Front.{number, number_told, NoSecondJudged}
use Rattle.front.specs.declared.Refusal.{Refusal}
use Rattle.front.specs.declared.Refusal.TheVariants.{Lengths, NotFinite, FlatV, Overflow, FlatU}

never_0 : (why : Refusal) → number why ≡ 0 → ⊥
never_0 Lengths e = omega (arith, e)
never_0 NotFinite e = omega (arith, e)
never_0 FlatV e = omega (arith, e)
never_0 Overflow e = omega (arith, e)
never_0 FlatU e = omega (arith, e)

-- the refusal of a number
by_number : ℕ → Refusal
by_number n = cond (eqb n 1) Lengths (cond (eqb n 2) NotFinite (cond (eqb n 3) FlatV (cond (eqb n 4) Overflow FlatU)))

back : (a : Refusal) → by_number (number a) ≡ a
unfolding by_number
back Lengths = refl
back NotFinite = refl
back FlatV = refl
back Overflow = refl
back FlatU = refl

alike : (a b : Result ⊤ Refusal) → number_told a ≡ number_told b → a ≡ b
alike (Ok x) (Ok y) h = refl
alike (Ok x) (Err r) h = absurd (never_0 r (sym h))
alike (Err r) (Ok y) h = absurd (never_0 r h)
alike (Err r) (Err s) h = ap Err (sym (back r) ∙ (ap by_number h ∙ back s))

pub no_second_judged : NoSecondJudged
no_second_judged n a b p q = alike a b (p ∙ sym q)
