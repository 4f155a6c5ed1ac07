-- Each reason has a number of its own, and none has 0. Assumes nothing.
use Prim.Native.Nat.{ℕ}
use mathlib.Core.Path.{◌≡◌, refl, sym, ap, ◌∙◌}
use native.Mathlib.Omega.{arith}
use Rattle.std.specs.Prelude.{cond, eqb, Result, Ok, Err, Some}
use Rattle.std.specs.Result.{result_err}
use Rattle.layout.specs.Told.{fault_number, said, told, ruled, Distinct}
use Rattle.layout.specs.declared.Fault.{Fault}
use Rattle.layout.specs.declared.Fault.TheVariants.{FileLength, StoredLength, Trailer, Entry, Table, SameId, OutOfRange, NoArea}
use Rattle.layout.specs.declared.Refused.{Refused}
use Rattle.layout.specs.declared.Verdict.{Verdict}

-- the reason of a number
by_number : ℕ → Fault
by_number n = cond (eqb n 11) FileLength (cond (eqb n 12) StoredLength (cond (eqb n 13) Trailer (cond (eqb n 14) Entry (cond (eqb n 15) Table (cond (eqb n 16) SameId (cond (eqb n 17) OutOfRange NoArea))))))

back : (a : Fault) → by_number (fault_number a) ≡ a
unfolding by_number
back FileLength = refl
back StoredLength = refl
back Trailer = refl
back Entry = refl
back Table = refl
back SameId = refl
back OutOfRange = refl
back NoArea = refl

pub above : (a : Fault) → fault_number a ≡ 0 → ⊥
above FileLength h = omega (arith, h)
above StoredLength h = omega (arith, h)
above Trailer h = omega (arith, h)
above Entry h = omega (arith, h)
above Table h = omega (arith, h)
above SameId h = omega (arith, h)
above OutOfRange h = omega (arith, h)
above NoArea h = omega (arith, h)

one_fault : (a b : Fault) → fault_number a ≡ fault_number b → a ≡ b
one_fault a b h = sym (back a) ∙ (ap by_number h ∙ back b)

one_refusal : (a b : Refused) → said a ≡ said b → a ≡ b
one_refusal a b h = both (one_fault a.why b.why (ap (λ (v : Verdict). v.number) h)) (ap (λ (v : Verdict). v.place) h)
  where
    both : {p q : Fault} {m n : ℕ} → p ≡ q → m ≡ n → ◌≡◌ {A = Refused} (record { why = p; place = m }) (record { why = q; place = n })
    both e f = rw (e, f) refl

one_result : (A B : Type 0) (a : Result A Refused) (b : Result B Refused) → told a ≡ told b → result_err a ≡ result_err b
one_result A B (Ok x) (Ok y) h = refl
one_result A B (Ok x) (Err r) h = absurd (above r.why (sym (ap (λ (v : Verdict). v.number) h)))
one_result A B (Err r) (Ok y) h = absurd (above r.why (ap (λ (v : Verdict). v.number) h))
one_result A B (Err r) (Err s) h = ap Some (one_refusal r s h)

one_rule : (A B : Type 0) (a : Result A Fault) (b : Result B Fault) → ruled a ≡ ruled b → result_err a ≡ result_err b
one_rule A B (Ok x) (Ok y) h = refl
one_rule A B (Ok x) (Err r) h = absurd (above r (sym h))
one_rule A B (Err r) (Ok y) h = absurd (above r h)
one_rule A B (Err r) (Err s) h = ap Some (one_fault r s h)

pub distinct : Distinct
distinct = record { faults = one_fault; refusals = one_refusal; results = one_result; rules = one_rule }
