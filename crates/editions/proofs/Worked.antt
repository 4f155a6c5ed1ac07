-- The two files worked by hand come out so. Assumes nothing.
use Prim.Native.Nat.{ℕ, zero, suc, ◌+◌, ◌*◌, ◌<◌}
use mathlib.Core.Path.{◌≡◌, refl}
use mathlib.Core.Bool.{Bool, true, false, ◌||◌}
use native.Mathlib.Omega.{arith}
use lib.Dec.{T, eqb}
use borrow.Author.Tests.{eqb-true}
use Rattle.floats.specs.Lists.{all}
use Rattle.floats.proofs.Lists.{so, all_at}
use Rattle.layout.specs.Worked.{example}
use Rattle.layout.specs.Bytes.{byte_at}
use Rattle.layout.specs.Parts.{count_of, table_place, entry_at}
use Rattle.layout.specs.Verdict.{verdict}
use Rattle.layout.specs.Before.{AllOfFirst, verdict_before}
use Rattle.listing.specs.Turns.{up_to}
use Rattle.listing.proofs.Turns.{reached}
use Rattle.alike.specs.Alike.{SameBut}
use Rattle.editions.specs.Worked.{second_example, ByHand}

two : count_of example ≡ 2
unfolding count_of
two = refl

all_first : AllOfFirst example
unfolding entry_at
all_first zero h e = absurd (omega (arith, e))
all_first (suc zero) h e = absurd (omega (arith, e))
all_first (suc (suc i)) h e = absurd (let n = two in omega (arith, h, n))

one_second : AllOfFirst second_example → ⊥
unfolding entry_at count_of
one_second none = none 1 (omega arith) refl

-- place by place: the last byte of recording 9, or the same byte
same_at : ℕ → Bool
same_at at = eqb at 71 || eqb (byte_at second_example at) (byte_at example at)

all_same : T (all same_at (up_to 84))
unfolding all up_to same_at
all_same = tt

same : SameBut 11 example second_example
unfolding same_at
same = record { same_length = refl; same_byte = λ at h away. go (eqb at 71) refl away (so (all_at same_at (up_to 84) all_same (reached 84 at h))) }
  where
    go : {at : ℕ} (b : Bool) → eqb at 71 ≡ b → ((k : ℕ) → k < count_of example → at ≡ table_place example + 12 * k + 11 → ⊥) → (b || eqb (byte_at second_example at) (byte_at example at)) ≡ true → byte_at second_example at ≡ byte_at example at
    go {at} true e away h = absurd (away 1 (let n = two in omega (arith, n)) (unfold table_place in eqb-true at 71 e))
    go {at} false e away h = eqb-true (byte_at second_example at) (byte_at example at) h

pub by_hand : ByHand
unfolding verdict verdict_before
by_hand = record { first = all_first; not_second = one_second; example_said = (refl, refl); second_said = (refl, refl); same = same }
