-- The numbers and calls worked by hand come out so: a computed test over each list, and what it says of each; and 02's example. Assumes nothing.
use Prim.Native.Nat.{ℕ}
use mathlib.Core.Path.{◌≡◌, refl}
use mathlib.Core.Bool.{Bool, ◌&&◌}
use mathlib.Core.List.{List, Memᴰ}
use lib.Dec.{T, eqb, eqb→eq}
use lib.ListN.{replicate}
use lib.Ieee.Fits.{and_l, and_r}
use Rattle.floats.specs.Lists.{all}
use Rattle.floats.proofs.Lists.{all_at, same_list, same_list_lem}
use Rattle.text.proofs.Saying.{same_written, same_written_lem}
use Rattle.chart.specs.Numbers.{metres}
use Rattle.chart.specs.Words.{text_of}
use Rattle.chart.specs.Showing.{shown_of}
use Rattle.chart.specs.Worked.{Number, NumberShown, numbers, Example02, Call, CallShown, calls}

same_bytes : List ℕ → List ℕ → Bool
unfolding same_list
same_bytes = same_list eqb

same_bytes_lem : (a b : List ℕ) → T (same_bytes a b) → a ≡ b
unfolding same_bytes
same_bytes_lem a b t = same_list_lem eqb eqb→eq a b t

-- ---- numbers
number_right : Number → Bool
unfolding same_bytes metres
number_right n = same_bytes (metres n.centimetres) n.text

numbers_right : T (all number_right numbers)
unfolding all number_right
numbers_right = tt

pub numbers_worked : (n : Number) → Memᴰ n numbers → NumberShown n
unfolding number_right
numbers_worked n m = same_bytes_lem (metres n.centimetres) n.text (all_at number_right numbers numbers_right m)

-- ---- 02's example
pub example_worked : Example02
unfolding text_of
example_worked = refl

-- ---- calls
call_right : Call → Bool
unfolding same_written same_bytes shown_of
call_right c = same_written (shown_of c.file c.id (replicate c.room 46)).result c.says && same_bytes (shown_of c.file c.id (replicate c.room 46)).room c.after

calls_right : T (all call_right calls)
unfolding all call_right
calls_right = tt

-- each comes out as it was worked
pub calls_worked : (c : Call) → Memᴰ c calls → CallShown c
unfolding call_right
calls_worked c m =
    let t = all_at call_right calls calls_right m in
    let w = shown_of c.file c.id (replicate c.room 46) in
    let A = same_written w.result c.says in
    let B = same_bytes w.room c.after in
    record { says = same_written_lem w.result c.says (and_l A B t); after = same_bytes_lem w.room c.after (and_r A B t) }
