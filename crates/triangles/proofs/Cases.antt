-- The twelve cases, shown of the rules themselves: one computed test over the list, and what it says of each case; and the witnesses, list by list. Assumes nothing.
use mathlib.Core.Path.{◌≡◌}
use mathlib.Core.Logic.{⊎_elim}
use mathlib.Core.Bool.{Bool, ◌&&◌, beq}
use mathlib.Core.List.Memᴰ
use mathlib.Core.List.{List, ◌++◌, Memᴰ}
use Prim.Native.Nat.{◌*◌}
use lib.Dec.{T, eqb, eqb→eq}
use lib.ListN.{length, drop}
use lib.Ieee.{Float, add, sub, mul, div, neg, lt, le, eq, of_int, of_bits}
use lib.Ieee.Fits.{and_l, and_r}
use Rattle.floats.specs.Lists.{all}
use Rattle.floats.proofs.Lists.{all_at, same_bool, same_list, same_list_lem}
use Rattle.floats.proofs.Same.{same_float, same_float_lem}
use Rattle.triangles.specs.Answers.{Whole, whole_of}
use Rattle.triangles.specs.Cases.{Case, cases, lent, Shown}
use Rattle.triangles.specs.Overflows.{overflows}
use Rattle.triangles.specs.TiesAndZeros.{ties_and_zeros}
use Rattle.triangles.specs.Formulas.{formulas}
use Rattle.triangles.specs.Witnesses.{witnesses}

same_flags : List Bool → List Bool → Bool
unfolding same_list
same_flags = same_list beq

same_values : List Float → List Float → Bool
unfolding same_list same_float
same_values = same_list same_float

-- an answer against what is to be shown of a case
fits : Case → Whole → Bool
unfolding same_flags same_values same_float
fits c w =
    eqb w.answer.number c.number
    && (eqb w.answer.n c.n
    && (same_float w.answer.area c.area
    && (same_flags w.answer.u_in_v c.in_v
    && (same_flags w.answer.v_in_u c.in_u
    && (same_flags w.answer.neighbour c.neighbour
    && (same_values w.room (c.corners ++ drop (2 * c.n) lent)
    && eqb (length w.tests) c.tests))))))

right : Case → Bool
unfolding fits whole_of
right c = fits c (whole_of c.values lent)

all_right : T (all right cases)
unfolding all right add sub mul div neg lt le eq of_int of_bits
all_right = tt

overflows-right : T (all right overflows)
unfolding all right add sub mul div neg lt le eq of_int of_bits
overflows-right = tt

ties_and_zeros-right : T (all right ties_and_zeros)
unfolding all right add sub mul div neg lt le eq of_int of_bits
ties_and_zeros-right = tt

formulas-right : T (all right formulas)
unfolding all right add sub mul div neg lt le eq of_int of_bits
formulas-right = tt

same_flags_lem : (x y : List Bool) → T (same_flags x y) → x ≡ y
unfolding same_flags
same_flags_lem = same_list_lem beq same_bool

same_values_lem : (x y : List Float) → T (same_values x y) → x ≡ y
unfolding same_values
same_values_lem = same_list_lem same_float same_float_lem

shown : (c : Case) → T (right c) → Shown c
unfolding right fits
shown c t0 =
    let w = whole_of c.values lent in
    let a = w.answer in
    let B0 = eqb a.number c.number in
    let B1 = eqb a.n c.n in
    let B2 = same_float a.area c.area in
    let B3 = same_flags a.u_in_v c.in_v in
    let B4 = same_flags a.v_in_u c.in_u in
    let B5 = same_flags a.neighbour c.neighbour in
    let B6 = same_values w.room (c.corners ++ drop (2 * c.n) lent) in
    let B7 = eqb (length w.tests) c.tests in
    let t1 = and_r B0 (B1 && (B2 && (B3 && (B4 && (B5 && (B6 && B7)))))) t0 in
    let t2 = and_r B1 (B2 && (B3 && (B4 && (B5 && (B6 && B7))))) t1 in
    let t3 = and_r B2 (B3 && (B4 && (B5 && (B6 && B7)))) t2 in
    let t4 = and_r B3 (B4 && (B5 && (B6 && B7))) t3 in
    let t5 = and_r B4 (B5 && (B6 && B7)) t4 in
    let t6 = and_r B5 (B6 && B7) t5 in
    record {
      number = eqb→eq a.number c.number (and_l B0 (B1 && (B2 && (B3 && (B4 && (B5 && (B6 && B7)))))) t0);
      n = eqb→eq a.n c.n (and_l B1 (B2 && (B3 && (B4 && (B5 && (B6 && B7))))) t1);
      area = same_float_lem a.area c.area (and_l B2 (B3 && (B4 && (B5 && (B6 && B7)))) t2);
      in_v = same_flags_lem a.u_in_v c.in_v (and_l B3 (B4 && (B5 && (B6 && B7))) t3);
      in_u = same_flags_lem a.v_in_u c.in_u (and_l B4 (B5 && (B6 && B7)) t4);
      neighbour = same_flags_lem a.neighbour c.neighbour (and_l B5 (B6 && B7) t5);
      room = same_values_lem w.room (c.corners ++ drop (2 * c.n) lent) (and_l B6 B7 t6);
      tests = eqb→eq (length w.tests) c.tests (and_r B6 B7 t6);
    }

-- each of the twelve cases comes out as 01 works it
pub worked : (c : Case) → Memᴰ c cases → Shown c
worked c m = shown c (all_at right cases all_right m)

-- and each pair at the borders of the rules as the independent program has it
pub witnessed : (c : Case) → Memᴰ c witnesses → Shown c
witnessed c m = shown c (⊎_elim (all_at right overflows overflows-right) others (Memᴰ.append_cases overflows m))
  where
    others : Memᴰ c (ties_and_zeros ++ formulas) → T (right c)
    others m = ⊎_elim (all_at right ties_and_zeros ties_and_zeros-right) (all_at right formulas formulas-right) (Memᴰ.append_cases ties_and_zeros m)
