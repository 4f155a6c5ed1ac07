-- Each corner of V has a zero parameter on its own two lines and d on the third, also where V is listed the other way round: shown of 01's
-- standard V. Assumes nothing.
use mathlib.Core.Bool.{Bool, ◌||◌, cond}
use Prim.Native.Nat.{ℕ}
use lib.Dec.{T, eqb}
use lib.IntN.{pos}
use lib.Ieee.{Float, binary64, of_int, of_bits, add, sub, mul, neg, lt, eq}
use Rattle.floats.specs.Lists.{all}
use Rattle.floats.specs.Numbers.{Point}
use Rattle.floats.specs.Way.{Way, f64, given_point}
use Rattle.lines.specs.Lines.{three, lower_line, upper_line}
use Rattle.lines.specs.Parameters.{parameter, d_of, parameters_by}

abbrev whole : ℕ → Float
whole k = of_int binary64 (pos k)

-- of a V with d = 16 or −16
abbrev on_their_lines : Point Way → Point Way → Point Way → Bool
on_their_lines v0 v1 v2 =
    all (λ k.
    let p = parameters_by f64 (d_of f64 v0 v1 v2) v0 v1 v2 (cond (eqb k 0) v0 (cond (eqb k 1) v1 v2)) in
    all (λ a. cond (eqb a (lower_line k) || eqb a (upper_line k)) (f64.is_zero (parameter p a)) (eq (parameter p a).value (whole 16))) three) three

pub corners_on_their_lines : T (on_their_lines (given_point (whole 0) (whole 0)) (given_point (whole 4) (whole 0)) (given_point (whole 0) (whole 4)))
unfolding all add sub mul neg lt eq of_int of_bits
corners_on_their_lines = tt

pub corners_turned : T (on_their_lines (given_point (whole 0) (whole 0)) (given_point (whole 0) (whole 4)) (given_point (whole 4) (whole 0)))
unfolding all add sub mul neg lt eq of_int of_bits
corners_turned = tt
