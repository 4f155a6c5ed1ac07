-- Of twelve whole centimetres in range: d, e and the parameters are exact, the signs are those of the whole numbers, and the pair tests are small. Assumes nothing.
use Prim.Native.Nat.{ℕ, zero, suc, ◌+◌, ◌*◌, ◌<◌, ◌≤◌}
use mathlib.Core.Path.{◌≡◌, refl, ap, ◌∙◌}
use mathlib.Core.Bool.{true}
use mathlib.Core.List.Memᴰ.{head as here}
use mathlib.Core.List.Memᴰ.{tail as there}
use mathlib.Core.List.{List, [], ◌∷◌, map}
use native.Mathlib.Omega.{arith}
use native.Mathlib.Nat.{le_trans}
use lib.Dec.{T, ltb, ltb→lt, lit≤, lit<}
use lib.ListN.{get_or, length}
use lib.IntN.{ℤ, pos, nat_abs}
use lib.Ieee.{Float, nan, binary64, of_int}
use lib.Ieee.Fits.{and_l, and_r}
use Rattle.floats.specs.Lists.{all}
use Rattle.floats.specs.Finite.{finite}
use Rattle.floats.specs.Numbers.{Point, cross_from}
use Rattle.floats.specs.Way.{given, f64}
use Rattle.floats.specs.Whole.{whole, is_not_negative}
use Rattle.lines.specs.Lines.{sign, end_of, lower_end, higher_end}
use Rattle.lines.specs.Parameters.{Parameters, parameter, parameters_by, signs}
use Rattle.order.specs.PairTest.{signs_of_u}
use Rattle.triangles.specs.Pair.{vertex_of, d_of_v, e_of_u, parameters_of, params_of, carried_by, vertex_signs, signs_by, pair_d_of}
use Rattle.centimetres.specs.Centimetres.{InRange}
use Rattle.centimetres.proofs.Exact.{Exact, int_Exact, Exact-finite}
use Rattle.centimetres.proofs.Ways.{Whole, Under, Whole-given, Whole-Under, Under-minus, Under-times}
use Rattle.centimetres.proofs.Parameters.{WholePoint, WholeParameters, cross_whole, parameters_whole, carried_whole, parameter-Whole, unseen, sign_whole}

-- an edge's ends are vertices, whatever the edge's number
below_three : (ks : List ℕ) → T (all (λ k. ltb k 3) ks) → (i : ℕ) → get_or ks i 0 < 3
unfolding all
below_three [] t i = lit< tt
below_three (k ∷ ks) t zero = ltb→lt k 3 (and_l (ltb k 3) (all (λ k. ltb k 3) ks) t)
below_three (k ∷ ks) t (suc i) = below_three ks (and_r (ltb k 3) (all (λ k. ltb k 3) ks) t) i

pub ends : (e i : ℕ) → end_of e i < 3
ends zero i = below_three (0 ∷ 1 ∷ []) (unfold all in tt) i
ends (suc zero) i = below_three (1 ∷ 2 ∷ []) (unfold all in tt) i
ends (suc (suc zero)) i = below_three (2 ∷ 0 ∷ []) (unfold all in tt) i
ends (suc (suc (suc e))) i = lit< tt

-- ---- numbers in range, as f64
abbrev pub values : List ℤ → List Float
values zs = map (of_int binary64) zs

number_Exact : (z : ℤ) → nat_abs z ≤ 1000000 → Exact (of_int binary64 z) z
number_Exact z m = int_Exact binary64 z (le_trans m (lit≤ tt))

number_Whole : (zs : List ℤ) → InRange zs → (i : ℕ) → i < length zs → Whole 1000000 (given (get_or (values zs) i nan)) (get_or zs i (pos 0))
number_Whole [] h i l = absurd (omega arith)
number_Whole (z ∷ zs) h zero l = let m = h z (here refl) in Whole-given (number_Exact z m) m
number_Whole (z ∷ zs) h (suc i) l = number_Whole zs (λ y m. h y (there m)) i (omega arith)

pub values-finite : (zs : List ℤ) → InRange zs → all finite (values zs) ≡ true
unfolding all
values-finite [] h = refl
values-finite (z ∷ zs) h = rw (Exact-finite (number_Exact z (h z (here refl))), values-finite zs (λ y m. h y (there m))) refl

-- ---- points, crosses and parameters in whole numbers
abbrev pub point_at : List ℤ → ℕ → Point ℤ
point_at zs i = record { x = get_or zs (2 * i) (pos 0); y = get_or zs (2 * i + 1) (pos 0) }

abbrev pub cross_at : List ℤ → ℕ → ℕ → ℕ → ℤ
cross_at zs i j k = cross_from whole (point_at zs i) (point_at zs j) (point_at zs k)

abbrev pub numbers_at : List ℤ → ℕ → Parameters ℤ
numbers_at zs i = parameters_by whole (cross_at zs 3 4 5) (point_at zs 3) (point_at zs 4) (point_at zs 5) (point_at zs i)

-- twelve numbers in range
pub record Twelve (zs : List ℤ) : Type 0 where
  pub count : length zs ≡ 12
  pub in_range : InRange zs

module _ {zs : List ℤ} (h : Twelve zs) where
  pub point_whole : (i : ℕ) → i < 6 → WholePoint (vertex_of (values zs) i) (point_at zs i)
  point_whole i l = record { x = number_Whole zs h.in_range (2 * i) (omega arith); y = number_Whole zs h.in_range (2 * i + 1) (omega arith) }

  pub d_Whole : Whole 8000000000000 (d_of_v (values zs)) (cross_at zs 3 4 5)
  unfolding d_of_v
  d_Whole = cross_whole (point_whole 3 (lit< tt)) (point_whole 4 (lit< tt)) (point_whole 5 (lit< tt))

  pub e_Whole : Whole 8000000000000 (e_of_u (values zs)) (cross_at zs 0 1 2)
  unfolding e_of_u
  e_Whole = cross_whole (point_whole 0 (lit< tt)) (point_whole 1 (lit< tt)) (point_whole 2 (lit< tt))

  pub parameters_at : (i : ℕ) → i < 3 → WholeParameters (parameters_of (values zs) i) (numbers_at zs i)
  unfolding parameters_of
  parameters_at i l = parameters_whole d_Whole (point_whole 3 (lit< tt)) (point_whole 4 (lit< tt)) (point_whole 5 (lit< tt)) (point_whole i (omega arith))

  carried_at : (i : ℕ) → i < 3 → WholeParameters (carried_by (values zs) i) (numbers_at zs i)
  unfolding params_of
  carried_at i l = carried_whole (parameters_at i l)

  -- what vertex i carries for line a
  pub parameter_at : (i a : ℕ) → i < 3 → Whole 24000000000000 (parameter (carried_by (values zs) i) a) (parameter (numbers_at zs i) a)
  parameter_at i a l = parameter-Whole (carried_at i l) a

  signs_at : (i : ℕ) → i < 3 → get_or (vertex_signs (values zs)) i [] ≡ signs f64 (carried_by (values zs) i)
  unfolding vertex_signs signs_of_u
  signs_at zero l = refl
  signs_at (suc zero) l = refl
  signs_at (suc (suc zero)) l = refl
  signs_at (suc (suc (suc i))) l = absurd (omega arith)

  pub sign_at : (i a : ℕ) → i < 3 → a < 3 → signs_by (values zs) i a ≡ is_not_negative (parameter (numbers_at zs i) a)
  sign_at i a l b = ap (λ s. sign s a) (signs_at i l) ∙ sign_whole (carried_at i l) (unseen (cross_at zs 3 4 5) (point_at zs 3) (point_at zs 4) (point_at zs 5) (point_at zs i)) a b

  -- parameters are below 2 ^ 45, products of two below 2 ^ 91
  pub pair_test_Under : (t : ℕ × (ℕ × ℕ)) → Under 93 (pair_d_of (values zs) t)
  unfolding pair_d_of
  pair_test_Under t =
      Under-minus
      (Under-times (at (lower_end t.0) t.1.0 low) (at (higher_end t.0) t.1.1 high) (lit≤ tt))
      (Under-times (at (higher_end t.0) t.1.0 high) (at (lower_end t.0) t.1.1 low) (lit≤ tt))
      (lit≤ tt)
    where
      at : (i a : ℕ) → i < 3 → Under 45 (parameter (carried_by (values zs) i) a)
      at i a l = Whole-Under 45 (parameter_at i a l) (lit< tt)

      low : lower_end t.0 < 3
      low = omega (arith, ends t.0 0, ends t.0 1)

      high : higher_end t.0 < 3
      high = omega (arith, ends t.0 0, ends t.0 1)
