-- A pair of triangles in whole centimetres, each with an area, is never refused: no row of the table applies. So its decision is no refusal. Assumes nothing.
use Prim.Native.Nat.{ℕ, ◌<◌, ◌≤◌}
use mathlib.Core.Path.{◌≡◌, refl, sym, ap, ◌∙◌}
use mathlib.Core.Logic.{inl, inr, ⊎_elim}
use mathlib.Core.Bool.{Bool, true, false, cond, false≢true}
use mathlib.Core.List.Memᴰ
use mathlib.Core.List.{List, [], ◌∷◌, ◌++◌}
use native.Mathlib.Omega.{arith}
use lib.Dec.{eqb, lit≤, lit<}
use lib.ListN.{length, length-map}
use lib.IntN.{ℤ, pos}
use lib.Ieee.{Float, binary64, of_int}
use Rattle.floats.specs.Lists.{all}
use Rattle.floats.specs.Finite.{finite}
use Rattle.floats.specs.Way.{Way, f64}
use Rattle.floats.proofs.Lists.{fails_all, all_append}
use Rattle.lines.specs.Parameters.{Parameters}
use Rattle.layout.specs.Parts.{numbers_of}
use Rattle.layout.specs.Rules.{twice_area}
use Rattle.layout.proofs.Tests.{nought}
use Rattle.triangles.specs.Pair.{parameters_of, tests_of, pair_d_of}
use Rattle.triangles.specs.Refusals.{lengths, coordinates, way_to_d, d_zero, way_to_e, e_zero, way_to_parameter, way_to_pair_test, way_to_position, way_to_area, parameters_way, tests_way, way_of}
use Rattle.triangles.specs.Rows.{NotFinite, NoRow}
use Rattle.triangles.specs.declared.Answer.{Answer}
use Rattle.triangles.specs.declared.Decision.{Decision}
use Rattle.triangles.specs.declared.Decision.TheVariants.{Refused, Overlapping, Touching, Apart}
use Rattle.triangles.specs.Decision.{is_above, enough, answer_to, decided, by_rules, decision_of}
use Rattle.triangles.proofs.Rows.{by_none, number_is}
use Rattle.triangles.proofs.Parted.{decision_by}
use Rattle.centimetres.specs.Centimetres.{twelve_values, NeverRefused, AlwaysDecided}
use Rattle.centimetres.proofs.Zero.{eq_exact}
use Rattle.centimetres.proofs.Ways.{Whole}
use Rattle.centimetres.proofs.Parameters.{WholeParameters}
use Rattle.centimetres.proofs.Pair.{Twelve, values, cross_at, d_Whole, e_Whole, parameters_at, pair_test_Under, values-finite}
use Rattle.centimetres.proofs.Positions.{ring_positions_fine}
use Rattle.centimetres.proofs.Area.{ring_area_fine}

-- where all are finite, none is not
none : {vs : List Float} → NotFinite vs → all finite vs ≡ true → ⊥
none {vs} m h = false≢true (sym (fails_all finite vs m.1 m.2) ∙ h)

-- a whole number that is not zero is not zero as f64
not_zero : {k : ℕ} {w : Way} {z : ℤ} → Whole k w z → (z ≡ pos 0 → ⊥) → f64.is_zero w ≡ true → ⊥
not_zero {z} h n e = n ((nought z).0 (sym (eq_exact h.exact) ∙ e))

parameters_fine : {p : Parameters Way} {z : Parameters ℤ} → WholeParameters p z → all finite (parameters_way p) ≡ true
parameters_fine {p} h = all_append finite p.x.way (p.y.way ++ p.w.way) ∙ rw (all_append finite p.y.way p.w.way, h.x.is_fine, h.y.is_fine, h.w.is_fine) refl

module _ {zs : List ℤ} (h : Twelve zs) where
  tests_fine : (ts : List (ℕ × (ℕ × ℕ))) → all finite (tests_way (values zs) ts) ≡ true
  unfolding tests_way all
  tests_fine [] = refl
  tests_fine (t ∷ ts) = all_append finite (pair_d_of (values zs) t).way (tests_way (values zs) ts) ∙ rw ((pair_test_Under h t).is_fine, tests_fine ts) refl

  all_parameters_fine : all finite (way_of way_to_parameter (values zs)) ≡ true
  unfolding way_of
  all_parameters_fine =
      let l = values zs in
      let fine-at : (i : ℕ) → i < 3 → all finite (parameters_way (parameters_of l i)) ≡ true = λ i b. parameters_fine (parameters_at h i b) in
      all_append finite (parameters_way (parameters_of l 0)) (parameters_way (parameters_of l 1) ++ parameters_way (parameters_of l 2))
      ∙ rw (all_append finite (parameters_way (parameters_of l 1)) (parameters_way (parameters_of l 2)), fine-at 0 (lit< tt), fine-at 1 (lit< tt), fine-at 2 (lit< tt)) refl

  module _ (u-area : cross_at zs 0 1 2 ≡ pos 0 → ⊥) (v-area : cross_at zs 3 4 5 ≡ pos 0 → ⊥) (room : List Float) (enough-room : 12 ≤ length room) where
    no_row : NoRow (values zs) room
    unfolding way_of
    no_row lengths (inl n) = n (length-map zs (of_int binary64) ∙ h.count)
    no_row lengths (inr n) = omega arith
    no_row coordinates n = none n (values-finite zs h.in_range)
    no_row way_to_d n = none n (d_Whole h).is_fine
    no_row d_zero n = not_zero (d_Whole h) v-area n
    no_row way_to_e n = none n (e_Whole h).is_fine
    no_row e_zero n = not_zero (e_Whole h) u-area n
    no_row way_to_parameter n = none n all_parameters_fine
    no_row way_to_pair_test n = none n (tests_fine (tests_of (values zs)))
    no_row way_to_position n = none n (ring_positions_fine h)
    no_row way_to_area n = none n (ring_area_fine h)

pub never_refused : NeverRefused
unfolding twice_area
never_refused u v hu hv room b = (by_none (twelve_values u v) room).1 (no_row twelve hu.some_area hv.some_area room b)
  where
    twelve : Twelve (numbers_of u ++ numbers_of v)
    twelve = record { count = refl; in_range = λ z m. ⊎_elim (hu.in_range z) (hv.in_range z) (Memᴰ.append_cases (numbers_of u) m) }

-- ---- the decision
is_refused : Decision → Bool
is_refused (Refused k) = true
is_refused (Overlapping a) = false
is_refused Touching = false
is_refused Apart = false

-- an answer without a number is decided
no_number : (a : Answer) → a.number ≡ 0 → is_refused (decided a) ≡ false
unfolding decided is_refused
no_number a z = rw z (go (eqb a.n 0) (is_above a.area))
  where
    go : (b c : Bool) → is_refused (cond b Apart (cond c (Overlapping a.area) Touching)) ≡ false
    go true c = refl
    go false true = refl
    go false false = refl

-- far or not
by_boxes : (l : List Float) → is_refused (by_rules l) ≡ false → is_refused (decision_of l) ≡ false
unfolding is_refused
by_boxes l h = elim (decision_by l) [
  | inl p ↦ ap is_refused p.1
  | inr p ↦ ap is_refused p.1 ∙ h
]

pub always_decided : AlwaysDecided
unfolding by_rules is_refused
always_decided u v hu hv k e =
    let n = number_is (twelve_values u v) enough ∙ never_refused u v hu hv enough (lit≤ tt) in
    false≢true (sym (by_boxes (twelve_values u v) (no_number (answer_to (twelve_values u v)) n)) ∙ ap is_refused e)
