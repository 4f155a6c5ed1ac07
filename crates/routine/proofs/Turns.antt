-- One turn of each loop, and what its last turn leaves. Assumes nothing.
use mathlib.Core.Path.{◌≡◌, refl, sym, ap, ap₂, ◌∙◌}
use mathlib.Core.Bool.{Bool, ◌&&◌, and-true}
use mathlib.Core.List.{List, [], ◌∷◌, ◌++◌, map, map-append, append_assoc}
use Prim.Native.Nat.{ℕ, suc, ◌+◌, ◌-◌, ◌*◌, ◌<◌, ◌≤◌}
use native.Mathlib.Numerals.{add-one}
use native.Mathlib.Omega.{arith}
use lib.ListN.{length, get_or, set, take, drop}
use lib.Seq.{take-suc, take-suc-set, take_all, length-take-le, drop-cons}
use lib.Ieee.{Float, nan, binary64, add}
use Rattle.floats.specs.Lists.{all}
use Rattle.floats.specs.Numbers.{cross_from}
use Rattle.floats.specs.Way.{f64, at}
use Rattle.floats.specs.declared.Position.{Position}
use Rattle.floats.proofs.Lists.{all_append}
use Rattle.lines.specs.declared.Params.{Params}
use Rattle.walk.specs.declared.PlaceCode.{PlaceCode}
use Rattle.walk.specs.Code.{place_of_code}
use Rattle.triangles.specs.Answers.{written}
use Rattle.routine.specs.declared.spots.Spot.{Spot}
use Rattle.routine.specs.Code.{spot_of, spots_of, stand, corners_of, all_fine, place_in, sum_of_crosses, values_of}

-- ---- one more spot laid
module _ (l : List Float) (ps : List Params) (ss : List (List Bool)) (places : List PlaceCode) (i : ℕ) (d : PlaceCode) (b : i < length places) (spot : Spot) (h : spot ≡ spot_of l ps ss (place_of_code (get_or places i d).code)) where
  grown : spots_of l ps ss (take (i + 1) places) ≡ spots_of l ps ss (take i places) ++ (spot ∷ [])
  unfolding spots_of
  grown =
      let f : PlaceCode → Spot = λ c. spot_of l ps ss (place_of_code c.code) in
      ap (λ k. map f (take k places)) (add-one i)
      ∙ (ap (map f) (take-suc places i d b) ∙ (map-append f (take i places) (get_or places i d ∷ []) ∙ ap (λ s. map f (take i places) ++ (s ∷ [])) (sym h)))

  pub one_laid : (at : List Position) → i < length at → take i at ≡ corners_of l ps ss (take i places) → take (i + 1) (set at i (stand spot)) ≡ corners_of l ps ss (take (i + 1) places)
  one_laid at f e =
      ap (λ k. take k (set at i (stand spot))) (add-one i)
      ∙ (take-suc-set at i (stand spot) f
      ∙ (ap (λ xs. xs ++ (stand spot ∷ [])) e ∙ sym (ap (map stand) grown ∙ map-append stand (spots_of l ps ss (take i places)) (spot ∷ []))))

  pub one_fine : {fine : Bool} → fine ≡ all_fine l ps ss (take i places) → (fine && spot.fine) ≡ all_fine l ps ss (take (i + 1) places)
  unfolding all
  one_fine e =
      ap₂ ◌&&◌ e (sym (and-true spot.fine))
      ∙ sym (ap (all (λ s. s.fine)) grown ∙ all_append (λ s. s.fine) (spots_of l ps ss (take i places)) (spot ∷ []))

-- ---- one more cross summed
pub one_summed : (cs : List Position) (m k : ℕ) {sum next : Float} → k ≡ m + 2 → sum ≡ sum_of_crosses cs m → next ≡ (cross_from f64 (at (place_in cs 0)) (at (place_in cs (k - 1))) (at (place_in cs k))).value →
    add binary64 sum next ≡ sum_of_crosses cs (k + 1 - 2)
unfolding sum_of_crosses
one_summed cs m k hk e h =
    let a : k - 1 ≡ m + 1 = omega arith in
    let b : k + 1 - 2 ≡ suc m = omega arith in
    rw (b, e, h, a, hk) refl

-- ---- one more position written
values_append : (cs ds : List Position) → values_of (cs ++ ds) ≡ values_of cs ++ values_of ds
values_append [] ds = refl
values_append (c ∷ cs) ds = ap (λ v. c.x ∷ c.y ∷ v) (values_append cs ds)

values_length : (cs : List Position) → length (values_of cs) ≡ 2 * length cs
values_length [] = refl
values_length (c ∷ cs) = omega (arith, values_length cs)

set_two : (vs rest : List Float) (a b x y : Float) → set (set (vs ++ (a ∷ b ∷ rest)) (length vs) x) (suc (length vs)) y ≡ vs ++ (x ∷ y ∷ rest)
set_two [] rest a b x y = refl
set_two (v ∷ vs) rest a b x y = ap (v ∷◌) (set_two vs rest a b x y)

module _ (room₀ : List Float) (cs : List Position) (i : ℕ) where
  two_more : (vs : List Float) (x y : Float) (n : ℕ) → length vs ≡ n → n + 1 < length room₀ → set (set (vs ++ drop n room₀) n x) (n + 1) y ≡ vs ++ (x ∷ y ∷ drop (n + 2) room₀)
  two_more vs x y n e h =
      let two : n + 2 ≡ suc (suc n) = omega arith in
      let parts : drop n room₀ ≡ get_or room₀ n nan ∷ get_or room₀ (suc n) nan ∷ drop (n + 2) room₀ = drop-cons room₀ n nan (omega (arith, h)) ∙ ap (get_or room₀ n nan ∷◌) (drop-cons room₀ (suc n) nan (omega (arith, h)) ∙ ap (λ k. get_or room₀ (suc n) nan ∷ drop k room₀) (sym two)) in
      ap₂ (λ r m. set (set (vs ++ r) n x) m y) parts (add-one n)
      ∙ (ap (λ k. set (set (vs ++ (get_or room₀ n nan ∷ get_or room₀ (suc n) nan ∷ drop (n + 2) room₀)) k x) (suc k) y) (sym e) ∙ set_two vs (drop (n + 2) room₀) _ _ x y)

  pub one_written : (d : Position) {room : List Float} → i < length cs → 2 * i + 1 < length room₀ → room ≡ values_of (take i cs) ++ drop (2 * i) room₀ →
      set (set room (2 * i) (get_or cs i d).x) (2 * i + 1) (get_or cs i d).y ≡ values_of (take (i + 1) cs) ++ drop (2 * (i + 1)) room₀
  one_written d b h e =
      let c = get_or cs i d in
      let n : length (take i cs) ≡ i = length-take-le i cs (omega (arith, b)) in
      let two : 2 * i + 2 ≡ 2 * (i + 1) = omega arith in
      ap (λ r. set (set r (2 * i) c.x) (2 * i + 1) c.y) e
      ∙ (two_more (values_of (take i cs)) c.x c.y (2 * i) (values_length (take i cs) ∙ ap (λ k. 2 * k) n) h
      ∙ (ap (λ k. values_of (take i cs) ++ (c.x ∷ c.y ∷ drop k room₀)) two
      ∙ (sym (append_assoc (values_of (take i cs)) (c.x ∷ c.y ∷ []) (drop (2 * (i + 1)) room₀))
      ∙ ap (λ v. v ++ drop (2 * (i + 1)) room₀) (sym (ap (λ k. values_of (take k cs)) (add-one i) ∙ (ap values_of (take-suc cs i d b) ∙ values_append (take i cs) (c ∷ [])))))))

  pub all_written : {room : List Float} → i ≤ length cs → length cs ≤ i → room ≡ values_of (take i cs) ++ drop (2 * i) room₀ → room ≡ written (values_of cs) room₀
  unfolding written
  all_written h k e =
      let n : 2 * i ≡ length (values_of cs) = omega (arith, values_length cs) in
      e ∙ (ap (λ v. values_of v ++ drop (2 * i) room₀) (take_all i cs k) ∙ ap (λ m. values_of cs ++ drop m room₀) n)
