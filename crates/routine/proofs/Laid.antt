-- The values that the code lays down are those of the ring's corners, and its area is theirs. Assumes nothing.
use mathlib.Core.Path.{◌≡◌, refl, sym, ap, ap₂, subst, ◌∙◌}
use mathlib.Core.Logic.{◌⊎◌, inl, inr}
use mathlib.Core.Bool.{Bool, true, false, ◌&&◌, cond}
use mathlib.Core.List.Memᴰ.{head as here}
use mathlib.Core.List.Memᴰ.{tail as there}
use mathlib.Core.List.{List, [], ◌∷◌, map, map-map, Memᴰ}
use Prim.Native.Nat.{ℕ, zero, suc, ◌+◌, ◌-◌, ◌<◌, ◌≤◌}
use native.Mathlib.Omega.{arith}
use lib.Dec.{ltb}
use borrow.Author.Tests.{ltb-true, ltb-false}
use lib.Ieee.{Float, nan, binary64, add, mul, neg, lt, of_bits}
use lib.ListN.{length, get_or, take, length-map}
use lib.Seq.{get_or-take}
use Rattle.floats.specs.Lists.{all}
use Rattle.floats.specs.Finite.{finite, nought}
use Rattle.floats.specs.declared.Position.{Position}
use Rattle.lines.specs.declared.Params.{Params}
use Rattle.routine.specs.declared.spots.Spot.{Spot}
use Rattle.floats.specs.Numbers.{Point, cross_from}
use Rattle.floats.specs.Way.{Way, negated, f64, given_point, at}
use Rattle.floats.proofs.Told.{FinitePoint, add_operands, mul_operands, turned_operand, cross_from_operands}
use Rattle.ring.specs.Places.{Place, vertex, fifteen}
use Rattle.walk.specs.declared.PlaceCode.{PlaceCode}
use Rattle.walk.specs.Code.{code_of, place_of_code, coded}
use Rattle.walk.proofs.Beyond.{decoded}
use Rattle.triangles.specs.Pair.{vertex_signs}
use Rattle.triangles.specs.Positions.{placed_at, position_of, values_of_corners, corner_at, sum_to, half, area_of}
use Rattle.corners.specs.Corners.{valued}
use Rattle.routine.specs.Code.{spot_of, spots_of, stand, corners_of, all_fine, place_in, sum_of_crosses, area_by, values_of}
use Rattle.routine.proofs.Crossings.{params, spot, spot_fine, stands}

-- ---- lists
map-take : {A B : Type 0} (f : A → B) (n : ℕ) (xs : List A) → map f (take n xs) ≡ take n (map f xs)
map-take f zero xs = refl
map-take f (suc n) [] = refl
map-take f (suc n) (x ∷ xs) = ap (f x ∷◌) (map-take f n xs)

same_map : {A B : Type 0} (f g : A → B) (xs : List A) → ((x : A) → Memᴰ x xs → f x ≡ g x) → map f xs ≡ map g xs
same_map f g [] h = refl
same_map f g (x ∷ xs) h = ap₂ ◌∷◌ (h x (here refl)) (same_map f g xs (λ y m. h y (there m)))

all_map : {A B : Type 0} (p : B → Bool) (f : A → B) (xs : List A) → all p (map f xs) ≡ all (λ x. p (f x)) xs
unfolding all
all_map p f [] = refl
all_map p f (x ∷ xs) = ap (p (f x) &&◌) (all_map p f xs)

member_at : (ps : List Place) (k : ℕ) (d : Place) → k < length ps → Memᴰ (get_or ps k d) ps
member_at [] k d h = absurd (omega arith)
member_at (p ∷ ps) zero d h = here refl
member_at (p ∷ ps) (suc k) d h = there (member_at ps k d (omega arith))

get_d_map : {A B : Type 0} (f : A → B) (xs : List A) (k : ℕ) (d : A) (e : B) → k < length xs → get_or (map f xs) k e ≡ f (get_or xs k d)
get_d_map f [] k d e h = absurd (omega arith)
get_d_map f (x ∷ xs) zero d e h = refl
get_d_map f (x ∷ xs) (suc k) d e h = get_d_map f xs k d e (omega arith)

-- the spot of place k
abbrev pub spot_at : List Float → List Params → List (List Bool) → List PlaceCode → ℕ → Spot
spot_at l ps ss places k = spot_of l ps ss (place_of_code (get_or places k (coded 0)).code)

-- a position without the way to it
abbrev pub positioned : Point Way → Position
positioned c = record { x = c.x.value; y = c.y.value }

-- ---- the ring's places ps, of which the code has the numbers
module _ (l : List Float) (ps : List Place) (within : (p : Place) → Memᴰ p ps → Memᴰ p fifteen) (places : List PlaceCode) (codes : take (length ps) (map (λ c. c.code) places) ≡ map code_of ps) (enough : length ps ≤ length places) where
  abbrev ss : List (List Bool)
  ss = vertex_signs l

  place_at : (k : ℕ) → k < length ps → place_of_code (get_or places k (coded 0)).code ≡ get_or ps k (vertex 0)
  place_at k h =
      ap place_of_code (sym (get_d_map (λ c. c.code) places k (coded 0) 0 (omega (arith, h, enough)))
      ∙ (sym (get_or-take (length ps) (map (λ c. c.code) places) k 0 h) ∙ (ap (λ cs. get_or cs k 0) codes ∙ get_d_map code_of ps k (vertex 0) 0 h)))
      ∙ decoded (get_or ps k (vertex 0)) (within _ (member_at ps k (vertex 0) h))

  -- the corner at place k
  pub corner_laid : (k : ℕ) → k < length ps → (spot_at l (params l) ss places k).corner ≡ valued (placed_at l (get_or ps k (vertex 0)))
  corner_laid k h = ap (λ p. (spot_of l (params l) ss p).corner) (place_at k h) ∙ (stands l (get_or ps k (vertex 0))).corner_is

  -- all spots
  spots_laid : spots_of l (params l) ss (take (length ps) places) ≡ map (spot l) ps
  unfolding spots_of
  spots_laid =
      sym (map-map (λ k. spot l (place_of_code k)) (λ c. c.code) (take (length ps) places))
      ∙ (ap (map (λ k. spot l (place_of_code k))) (map-take (λ c. c.code) (length ps) places ∙ codes)
      ∙ (map-map (λ k. spot l (place_of_code k)) code_of ps ∙ same_map (λ p. spot l (place_of_code (code_of p))) (spot l) ps (λ p m. ap (spot l) (decoded p (within p m)))))

  pub all_laid : corners_of l (params l) ss (take (length ps) places) ≡ map positioned (map (position_of l) ps)
  all_laid =
      ap (map stand) spots_laid
      ∙ (map-map stand (spot l) ps
      ∙ (same_map (λ p. stand (spot l p)) (λ p. positioned (position_of l p)) ps (λ p m. ap (λ c. record { x = c.x; y = c.y }) (stands l p).corner_is)
      ∙ sym (map-map positioned (position_of l) ps)))

  pub all_fine_is : all_fine l (params l) ss (take (length ps) places) ≡ all (spot_fine l) ps
  all_fine_is = ap (all (λ s. s.fine)) spots_laid ∙ all_map (λ s. s.fine) (spot l) ps

-- ---- corners cs without the ways to them: their values, and their area
pub same_values : (cs : List (Point Way)) → values_of (map positioned cs) ≡ values_of_corners cs
unfolding values_of_corners
same_values [] = refl
same_values (c ∷ cs) = ap (λ v. c.x.value ∷ c.y.value ∷ v) (same_values cs)

abbrev none : Point Way
none = given_point nan nan

cross_same : {a b c x y z : Point Way} → a ≡ x → b ≡ y → c ≡ z → (cross_from f64 a b c).value ≡ (cross_from f64 x y z).value
cross_same {a} {b} {c} {x} {y} {z} ha hb hc = ap (λ p. (cross_from f64 p b c).value) ha ∙ (ap (λ p. (cross_from f64 x p c).value) hb ∙ ap (λ p. (cross_from f64 x y p).value) hc)

module _ (cs : List (Point Way)) where
  corner_is : (k : ℕ) → k < length cs → at (place_in (map positioned cs) k) ≡ corner_at cs k
  corner_is k h = ap at (get_d_map positioned cs k none (record { x = nan; y = nan }) h)

  sum_is : (m : ℕ) → m + 2 ≤ length cs → sum_of_crosses (map positioned cs) m ≡ (sum_to cs m).value
  unfolding sum_of_crosses sum_to
  sum_is zero h = refl
  sum_is (suc m) h =
      ap₂ (add binary64) (sum_is m (omega (arith, h)))
      (cross_same (corner_is 0 (omega (arith, h))) (corner_is (m + 1) (omega (arith, h))) (corner_is (m + 2) (omega (arith, h))))

turned_value : (b : Bool) (a : Way) → mul binary64 half (cond b (neg a.value) a.value) ≡ mul binary64 half (cond b (negated a) a).value
turned_value true a = refl
turned_value false a = refl

pub area_is : (cs : List (Point Way)) → (length cs ≡ 0) ⊎ (3 ≤ length cs) → area_by (map positioned cs) ≡ (area_of cs).value
unfolding area_by area_of sum_of_crosses mul lt neg of_bits
area_is [] h = refl
area_is (c ∷ cs) (inl z) = absurd (omega (arith, z))
area_is (c ∷ cs) (inr h) =
    let m = length (c ∷ cs) - 2 in
    ap (λ n. mul binary64 half (cond (lt (sum_of_crosses (map positioned (c ∷ cs)) (n - 2)) nought) (neg (sum_of_crosses (map positioned (c ∷ cs)) (n - 2))) (sum_of_crosses (map positioned (c ∷ cs)) (n - 2)))) (length-map (c ∷ cs) positioned)
    ∙ (ap (λ sum. mul binary64 half (cond (lt sum nought) (neg sum) sum)) (sum_is (c ∷ cs) m (omega (arith, h)))
    ∙ turned_value (lt (sum_to (c ∷ cs) m).value nought) (sum_to (c ∷ cs) m))

-- ---- a finite area has finite corners
module _ (cs : List (Point Way)) where
  cross_corners : (m : ℕ) → finite (sum_to cs (suc m)).value ≡ true → (finite (sum_to cs m).value ≡ true) × (FinitePoint (corner_at cs 0) × FinitePoint (corner_at cs (m + 1)) × FinitePoint (corner_at cs (m + 2)))
  unfolding sum_to
  cross_corners m h =
      let c = cross_from f64 (corner_at cs 0) (corner_at cs (m + 1)) (corner_at cs (m + 2)) in
      let r = add_operands (sum_to cs m).value c.value h in
      (r.0, cross_from_operands (corner_at cs 0) (corner_at cs (m + 1)) (corner_at cs (m + 2)) r.1)

  sum_corners : (m k : ℕ) → finite (sum_to cs (suc m)).value ≡ true → k < m + 3 → FinitePoint (corner_at cs k)
  sum_corners zero k h b = pick k b (cross_corners zero h).1
    where
      pick : (k : ℕ) → k < 3 → FinitePoint (corner_at cs 0) × FinitePoint (corner_at cs 1) × FinitePoint (corner_at cs 2) → FinitePoint (corner_at cs k)
      pick zero b r = r.0
      pick (suc zero) b r = r.1
      pick (suc (suc zero)) b r = r.2
      pick (suc (suc (suc k))) b r = absurd (omega arith)
  sum_corners (suc m) k h b = let r = cross_corners (suc m) h in go (ltb k (m + 3)) refl (λ c. sum_corners m k r.0 c) r.1.2
    where
      go : (t : Bool) → ltb k (m + 3) ≡ t → (k < m + 3 → FinitePoint (corner_at cs k)) → FinitePoint (corner_at cs (suc m + 2)) → FinitePoint (corner_at cs k)
      go true e earlier last = earlier (ltb-true k (m + 3) e)
      go false e earlier last = let n : suc m + 2 ≡ k = omega (arith, ltb-false k (m + 3) e) in subst (λ i. FinitePoint (corner_at cs i)) n last

sum_finite : (cs : List (Point Way)) → 3 ≤ length cs → finite (area_of cs).value ≡ true → finite (sum_to cs (length cs - 2)).value ≡ true
unfolding area_of
sum_finite [] n h = absurd (omega arith)
sum_finite (c ∷ cs) n h =
    let sum = sum_to (c ∷ cs) (length (c ∷ cs) - 2) in
    let b = f64.is_below_zero sum in
    turned_operand b sum (mul_operands half (cond b (negated sum) sum).value h).1

all_corners : (cs : List (Point Way)) → ((k : ℕ) → k < length cs → FinitePoint (corner_at cs k)) → all finite (values_of_corners cs) ≡ true
unfolding values_of_corners all
all_corners [] h = refl
all_corners (c ∷ cs) h =
    let p = h 0 (omega arith) in
    ap₂ ◌&&◌ p.0 (ap₂ ◌&&◌ p.1 (all_corners cs (λ k b. h (suc k) (omega (arith, b)))))

pub area_corners : (cs : List (Point Way)) → (length cs ≡ 0) ⊎ (3 ≤ length cs) → finite (area_of cs).value ≡ true → all finite (values_of_corners cs) ≡ true
area_corners [] (inl z) h = all_corners [] (λ k b. absurd (omega (arith, b)))
area_corners [] (inr n) h = absurd (omega (arith, n))
area_corners (c ∷ cs) (inl z) h = absurd (omega (arith, z))
area_corners (c ∷ cs) (inr n) h =
    let m : length (c ∷ cs) - 2 ≡ suc (length (c ∷ cs) - 3) = omega (arith, n) in
    let s = subst (λ i. finite (sum_to (c ∷ cs) i).value ≡ true) m (sum_finite (c ∷ cs) n h) in
    all_corners (c ∷ cs) (λ k b. sum_corners (c ∷ cs) (length (c ∷ cs) - 3) k s (omega (arith, b, n)))
