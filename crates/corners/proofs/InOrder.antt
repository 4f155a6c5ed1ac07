-- Asked for one after another, the corners are the ring, in its order, and their positions are what an answer writes. Assumes nothing.
use mathlib.Core.Path.{◌≡◌, refl, sym, ap, ap₂, subst, ◌∙◌}
use mathlib.Core.Logic.{inl, inr}
use mathlib.Core.List.{List, [], ◌∷◌, map}
use Prim.Native.Nat.{ℕ, zero, suc, ◌+◌, ◌*◌, ◌<◌, ◌≤◌}
use native.Mathlib.Nat.{zero-add}
use native.Mathlib.Omega.{arith}
use lib.Ieee.{Float, nan}
use lib.ListN.{length, get_or, take}
use lib.Seq.{get_or-take, length-take-le}
use Rattle.lines.specs.Lines.{up_from}
use Rattle.ring.specs.Places.{vertex}
use Rattle.ring.specs.Demand.{NoneOrThreeToSix}
use Rattle.triangles.specs.Answers.{whole_of}
use Rattle.triangles.specs.Rows.{NoRow}
use Rattle.triangles.specs.Decision.{enough, answer_to}
use Rattle.triangles.proofs.Rows.{exactly_when}
use Rattle.triangles.proofs.Demand.{demand3}
use Rattle.triangles.proofs.Rest.{rest_kept}
use Rattle.triangles.proofs.Decided.{any_room}
use Rattle.corners.specs.declared.Told.{Told}
use Rattle.corners.specs.Corners.{told_at}
use Rattle.corners.specs.Promise.{place_told, CornerDemand, positions_told, InOrder}
use Rattle.corners.proofs.Returned.{corner_returned}

-- ---- lists that are asked for entry by entry, from i on
next : (i k : ℕ) → suc i + k ≡ i + suc k
next i k = omega arith

zero_right : (i : ℕ) → i ≡ i + 0
zero_right i = omega arith

map-map : {A B C : Type 0} (f : B → C) (g : A → B) (xs : List A) → map f (map g xs) ≡ map (λ x. f (g x)) xs
map-map f g [] = refl
map-map f g (x ∷ xs) = ap (f (g x) ∷◌) (map-map f g xs)

all_asked : {A : Type 0} (f : ℕ → A) (d : A) (xs : List A) (i : ℕ) → ((k : ℕ) → k < length xs → f (i + k) ≡ get_or xs k d) → map f (up_from i (length xs)) ≡ xs
unfolding up_from
all_asked f d [] i h = refl
all_asked f d (x ∷ xs) i h = ap₂ ◌∷◌ (ap f (zero_right i) ∙ h 0 (omega arith)) (all_asked f d xs (suc i) (λ k b. ap f (next i k) ∙ h (suc k) (omega (arith, b))))

-- two values a corner
all_positions : (f : ℕ → Told) (n : ℕ) (vs : List Float) (i : ℕ) → length vs ≡ 2 * n → ((k : ℕ) → k < n → ((f (i + k)).x ≡ get_or vs (2 * k) nan) × ((f (i + k)).y ≡ get_or vs (2 * k + 1) nan)) → positions_told (map f (up_from i n)) ≡ vs
unfolding positions_told up_from
all_positions f zero [] i e h = refl
all_positions f zero (x ∷ vs) i e h = absurd (omega (arith, e))
all_positions f (suc n) [] i e h = absurd (omega (arith, e))
all_positions f (suc n) (x ∷ []) i e h = absurd (omega (arith, e))
all_positions f (suc n) (x ∷ y ∷ vs) i e h =
    let r = h 0 (omega arith) in
    ap₂ ◌∷◌ (ap (λ k. (f k).x) (zero_right i) ∙ r.0) (ap₂ ◌∷◌ (ap (λ k. (f k).y) (zero_right i) ∙ r.1)
    (all_positions f n vs (suc i) (omega (arith, e)) (λ k b.
    let q = h (suc k) (omega (arith, b)) in
    (ap (λ j. (f j).x) (next i k) ∙ (q.0 ∙ ap (λ j. get_or (x ∷ y ∷ vs) j nan) (even k)), ap (λ j. (f j).y) (next i k) ∙ (q.1 ∙ ap (λ j. get_or (x ∷ y ∷ vs) j nan) (odd k))))))
  where
    even : (k : ℕ) → 2 * suc k ≡ suc (suc (2 * k))
    even k = omega arith

    odd : (k : ℕ) → 2 * suc k + 1 ≡ suc (suc (2 * k + 1))
    odd k = omega arith

at_most_six : {m n : ℕ} → NoneOrThreeToSix n → m ≡ n → m ≤ 6
at_most_six (inl h) e = omega (arith, h, e)
at_most_six (inr h) e = omega (arith, h.1, e)

-- ---- of a pair that is answered
module _ (l : List Float) (passed : NoRow l enough) where
  demand : (k : ℕ) → CornerDemand l k (told_at l k)
  demand k = corner_returned l k (told_at l k) (record { result_is = refl })

  told : (k : ℕ) → k < (answer_to l).n → (told_at l k).number ≡ 0
  told k h = (demand k).answered.1 (passed, h)

  number : (answer_to l).number ≡ 0
  number = (exactly_when l enough).answered.1 passed

  count : (answer_to l).n ≡ length (whole_of l enough).ring
  count = (demand3 l enough number).counted

  places : map place_told (map (told_at l) (up_from 0 (answer_to l).n)) ≡ (whole_of l enough).ring
  places =
      map-map place_told (told_at l) (up_from 0 (answer_to l).n)
      ∙ (ap (λ n. map (λ k. place_told (told_at l k)) (up_from 0 n)) count
      ∙ all_asked (λ k. place_told (told_at l k)) (vertex 0) (whole_of l enough).ring 0 (λ k h. ap (λ j. place_told (told_at l j)) (zero-add k) ∙ ((demand k).corner (told k (subst (λ n. k < n) (sym count) h))).is_place))

  module _ (room : List Float) (long : 12 ≤ length room) where
    abbrev front : List Float
    front = take (2 * (answer_to l).n) (whole_of l room).room

    same_n : (whole_of l room).answer.n ≡ (answer_to l).n
    same_n = ap (λ a. a.n) (any_room l room long)

    -- the room has that many values
    enough_values : 2 * (answer_to l).n ≤ length (whole_of l room).room
    enough_values = omega (arith, long, most, (rest_kept l room).same_length)
      where
        most : (answer_to l).n ≤ 6
        most = at_most_six (demand3 l enough number).size count

    front_length : length front ≡ 2 * (answer_to l).n
    front_length = length-take-le (2 * (answer_to l).n) (whole_of l room).room enough_values

    positions : positions_told (map (told_at l) (up_from 0 (answer_to l).n)) ≡ front
    positions = all_positions (told_at l) (answer_to l).n front 0 front_length (λ k h.
        let w = (demand k).written (told k h) room long in
        (ap (λ j. (told_at l j).x) (zero-add k) ∙ (w.x ∙ sym (get_or-take (2 * (answer_to l).n) (whole_of l room).room (2 * k) nan (omega (arith, h)))), ap (λ j. (told_at l j).y) (zero-add k) ∙ (w.y ∙ sym (get_or-take (2 * (answer_to l).n) (whole_of l room).room (2 * k + 1) nan (omega (arith, h))))))

pub in_order : InOrder
in_order values passed = record { places = places values passed; positions = positions values passed }
