-- Of twelve finite values the boxes share no point exactly if the pair is far. Assumes nothing.
use mathlib.Core.Path.{◌≡◌, refl, sym, subst, ◌∙◌}
use mathlib.Core.Logic.{◌↔◌}
use mathlib.Core.Bool.{Bool, true, false, true≢false}
use mathlib.Core.List.Memᴰ.{head as here}
use mathlib.Core.List.Memᴰ.{tail as there}
use mathlib.Core.List.{List, [], ◌∷◌}
use Prim.Native.Nat.{ℕ, ◌<◌}
use native.Mathlib.Omega.{arith}
use lib.Dec.{lit<}
use lib.ListN.{get_or}
use lib.Ieee.{Float, nan}
use Rattle.floats.specs.Finite.{finite}
use Rattle.floats.specs.declared.Position.{Position}
use Rattle.floats.proofs.Lists.{so, os, all_of, all_get_d}
use Rattle.boxes.specs.Shared.{box_around, In, AllFinite, SharedExactlyIf}
use Rattle.boxes.specs.Near.{corners_of_u, corners_of_v, is_near, TwelveFinite, Far, AllTwelve, BoxesTell}
use Rattle.boxes.proofs.Points.{shared_points}

pub all_twelve : AllTwelve
all_twelve [] h = absurd (omega (arith, h))
all_twelve (x0 ∷ []) h = absurd (omega (arith, h))
all_twelve (x0 ∷ x1 ∷ []) h = absurd (omega (arith, h))
all_twelve (x0 ∷ x1 ∷ x2 ∷ []) h = absurd (omega (arith, h))
all_twelve (x0 ∷ x1 ∷ x2 ∷ x3 ∷ []) h = absurd (omega (arith, h))
all_twelve (x0 ∷ x1 ∷ x2 ∷ x3 ∷ x4 ∷ []) h = absurd (omega (arith, h))
all_twelve (x0 ∷ x1 ∷ x2 ∷ x3 ∷ x4 ∷ x5 ∷ []) h = absurd (omega (arith, h))
all_twelve (x0 ∷ x1 ∷ x2 ∷ x3 ∷ x4 ∷ x5 ∷ x6 ∷ []) h = absurd (omega (arith, h))
all_twelve (x0 ∷ x1 ∷ x2 ∷ x3 ∷ x4 ∷ x5 ∷ x6 ∷ x7 ∷ []) h = absurd (omega (arith, h))
all_twelve (x0 ∷ x1 ∷ x2 ∷ x3 ∷ x4 ∷ x5 ∷ x6 ∷ x7 ∷ x8 ∷ []) h = absurd (omega (arith, h))
all_twelve (x0 ∷ x1 ∷ x2 ∷ x3 ∷ x4 ∷ x5 ∷ x6 ∷ x7 ∷ x8 ∷ x9 ∷ []) h = absurd (omega (arith, h))
all_twelve (x0 ∷ x1 ∷ x2 ∷ x3 ∷ x4 ∷ x5 ∷ x6 ∷ x7 ∷ x8 ∷ x9 ∷ x10 ∷ []) h = absurd (omega (arith, h))
all_twelve (x0 ∷ x1 ∷ x2 ∷ x3 ∷ x4 ∷ x5 ∷ x6 ∷ x7 ∷ x8 ∷ x9 ∷ x10 ∷ x11 ∷ []) h = refl
all_twelve (x0 ∷ x1 ∷ x2 ∷ x3 ∷ x4 ∷ x5 ∷ x6 ∷ x7 ∷ x8 ∷ x9 ∷ x10 ∷ x11 ∷ y ∷ l) h = absurd (omega (arith, h))

module _ (l : List Float) (g : TwelveFinite l) where
  at : (k : ℕ) → k < 12 → finite (get_or l k nan) ≡ true
  at k h = so (all_get_d finite l k nan (all_of finite l (λ v m. os (g.all_finite v m))) (subst (λ n. k < n) (sym g.twelve) h))

  u_finite : AllFinite (corners_of_u l)
  u_finite v (here e) = subst (λ w. finite w ≡ true) (sym e) (at 0 (lit< tt))
  u_finite v (there (here e)) = subst (λ w. finite w ≡ true) (sym e) (at 2 (lit< tt))
  u_finite v (there (there (here e))) = subst (λ w. finite w ≡ true) (sym e) (at 4 (lit< tt))
  u_finite v (there (there (there (here e)))) = subst (λ w. finite w ≡ true) (sym e) (at 1 (lit< tt))
  u_finite v (there (there (there (there (here e))))) = subst (λ w. finite w ≡ true) (sym e) (at 3 (lit< tt))
  u_finite v (there (there (there (there (there (here e)))))) = subst (λ w. finite w ≡ true) (sym e) (at 5 (lit< tt))
  u_finite v (there (there (there (there (there (there x24)))))) = elim x24 [ ]

  v_finite : AllFinite (corners_of_v l)
  v_finite v (here e) = subst (λ w. finite w ≡ true) (sym e) (at 6 (lit< tt))
  v_finite v (there (here e)) = subst (λ w. finite w ≡ true) (sym e) (at 8 (lit< tt))
  v_finite v (there (there (here e))) = subst (λ w. finite w ≡ true) (sym e) (at 10 (lit< tt))
  v_finite v (there (there (there (here e)))) = subst (λ w. finite w ≡ true) (sym e) (at 7 (lit< tt))
  v_finite v (there (there (there (there (here e))))) = subst (λ w. finite w ≡ true) (sym e) (at 9 (lit< tt))
  v_finite v (there (there (there (there (there (here e)))))) = subst (λ w. finite w ≡ true) (sym e) (at 11 (lit< tt))
  v_finite v (there (there (there (there (there (there x24)))))) = elim x24 [ ]

  boxes : SharedExactlyIf (corners_of_u l) (corners_of_v l)
  boxes = shared_points (corners_of_u l) (corners_of_v l) u_finite v_finite

  near_not_far : is_near l ≡ true → Far l → ⊥
  unfolding is_near
  near_not_far h far = true≢false (sym h ∙ boxes.none.1 far.parted)

  far_by : is_near l ≡ false → Far l
  unfolding is_near
  far_by h = record { given = g; parted = boxes.none.0 h }

  shared : (is_near l ≡ true) ↔ (Far l → ⊥)
  shared = (near_not_far, go (is_near l) refl)
    where
      go : (b : Bool) → is_near l ≡ b → (Far l → ⊥) → is_near l ≡ true
      go true e = λ other. e
      go false e = λ other. absurd (other (far_by e))

  none : (is_near l ≡ false) ↔ Far l
  none = (far_by, go (is_near l) refl)
    where
      go : (b : Bool) → is_near l ≡ b → Far l → is_near l ≡ false
      go true e far = absurd (near_not_far e far)
      go false e far = e

  point : (is_near l ≡ true) ↔ ((p : Position) × In (box_around (corners_of_u l)) p × In (box_around (corners_of_v l)) p)
  unfolding is_near
  point = boxes.some

pub boxes_tell : BoxesTell
boxes_tell l g = record { far = none l g; near = shared l g; point = point l g }
