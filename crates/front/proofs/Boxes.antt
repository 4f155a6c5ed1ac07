-- The code's test for a pair that is far says exactly that. Assumes nothing.
use mathlib.Core.Path.{◌≡◌, refl, sym, ◌∙◌}
use mathlib.Core.Logic.{◌↔◌}
use mathlib.Core.Bool.{Bool, true, false, not, ◌&&◌, true≢false, false≢true}
use mathlib.Core.List.{List}
use lib.Dec.{eqb}
use borrow.Author.Tests.{eqb-true, eq-eqb, ne_eqb}
use lib.ListN.{length}
use lib.Ieee.{Float}
use Rattle.floats.specs.Lists.{all}
use Rattle.floats.specs.Finite.{finite}
use Rattle.floats.proofs.Lists.{so, os, all_at, all_of}
use Rattle.std.specs.Array.{IsWholeChunk}
use Rattle.floats.specs.declared.Triangle.{Triangle}
use Rattle.boxes.specs.declared.Box.{Box}
use Rattle.boxes.specs.Boxes.{box_of, share_point}
use Rattle.boxes.specs.Near.{is_near, Far}
use Rattle.boxes.proofs.Pairs.{boxes_tell}
use Rattle.front.specs.Front.{far_by, triangle_from}

both : (a b : Bool) → (a && b) ≡ true → (a ≡ true) × (b ≡ true)
both true b h = (refl, h)
both false b h = absurd (false≢true h)

not-true : (b : Bool) → not b ≡ true → b ≡ false
not-true true h = absurd (false≢true h)
not-true false h = refl

abbrev box_of_triangle : Triangle → Box
box_of_triangle t = box_of t.a.x t.a.y t.b.x t.b.y t.c.x t.c.y

module _ (l : List Float) where
  pub is_far : (far_by l ≡ true) ↔ Far l
  unfolding far_by
  is_far = (to, from)
    where
      to : (eqb (length l) 12 && (not (is_near l) && all finite l)) ≡ true → Far l
      to h =
          let p = both (eqb (length l) 12) (not (is_near l) && all finite l) h in
          let q = both (not (is_near l)) (all finite l) p.1 in
          (boxes_tell l (record { twelve = eqb-true (length l) 12 p.0; all_finite = λ v m. so (all_at finite l (os q.1) m) })).far.0 (not-true (is_near l) q.0)

      from : Far l → (eqb (length l) 12 && (not (is_near l) && all finite l)) ≡ true
      from far = rw (eq-eqb (length l) 12 far.given.twelve, (boxes_tell l far.given).far.1 far) (so (all_of finite l (λ v m. os (far.given.all_finite v m))))

  pub not_far : far_by l ≡ false → Far l → ⊥
  not_far h far = true≢false (sym (is_far.1 far) ∙ h)

  -- ---- as the code comes to it
  pub other_length : (length l ≡ 12 → ⊥) → false ≡ far_by l
  unfolding far_by
  other_length h = sym (rw (ne_eqb (length l) 12 h) refl)

  module _ {t : List Float} {p : Triangle × Triangle} {u v : Box} {s : Bool} (ht : IsWholeChunk l t 12) (hp : p ≡ (triangle_from t 0, triangle_from t 6)) (hu : u ≡ box_of_triangle p.0) (hv : v ≡ box_of_triangle p.1) (hs : s ≡ share_point u v) where
    near_is : is_near l ≡ s
    unfolding is_near
    near_is = sym (hs ∙ rw (hu, hv, hp, ht.same) refl)

    pub sharing : s ≡ true → false ≡ far_by l
    unfolding far_by
    sharing h = sym (rw (eq-eqb (length l) 12 ht.long, near_is ∙ h) refl)

    pub sharing_none : s ≡ false → {r : Bool} → r ≡ all finite t → r ≡ far_by l
    unfolding far_by
    sharing_none h e = e ∙ sym (rw (eq-eqb (length l) 12 ht.long, near_is ∙ h, ht.same) refl)
