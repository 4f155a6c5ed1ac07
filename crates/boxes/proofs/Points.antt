-- Of triangles with finite coordinates: boxes share no point exactly if all of one triangle lies below all of the other on an axis, and share one exactly if a point is in both. Assumes nothing.
use mathlib.Core.Path.{◌≡◌, refl, sym, ap, subst, ◌∙◌}
use mathlib.Core.Logic.{◌⊎◌, inl, inr}
use mathlib.Core.Bool.{Bool, true, false, true≢false, false≢true}
use mathlib.Core.List.Memᴰ.{head as here}
use mathlib.Core.List.Memᴰ.{tail as there}
use mathlib.Core.List.{[], ◌∷◌, Memᴰ}
use lib.Ieee.{Float, lt}
use Rattle.floats.specs.Finite.{finite}
use Rattle.floats.specs.declared.Position.{Position}
use Rattle.floats.proofs.Smaller.{lt_through, lt_after, not_below_through}
use Rattle.boxes.specs.declared.Box.{Box}
use Rattle.boxes.specs.Boxes.{lesser, greater, box_of, share_point}
use Rattle.boxes.specs.Shared.{Corners, xs, ys, box_around, AllFinite, In, AllBelow, Parted, SharedExactlyIf, SharedPoints, FiniteBox}
use Rattle.boxes.proofs.Held.{lesser_one, greater_one, lesser-finite, greater-finite, lesser_first, lesser_second, greater_first, greater_second, PartedBoxes, no_point, parted_none}

-- ---- the ends of three values
module _ (a b c : Float) where
  abbrev least : Float
  least = lesser (lesser a b) c

  abbrev greatest : Float
  greatest = greater (greater a b) c

  -- each is one of the three
  among : {x y : Float} → (x ≡ a) ⊎ (x ≡ b) → (y ≡ x) ⊎ (y ≡ c) → Memᴰ y (a ∷ b ∷ c ∷ [])
  among (inl e) (inl d) = here (d ∙ e)
  among (inr e) (inl d) = there (here (d ∙ e))
  among h (inr d) = there (there (here d))

  least_in : Memᴰ least (a ∷ b ∷ c ∷ [])
  least_in = among (lesser_one a b) (lesser_one (lesser a b) c)

  greatest_in : Memᴰ greatest (a ∷ b ∷ c ∷ [])
  greatest_in = among (greater_one a b) (greater_one (greater a b) c)

  module _ (f : (v : Float) → Memᴰ v (a ∷ b ∷ c ∷ []) → finite v ≡ true) where
    fa : finite a ≡ true
    fa = f a (here refl)

    fb : finite b ≡ true
    fb = f b (there (here refl))

    fc : finite c ≡ true
    fc = f c (there (there (here refl)))

    least-finite : finite least ≡ true
    least-finite = f least least_in

    greatest-finite : finite greatest ≡ true
    greatest-finite = f greatest greatest_in

    -- none is below the least, and the greatest is below none
    none_below : (v : Float) → Memᴰ v (a ∷ b ∷ c ∷ []) → lt v least ≡ false
    none_below v (here e) = subst (λ w. lt w least ≡ false) (sym e) (not_below_through a (lesser a b) least fa (lesser-finite a b fa fb) least-finite (lesser_first a b) (lesser_first (lesser a b) c))
    none_below v (there (here e)) = subst (λ w. lt w least ≡ false) (sym e) (not_below_through b (lesser a b) least fb (lesser-finite a b fa fb) least-finite (lesser_second a b) (lesser_first (lesser a b) c))
    none_below v (there (there (here e))) = subst (λ w. lt w least ≡ false) (sym e) (lesser_second (lesser a b) c)
    none_below v (there (there (there x12))) = elim x12 [ ]

    none_above : (v : Float) → Memᴰ v (a ∷ b ∷ c ∷ []) → lt greatest v ≡ false
    none_above v (here e) = subst (λ w. lt greatest w ≡ false) (sym e) (not_below_through greatest (greater a b) a greatest-finite (greater-finite a b fa fb) fa (greater_first (greater a b) c) (greater_first a b))
    none_above v (there (here e)) = subst (λ w. lt greatest w ≡ false) (sym e) (not_below_through greatest (greater a b) b greatest-finite (greater-finite a b fa fb) fb (greater_first (greater a b) c) (greater_second a b))
    none_above v (there (there (here e))) = subst (λ w. lt greatest w ≡ false) (sym e) (greater_second (greater a b) c)
    none_above v (there (there (there x12))) = elim x12 [ ]

    pub in_order : lt greatest least ≡ false
    in_order = none_above least least_in

-- ---- of a triangle
module _ (t : Corners) (f : AllFinite t) where
  xs-finite : (v : Float) → Memᴰ v (xs t) → finite v ≡ true
  xs-finite v (here e) = f v (here e)
  xs-finite v (there (here e)) = f v (there (here e))
  xs-finite v (there (there (here e))) = f v (there (there (here e)))
  xs-finite v (there (there (there x12))) = elim x12 [ ]

  ys-finite : (v : Float) → Memᴰ v (ys t) → finite v ≡ true
  ys-finite v m = f v (there (there (there m)))

  pub box_finite : FiniteBox (box_around t)
  unfolding box_of
  box_finite = record {
    left = least-finite t.x0 t.x1 t.x2 xs-finite;
    right = greatest-finite t.x0 t.x1 t.x2 xs-finite;
    bottom = least-finite t.y0 t.y1 t.y2 ys-finite;
    top = greatest-finite t.y0 t.y1 t.y2 ys-finite;
  }

  holds_at : (p : Position) → Memᴰ p.x (xs t) → Memᴰ p.y (ys t) → In (box_around t) p
  unfolding box_of
  holds_at p mx my = record {
    x_finite = xs-finite p.x mx;
    y_finite = ys-finite p.y my;
    not_left = none_below t.x0 t.x1 t.x2 xs-finite p.x mx;
    not_right = none_above t.x0 t.x1 t.x2 xs-finite p.x mx;
    not_below = none_below t.y0 t.y1 t.y2 ys-finite p.y my;
    not_above = none_above t.y0 t.y1 t.y2 ys-finite p.y my;
  }

  left-right : lt (box_around t).right (box_around t).left ≡ false
  unfolding box_of
  left-right = in_order t.x0 t.x1 t.x2 xs-finite

  bottom-top : lt (box_around t).top (box_around t).bottom ≡ false
  unfolding box_of
  bottom-top = in_order t.y0 t.y1 t.y2 ys-finite

-- ---- all of one below all of the other, on one axis
module _ (a b c d e g : Float) (f : (v : Float) → Memᴰ v (a ∷ b ∷ c ∷ []) → finite v ≡ true) (h : (v : Float) → Memᴰ v (d ∷ e ∷ g ∷ []) → finite v ≡ true) where
  all_below : lt (greatest a b c) (least d e g) ≡ true → AllBelow (a ∷ b ∷ c ∷ []) (d ∷ e ∷ g ∷ [])
  all_below k v w m n =
      let fv = f v m in
      let fw = h w n in
      let fg = greatest-finite a b c f in
      let fl = least-finite d e g h in
      lt_through v (least d e g) w fv fl fw (lt_after v (greatest a b c) (least d e g) fv fg fl (none_above a b c f v m) k) (none_below d e g h w n)

  ends_below : AllBelow (a ∷ b ∷ c ∷ []) (d ∷ e ∷ g ∷ []) → lt (greatest a b c) (least d e g) ≡ true
  ends_below k = k (greatest a b c) (least d e g) (greatest_in a b c) (least_in d e g)

-- ---- of two triangles
module _ (u v : Corners) (fu : AllFinite u) (fv : AllFinite v) where
  abbrev a : Box
  a = box_around u

  abbrev b : Box
  b = box_around v

  parted : PartedBoxes a b → Parted u v
  unfolding box_of
  parted (inl e) = inl (all_below u.x0 u.x1 u.x2 v.x0 v.x1 v.x2 (xs-finite u fu) (xs-finite v fv) e)
  parted (inr (inl e)) = inr (inl (all_below v.x0 v.x1 v.x2 u.x0 u.x1 u.x2 (xs-finite v fv) (xs-finite u fu) e))
  parted (inr (inr (inl e))) = inr (inr (inl (all_below u.y0 u.y1 u.y2 v.y0 v.y1 v.y2 (ys-finite u fu) (ys-finite v fv) e)))
  parted (inr (inr (inr e))) = inr (inr (inr (all_below v.y0 v.y1 v.y2 u.y0 u.y1 u.y2 (ys-finite v fv) (ys-finite u fu) e)))

  ends : Parted u v → PartedBoxes a b
  unfolding box_of
  ends (inl e) = inl (ends_below u.x0 u.x1 u.x2 v.x0 v.x1 v.x2 (xs-finite u fu) (xs-finite v fv) e)
  ends (inr (inl e)) = inr (inl (ends_below v.x0 v.x1 v.x2 u.x0 u.x1 u.x2 (xs-finite v fv) (xs-finite u fu) e))
  ends (inr (inr (inl e))) = inr (inr (inl (ends_below u.y0 u.y1 u.y2 v.y0 v.y1 v.y2 (ys-finite u fu) (ys-finite v fv) e)))
  ends (inr (inr (inr e))) = inr (inr (inr (ends_below v.y0 v.y1 v.y2 u.y0 u.y1 u.y2 (ys-finite v fv) (ys-finite u fu) e)))

  -- ---- a point in both: no further left and no lower than either begins
  abbrev common : Position
  common = record { x = greater a.left b.left; y = greater a.bottom b.bottom }

  unparted : (t : Bool) → (t ≡ true → PartedBoxes a b) → share_point a b ≡ true → t ≡ false
  unparted true f h = absurd (false≢true (sym (parted_none a b (f refl)) ∙ h))
  unparted false f h = refl

  -- an end that is not before either beginning
  reaches : (end p q : Float) → lt end p ≡ false → lt end q ≡ false → lt end (greater p q) ≡ false
  reaches end p q h k = go (greater_one p q)
    where
      go : (greater p q ≡ p) ⊎ (greater p q ≡ q) → lt end (greater p q) ≡ false
      go (inl e) = ap (lt end) e ∙ h
      go (inr e) = ap (lt end) e ∙ k

  meeting : share_point a b ≡ true → In a common × In b common
  meeting h =
      let x-fine = greater-finite a.left b.left (box_finite u fu).left (box_finite v fv).left in
      let y-fine = greater-finite a.bottom b.bottom (box_finite u fu).bottom (box_finite v fv).bottom in (
        record {
          x_finite = x-fine;
          y_finite = y-fine;
          not_left = greater_first a.left b.left;
          not_right = reaches a.right a.left b.left (left-right u fu) (unparted (lt a.right b.left) (λ e. inl e) h);
          not_below = greater_first a.bottom b.bottom;
          not_above = reaches a.top a.bottom b.bottom (bottom-top u fu) (unparted (lt a.top b.bottom) (λ e. inr (inr (inl e))) h);
        },
        record {
          x_finite = x-fine;
          y_finite = y-fine;
          not_left = greater_second a.left b.left;
          not_right = reaches b.right a.left b.left (unparted (lt b.right a.left) (λ e. inr (inl e)) h) (left-right v fv);
          not_below = greater_second a.bottom b.bottom;
          not_above = reaches b.top a.bottom b.bottom (unparted (lt b.top a.bottom) (λ e. inr (inr (inr e))) h) (bottom-top v fv);
        },
      )

  -- no value is both at an end and beyond it
  not_between : (p end begin : Float) → finite p ≡ true → finite end ≡ true → finite begin ≡ true → lt end p ≡ false → lt p begin ≡ false → lt end begin ≡ true → ⊥
  not_between p end begin fp fe fb h k l = true≢false (sym (lt_after p end begin fp fe fb h l) ∙ k)

  shared : (p : Position) → In a p → In b p → share_point a b ≡ true
  shared p h k = go (share_point a b) refl
    where
      none : PartedBoxes a b → ⊥
      none (inl e) = not_between p.x a.right b.left h.x_finite (box_finite u fu).right (box_finite v fv).left h.not_right k.not_left e
      none (inr (inl e)) = not_between p.x b.right a.left h.x_finite (box_finite v fv).right (box_finite u fu).left k.not_right h.not_left e
      none (inr (inr (inl e))) = not_between p.y a.top b.bottom h.y_finite (box_finite u fu).top (box_finite v fv).bottom h.not_above k.not_below e
      none (inr (inr (inr e))) = not_between p.y b.top a.bottom h.y_finite (box_finite v fv).top (box_finite u fu).bottom k.not_above h.not_below e

      go : (t : Bool) → share_point a b ≡ t → share_point a b ≡ true
      go true e = e
      go false e = absurd (none (no_point a b e))

  exactly : SharedExactlyIf u v
  exactly = record {
    none = (λ e. parted (no_point a b e), λ p. parted_none a b (ends p));
    some = (λ e. let m = meeting e in (common, m.0, m.1), λ p. shared p.0 p.1 p.2);
    holds = (holds_at u fu _ (here refl) (here refl), holds_at u fu _ (there (here refl)) (there (here refl)), holds_at u fu _ (there (there (here refl))) (there (there (here refl))));
  }

pub shared_points : SharedPoints
shared_points = exactly
