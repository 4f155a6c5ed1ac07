-- The lesser of two values is above neither, the greater below neither; so a box around two holds both, and what shares no point with a box shares none with what lies in it. Assumes nothing.
use mathlib.Core.Path.{◌≡◌, refl, ap}
use mathlib.Core.Logic.{◌⊎◌, inl, inr}
use mathlib.Core.Bool.{Bool, true, false, not, ◌||◌, cond, true≢false, false≢true}
use lib.Ieee.{Float, lt}
use Rattle.floats.specs.Finite.{finite}
use Rattle.floats.proofs.Smaller.{lt_through, lt_after, lt_not_back, lt_not_self, not_below_through}
use Rattle.boxes.specs.declared.Box.{Box}
use Rattle.boxes.specs.Boxes.{lesser, greater, around, parted_on, share_point}
use Rattle.boxes.specs.Shared.{FiniteBox, Within, NoneWithin}

-- ---- of two values
one_of : (t : Bool) (a b : Float) → (cond t b a ≡ a) ⊎ (cond t b a ≡ b)
one_of true a b = inr refl
one_of false a b = inl refl

pub lesser_one : (a b : Float) → (lesser a b ≡ a) ⊎ (lesser a b ≡ b)
lesser_one a b = one_of (lt b a) a b

pub greater_one : (a b : Float) → (greater a b ≡ a) ⊎ (greater a b ≡ b)
greater_one a b = one_of (lt a b) a b

either_finite : (t : Bool) (a b : Float) → finite a ≡ true → finite b ≡ true → finite (cond t b a) ≡ true
either_finite true a b h k = k
either_finite false a b h k = h

pub lesser-finite : (a b : Float) → finite a ≡ true → finite b ≡ true → finite (lesser a b) ≡ true
lesser-finite a b = either_finite (lt b a) a b

pub greater-finite : (a b : Float) → finite a ≡ true → finite b ≡ true → finite (greater a b) ≡ true
greater-finite a b = either_finite (lt a b) a b

pub lesser_first : (a b : Float) → lt a (lesser a b) ≡ false
lesser_first a b = go (lt b a) refl
  where
    go : (t : Bool) → lt b a ≡ t → lt a (cond t b a) ≡ false
    go true e = lt_not_back b a e
    go false e = lt_not_self a

pub lesser_second : (a b : Float) → lt b (lesser a b) ≡ false
lesser_second a b = go (lt b a) refl
  where
    go : (t : Bool) → lt b a ≡ t → lt b (cond t b a) ≡ false
    go true e = lt_not_self b
    go false e = e

pub greater_first : (a b : Float) → lt (greater a b) a ≡ false
greater_first a b = go (lt a b) refl
  where
    go : (t : Bool) → lt a b ≡ t → lt (cond t b a) a ≡ false
    go true e = lt_not_back a b e
    go false e = lt_not_self a

pub greater_second : (a b : Float) → lt (greater a b) b ≡ false
greater_second a b = go (lt a b) refl
  where
    go : (t : Bool) → lt a b ≡ t → lt (cond t b a) b ≡ false
    go true e = lt_not_self b
    go false e = e

-- ---- boxes in boxes
pub Within-self : (b : Box) → Within b b
Within-self b = record { left = lt_not_self b.left; right = lt_not_self b.right; bottom = lt_not_self b.bottom; top = lt_not_self b.top }

pub Within-through : (a b c : Box) → FiniteBox a → FiniteBox b → FiniteBox c → Within a b → Within b c → Within a c
Within-through a b c fa fb fc h k = record {
  left = not_below_through a.left b.left c.left fa.left fb.left fc.left h.left k.left;
  right = not_below_through c.right b.right a.right fc.right fb.right fa.right k.right h.right;
  bottom = not_below_through a.bottom b.bottom c.bottom fa.bottom fb.bottom fc.bottom h.bottom k.bottom;
  top = not_below_through c.top b.top a.top fc.top fb.top fa.top k.top h.top;
}

pub around_finite : (a b : Box) → FiniteBox a → FiniteBox b → FiniteBox (around a b)
unfolding around
around_finite a b h k = record {
  left = lesser-finite a.left b.left h.left k.left;
  right = greater-finite a.right b.right h.right k.right;
  bottom = lesser-finite a.bottom b.bottom h.bottom k.bottom;
  top = greater-finite a.top b.top h.top k.top;
}

pub around_first : (a b : Box) → Within a (around a b)
unfolding around
around_first a b = record { left = lesser_first a.left b.left; right = greater_first a.right b.right; bottom = lesser_first a.bottom b.bottom; top = greater_first a.top b.top }

pub around_second : (a b : Box) → Within b (around a b)
unfolding around
around_second a b = record { left = lesser_second a.left b.left; right = greater_second a.right b.right; bottom = lesser_second a.bottom b.bottom; top = greater_second a.top b.top }

-- ---- parted boxes
abbrev pub PartedBoxes : Box → Box → Type 0
PartedBoxes a b = (lt a.right b.left ≡ true) ⊎ ((lt b.right a.left ≡ true) ⊎ ((lt a.top b.bottom ≡ true) ⊎ (lt b.top a.bottom ≡ true)))

or-true : (p q : Bool) → (p || q) ≡ true → (p ≡ true) ⊎ (q ≡ true)
or-true true q h = inl refl
or-true false q h = inr h

or_right : (p q : Bool) → q ≡ true → (p || q) ≡ true
or_right true q h = refl
or_right false q h = h

or_left : (p q : Bool) → p ≡ true → (p || q) ≡ true
or_left true q h = refl
or_left false q h = absurd (false≢true h)

not-false : (p : Bool) → not p ≡ false → p ≡ true
not-false true h = refl
not-false false h = absurd (true≢false h)

module _ (a b : Box) where
  abbrev p : Bool
  p = lt a.right b.left

  abbrev q : Bool
  q = lt b.right a.left

  abbrev r : Bool
  r = lt a.top b.bottom

  abbrev s : Bool
  s = lt b.top a.bottom

  pub no_point : share_point a b ≡ false → PartedBoxes a b
  no_point h = elim (or-true p (q || (r || s)) (not-false (parted_on a b) h)) [
    | inl e ↦ inl e
    | inr f ↦ elim (or-true q (r || s) f) [
      | inl e ↦ inr (inl e)
      | inr g ↦ elim (or-true r s g) [
        | inl e ↦ inr (inr (inl e))
        | inr e ↦ inr (inr (inr e))
      ]
    ]
  ]

  pub parted_none : PartedBoxes a b → share_point a b ≡ false
  parted_none h = ap not (go h)
    where
      go : PartedBoxes a b → parted_on a b ≡ true
      go (inl e) = or_left p (q || (r || s)) e
      go (inr (inl e)) = or_right p (q || (r || s)) (or_left q (r || s) e)
      go (inr (inr (inl e))) = or_right p (q || (r || s)) (or_right q (r || s) (or_left r s e))
      go (inr (inr (inr e))) = or_right p (q || (r || s)) (or_right q (r || s) (or_right r s e))

-- either way round
pub no_point_turned : (a b : Box) → share_point a b ≡ false → share_point b a ≡ false
no_point_turned a b h = parted_none b a (go (no_point a b h))
  where
    go : PartedBoxes a b → PartedBoxes b a
    go (inl e) = inr (inl e)
    go (inr (inl e)) = inl e
    go (inr (inr (inl e))) = inr (inr (inr e))
    go (inr (inr (inr e))) = inr (inr (inl e))

-- an end that lies no further out stays clear of what the outer end is clear of, and of what lies no nearer
keeps_clear : (x y z w : Float) → finite x ≡ true → finite y ≡ true → finite z ≡ true → finite w ≡ true → lt y x ≡ false → lt y z ≡ true → lt w z ≡ false → lt x w ≡ true
keeps_clear x y z w fx fy fz fw h k l = lt_through x z w fx fz fw (lt_after x y z fx fy fz h k) l

pub none_within : NoneWithin
none_within a b c d fa fb fc fd h k e = parted_none a c (go (no_point b d e))
  where
    go : PartedBoxes b d → PartedBoxes a c
    go (inl e) = inl (keeps_clear a.right b.right d.left c.left fa.right fb.right fd.left fc.left h.right e k.left)
    go (inr (inl e)) = inr (inl (keeps_clear c.right d.right b.left a.left fc.right fd.right fb.left fa.left k.right e h.left))
    go (inr (inr (inl e))) = inr (inr (inl (keeps_clear a.top b.top d.bottom c.bottom fa.top fb.top fd.bottom fc.bottom h.top e k.bottom)))
    go (inr (inr (inr e))) = inr (inr (inr (keeps_clear c.top d.top b.bottom a.bottom fc.top fd.top fb.bottom fa.bottom k.top e h.bottom)))
