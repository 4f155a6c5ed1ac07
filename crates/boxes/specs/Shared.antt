-- 02, No. 3: what it means that two boxes share a point, or none: of triangles with finite coordinates. Statements only.
use Rattle.std.specs.Prelude.{◌≡◌, ◌⊎◌, ◌↔◌, true, false, Float}
use mathlib.Core.List.{List, [], ◌∷◌, ◌++◌, Memᴰ}
use Rattle.std.specs.Float.Ieee.{lt}
use Rattle.floats.specs.Finite.{finite}
use Rattle.floats.specs.declared.Position.{Position}
use Rattle.boxes.specs.declared.Box.{Box}
use Rattle.boxes.specs.Boxes.{box_of, share_point}

-- a triangle by the coordinates of its vertices
pub record Corners : Type 0 where
  pub x0 : Float
  pub y0 : Float
  pub x1 : Float
  pub y1 : Float
  pub x2 : Float
  pub y2 : Float

abbrev pub xs : Corners → List Float
xs t = t.x0 ∷ t.x1 ∷ t.x2 ∷ []

abbrev pub ys : Corners → List Float
ys t = t.y0 ∷ t.y1 ∷ t.y2 ∷ []

abbrev pub box_around : Corners → Box
box_around t = box_of t.x0 t.y0 t.x1 t.y1 t.x2 t.y2

abbrev pub AllFinite : Corners → Type 0
AllFinite t = (v : Float) → Memᴰ v (xs t ++ ys t) → finite v ≡ true

-- a point that is in a box or on its edge
pub record In (b : Box) (p : Position) : Type 0 where
  pub x_finite : finite p.x ≡ true
  pub y_finite : finite p.y ≡ true
  pub not_left : lt p.x b.left ≡ false
  pub not_right : lt b.right p.x ≡ false
  pub not_below : lt p.y b.bottom ≡ false
  pub not_above : lt b.top p.y ≡ false

-- every one of these values is below every one of those
abbrev pub AllBelow : List Float → List Float → Type 0
AllBelow these those = (a b : Float) → Memᴰ a these → Memᴰ b those → lt a b ≡ true

-- an axis on which every coordinate of one triangle is below every coordinate of the other
abbrev pub Parted : Corners → Corners → Type 0
Parted u v = AllBelow (xs u) (xs v) ⊎ (AllBelow (xs v) (xs u) ⊎ (AllBelow (ys u) (ys v) ⊎ AllBelow (ys v) (ys u)))

-- their boxes share no point exactly if there is such an axis, and share one exactly if some point is in both
pub record SharedExactlyIf (u v : Corners) : Type 0 where
  pub none : (share_point (box_around u) (box_around v) ≡ false) ↔ Parted u v
  pub some : (share_point (box_around u) (box_around v) ≡ true) ↔ ((p : Position) × In (box_around u) p × In (box_around v) p)
  -- and every vertex is in its triangle's box
  pub holds : In (box_around u) (record { x = u.x0; y = u.y0 }) × In (box_around u) (record { x = u.x1; y = u.y1 }) × In (box_around u) (record { x = u.x2; y = u.y2 })

abbrev pub SharedPoints : Type 0
SharedPoints = (u v : Corners) → AllFinite u → AllFinite v → SharedExactlyIf u v

-- ---- boxes that hold others
-- all four ends are finite
pub record FiniteBox (b : Box) : Type 0 where
  pub left : finite b.left ≡ true
  pub right : finite b.right ≡ true
  pub bottom : finite b.bottom ≡ true
  pub top : finite b.top ≡ true

-- a lies in b; an edge may lie on b's
pub record Within (a b : Box) : Type 0 where
  pub left : lt a.left b.left ≡ false
  pub right : lt b.right a.right ≡ false
  pub bottom : lt a.bottom b.bottom ≡ false
  pub top : lt b.top a.top ≡ false

-- what shares no point with a box shares none with what lies in that box
abbrev pub NoneWithin : Type 0
NoneWithin = (a b c d : Box) → FiniteBox a → FiniteBox b → FiniteBox c → FiniteBox d → Within a b → Within c d → share_point b d ≡ false → share_point a c ≡ false
