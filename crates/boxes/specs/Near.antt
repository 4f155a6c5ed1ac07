-- 02, No. 3: the boxes of the two triangles of a pair, U0x, U0y, .. V2y, and which pairs are far. A value that is missing reads as NaN; refusal 1 comes before anything that looks at it. Definitions and statements.
use Rattle.std.specs.Prelude.{◌≡◌, ◌↔◌, Bool, true, false, ℕ, length, get_or, Float}
use mathlib.Core.List.{List, [], ◌∷◌, ◌++◌, Memᴰ}
use Rattle.std.specs.Float.{nan}
use Rattle.floats.specs.Finite.{finite}
use Rattle.floats.specs.declared.Position.{Position}
use Rattle.boxes.specs.Boxes.{box_of, share_point}
use Rattle.boxes.specs.Shared.{Corners, box_around, In, Parted}

module _ (l : List Float) where
  -- a triangle by the places of its six values
  abbrev pub corners_at : ℕ → ℕ → ℕ → ℕ → ℕ → ℕ → Corners
  corners_at a b c d e f = record { x0 = get_or l a nan; y0 = get_or l b nan; x1 = get_or l c nan; y1 = get_or l d nan; x2 = get_or l e nan; y2 = get_or l f nan }

  abbrev pub corners_of_u : Corners
  corners_of_u = corners_at 0 1 2 3 4 5

  abbrev pub corners_of_v : Corners
  corners_of_v = corners_at 6 7 8 9 10 11

  -- the boxes of U and V share a point
  unfoldable pub is_near : Bool
  unfolding box_of
  is_near = share_point (box_around corners_of_u) (box_around corners_of_v)

  -- twelve finite values, so that neither 1 nor 2 is said of them
  pub record TwelveFinite : Type 0 where
    pub twelve : length l ≡ 12
    pub all_finite : (v : Float) → Memᴰ v l → finite v ≡ true

  -- far, in facts: twelve finite values, and an axis on which every coordinate of one triangle is below every coordinate of the other
  pub record Far : Type 0 where
    pub given : TwelveFinite
    pub parted : Parted corners_of_u corners_of_v

-- of twelve finite values the boxes share no point exactly if the pair is far; else they share one, and a point is in both
pub record NearOrFar (l : List Float) : Type 0 where
  pub far : (is_near l ≡ false) ↔ Far l
  pub near : (is_near l ≡ true) ↔ (Far l → ⊥)
  pub point : (is_near l ≡ true) ↔ ((p : Position) × In (box_around (corners_of_u l)) p × In (box_around (corners_of_v l)) p)

-- a triangle's values in their order; those of U and then those of V are the twelve of the pair
abbrev pub values_of : Corners → List Float
values_of t = t.x0 ∷ t.y0 ∷ t.x1 ∷ t.y1 ∷ t.x2 ∷ t.y2 ∷ []

abbrev pub AllTwelve : Type 0
AllTwelve = (l : List Float) → length l ≡ 12 → values_of (corners_of_u l) ++ values_of (corners_of_v l) ≡ l

abbrev pub BoxesTell : Type 0
BoxesTell = (l : List Float) → TwelveFinite l → NearOrFar l
