-- 02, No. 3: the upright bounding box of a triangle, and when two boxes share a point. Values are compared and no difference is formed, so −0.0 and 0.0 are one place. Definitions only.
use Rattle.std.specs.Prelude.{Bool, not, ◌||◌, cond, Float}
use Rattle.std.specs.Float.Ieee.{lt}
use Rattle.boxes.specs.declared.Box.{Box}

abbrev pub lesser : Float → Float → Float
lesser a b = cond (lt b a) b a

abbrev pub greater : Float → Float → Float
greater a b = cond (lt a b) b a

-- of three vertices: the least and the greatest x, and the least and the greatest y
unfoldable pub box_of : Float → Float → Float → Float → Float → Float → Box
box_of x0 y0 x1 y1 x2 y2 = record {
  left = lesser (lesser x0 x1) x2;
  right = greater (greater x0 x1) x2;
  bottom = lesser (lesser y0 y1) y2;
  top = greater (greater y0 y1) y2;
}

-- on one of the axes the one ends before the other begins
abbrev pub parted_on : Box → Box → Bool
parted_on a b = lt a.right b.left || (lt b.right a.left || (lt a.top b.bottom || lt b.top a.bottom))

-- else they share a point; boxes are closed, so an edge or a corner will do
abbrev pub share_point : Box → Box → Bool
share_point a b = not (parted_on a b)

-- the box around two boxes
unfoldable pub around : Box → Box → Box
around a b = record { left = lesser a.left b.left; right = greater a.right b.right; bottom = lesser a.bottom b.bottom; top = greater a.top b.top }
