-- The way that the code takes to a triangle's number: numbers are counted from the lower end of the range, so that they have no sign. Definitions only.
use Rattle.std.specs.Prelude.{ℕ, ◌+◌, ◌-◌, Bool, cond, List, get_or, ltb, pos}
use Rattle.std.specs.List.{list_any}
use Rattle.layout.specs.Parts.{Triangle, triangle_of}

-- 32 bits as stored, counted from the lower end: −1,000,000 is 0, and a number is in range if it is at most 2,000,000. What lies below the range comes out far above it
unfoldable pub from_bottom : ℕ → ℕ
from_bottom v = cond (ltb v 4293967296) (v + 1000000) (v - 4293967296)

-- one of these is out of range
abbrev pub is_above_top : List ℕ → Bool
is_above_top numbers = list_any (ltb 2000000) numbers

-- the triangle of six numbers so counted
abbrev pub triangle_above : List ℕ → Triangle
triangle_above six = triangle_of (pos (get_or six 0 0)) (pos (get_or six 1 0)) (pos (get_or six 2 0)) (pos (get_or six 3 0)) (pos (get_or six 4 0)) (pos (get_or six 5 0))
