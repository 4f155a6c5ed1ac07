-- The fifteen places that a corner of the ring can be, and the edges of either triangle that a place lies on. Definitions only.
use Rattle.std.specs.Prelude.{Bool, false, ◌&&◌, ◌||◌, List, ◌++◌, map, ℕ, eqb}
use Rattle.lines.specs.Lines.{three, lower_line, upper_line, start, finish}

-- vertex i of U, corner k of V, or the crossing of edge e of U with line a
pub data Place : Type 0 where
  vertex : ℕ → Place
  corner : ℕ → Place
  crossing : ℕ → ℕ → Place

unfoldable pub same_place : Place → Place → Bool
same_place (vertex i) (vertex j) = eqb i j
same_place (vertex i) (corner l) = false
same_place (vertex i) (crossing f b) = false
same_place (corner k) (vertex j) = false
same_place (corner k) (corner l) = eqb k l
same_place (corner k) (crossing f b) = false
same_place (crossing e a) (vertex j) = false
same_place (crossing e a) (corner l) = false
same_place (crossing e a) (crossing f b) = eqb e f && eqb a b

-- three vertices, three corners, nine crossings
abbrev pub fifteen : List Place
fifteen = map vertex three ++ (map corner three ++ (map (crossing 0) three ++ (map (crossing 1) three ++ map (crossing 2) three)))

-- V's corner k lies on line a
abbrev pub on_line : ℕ → ℕ → Bool
on_line a k = eqb a (lower_line k) || eqb a (upper_line k)

-- an edge of one of the two triangles, V's edge on line a being number a
pub data Side : Type 0 where
  of_u of_v : ℕ → Side

-- Ui lies on the two edges of U that start or finish there, a corner of V on the edges of its two lines, a crossing on its edge of U and on
-- its line's edge of V
unfoldable pub lies : Side → Place → Bool
lies (of_u e) (vertex i) = eqb i (start e) || eqb i (finish e)
lies (of_u e) (corner k) = false
lies (of_u e) (crossing f a) = eqb e f
lies (of_v b) (vertex i) = false
lies (of_v b) (corner k) = on_line b k
lies (of_v b) (crossing f a) = eqb a b

abbrev pub sides : List Side
sides = map of_u three ++ map of_v three
