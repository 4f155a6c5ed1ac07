-- 01, "Flags, ring and area": the ring, as the walk U0, U1, U2, U0 finds it. Definitions only.
use Rattle.std.specs.Prelude.{Bool, not, ℕ, eqb}
use Rattle.std.proofs.Math.Bool.{cond}
use mathlib.Core.List.{List, [], ◌∷◌, ◌++◌, map}
use Rattle.floats.specs.Lists.{all, filter}
use Rattle.lines.specs.Lines.{three, start}
use Rattle.lines.specs.Crossings.{Crossing, on_edge}
use Rattle.lines.specs.Round.{crossings_of}
use Rattle.ring.specs.Places.{Place, vertex, corner, crossing, on_line}
use Rattle.ring.specs.Flags.{vertex_in, corner_in}

-- what the walk meets: a vertex in V, or a crossing on V's edge, by which it leaves V or enters it
pub data Met : Type 0 where
  inside : ℕ → Met
  leave enter : ℕ → ℕ → Met

-- V is left at a crossing whose line is plus before it
abbrev pub met_at : Crossing → Met
met_at c = cond (c.signs c.line) (leave c.edge c.line) (enter c.edge c.line)

-- the line that V is next entered by; d where it is not entered, which does not occur (a law)
unfoldable pub entered : ℕ → List Met → ℕ
entered d [] = d
entered d (inside i ∷ m) = entered d m
entered d (leave e a ∷ m) = entered d m
entered d (enter e a ∷ m) = a

-- V's corners cs that are in U, as they are inserted after V was left by line a: those on line a lead
unfoldable pub inserted : List ℕ → ℕ → List ℕ
unfolding filter
inserted cs a = filter (on_line a) cs ++ filter (λ k. not (on_line a k)) cs

-- between leaving V by line a and entering it again by line b: nothing where the two are one line, else the corners
unfoldable pub gap : List ℕ → ℕ → ℕ → List Place
unfolding inserted
gap cs a b = cond (eqb a b) [] (map corner (inserted cs a))

-- what was met, in its order, each crossing where V is left followed by its gap. The walk is closed: past its end it goes on with `again`,
-- its own beginning
unfoldable pub build : List ℕ → List Met → List Met → List Place
unfolding gap entered
build cs again [] = []
build cs again (inside i ∷ m) = vertex i ∷ build cs again m
build cs again (leave e a ∷ m) = crossing e a ∷ (gap cs a (entered a (m ++ again)) ++ build cs again m)
build cs again (enter e a ∷ m) = crossing e a ∷ build cs again m

module _ (u : ℕ → ℕ → Bool) (o : ℕ → List ℕ) where
  -- on the way along edge e: its start, where that is in V, and then its crossings on V's edge
  unfoldable pub met_on : ℕ → List Met
  unfolding vertex_in filter on_edge crossings_of
  met_on e = cond (vertex_in u (start e)) (inside (start e) ∷ []) [] ++ map met_at (filter (on_edge 3) (crossings_of u o e))

  unfoldable pub met : List Met
  unfolding met_on
  met = met_on 0 ++ (met_on 1 ++ met_on 2)

  -- the ring of what was met. A walk that met nothing has V's three corners for its ring if they are in U, and otherwise no ring
  unfoldable pub ring_from : List Met → List Place
  unfolding all filter corner_in build
  ring_from [] = cond (all (corner_in u o) three) (map corner three) []
  ring_from (x ∷ m) = build (filter (corner_in u o) three) (x ∷ m) (x ∷ m)

  unfoldable pub ring : List Place
  unfolding met ring_from
  ring = ring_from met
