-- 01, "Crossings and their order along an edge": over lines 0 .. n−1 and any signs on them. true is plus. Definitions only.
use Rattle.std.specs.Prelude.{Bool, ◌&&◌, ◌||◌, List, [], ◌∷◌, ◌++◌, map, ℕ, eqb}
use Rattle.floats.specs.Lists.{all, any, filter, count, differ}
use Rattle.lines.specs.Lines.{lines}

-- an edge from the signs p to the signs q crosses line a: the two signs on it are not the same
abbrev pub crosses : (ℕ → Bool) → (ℕ → Bool) → ℕ → Bool
crosses p q a = differ (p a) (q a)

-- the lines that the edge from signs p to signs q crosses
unfoldable pub crossed : ℕ → (ℕ → Bool) → (ℕ → Bool) → List ℕ
unfolding lines filter
crossed n p q = filter (crosses p q) (lines n)

-- all edges between the vertices of a list
unfoldable pub edges_of : {A : Type 0} → List A → List (A × A)
edges_of [] = []
edges_of (v ∷ vs) = map (λ w. (v, w)) vs ++ edges_of vs

-- the ends of an edge have different signs, vertex v having the sign p v
abbrev pub splits : {A : Type 0} → (A → Bool) → A × A → Bool
splits p e = differ (p e.0) (p e.1)

-- how many edges between these vertices cross a line on which vertex v has the sign p v
unfoldable pub crossers : {A : Type 0} → (A → Bool) → List A → ℕ
unfolding edges_of count
crossers p vs = count (splits p) (edges_of vs)

-- the signs of the walk after line a is crossed
unfoldable pub flip : ℕ → (ℕ → Bool) → ℕ → Bool
flip a s b = differ (eqb a b) (s b)

-- a crossing: its edge, its line, and the signs that the walk has at that moment, which are the edge's signs on the other lines there
pub record Crossing : Type 0 where
  pub edge : ℕ
  pub line : ℕ
  pub signs : ℕ → Bool

-- the crossings of edge e, walked from the signs s, in the order in which it meets its lines
unfoldable pub walk : ℕ → (ℕ → Bool) → List ℕ → List Crossing
unfolding flip
walk e s [] = []
walk e s (a ∷ o) = record { edge = e; line = a; signs = s } ∷ walk e (flip a s) o

-- a crossing is on V's edge where it is plus on every line but its own
unfoldable pub on_edge : ℕ → Crossing → Bool
unfolding all lines
on_edge n c = all (λ b. eqb c.line b || c.signs b) (lines n)

-- not minus on all lines
unfoldable pub some_plus : ℕ → (ℕ → Bool) → Bool
unfolding any lines
some_plus n s = any s (lines n)

-- an order, walked from the signs s, is admissible: each stretch of it is plus on some line
unfoldable pub admissible : ℕ → (ℕ → Bool) → List ℕ → Bool
unfolding some_plus flip
admissible n s [] = some_plus n s
admissible n s (a ∷ o) = some_plus n s && admissible n (flip a s) o
