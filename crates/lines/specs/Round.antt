-- 01, "Flags, ring and area", first part: the walk U0, U1, U2, U0 and what a line's crossings say of V's corner. Over any lines.
-- u i are the signs of vertex i; edge e meets its lines in the order o e. Definitions and statements only.
use Rattle.std.specs.Prelude.{◌≡◌, ◌⊎◌, Bool, false, List, [], ◌∷◌, ◌++◌, ℕ, length}
use Rattle.std.proofs.Math.Dec.{eqb}
use Rattle.floats.specs.Lists.{filter, count, once, differ}
use Rattle.lines.specs.Lines.{three, start}
use Rattle.lines.specs.Crossings.{Crossing, crosses, crossers, walk}

-- two crossings whose signs on b differ
unfoldable pub on_both_sides : ℕ → List Crossing → Bool
on_both_sides b [] = false
on_both_sides b (c ∷ []) = false
on_both_sides b (c ∷ d ∷ []) = differ (c.signs b) (d.signs b)
on_both_sides b (c ∷ d ∷ e ∷ r) = false

module _ (u : ℕ → ℕ → Bool) (o : ℕ → List ℕ) where
  -- the crossings of edge e, walked from its start
  unfoldable pub crossings_of : ℕ → List Crossing
  unfolding walk
  crossings_of e = walk e (u (start e)) (o e)

  -- all crossings, as the walk meets them
  unfoldable pub crossings : List Crossing
  unfolding crossings_of
  crossings = crossings_of 0 ++ (crossings_of 1 ++ crossings_of 2)

  -- the crossings of line a
  unfoldable pub hits : ℕ → List Crossing
  unfolding filter crossings
  hits a = filter (λ c. eqb a c.line) crossings

  -- what line a says of V's corner on a and b: it is in U where a's two crossings stand on different sides of b
  unfoldable pub corner_by : ℕ → ℕ → Bool
  unfolding on_both_sides hits
  corner_by a b = on_both_sides b (hits a)

-- how many of the edges between U's vertices cross line a
abbrev pub edges_across : (ℕ → ℕ → Bool) → ℕ → ℕ
edges_across u a = crossers (λ i. u i a) three

-- each edge meets each line that it crosses once, and no other
pub record MeetsOnce (u : ℕ → ℕ → Bool) (o : ℕ → List ℕ) : Type 0 where
  pub edge0 : (a : ℕ) → count (eqb a) (o 0) ≡ once (crosses (u 0) (u 1) a)
  pub edge1 : (a : ℕ) → count (eqb a) (o 1) ≡ once (crosses (u 1) (u 2) a)
  pub edge2 : (a : ℕ) → count (eqb a) (o 2) ≡ once (crosses (u 2) (u 0) a)

-- what holds of any such walk, whatever the signs: the two first sentences of demand 3, over any number of lines
pub record Agrees (u : ℕ → ℕ → Bool) (o : ℕ → List ℕ) : Type 0 where
  -- each line is crossed by none or two edges of U
  pub none_or_two : (a : ℕ) → (edges_across u a ≡ 0) ⊎ (edges_across u a ≡ 2)
  -- each of these crossings is on the walk
  pub all_found : (a : ℕ) → length (hits u o a) ≡ edges_across u a
  -- both lines through a corner agree whether it lies inside
  pub both_lines : (a b : ℕ) → corner_by u o a b ≡ corner_by u o b a
