-- 01, "Crossings and their order along an edge": the pair test, in any numbers. Definitions only.
-- ps i are the parameters of vertex i.
use Rattle.std.specs.Prelude.{Bool, cond, ℕ}
use Rattle.std.specs.Bool.{beq}
use mathlib.Core.List.{List, map}
use Rattle.floats.specs.Numbers.{Numbers, cross}
use Rattle.lines.specs.Lines.{three, sign, lower_end, higher_end, lower_line, upper_line}
use Rattle.lines.specs.Parameters.{Parameters, parameter, signs}

module _ (K : Numbers) where
  -- D of the lines a < b between two vertices, p the one with the lower number: a_i·b_j − a_j·b_i
  abbrev pub pair_d : Parameters K.N → Parameters K.N → ℕ → ℕ → K.N
  pair_d p q a b = cross K (parameter p a) (parameter q a) (parameter p b) (parameter q b)

  -- whether a is met before b, seen from a vertex with the signs s: D ≥ 0 says so where s is the same on both, D ≤ 0 where it is not
  unfoldable pub met_first : List Bool → K.N → ℕ → ℕ → Bool
  met_first s D a b = cond (beq (sign s a) (sign s b)) (K.is_at_least_zero D) (K.is_at_most_zero D)

  -- the signs of U's three vertices
  unfoldable pub signs_of_u : (ℕ → Parameters K.N) → List (List Bool)
  unfolding signs
  signs_of_u ps = map (λ i. signs K (ps i)) three

  -- D of lines a < b on edge e: whichever way the edge runs, its lower vertex comes first
  abbrev pub pair_d_on : (ℕ → Parameters K.N) → ℕ → ℕ → ℕ → K.N
  pair_d_on ps e a b = pair_d (ps (lower_end e)) (ps (higher_end e)) a b

  -- what that pair test says: line a is met before line b, seen from the edge's lower vertex
  unfoldable pub outcome_on : (ℕ → Parameters K.N) → ℕ → ℕ → ℕ → Bool
  unfolding signs met_first
  outcome_on ps e a b = met_first (signs K (ps (lower_end e))) (pair_d_on ps e a b) a b

  -- the three outcomes on edge e, each in the place of the corner on its two lines
  unfoldable pub outcomes_on : (ℕ → Parameters K.N) → ℕ → List Bool
  unfolding outcome_on
  outcomes_on ps e = map (λ k. outcome_on ps e (lower_line k) (upper_line k)) three
