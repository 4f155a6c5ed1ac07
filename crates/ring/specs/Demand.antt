-- Demand 3, as a statement about signs and orders: whatever rounding did, the crossings agree and the ring is whole. Statements only.
use Rattle.std.specs.Prelude.{◌≡◌, ◌⊎◌, Bool, true, ℕ, ◌≤◌, length}
use mathlib.Core.List.{List, [], ◌∷◌, Memᴰ}
use Rattle.floats.specs.Lists.{any, count, once}
use Rattle.lines.specs.Lines.{three}
use Rattle.lines.specs.Round.{MeetsOnce, Agrees}
use Rattle.ring.specs.Places.{Place, same_place, fifteen, Side, of_v, lies, sides}
use Rattle.ring.specs.Flags.{neighbour, found}
use Rattle.ring.specs.Ring.{ring}

-- none, or three to six
abbrev pub NoneOrThreeToSix : ℕ → Type 0
NoneOrThreeToSix n = (n ≡ 0) ⊎ ((3 ≤ n) × (n ≤ 6))

-- each of the fifteen places stands in the ring exactly once if it was found and not at all otherwise, and nothing else stands there
pub record Holds (is_found : Place → Bool) (r : List Place) : Type 0 where
  pub exactly : (p : Place) → Memᴰ p fifteen → count (same_place p) r ≡ once (is_found p)
  pub nothing_else : (p : Place) → Memᴰ p r → Memᴰ p fifteen

-- two places lie on a common edge of one triangle
pub record Joined (p q : Place) : Type 0 where
  pub side : Side
  pub is_side : Memᴰ side sides
  pub first : lies side p ≡ true
  pub second : lies side q ≡ true

-- each place and the next, and the last and the first, which is z
unfoldable pub Linked : Place → List Place → Place → Type 0
Linked p [] z = Joined p z
Linked p (q ∷ r) z = Joined p q × Linked q r z

unfoldable pub Closed : List Place → Type 0
unfolding Linked
Closed [] = Unit {0}
Closed (p ∷ r) = Linked p r p

pub record Sound (u : ℕ → ℕ → Bool) (o : ℕ → List ℕ) : Type 0 where
  -- each edge's order has the lines that it crosses, each once, and no other
  pub meets_once : MeetsOnce u o
  -- each line is crossed by none or two edges of U, each crossing is on the walk, and both lines through a corner of V agree
  pub agrees : Agrees u o
  pub size : NoneOrThreeToSix (length (ring u o))
  pub holds : Holds (found u o) (ring u o)
  -- ring neighbours lie on a common edge of one triangle
  pub joined : Closed (ring u o)
  -- beyond the demand: the neighbour flag of V's edge a is set exactly if a place of the ring lies on that edge
  pub flagged : (a : ℕ) → Memᴰ a three → neighbour u o a ≡ any (lies (of_v a)) (ring u o)
