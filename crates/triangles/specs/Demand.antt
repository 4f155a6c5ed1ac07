-- Demand 3 of every answer that is no refusal, in its own n, flags and room. Positions may coincide. Statements only.
use Rattle.std.specs.Prelude.{◌≡◌, ◌⊎◌, Bool, false, ℕ, ◌*◌, get_or, length, take, Float}
use mathlib.Core.List.{List, map, Memᴰ}
use Rattle.floats.specs.Lists.{any}
use Rattle.lines.specs.Lines.{three, lower_line, upper_line}
use Rattle.lines.specs.Round.{hits, corner_by, edges_across, MeetsOnce}
use Rattle.ring.specs.Places.{Place, vertex, corner, crossing, of_v, lies}
use Rattle.ring.specs.Flags.{crossing_on}
use Rattle.ring.specs.Demand.{NoneOrThreeToSix, Holds, Closed}
use Rattle.triangles.specs.declared.Answer.{Answer}
use Rattle.triangles.specs.Pair.{signs_by, orders_by}
use Rattle.triangles.specs.Positions.{position_of, values_of_corners}
use Rattle.triangles.specs.Answers.{whole_of}

-- found inside by the answer's own flag, or found on V's edge
abbrev pub found_in : List Float → Answer → Place → Bool
found_in l a (vertex i) = get_or a.u_in_v i false
found_in l a (corner k) = get_or a.v_in_u k false
found_in l a (crossing e b) = crossing_on (signs_by l) (orders_by l) e b

-- of the ring's places, an answer and the room afterwards
pub record PairDemand3 (l : List Float) (places : List Place) (answer : Answer) (after : List Float) : Type 0 where
  -- an edge of U crosses a line exactly if its ends have different signs there: its order has that line once, and no line else
  pub meets_once : MeetsOnce (signs_by l) (orders_by l)
  -- each line of V is crossed by none or two edges of U, and each of these crossings is on the walk
  pub none_or_two : (a : ℕ) → (edges_across (signs_by l) a ≡ 0) ⊎ (edges_across (signs_by l) a ≡ 2)
  pub all_found : (a : ℕ) → length (hits (signs_by l) (orders_by l) a) ≡ edges_across (signs_by l) a
  -- both lines through a corner of V say the same of it, and the answer's flag is what they say
  pub lower_says : (k : ℕ) → Memᴰ k three → corner_by (signs_by l) (orders_by l) (lower_line k) (upper_line k) ≡ get_or answer.v_in_u k false
  pub upper_says : (k : ℕ) → Memᴰ k three → corner_by (signs_by l) (orders_by l) (upper_line k) (lower_line k) ≡ get_or answer.v_in_u k false
  -- the ring has no place, or three to six, and n is their number
  pub size : NoneOrThreeToSix (length places)
  pub counted : answer.n ≡ length places
  -- each of the fifteen places stands in it exactly once if it was found inside or on an edge, not at all otherwise, and nothing else does
  pub holds : Holds (found_in l answer) places
  -- each place and the next, and the last and the first, lie on a common edge of one triangle
  pub joined : Closed places
  -- beyond the demand: the answer's neighbour flag of V's edge a is set exactly if a place of the ring lies on that edge
  pub flagged : (a : ℕ) → Memᴰ a three → get_or answer.neighbour a false ≡ any (lies (of_v a)) places
  -- the first 2n values of the room are the positions of the ring's places, in order
  pub positions : take (2 * answer.n) after ≡ values_of_corners (map (position_of l) places)

-- for every list of values and every room, unless refused
abbrev pub DemandThree : Type 0
DemandThree = (l room : List Float) → (let w = whole_of l room in w.answer.number ≡ 0 → PairDemand3 l w.ring w.answer w.room)
