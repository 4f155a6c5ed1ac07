-- Demand 3 of every answer that is no refusal: the ring's own theorem, read in the answer's n, flags and room. Assumes nothing.
use mathlib.Core.Path.{◌≡◌, refl, sym, ap, ◌∙◌}
use mathlib.Core.Bool.{Bool, false, ◌&&◌}
use mathlib.Core.List.{List, [], ◌∷◌, Memᴰ, map}
use Prim.Native.Nat.{ℕ, zero, suc, ◌*◌, ◌<◌}
use native.Mathlib.Omega.{arith}
use lib.Dec.{T, ltb, ltb→lt}
use lib.ListN.{get_or, length, take, length-map}
use lib.Seq.{take_at}
use lib.Ieee.{Float}
use Rattle.floats.specs.Lists.{all, once}
use Rattle.floats.specs.Numbers.{Point}
use Rattle.floats.specs.Way.{Way, f64}
use Rattle.floats.proofs.Lists.{all_at}
use Rattle.lines.specs.Lines.{three, lower_line, upper_line}
use Rattle.lines.specs.Round.{corner_by}
use Rattle.ring.specs.Places.{Place, vertex, corner, crossing, fifteen}
use Rattle.ring.specs.Flags.{vertex_in, corner_in, found, vertices_in, corners_in, neighbour, neighbours}
use Rattle.ring.specs.Demand.{Holds, Sound}
use Rattle.ring.proofs.Demand.{demand3 as ring-demand3}
use Rattle.triangles.specs.Pair.{vertex_signs, outcomes_of, edge_orders, signs_by, orders_by, carried_by, ring_of}
use Rattle.triangles.specs.Positions.{position_of, ring_positions, values_of_corners}
use Rattle.triangles.specs.Answers.{answered, answer_of, written}
use Rattle.triangles.specs.Demand.{found_in, DemandThree}
use Rattle.triangles.proofs.Rows.{number_is, answered_is}

-- two values a corner
values_length : (cs : List (Point Way)) → length (values_of_corners cs) ≡ 2 * length cs
unfolding values_of_corners
values_length [] = refl
values_length (c ∷ cs) = omega (arith, values_length cs)

-- the fifteen places have numbers below three
unfoldable pub in_range : Place → Bool
in_range (vertex i) = ltb i 3
in_range (corner k) = ltb k 3
in_range (crossing e a) = ltb e 3 && ltb a 3

pub fifteen-in_range : T (all in_range fifteen)
unfolding all in_range
fifteen-in_range = tt

below_three : (k : ℕ) → Memᴰ k three → k < 3
below_three k m = ltb→lt k 3 (all_at (λ k. ltb k 3) three (unfold all in tt) m)

-- entry k of a flag for each of three
entry : (flag : ℕ → Bool) (k : ℕ) → k < 3 → get_or (map flag three) k false ≡ flag k
entry flag zero h = refl
entry flag (suc zero) h = refl
entry flag (suc (suc zero)) h = refl
entry flag (suc (suc (suc k))) h = absurd (omega arith)

module _ (l : List Float) where
  pub sound : Sound (signs_by l) (orders_by l)
  unfolding vertex_signs outcomes_of edge_orders
  sound = ring-demand3 f64 (carried_by l)

  -- the values of the corners, two for each of the ring's places
  pub count_of_values : length (values_of_corners (ring_positions l)) ≡ 2 * length (ring_of l)
  unfolding ring_positions
  count_of_values = values_length (ring_positions l) ∙ ap (2 *◌) (length-map (ring_of l) (position_of l))

  vertex_flag : (i : ℕ) → i < 3 → get_or (answer_of l).u_in_v i false ≡ vertex_in (signs_by l) i
  unfolding answer_of vertices_in
  vertex_flag = entry (vertex_in (signs_by l))

  corner_flag : (k : ℕ) → k < 3 → get_or (answer_of l).v_in_u k false ≡ corner_in (signs_by l) (orders_by l) k
  unfolding answer_of corners_in
  corner_flag = entry (corner_in (signs_by l) (orders_by l))

  neighbour_flag : (a : ℕ) → a < 3 → get_or (answer_of l).neighbour a false ≡ neighbour (signs_by l) (orders_by l) a
  unfolding answer_of neighbours
  neighbour_flag = entry (neighbour (signs_by l) (orders_by l))

  -- what the ring's theorem calls found is what the answer's flags say
  by_flags : (p : Place) → T (in_range p) → found (signs_by l) (orders_by l) p ≡ found_in l (answer_of l) p
  unfolding found in_range
  by_flags (vertex i) t = sym (vertex_flag i (ltb→lt i 3 t))
  by_flags (corner k) t = sym (corner_flag k (ltb→lt k 3 t))
  by_flags (crossing e a) t = refl

  held : Holds (found_in l (answer_of l)) (ring_of l)
  unfolding ring_of
  held = record {
    exactly = λ p m. sound.holds.exactly p m ∙ ap once (by_flags p (all_at in_range fifteen fifteen-in_range m));
    nothing_else = sound.holds.nothing_else;
  }

  lower_says_lem : (k : ℕ) → Memᴰ k three → corner_by (signs_by l) (orders_by l) (lower_line k) (upper_line k) ≡ get_or (answer_of l).v_in_u k false
  unfolding corner_in
  lower_says_lem k m = sym (corner_flag k (below_three k m))

  -- the front of the room, after an answer
  pub front : (room : List Float) → take (2 * (answered l room).answer.n) (answered l room).room ≡ values_of_corners (ring_positions l)
  unfolding answered answer_of written
  front room = take_at (values_of_corners (ring_positions l)) _ _ count_of_values

-- for every list of values and every room that are not refused
pub demand3 : DemandThree
unfolding answered answer_of written ring_of ring_positions
demand3 l room h =
    let q = answered_is l room (sym (number_is l room) ∙ h) in
    record {
      meets_once = (sound l).meets_once;
      none_or_two = (sound l).agrees.none_or_two;
      all_found = (sound l).agrees.all_found;
      lower_says = λ k m. rw q (lower_says_lem l k m);
      upper_says = λ k m. rw q ((sound l).agrees.both_lines (upper_line k) (lower_line k) ∙ lower_says_lem l k m);
      size = rw q (sound l).size;
      counted = rw q refl;
      holds = rw q (held l);
      joined = rw q (sound l).joined;
      flagged = λ a m. rw q (neighbour_flag l a (below_three a m) ∙ (sound l).flagged a m);
      positions = rw q (front l room);
    }
