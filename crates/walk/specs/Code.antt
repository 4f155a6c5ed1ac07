-- Flags and ring as the code finds them, from the orders by V's corners. That they are the flags and the ring of the rules is proved (`is_ring`).
-- Definitions only.
use Rattle.std.specs.Prelude.{Bool, true, false, not, ◌&&◌, ◌||◌, cond, List, [], ◌∷◌, map, reverse, ℕ, ◌+◌, ◌-◌, ◌*◌, ◌/◌, ◌%◌, ◌^◌, eqb, ltb, get_or, set, take, Option, None, Some}
use Rattle.std.specs.Int.Bits.{bit_and, bit_or, bit_xor}
use Rattle.lines.specs.Lines.{corner_on, lower_line, upper_line, start, lower_end, sign, signs_at}
use Rattle.table.specs.Table.{digit_of, flags_in, index_of, in_v_in}
use Rattle.order.specs.Order.{order_at}
use Rattle.edges.specs.Code.{before_in}
use Rattle.walk.specs.declared.PlaceCode.{PlaceCode}
use Rattle.walk.specs.declared.Edges.{Edges}
use Rattle.walk.specs.declared.Walk.{Walk}
use Rattle.walk.specs.declared.Ring.{Ring}
use Rattle.ring.specs.Places.{Place, vertex, corner, crossing}

-- the number of a place
abbrev pub code_of : Place → ℕ
code_of (vertex i) = i
code_of (corner k) = 3 + k
code_of (crossing e a) = 6 + 3 * e + a

-- ---- U's edges, all three at once: a number has an octal digit for each, edge 0's first, and a digit three truth values, as in the table
-- 111 in octal: of each digit the last truth value
abbrev pub last_of_each : ℕ
last_of_each = 73

abbrev pub lasts : ℕ → ℕ
lasts m = bit_and m last_of_each

abbrev pub turned : ℕ → ℕ
turned m = bit_xor m last_of_each

-- the last truth values of the digits, put where the digit of V's corners has the corner on lines a and b
unfoldable pub at_corner : ℕ → ℕ → ℕ → ℕ
at_corner m a b = m * 2 ^ (2 - corner_on a b) % 65536

-- s: the signs at the edges' lower ends. c: the lines that they cross, the last three digits of the entry. o: their orders, by corner: whether the corner's lower line is met before its upper one.
-- x, y and w: whether the line is crossed. sx, sy and sw: whether the lower end is plus there.
-- x_on_y: where an edge crosses x, its sign on y, which is that of the walk at that moment: of its lower end, or turned if y was crossed before; the five others likewise.
-- on: which crossings lie on V's edge, being plus on both other lines.
-- beside: of each corner of V, whether the edge crosses the corner's lower line on the plus side of its upper one; a corner is in U if of the lower line's two crossings one alone does
unfoldable pub edges_tell : ℕ → ℕ → ℕ → Edges
unfolding at_corner
edges_tell s c o =
    let x = lasts (c / 4) in
    let y = lasts (c / 2) in
    let w = lasts c in
    let sx = lasts (s / 4) in
    let sy = lasts (s / 2) in
    let sw = lasts s in
    let x_before_y = lasts (o / 4) in
    let y_before_w = lasts (o / 2) in
    let x_before_w = lasts o in
    let x_on_y = bit_xor sy (bit_and y (turned x_before_y)) in
    let x_on_w = bit_xor sw (bit_and w (turned x_before_w)) in
    let y_on_x = bit_xor sx (bit_and x x_before_y) in
    let y_on_w = bit_xor sw (bit_and w (turned y_before_w)) in
    let w_on_x = bit_xor sx (bit_and x x_before_w) in
    let w_on_y = bit_xor sy (bit_and y y_before_w) in
    record {
      on = bit_or (bit_and x (bit_and x_on_y x_on_w) * 4 % 65536) (bit_or (bit_and y (bit_and y_on_x y_on_w) * 2 % 65536) (bit_and w (bit_and w_on_x w_on_y)));
      beside = bit_or (at_corner (bit_and x x_on_y) 0 1) (bit_or (at_corner (bit_and y y_on_w) 1 2) (at_corner (bit_and x x_on_w) 0 2));
    }

-- the signs at the lower ends
unfoldable pub lower_signs : List (List Bool) → ℕ
lower_signs ss = index_of (get_or ss (lower_end 0) [] ∷ get_or ss (lower_end 1) [] ∷ get_or ss (lower_end 2) [] ∷ [])

-- ---- the walk
abbrev pub coded : ℕ → PlaceCode
coded k = record { code = k }

unfoldable pub begun : Walk
begun = record { places = coded 0 ∷ coded 0 ∷ coded 0 ∷ coded 0 ∷ coded 0 ∷ coded 0 ∷ []; n = 0; left = None; first = None }

-- a walk with one of its notes changed
abbrev pub left_by : Walk → Option ℕ → Walk
left_by w a = record { places = w.places; n = w.n; left = a; first = w.first }

abbrev pub first_by : Walk → ℕ → Walk
first_by w a = record { places = w.places; n = w.n; left = w.left; first = Some a }

unfoldable pub pushed : Walk → Bool → ℕ → Walk
pushed w test k = cond (test && ltb w.n 6) (record { places = set w.places w.n (coded k); n = w.n + 1; left = w.left; first = w.first }) w

-- the line of a digit that has one
unfoldable pub line_of_digit : ℕ → ℕ
line_of_digit m = cond (eqb m 4) 0 (cond (eqb m 2) 1 2)

unfoldable pub is_on_line : ℕ → ℕ → Bool
is_on_line k a = eqb (lower_line k) a || eqb (upper_line k) a

-- k: V's corners that are in U, a digit
unfoldable pub cornered : Walk → ℕ → ℕ → Walk
cornered w k a =
    let inside = flags_in k in
    let w0 = pushed w (sign inside 0 && is_on_line 0 a) 3 in
    let w1 = pushed w0 (sign inside 1 && is_on_line 1 a) 4 in
    let w2 = pushed w1 (sign inside 2 && is_on_line 2 a) 5 in
    let w3 = pushed w2 (sign inside 0 && not (is_on_line 0 a)) 3 in
    let w4 = pushed w3 (sign inside 1 && not (is_on_line 1 a)) 4 in
    pushed w4 (sign inside 2 && not (is_on_line 2 a)) 5

-- V is entered by the line
abbrev pub is_by : Option ℕ → ℕ → Bool
is_by None a = false
is_by (Some b) a = eqb b a

-- between the crossing of line a, where V was left, and the next, where it is entered: V's corners, if any are in U and it is not entered by the same line
unfoldable pub gap : Walk → ℕ → ℕ → Option ℕ → Walk
gap w k a by = cond (not (eqb k 0) && not (is_by by a)) (cornered w k a) w

-- the crossing of line a of edge e, where V is entered, after it was left by a line, if it was
unfoldable pub entered : Walk → ℕ → ℕ → ℕ → Option ℕ → Walk
entered w k e a None = first_by (pushed w true (6 + 3 * e + a)) a
entered w k e a (Some left) = left_by (pushed (gap w k left (Some a)) true (6 + 3 * e + a)) None

-- m: the line of edge e by which V is entered, or left, a digit; 0 where there is none
unfoldable pub entering : Walk → ℕ → ℕ → ℕ → Walk
entering w k e m = cond (eqb m 0) w (entered w k e (line_of_digit m) w.left)

unfoldable pub leaving : Walk → ℕ → ℕ → Walk
leaving w e m = cond (eqb m 0) w (left_by (pushed w true (6 + 3 * e + line_of_digit m)) (Some (line_of_digit m)))

-- s: the signs at the edge's start. on: its lines with a crossing on V's edge
unfoldable pub along_edge : Walk → ℕ → ℕ → Bool → ℕ → ℕ → Walk
along_edge w k e is_in s on = cond (eqb on 0) (pushed w is_in e) (leaving (entering (pushed w is_in e) k e (bit_and on (bit_xor s 7))) e (bit_and on s))

-- after V was left by a line, if it was: it is entered next by the line of the beginning
unfoldable pub closed : Walk → ℕ → Option ℕ → Walk
closed w k None = w
closed w k (Some left) = gap w k left w.first

unfoldable pub closing : Walk → ℕ → Walk
closing w k =
    let all = eqb k 7 in
    cond (eqb w.n 0) (pushed (pushed (pushed w all 3) all 4) all 5) (closed w k w.left)

-- ---- the whole
-- of what the edges tell of V's corners: V's corner on two lines is in U if the lower line has two crossings with different signs on the
-- upper, which is an odd number of plus signs, as no line has one crossing or three
unfoldable pub inside_of : ℕ → ℕ
inside_of beside = bit_xor beside (bit_xor (beside / 8) (beside / 64)) % 8

unfoldable pub neighbours_of : ℕ → List Bool → List Bool
neighbours_of on k =
    let met = flags_in (bit_or on (bit_or (on / 8) (on / 64))) in
    (sign met 0 || (sign k (corner_on 0 1) || sign k (corner_on 0 2)))
    ∷ (sign met 1 || (sign k (corner_on 0 1) || sign k (corner_on 1 2)))
    ∷ (sign met 2 || (sign k (corner_on 0 2) || sign k (corner_on 1 2)))
    ∷ []

unfoldable pub walk_of : List (List Bool) → List Bool → ℕ → ℕ → Walk
walk_of ss in_v on k =
    let from : ℕ → ℕ = λ e. digit_of (get_or ss (start e) []) in
    closing (along_edge (along_edge (along_edge begun k 0 (sign in_v (start 0)) (from 0) (on / 64)) k 1 (sign in_v (start 1)) (from 1) (on / 8 % 8)) k 2 (sign in_v (start 2)) (from 2) (on % 8)) k

-- entry: what the table has of the signs. os: the orders along the edges, a digit each
unfoldable pub flags_and_ring : List (List Bool) → ℕ → List ℕ → Ring
flags_and_ring ss entry os =
    let t = edges_tell (lower_signs ss) entry (bit_or (get_or os 0 0 * 64 % 65536) (bit_or (get_or os 1 0 * 8 % 65536) (get_or os 2 0))) in
    let k = inside_of t.beside in
    let in_v = flags_in (in_v_in entry) in
    let w = walk_of ss in_v t.on k in
    record { places = w.places; n = w.n; u_in_v = in_v; v_in_u = flags_in k; neighbour = neighbours_of t.on (flags_in k) }

-- one of V's lines has all three vertices of U on its minus side
abbrev pub beyond_a_line : List (List Bool) → Bool
beyond_a_line ss =
    let plus : ℕ → Bool = λ a. signs_at ss 0 a || (signs_at ss 1 a || signs_at ss 2 a) in
    not (plus 0 && (plus 1 && plus 2))

-- ---- against the rules
-- the place of a number
abbrev pub place_of_code : ℕ → Place
place_of_code k = cond (ltb k 3) (vertex k) (cond (ltb k 6) (corner (k - 3)) (crossing ((k - 6) / 3) ((k - 6) % 3)))

-- the numbers of the ring's places
abbrev pub codes_of : Ring → List ℕ
codes_of r = take r.n (map (λ c. c.code) r.places)

-- the orders of the rules by corners, each seen from its edge's lower vertex: edge 2 is walked from its higher one
unfoldable pub befores : List (List ℕ) → List ℕ
unfolding before_in
befores os = before_in (order_at os 0) ∷ before_in (order_at os 1) ∷ before_in (reverse (order_at os 2)) ∷ []
