-- The steps of the code from the values to the answer. That they give the answer of the rules is the entry point's promise. Definitions and a statement.
use Rattle.std.specs.Prelude.{◌≡◌, Bool, true, ◌&&◌, cond, List, [], ◌∷◌, map, ℕ, zero, suc, ◌+◌, ◌-◌, ◌*◌, ◌/◌, ◌%◌, eqb, ltb, get_or, length, take, Float, Option, None, Some, Result, Ok, Err, ⊤}
use Rattle.std.specs.Float.{nan, binary64}
use Rattle.std.specs.Float.Ieee.{add, mul, neg, lt}
use Rattle.floats.specs.Lists.{all}
use Rattle.floats.specs.Finite.{finite, nought}
use Rattle.floats.specs.Numbers.{cross_from}
use Rattle.floats.specs.Way.{f64, at}
use Rattle.floats.specs.declared.Position.{Position}
use Rattle.lines.specs.Lines.{three, signs_at, start, finish}
use Rattle.lines.specs.declared.Params.{Params}
use Rattle.lines.specs.Parameters.{parameter, carried, params_by, signs_of}
use Rattle.ring.specs.Places.{Place, vertex, corner, crossing}
use Rattle.table.specs.Table.{entry_for, crossed_in}
use Rattle.edges.specs.Code.{tested, order_by}
use Rattle.walk.specs.declared.PlaceCode.{PlaceCode}
use Rattle.walk.specs.declared.Ring.{Ring}
use Rattle.walk.specs.Code.{coded, place_of_code, flags_and_ring}
use Rattle.crossings.specs.declared.Crossed.{Crossed}
use Rattle.crossings.specs.Crossing.{crossed_on}
use Rattle.triangles.specs.Pair.{d_of_v, e_of_u, params_of}
use Rattle.triangles.specs.Positions.{half}
use Rattle.triangles.specs.Refusals.{coordinates, way_to_d, d_zero, way_to_e, e_zero, way_to_parameter, first_of}
use Rattle.triangles.specs.declared.Answer.{Answer}
use Rattle.triangles.specs.declared.Kind.{Kind}
use Rattle.triangles.specs.declared.Kind.TheVariants.{Vertex, Reference, Crossing}
use Rattle.triangles.specs.declared.Decision.{Decision}
use Rattle.triangles.specs.declared.Decision.TheVariants.{Apart}
use Rattle.triangles.specs.Answers.{refusal}
use Rattle.triangles.specs.Decision.{decided, by_rules}
use Rattle.front.specs.Front.{beyond_by, number_by, number}
use Rattle.shapes.specs.declared.Shape.{Shape}
use Rattle.routine.specs.declared.spots.Spot.{Spot}
use Rattle.front.specs.declared.Refusal.{Refusal}
use Rattle.front.specs.declared.Start.{Start}
use Rattle.routine.specs.declared.spots.Meeting.{Meeting}
use Rattle.routine.specs.declared.finding.Found.{Found}
use Rattle.shapes.specs.Shapes.{Made, first, second, third, side_a, side_b, twelve}

-- position k of the input's six, U0, U1, U2, V0, V1, V2
abbrev pub position_at : List Float → ℕ → Position
position_at l k = record { x = get_or l (2 * k) nan; y = get_or l (2 * k + 1) nan }

-- the number that the rows from the coordinates to the parameters give, which do not look at the room
unfoldable pub front_of : List Float → ℕ
unfolding first_of
front_of l = first_of (coordinates ∷ way_to_d ∷ d_zero ∷ way_to_e ∷ e_zero ∷ way_to_parameter ∷ []) l []

-- ---- corners
-- one that stands where the input has it
abbrev pub standing : Kind → Position → Spot
standing kind p = record { corner = record { kind = kind; x = p.x; y = p.y }; fine = true }

abbrev pub params_at : List Params → ℕ → Params
params_at ps i = get_or ps i (record { x = nan; y = nan; w = nan })

-- a crossing of edge e with line a
abbrev pub crossed_spot : ℕ → ℕ → Crossed → Spot
crossed_spot e a c = record { corner = record { kind = Crossing e a c.t; x = c.x; y = c.y }; fine = c.fine }

-- .. between vertex i, which is plus on the line and has the parameters p, and vertex j, with q
unfoldable pub cross_spot : List Float → ℕ → ℕ → ℕ → ℕ → Params → Params → Spot
cross_spot l e a i j p q = crossed_spot e a (crossed_on (parameter (carried p) a).value (parameter (carried q) a).value (position_at l i) (position_at l j))

-- the same, the parameters being looked up
abbrev pub cross_of : List Float → List Params → ℕ → ℕ → ℕ → ℕ → Spot
cross_of l ps e a i j = cross_spot l e a i j (params_at ps i) (params_at ps j)

-- of a place: a crossing is reckoned from the start of its edge, if that is plus on the crossing's line, else from the finish
unfoldable pub spot_of : List Float → List Params → List (List Bool) → Place → Spot
spot_of l ps ss (vertex i) = standing (Vertex i) (position_at l i)
spot_of l ps ss (corner k) = standing (Reference k) (position_at l (3 + k))
spot_of l ps ss (crossing e a) = cond (signs_at ss (start e) a) (cross_of l ps e a (start e) (finish e)) (cross_of l ps e a (finish e) (start e))

-- the spots of the ring's places, by their numbers
unfoldable pub spots_of : List Float → List Params → List (List Bool) → List PlaceCode → List Spot
spots_of l ps ss places = map (λ c. spot_of l ps ss (place_of_code c.code)) places

-- where they stand, and whether all of them are fine
abbrev pub stand : Spot → Position
stand s = record { x = s.corner.x; y = s.corner.y }

abbrev pub corners_of : List Float → List Params → List (List Bool) → List PlaceCode → List Position
corners_of l ps ss places = map stand (spots_of l ps ss places)

abbrev pub all_fine : List Float → List Params → List (List Bool) → List PlaceCode → Bool
all_fine l ps ss places = all (λ s. s.fine) (spots_of l ps ss places)

-- the signs of three vertices, by their parameters
abbrev pub signs_from : List Params → List (List Bool)
signs_from ps = map (λ i. signs_of (params_at ps i)) three

-- what stands at a place with a number below 6
abbrev pub kind_in : ℕ → Kind
kind_in code = cond (ltb code 3) (Vertex code) (Reference (code - 3))

-- the crossing of a place's number; none below 6
abbrev pub meeting_in : ℕ → Option Meeting
meeting_in code = cond (ltb code 6) None (Some (record { edge = (code - 6) / 3; line = (code - 6) % 3 }))

-- the spot of a crossing, plus being the sign on its line of the start of its edge
unfoldable pub crossed : List Float → List Params → Meeting → Bool → Spot
crossed l ps c plus = cond plus (cross_of l ps c.edge c.line (start c.edge) (finish c.edge)) (cross_of l ps c.edge c.line (finish c.edge) (start c.edge))

-- ---- the area
abbrev pub place_in : List Position → ℕ → Position
place_in cs k = get_or cs k (record { x = nan; y = nan })

unfoldable pub sum_of_crosses : List Position → ℕ → Float
sum_of_crosses cs zero = nought
sum_of_crosses cs (suc m) = add binary64 (sum_of_crosses cs m) (cross_from f64 (at (place_in cs 0)) (at (place_in cs (m + 1))) (at (place_in cs (m + 2)))).value

unfoldable pub area_by : List Position → Float
area_by cs = let sum = sum_of_crosses cs (length cs - 2) in mul binary64 half (cond (lt sum nought) (neg sum) sum)

-- ---- the rest of the way, from any d, e and parameters: of a pair's own it is the answer of the rules (`settled_Keeps`, proofs/Kept.antt)
-- what is answered, and the ring's corners and their places' numbers
pub record Outcome : Type 0 where
  pub answer : Answer
  pub corners : List Position
  pub places : List PlaceCode

abbrev pub no_places : List PlaceCode
no_places = coded 0 ∷ coded 0 ∷ coded 0 ∷ coded 0 ∷ coded 0 ∷ coded 0 ∷ []

abbrev pub outcome_refused : ℕ → Outcome
outcome_refused k = record { answer = refusal k; corners = []; places = no_places }

abbrev pub answered_with : Ring → Float → List Position → Outcome
answered_with w area corners = record {
  answer = record { number = 0; n = w.n; area = area; u_in_v = w.u_in_v; v_in_u = w.v_in_u; neighbour = w.neighbour };
  corners = corners;
  places = w.places;
}

-- what was found, if there is a ring, or why nothing can be told, as an outcome
abbrev pub found_in : Found → Outcome
found_in f = record { answer = f.answer; corners = take f.answer.n f.corners; places = f.places }

abbrev pub outcome_of : Option Found → Outcome
outcome_of None = outcome_refused 0
outcome_of (Some f) = found_in f

abbrev pub outcome_in : Result ⊤ Refusal → Option Found → Outcome
outcome_in (Ok _) f = outcome_of f
outcome_in (Err k) f = outcome_refused (number k)

-- the values of positions, in their order
abbrev pub values_of : List Position → List Float
values_of [] = []
values_of (c ∷ cs) = c.x ∷ c.y ∷ values_of cs

-- from the ring on: its corners and its area, refused where a denominator or the area is not finite
unfoldable pub placed_as : List Float → List Params → List (List Bool) → Ring → Outcome
placed_as l ps ss w =
    let places = take w.n w.places in
    let corners = corners_of l ps ss places in
    let area = area_by corners in
    cond (all_fine l ps ss places && finite area) (answered_with w area corners) (outcome_refused 4)

-- from the parameters on: the orders along U's edges, refused where a pair test that was computed is not finite
unfoldable pub ordered_by : List Float → Params → Params → Params → Outcome
ordered_by l p q r =
    let s = signs_of p in
    let t = signs_of q in
    let u = signs_of r in
    let ss = s ∷ t ∷ u ∷ [] in
    let entry = entry_for ss in
    let a = order_by (tested p q s) s (crossed_in entry 0) in
    let b = order_by (tested q r t) t (crossed_in entry 1) in
    let c = order_by (tested p r s) s (crossed_in entry 2) in
    cond (a.fine && (b.fine && c.fine)) (placed_as l (p ∷ q ∷ r ∷ []) ss (flags_and_ring ss entry (a.before ∷ b.before ∷ c.before ∷ []))) (outcome_refused 4)

-- from d, e and the parameters on: the rows before the pair tests first
unfoldable pub settled_by : List Float → Float → Float → Params → Params → Params → Outcome
settled_by l d e p q r = let k = number_by l d e p q r in cond (eqb k 0) (ordered_by l p q r) (outcome_refused k)

-- .. and before all, nothing where one sum tells that all of U lies beyond a line
unfoldable pub found_by : List Float → Float → Float → Params → Params → Params → Outcome
found_by l d e p q r = cond (beyond_by d e p q r) (outcome_refused 0) (settled_by l d e p q r)

-- ---- d, e and the parameters, those of a pair
abbrev pub Starts : List Float → Start → Type 0
Starts l s = (s.d ≡ (d_of_v l).value) × (s.e ≡ (e_of_u l).value) × (s.p ≡ params_of l 0) × (s.q ≡ params_of l 1) × (s.r ≡ params_of l 2)

-- ---- by the triangle rules alone, of two triangles made ready, whatever their eleven numbers are: the sides and the crosses are taken as they stand
abbrev pub start_by : Shape → Shape → Start
start_by u v =
    let by : Position → Params = params_by v.cross (first v) (side_a v) (side_b v) in
    record { d = v.cross; e = u.cross; p = by (first u); q = by (second u); r = by (third u) }

unfoldable pub rules_by : Shape → Shape → Decision
rules_by u v =
    let s = start_by u v in
    cond (beyond_by s.d s.e s.p s.q s.r) Apart (decided (settled_by (twelve u v) s.d s.e s.p s.q s.r).answer)

-- where each was made ready from its own vertices, it is what the triangle rules decide of their twelve values
abbrev pub RulesOfMade : Type 0
RulesOfMade = (u v : Shape) → Made u × Made v → rules_by u v ≡ by_rules (twelve u v)
