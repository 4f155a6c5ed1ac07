-- 02, No. 1, No. 3 and No. 8, in the place of 01's "meets": what is decided of a pair of triangles, and whether it overlaps, touches or is apart. Whatever is asked of pairs above the triangles is asked of this decision. Definitions and statements.
use Rattle.std.specs.Prelude.{◌≡◌, ◌⊎◌, ◌↔◌, Bool, true, false, cond, List, [], ◌∷◌, ℕ, ◌≤◌, eqb, length, Float}
use Rattle.std.specs.Float.{binary64}
use Rattle.std.specs.Float.Ieee.{add, lt}
use Rattle.floats.specs.Finite.{nought}
use Rattle.floats.specs.Lists.{count}
use Rattle.floats.specs.OneAnswer.{NoSecond}
use Rattle.floats.specs.Numbers.{Point}
use Rattle.floats.specs.Way.{Way}
use Rattle.boxes.specs.Shared.{Corners}
use Rattle.boxes.specs.Near.{corners_of_u, corners_of_v, is_near, Far}
use Rattle.triangles.specs.declared.Answer.{Answer}
use Rattle.triangles.specs.declared.Said.{Said}
use Rattle.triangles.specs.declared.Decision.{Decision}
use Rattle.triangles.specs.declared.Decision.TheVariants.{Refused, Overlapping, Touching, Apart}
use Rattle.triangles.specs.Pair.{vertex_of, corner_of}
use Rattle.triangles.specs.Refusals.{lengths, coordinates, first_of}
use Rattle.triangles.specs.Answers.{whole_of}
use Rattle.triangles.specs.Rows.{RefusedBy}

-- ---- the decision of an answer
-- above zero, asked of the area as it was computed
abbrev pub is_above : Float → Bool
is_above area = lt nought area

-- a refusal with its number; no corners: apart; corners and an area above zero: overlapping, with that area; corners and no such area: touching
unfoldable pub decided : Answer → Decision
decided a = cond (eqb a.number 0) (cond (eqb a.n 0) Apart (cond (is_above a.area) (Overlapping a.area) Touching)) (Refused a.number)

-- no room is lent for a decision: refusal 1 is of the input alone
abbrev pub enough : List Float
enough = nought ∷ nought ∷ nought ∷ nought ∷ nought ∷ nought ∷ nought ∷ nought ∷ nought ∷ nought ∷ nought ∷ nought ∷ []

abbrev pub answer_to : List Float → Answer
answer_to values = (whole_of values enough).answer

-- what the triangle rules alone decide
unfoldable pub by_rules : List Float → Decision
unfolding decided whole_of
by_rules values = decided (answer_to values)

-- the refusals that come before boxes are looked at, 1 and 2, or 0
unfoldable pub before_boxes : List Float → ℕ
unfolding first_of
before_boxes values = first_of (lengths ∷ coordinates ∷ []) values enough

-- the pair decision: refusals 1 and 2; then the boxes, which leave a pair apart where they share no point; then the triangle rules
unfoldable pub decision_of : List Float → Decision
unfolding before_boxes is_near by_rules
decision_of values = cond (eqb (before_boxes values) 0) (cond (is_near values) (by_rules values) Apart) (Refused (before_boxes values))

-- ---- the three kinds of pair
-- it overlaps, also where it is refused
abbrev pub overlaps : Decision → Bool
overlaps (Refused k) = true
overlaps (Overlapping a) = true
overlaps Touching = false
overlaps Apart = false

-- it touches
abbrev pub touches : Decision → Bool
touches (Refused k) = false
touches (Overlapping a) = false
touches Touching = true
touches Apart = false

-- else it is apart
abbrev pub is_apart : Decision → Bool
is_apart (Refused k) = false
is_apart (Overlapping a) = false
is_apart Touching = false
is_apart Apart = true

-- it is refused
abbrev pub is_refused : Decision → Bool
is_refused (Refused k) = true
is_refused (Overlapping a) = false
is_refused Touching = false
is_refused Apart = false

-- a sum of areas with that of one more pair: what overlaps adds its area, rounded once; a refused pair has none, and the others leave the sum as it is
abbrev pub with_area : Float → Decision → Float
with_area sum (Refused k) = sum
with_area sum (Overlapping a) = add binary64 sum a
with_area sum Touching = sum
with_area sum Apart = sum

-- ---- what is said of a decision
-- the number of a refusal, or 0; the kind, 0 apart, 1 touching, 2 overlapping; the area. Beside a refusal's number there are zeros; there kind 0 does not say apart, since such a pair overlaps
abbrev pub said : Decision → Said
said (Refused k) = record { number = k; kind = 0; area = nought }
said (Overlapping a) = record { number = 0; kind = 2; area = a }
said Touching = record { number = 0; kind = 1; area = nought }
said Apart = record { number = 0; kind = 0; area = nought }

-- ---- which kind: a pair that is far is apart; of any other its answer's number, n and area tell
-- refused, or a ring that is not empty and an area above zero
abbrev pub OverlapsBy : Answer → Type 0
OverlapsBy a = (a.number ≡ 0 → ⊥) ⊎ ((a.n ≡ 0 → ⊥) × (is_above a.area ≡ true))

-- a ring that is not empty and an area of zero
abbrev pub TouchesBy : Answer → Type 0
TouchesBy a = (a.number ≡ 0) × (a.n ≡ 0 → ⊥) × (a.area ≡ nought)

-- an answer without a ring
abbrev pub ApartBy : Answer → Type 0
ApartBy a = (a.number ≡ 0) × (a.n ≡ 0)

pub record KindBy (values : List Float) (d : Decision) : Type 0 where
  pub overlapping : (overlaps d ≡ true) ↔ ((Far values → ⊥) × OverlapsBy (answer_to values))
  pub touching : (touches d ≡ true) ↔ ((Far values → ⊥) × TouchesBy (answer_to values))
  pub apart : (is_apart d ≡ true) ↔ (Far values ⊎ ApartBy (answer_to values))
  -- exactly one of the three
  pub one : count (λ (is : Decision → Bool). is d) (overlaps ∷ touches ∷ is_apart ∷ []) ≡ 1

-- every list of values is of exactly one kind, and boxes and answer say which
abbrev pub OneKind : Type 0
OneKind = (values : List Float) → KindBy values (decision_of values)

-- ---- what boxes change
pub record ByBoxes (values : List Float) : Type 0 where
  -- a pair that is far is apart, and any other is what the triangle rules say
  pub far : Far values → decision_of values ≡ Apart
  pub near : (Far values → ⊥) → decision_of values ≡ by_rules values
  -- so wherever the decision is another than theirs the pair is far: on an axis every coordinate of one is below every coordinate of the other
  pub differs : (decision_of values ≡ by_rules values → ⊥) → Far values

-- and the boxes are those of the very vertices that the triangle rules read
abbrev pub vertices_at : (ℕ → Point Way) → Corners
vertices_at at = record { x0 = (at 0).x.value; y0 = (at 0).y.value; x1 = (at 1).x.value; y1 = (at 1).y.value; x2 = (at 2).x.value; y2 = (at 2).y.value }

abbrev pub SameVertices : Type 0
SameVertices = (values : List Float) → (corners_of_u values ≡ vertices_at (vertex_of values)) × (corners_of_v values ≡ vertices_at (corner_of values))

abbrev pub BoxesFirst : Type 0
BoxesFirst = (values : List Float) → ByBoxes values

-- ---- what is promised of a decision in numbers, of any list of values: it says the definition's decision
pub record SaidOf (values : List Float) (result : Said) : Type 0 where
  pub result_is : result ≡ said (decision_of values)

abbrev pub NoSecondSaid : Type 0
NoSecondSaid = (values : List Float) → NoSecond Said (SaidOf values)

-- so of the very result that was returned:
pub record SaidDemand (values : List Float) (result : Said) : Type 0 where
  -- a pair that is far is apart, with area 0.0, whatever the triangle rules would say
  pub far : Far values → (result.number ≡ 0) × (result.kind ≡ 0) × (result.area ≡ nought)
  -- any other is refused exactly as an answer in a room of twelve values is, and its area is that answer's
  pub refused_by : (k : ℕ) → (k ≡ 0 → ⊥) → (result.number ≡ k) ↔ ((Far values → ⊥) × RefusedBy k values enough)
  pub number : (Far values → ⊥) → result.number ≡ (answer_to values).number
  pub area : (Far values → ⊥) → result.area ≡ (answer_to values).area
  -- 1 and 2 are said before boxes are looked at, so these two exactly as they ever were
  pub before_boxes : (k : ℕ) → (k ≡ 1) ⊎ (k ≡ 2) → (result.number ≡ k) ↔ RefusedBy k values enough
  -- of an answer its kind is the pair's, by n and area
  pub overlapping : (result.kind ≡ 2) ↔ ((Far values → ⊥) × ((answer_to values).n ≡ 0 → ⊥) × (is_above (answer_to values).area ≡ true))
  pub touching : (result.kind ≡ 1) ↔ ((Far values → ⊥) × TouchesBy (answer_to values))
  pub apart : ((result.number ≡ 0) × (result.kind ≡ 0)) ↔ (Far values ⊎ ApartBy (answer_to values))
  pub kinds : result.kind ≤ 2
  -- beside a refusal's number there are zeros
  pub zeros : (result.number ≡ 0 → ⊥) → (result.kind ≡ 0) × (result.area ≡ nought)

abbrev pub SaidReturned : Type 0
SaidReturned = (values : List Float) (result : Said) → SaidOf values result → SaidDemand values result

-- ---- what is promised of a decision: it is the definition's, and in numbers it says all of this
pub record Decided (values : List Float) (result : Decision) : Type 0 where
  pub result_is : result ≡ decision_of values
  pub says : SaidDemand values (said result)

-- no second decision meets it
abbrev pub NoSecondDecision : Type 0
NoSecondDecision = (values : List Float) → NoSecond Decision (Decided values)

-- whatever room is lent, if it is long enough, the answer is the one that is decided by
abbrev pub AnyRoom : Type 0
AnyRoom = (values room : List Float) → 12 ≤ length room → (whole_of values room).answer ≡ answer_to values
