-- Which pairs are far, as the code asks it. The rows of the refusals from the coordinates to the parameters by the last values alone, d, e and the three w; and what one sum tells of them. That they come to the rows of the table is proved where the values are those of a pair. Definitions and a statement.
use Rattle.std.specs.Prelude.{◌≡◌, Bool, not, ◌&&◌, cond, List, [], ◌∷◌, ℕ, ◌+◌, eqb, get_or, length, Float, Result, Ok, Err, ⊤}
use Rattle.std.specs.Float.{nan, binary64}
use Rattle.std.specs.Float.Ieee.{add, eq}
use Rattle.floats.specs.Lists.{all}
use Rattle.floats.specs.OneAnswer.{NoSecond}
use Rattle.floats.specs.Finite.{finite, nought}
use Rattle.floats.specs.declared.Triangle.{Triangle}
use Rattle.lines.specs.declared.Params.{Params}
use Rattle.lines.specs.Parameters.{signs_of}
use Rattle.walk.specs.Code.{beyond_a_line}
use Rattle.boxes.specs.Near.{is_near}
use Rattle.front.specs.declared.Refusal.{Refusal}
use Rattle.front.specs.declared.Refusal.TheVariants.{Lengths, NotFinite, FlatV, Overflow, FlatU}

-- the number of a refusal, and of what is told by an Ok or a refusal: 0 is no refusal
abbrev pub number : Refusal → ℕ
number Lengths = 1
number NotFinite = 2
number FlatV = 3
number Overflow = 4
number FlatU = 5

abbrev pub number_told : Result ⊤ Refusal → ℕ
number_told (Ok _) = 0
number_told (Err k) = number k

-- two results of one number refuse for the same reason, or both refuse nothing
abbrev pub NoSecondJudged : Type 0
NoSecondJudged = (n : ℕ) → NoSecond (Result ⊤ Refusal) (λ r. number_told r ≡ n)

-- the triangle whose six values stand from place k on
abbrev pub triangle_from : List Float → ℕ → Triangle
triangle_from l k = record {
  a = record { x = get_or l k nan; y = get_or l (k + 1) nan };
  b = record { x = get_or l (k + 2) nan; y = get_or l (k + 3) nan };
  c = record { x = get_or l (k + 4) nan; y = get_or l (k + 5) nan };
}

-- twelve values, boxes that share no point, and all values finite
unfoldable pub far_by : List Float → Bool
unfolding is_near
far_by l = eqb (length l) 12 && (not (is_near l) && all finite l)

-- by values: the coordinates, d, e and the parameters
unfoldable pub front_by : List Float → Float → Float → Params → Params → Params → ℕ
front_by l d e p q r =
    cond (not (all finite l)) 2
    (cond (not (finite d)) 4
    (cond (eq d nought) 3
    (cond (not (finite e)) 4
    (cond (eq e nought) 5
    (cond (finite p.w && (finite q.w && finite r.w)) 0 4)))))

-- what is seen at once: the sum of e and the three w is finite, and neither d nor e is zero
unfoldable pub clear_by : Float → Float → Params → Params → Params → Bool
clear_by d e p q r = finite (add binary64 (add binary64 (add binary64 p.w q.w) r.w) e) && (not (eq d nought) && not (eq e nought))

-- .. and all of U lies beyond one of V's lines
unfoldable pub beyond_by : Float → Float → Params → Params → Params → Bool
beyond_by d e p q r = clear_by d e p q r && beyond_a_line (signs_of p ∷ signs_of q ∷ signs_of r ∷ [])

-- the number by these rows, which are asked only where that is not seen
unfoldable pub number_by : List Float → Float → Float → Params → Params → Params → ℕ
unfolding front_by clear_by
number_by l d e p q r = cond (clear_by d e p q r) 0 (front_by l d e p q r)
