-- 02, No. 1 and No. 3, worked by hand: what is said of 01's cases A to L, of lists of other lengths, of areas at the lower end of all floats, of two pairs in which rounding speaks against exact numbers, and of pairs whose boxes share no point, an edge or a corner. Definitions and statements.
use Rattle.std.specs.Prelude.{◌≡◌, Bool, true, false, List, [], ◌∷◌, ◌++◌, map, ℕ, ◌^◌, ℤ, pos, negsuc, Float}
use Rattle.std.specs.Float.{nan, inf, binary64}
use Rattle.std.specs.Float.Ieee.{of_int, of_bits}
use Rattle.triangles.specs.declared.Said.{Said}
use Rattle.triangles.specs.Decision.{said, by_rules, decision_of, overlaps, touches}

-- values, what is said of them, what the triangle rules alone would say, and whether the list takes them as overlapping or touching
pub record Case : Type 0 where
  pub values : List Float
  pub says : Said
  pub rules : Said
  pub overlaps : Bool
  pub touches : Bool

pub record Shown (c : Case) : Type 0 where
  pub number : (said (decision_of c.values)).number ≡ c.says.number
  pub kind : (said (decision_of c.values)).kind ≡ c.says.kind
  pub area : (said (decision_of c.values)).area ≡ c.says.area
  pub rules_number : (said (by_rules c.values)).number ≡ c.rules.number
  pub rules_kind : (said (by_rules c.values)).kind ≡ c.rules.kind
  pub rules_area : (said (by_rules c.values)).area ≡ c.rules.area
  pub overlaps : overlaps (decision_of c.values) ≡ c.overlaps
  pub touches : touches (decision_of c.values) ≡ c.touches

-- a triangle in whole numbers: `pos k` is k, `negsuc k` is −(k + 1)
abbrev triangle : ℤ → ℤ → ℤ → ℤ → ℤ → ℤ → List Float
triangle a b c d e f = map (of_int binary64) (a ∷ b ∷ c ∷ d ∷ e ∷ f ∷ [])

abbrev zero : Float
zero = of_bits binary64 0

-- the four ways, in which boxes change nothing
abbrev number : ℕ → Said
number k = record { number = k; kind = 0; area = zero }

abbrev kind_of : ℕ → Float → Said
kind_of k a = record { number = 0; kind = k; area = a }

abbrev refused : ℕ → List Float → Case
refused k l = record { values = l; says = number k; rules = number k; overlaps = true; touches = false }

abbrev apart : List Float → Case
apart l = record { values = l; says = kind_of 0 zero; rules = kind_of 0 zero; overlaps = false; touches = false }

abbrev touching : List Float → Case
touching l = record { values = l; says = kind_of 1 zero; rules = kind_of 1 zero; overlaps = false; touches = true }

-- with the area's bits
abbrev overlapping : List Float → ℕ → Case
overlapping l bits = record { values = l; says = kind_of 2 (of_bits binary64 bits); rules = kind_of 2 (of_bits binary64 bits); overlaps = true; touches = false }

-- apart by its boxes, where the triangle rules would say something else
abbrev far : List Float → Said → Case
far l r = record { values = l; says = kind_of 0 zero; rules = r; overlaps = false; touches = false }

-- V unless given, U of A, V of C, and a triangle on one line
abbrev v : List Float
v = triangle (pos 0) (pos 0) (pos 4) (pos 0) (pos 0) (pos 4)

abbrev u : List Float
u = triangle (pos 1) (pos 1) (pos 2) (pos 1) (pos 1) (pos 2)

abbrev large : List Float
large = triangle (pos 0) (pos 0) (pos 8) (pos 0) (pos 0) (pos 8)

abbrev flat : List Float
flat = triangle (pos 0) (pos 0) (pos 1) (pos 1) (pos 2) (pos 2)

-- (0,0),(a,0),(0,b), as U and as V
abbrev twice : Float → Float → List Float
twice a b = zero ∷ zero ∷ a ∷ zero ∷ zero ∷ b ∷ zero ∷ zero ∷ a ∷ zero ∷ zero ∷ b ∷ []

-- 2^−537 and 2^−536
abbrev tiny : Float
tiny = of_bits binary64 0x1e60_0000_0000_0000

abbrev doubled : Float
doubled = of_bits binary64 0x1e70_0000_0000_0000

-- one that overflows
abbrev huge : List Float
huge = triangle (pos 0) (pos 0) (pos (10 ^ 300)) (pos 0) (pos 0) (pos (10 ^ 300))

-- the next value above 4.0, and −0.0
abbrev above_four : Float
above_four = of_bits binary64 0x4010_0000_0000_0001

abbrev minus_zero : Float
minus_zero = of_bits binary64 0x8000_0000_0000_0000

abbrev pub known : List Case
known =
    -- A to H
    overlapping (u ++ v) 0x3fe0_0000_0000_0000
    ∷ overlapping (large ++ u) 0x3fe0_0000_0000_0000
    ∷ overlapping (triangle (pos 6) (pos 6) (negsuc 1) (pos 6) (pos 6) (negsuc 1) ++ large) 0x4034_0000_0000_0000
    ∷ overlapping (triangle (pos 1) (pos 1) (negsuc 2) (pos 1) (pos 1) (negsuc 2) ++ v) 0x3ff0_0000_0000_0000
    ∷ apart (triangle (pos 10) (pos 10) (pos 11) (pos 10) (pos 10) (pos 11) ++ v)
    ∷ touching (triangle (pos 0) (pos 0) (pos 4) (pos 0) (pos 0) (negsuc 3) ++ v)
    ∷ overlapping (triangle (negsuc 2) (pos 5) (pos 5) (negsuc 2) (pos 9) (pos 9) ++ v) 0x4018_0000_0000_0000
    ∷ overlapping (u ++ triangle (pos 0) (pos 0) (pos 0) (pos 4) (pos 4) (pos 0)) 0x3fe0_0000_0000_0000
    -- I to L, K with the NaN in its last place
    ∷ refused 3 (u ++ flat)
    ∷ refused 5 (flat ++ v)
    ∷ refused 2 (u ++ (zero ∷ zero ∷ zero ∷ zero ∷ zero ∷ nan ∷ []))
    ∷ refused 4 (u ++ triangle (pos 0) (pos 0) (pos (10 ^ 300)) (pos 0) (pos 0) (pos (10 ^ 300)))
    -- lengths
    ∷ refused 1 []
    ∷ refused 1 (u ++ (zero ∷ v))
    -- the sum 2^−1074 has a half of 0.0, and 2^−1073 one of 2^−1074
    ∷ touching (twice tiny tiny)
    ∷ overlapping (twice doubled tiny) 1
    -- V's edge from V2 to V0 lies on U's from U1 to U2, and no more is shared; computed, the area is 2^−30
    ∷ overlapping (triangle (pos 458) (negsuc 957) (negsuc 13746) (negsuc 4523) (negsuc 1188) (negsuc 974) ++ triangle (negsuc 6478) (negsuc 2469) (negsuc 804) (negsuc 155) (negsuc 12826) (negsuc 4263)) 0x3e10_0000_0000_0000
    -- V2 lies on U's edge from U2 to U0; computed, there is no ring
    ∷ apart (triangle (pos 0) (negsuc 0) (negsuc 0) (pos 0) (pos 0) (pos 3) ++ triangle (pos 4) (pos 1) (pos 2) (negsuc 0) (pos 0) (pos 1))
    ∷ []

-- U and V as lists of six; V is (0,0),(4,0),(0,4), and a flat U tells by its refusal, 5, whether it was given to the triangle rules
abbrev pub boxed : List Case
boxed =
    -- rounding gives a ring beyond the tip of a needle, with an area of 2^−33 and with none
    far (triangle (pos 327628) (pos 2) (negsuc 335622) (pos 719289) (negsuc 969091) (pos 2) ++ triangle (negsuc 778993) (negsuc 314944) (negsuc 940498) (negsuc 380240) (pos 0) (pos 0)) (kind_of 2 (of_bits binary64 0x3de0_0000_0000_0000))
    ∷ far (triangle (pos 4) (pos 591250) (pos 1) (negsuc 164390) (pos 500204) (negsuc 582336) ++ triangle (pos 0) (pos 0) (negsuc 933756) (negsuc 541493) (negsuc 973495) (negsuc 564538)) (kind_of 1 zero)
    -- flat, a centimetre to the right of V, to its left, above and below
    ∷ far (triangle (pos 5) (pos 0) (pos 6) (pos 1) (pos 7) (pos 2) ++ v) (number 5)
    ∷ far (triangle (negsuc 2) (pos 0) (negsuc 1) (pos 1) (negsuc 0) (pos 2) ++ v) (number 5)
    ∷ far (triangle (pos 0) (pos 5) (pos 1) (pos 6) (pos 2) (pos 7) ++ v) (number 5)
    ∷ far (triangle (pos 0) (negsuc 2) (pos 1) (negsuc 1) (pos 2) (negsuc 0) ++ v) (number 5)
    -- flat, with an edge in common there
    ∷ refused 5 (triangle (pos 4) (pos 0) (pos 5) (pos 1) (pos 6) (pos 2) ++ v)
    ∷ refused 5 (triangle (negsuc 1) (pos 0) (negsuc 0) (pos 1) (pos 0) (pos 2) ++ v)
    ∷ refused 5 (triangle (pos 0) (pos 4) (pos 1) (pos 5) (pos 2) (pos 6) ++ v)
    ∷ refused 5 (triangle (pos 0) (negsuc 1) (pos 1) (negsuc 0) (pos 2) (pos 0) ++ v)
    -- with a corner in common, and nested
    ∷ refused 5 (triangle (pos 4) (pos 4) (pos 5) (pos 5) (pos 6) (pos 6) ++ v)
    ∷ refused 5 (triangle (pos 2) (pos 2) (pos 3) (pos 3) (pos 3) (pos 3) ++ v)
    -- each vertex of V alone at an end of its box
    ∷ refused 5 (triangle (negsuc 0) (pos 3) (pos 0) (pos 4) (pos 1) (pos 5) ++ triangle (pos 0) (pos 4) (pos 4) (pos 2) (pos 2) (pos 0))
    ∷ refused 5 (triangle (pos 3) (negsuc 0) (pos 4) (pos 0) (pos 5) (pos 1) ++ triangle (pos 0) (pos 4) (pos 4) (pos 2) (pos 2) (pos 0))
    ∷ refused 5 (triangle (negsuc 0) (pos 4) (pos 0) (pos 5) (pos 1) (pos 6) ++ triangle (pos 2) (pos 0) (pos 4) (pos 4) (pos 0) (pos 3))
    ∷ refused 5 (triangle (pos 3) (pos 3) (pos 3) (pos 3) (pos 3) (pos 3) ++ triangle (pos 4) (pos 4) (pos 0) (pos 2) (pos 2) (pos 0))
    -- V flat, far and near
    ∷ far (triangle (pos 10) (pos 10) (pos 14) (pos 10) (pos 10) (pos 14) ++ flat) (number 3)
    ∷ refused 3 (triangle (pos 2) (pos 2) (pos 6) (pos 2) (pos 2) (pos 6) ++ flat)
    -- overflow, far, as V and as U; near it is case L
    ∷ far (triangle (negsuc 1) (negsuc 2) (negsuc 0) (negsuc 2) (negsuc 1) (negsuc 0) ++ huge) (number 4)
    ∷ far (huge ++ triangle (negsuc 1) (negsuc 2) (negsuc 0) (negsuc 2) (negsuc 1) (negsuc 0)) (number 4)
    -- a value that is not finite, in U and in V, whatever the boxes
    ∷ refused 2 (triangle (pos 10) (pos 10) (pos 14) (pos 10) (pos 10) (pos 14) ++ (zero ∷ zero ∷ zero ∷ zero ∷ zero ∷ nan ∷ []))
    ∷ refused 2 (triangle (pos 10) (pos 10) (pos 14) (pos 10) (pos 10) (pos 14) ++ (zero ∷ zero ∷ inf true ∷ zero ∷ zero ∷ zero ∷ []))
    ∷ refused 2 ((nan ∷ zero ∷ zero ∷ zero ∷ zero ∷ zero ∷ []) ++ triangle (pos 10) (pos 10) (pos 14) (pos 10) (pos 10) (pos 14))
    -- a point, three times: at the next value above 4.0, and at −0.0, which is where 0.0 is
    ∷ far ((above_four ∷ zero ∷ above_four ∷ zero ∷ above_four ∷ zero ∷ []) ++ v) (number 5)
    ∷ refused 5 ((minus_zero ∷ zero ∷ minus_zero ∷ zero ∷ minus_zero ∷ zero ∷ []) ++ v)
    ∷ []

-- all of them
abbrev pub cases : List Case
cases = known ++ boxed
