-- 01, "Worked by hand": the twelve cases, K in all twelve places, each with a good and with a flat V, and what is to be shown of each.
-- The flags are worked out by hand in docs/RULES.md. Definitions and statements only.
use Rattle.std.specs.Prelude.{◌≡◌, Bool, true, false, List, [], ◌∷◌, ◌++◌, map, ℕ, ◌*◌, ◌^◌, ℤ, pos, negsuc, length, drop, replicate, set, Float}
use Rattle.std.specs.Float.{nan, binary64}
use Rattle.std.specs.Float.Ieee.{of_int, of_bits}
use Rattle.lines.specs.Lines.{up_from}
use Rattle.triangles.specs.Positions.{half}
use Rattle.triangles.specs.Answers.{whole_of, no_flags}

-- a whole number as f64: `pos k` is k, `negsuc k` is −(k + 1)
abbrev pub float_of : ℤ → Float
float_of = of_int binary64

-- values by their bit patterns
abbrev pub bits : List ℕ → List Float
bits = map (of_bits binary64)

pub record Case : Type 0 where
  -- twelve values, U first
  pub values : List Float
  pub number : ℕ
  pub n : ℕ
  -- the ring's 2n values, and the area
  pub corners : List Float
  pub area : Float
  -- U0, U1, U2 in V; V0, V1, V2 in U; the neighbour flags of V's edges 0, 1, 2
  pub in_v : List Bool
  pub in_u : List Bool
  pub neighbour : List Bool
  -- how many pair tests are computed
  pub tests : ℕ

abbrev triangle : ℤ → ℤ → ℤ → ℤ → ℤ → ℤ → List Float
triangle a b c d e f = map float_of (a ∷ b ∷ c ∷ d ∷ e ∷ f ∷ [])

abbrev pub flags : Bool → Bool → Bool → List Bool
flags a b c = a ∷ b ∷ c ∷ []

-- a refused case: its number, and zeros
abbrev pub refused_with : ℕ → List Float → Case
refused_with k l = record { values = l; number = k; n = 0; corners = []; area = float_of (pos 0); in_v = no_flags; in_u = no_flags; neighbour = no_flags; tests = 0 }

-- V unless given, U of A, and a triangle on one line
abbrev standard_v : List Float
standard_v = triangle (pos 0) (pos 0) (pos 4) (pos 0) (pos 0) (pos 4)

abbrev small_u : List Float
small_u = triangle (pos 1) (pos 1) (pos 2) (pos 1) (pos 1) (pos 2)

abbrev flat : List Float
flat = triangle (pos 0) (pos 0) (pos 1) (pos 1) (pos 2) (pos 2)

-- V of C, and U of B
abbrev large : List Float
large = triangle (pos 0) (pos 0) (pos 8) (pos 0) (pos 0) (pos 8)

-- A and H: U of A lies in V
abbrev lying_in : List Float → Case
lying_in v = record {
  values = small_u ++ v;
  number = 0;
  n = 3;
  corners = small_u;
  area = half;
  in_v = flags true true true;
  in_u = no_flags;
  neighbour = no_flags;
  tests = 0;
}

abbrev case_b : Case
case_b = record {
  values = large ++ small_u;
  number = 0;
  n = 3;
  corners = small_u;
  area = half;
  in_v = no_flags;
  in_u = flags true true true;
  neighbour = flags true true true;
  tests = 0;
}

abbrev case_c : Case
case_c = record {
  values = triangle (pos 6) (pos 6) (negsuc 1) (pos 6) (pos 6) (negsuc 1) ++ large;
  number = 0;
  n = 6;
  corners = map float_of (pos 2 ∷ pos 6 ∷ pos 0 ∷ pos 6 ∷ pos 0 ∷ pos 4 ∷ pos 4 ∷ pos 0 ∷ pos 6 ∷ pos 0 ∷ pos 6 ∷ pos 2 ∷ []);
  area = float_of (pos 20);
  in_v = no_flags;
  in_u = no_flags;
  neighbour = flags true true true;
  tests = 3;
}

abbrev case_d : Case
case_d = record {
  values = triangle (pos 1) (pos 1) (negsuc 2) (pos 1) (pos 1) (negsuc 2) ++ standard_v;
  number = 0;
  n = 4;
  corners = map float_of (pos 1 ∷ pos 1 ∷ pos 0 ∷ pos 1 ∷ pos 0 ∷ pos 0 ∷ pos 1 ∷ pos 0 ∷ []);
  area = float_of (pos 1);
  in_v = flags true false false;
  in_u = flags true false false;
  neighbour = flags true true false;
  tests = 1;
}

abbrev case_e : Case
case_e = record {
  values = triangle (pos 10) (pos 10) (pos 11) (pos 10) (pos 10) (pos 11) ++ standard_v;
  number = 0;
  n = 0;
  corners = [];
  area = float_of (pos 0);
  in_v = no_flags;
  in_u = no_flags;
  neighbour = no_flags;
  tests = 0;
}

abbrev case_f : Case
case_f = record {
  values = triangle (pos 0) (pos 0) (pos 4) (pos 0) (pos 0) (negsuc 3) ++ standard_v;
  number = 0;
  n = 4;
  corners = map float_of (pos 0 ∷ pos 0 ∷ pos 4 ∷ pos 0 ∷ pos 4 ∷ pos 0 ∷ pos 0 ∷ pos 0 ∷ []);
  area = float_of (pos 0);
  in_v = flags true true false;
  in_u = no_flags;
  neighbour = flags false true false;
  tests = 0;
}

abbrev case_g : Case
case_g = record {
  values = triangle (negsuc 2) (pos 5) (pos 5) (negsuc 2) (pos 9) (pos 9) ++ standard_v;
  number = 0;
  n = 4;
  corners = map float_of (pos 0 ∷ pos 2 ∷ pos 2 ∷ pos 0 ∷ pos 4 ∷ pos 0 ∷ pos 0 ∷ pos 4 ∷ []);
  area = float_of (pos 6);
  in_v = no_flags;
  in_u = flags false true true;
  neighbour = flags true true true;
  tests = 3;
}

abbrev case_i : Case
case_i = refused_with 3 (small_u ++ flat)

abbrev case_j : Case
case_j = refused_with 5 (flat ++ standard_v)

abbrev case_l : Case
case_l = refused_with 4 (small_u ++ triangle (pos 0) (pos 0) (pos (10 ^ 300)) (pos 0) (pos 0) (pos (10 ^ 300)))

-- K: NaN in place k
abbrev cases_k : List Float → List Case
cases_k l = map (λ k. refused_with 2 (set l k nan)) (up_from 0 12)

abbrev pub cases : List Case
unfolding up_from
cases =
    lying_in standard_v ∷ case_b ∷ case_c ∷ case_d ∷ case_e ∷ case_f ∷ case_g ∷ lying_in (triangle (pos 0) (pos 0) (pos 0) (pos 4) (pos 4) (pos 0))
    ∷ case_i ∷ case_j ∷ case_l
    ∷ cases_k (small_u ++ standard_v) ++ cases_k (small_u ++ flat)

-- the room that is lent: more than enough, and told from any corner
abbrev pub lent : List Float
lent = replicate 14 (float_of (pos 77))

-- number, n, corners and area bit for bit, all nine flags, and how many pair tests are computed; the room beyond the corners is as before
pub record Shown (c : Case) : Type 0 where
  pub number : (whole_of c.values lent).answer.number ≡ c.number
  pub n : (whole_of c.values lent).answer.n ≡ c.n
  pub area : (whole_of c.values lent).answer.area ≡ c.area
  pub in_v : (whole_of c.values lent).answer.u_in_v ≡ c.in_v
  pub in_u : (whole_of c.values lent).answer.v_in_u ≡ c.in_u
  pub neighbour : (whole_of c.values lent).answer.neighbour ≡ c.neighbour
  pub room : (whole_of c.values lent).room ≡ c.corners ++ drop (2 * c.n) lent
  pub tests : length (whole_of c.values lent).tests ≡ c.tests
