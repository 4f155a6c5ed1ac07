-- 02, No. 4, worked by hand: the corners of 01's cases A to H, of case F with V turned over, which has a negative zero for its t, of a pair in which t rounds to 1, and of one that is apart by its boxes; and the numbers of what is refused. Definitions and statements.
use Rattle.std.specs.Prelude.{◌≡◌, List, [], ◌∷◌, ◌++◌, map, ℕ, ◌^◌, ℤ, pos, negsuc, get_or, Float}
use Rattle.std.specs.Float.{nan, binary64}
use Rattle.std.specs.Float.Ieee.{of_int, of_bits}
use Rattle.corners.specs.declared.Told.{Told}
use Rattle.corners.specs.Corners.{told_at}

-- values, and their ring's corners in its order; of a pair that is refused, or has no ring, the number that every place is refused with
pub record Case : Type 0 where
  pub values : List Float
  pub corners : List Told
  pub otherwise : ℕ

-- the places that are asked for: those of six corners, the next, some of which a part is cut off by 8, 16 or 32 bits, and the largest
abbrev pub places : List ℕ
places = 0 ∷ 1 ∷ 2 ∷ 3 ∷ 4 ∷ 5 ∷ 6 ∷ 0x100 ∷ 0x1_0001 ∷ 0x1_0000_0002 ∷ 0xffff_ffff_ffff_ffff ∷ []

abbrev zero : Float
zero = of_bits binary64 0

-- beside a refusal's number there are zeros, said here once more
abbrev pub refused_by : ℕ → Told
refused_by k = record { number = k; kind = 0; which = 0; edge = 0; line = 0; t = zero; x = zero; y = zero }

-- each corner is told at its place, and beyond the last the number
pub record Shown (c : Case) : Type 0 where
  pub told : map (told_at c.values) places ≡ map (λ k. get_or c.corners k (refused_by c.otherwise)) places

-- a triangle in whole numbers: `pos k` is k, `negsuc k` is −(k + 1)
abbrev triangle : ℤ → ℤ → ℤ → ℤ → ℤ → ℤ → List Float
triangle a b c d e f = map (of_int binary64) (a ∷ b ∷ c ∷ d ∷ e ∷ f ∷ [])

-- vertex i of U, corner k of V, and the crossing of edge e with line a, its t by its bits, each at whole numbers
abbrev vertex_of_u : ℕ → ℕ → ℕ → Told
vertex_of_u i x y = record { number = 0; kind = 0; which = i; edge = 0; line = 0; t = zero; x = of_int binary64 (pos x); y = of_int binary64 (pos y) }

abbrev corner_of_v : ℕ → ℕ → ℕ → Told
corner_of_v k x y = record { number = 0; kind = 1; which = k; edge = 0; line = 0; t = zero; x = of_int binary64 (pos x); y = of_int binary64 (pos y) }

abbrev crossing : ℕ → ℕ → ℕ → ℕ → ℕ → Told
crossing e a bits x y = record { number = 0; kind = 2; which = 0; edge = e; line = a; t = of_bits binary64 bits; x = of_int binary64 (pos x); y = of_int binary64 (pos y) }

-- 1/4, 1/2, 5/8, 3/4, 1, and negative zero
abbrev quarter : ℕ
quarter = 0x3fd0_0000_0000_0000

abbrev half : ℕ
half = 0x3fe0_0000_0000_0000

abbrev five_eighths : ℕ
five_eighths = 0x3fe4_0000_0000_0000

abbrev three_quarters : ℕ
three_quarters = 0x3fe8_0000_0000_0000

abbrev whole : ℕ
whole = 0x3ff0_0000_0000_0000

abbrev minus_zero : ℕ
minus_zero = 0x8000_0000_0000_0000

abbrev ring_of : List Float → List Told → Case
ring_of l cs = record { values = l; corners = cs; otherwise = 6 }

abbrev refused_with : ℕ → List Float → Case
refused_with k l = record { values = l; corners = []; otherwise = k }

-- V unless given, U of A, V of C and U of B, a triangle on one line, and U of F
abbrev standard_v : List Float
standard_v = triangle (pos 0) (pos 0) (pos 4) (pos 0) (pos 0) (pos 4)

abbrev small_u : List Float
small_u = triangle (pos 1) (pos 1) (pos 2) (pos 1) (pos 1) (pos 2)

abbrev large : List Float
large = triangle (pos 0) (pos 0) (pos 8) (pos 0) (pos 0) (pos 8)

abbrev flat : List Float
flat = triangle (pos 0) (pos 0) (pos 1) (pos 1) (pos 2) (pos 2)

abbrev below_v : List Float
below_v = triangle (pos 0) (pos 0) (pos 4) (pos 0) (pos 0) (negsuc 3)

abbrev turned_v : List Float
turned_v = triangle (pos 0) (pos 0) (pos 0) (pos 4) (pos 4) (pos 0)

abbrev three_vertices : List Told
three_vertices = vertex_of_u 0 1 1 ∷ vertex_of_u 1 2 1 ∷ vertex_of_u 2 1 2 ∷ []

-- A, B, C, D
abbrev pub inside : List Case
inside =
    ring_of (small_u ++ standard_v) three_vertices
    ∷ ring_of (large ++ small_u) (corner_of_v 0 1 1 ∷ corner_of_v 1 2 1 ∷ corner_of_v 2 1 2 ∷ [])
    ∷ ring_of (triangle (pos 6) (pos 6) (negsuc 1) (pos 6) (pos 6) (negsuc 1) ++ large)
    (crossing 0 2 half 2 6 ∷ crossing 0 0 three_quarters 0 6 ∷ crossing 1 0 three_quarters 0 4 ∷ crossing 1 1 three_quarters 4 0 ∷ crossing 2 1 three_quarters 6 0 ∷ crossing 2 2 half 6 2 ∷ [])
    ∷ ring_of (triangle (pos 1) (pos 1) (negsuc 2) (pos 1) (pos 1) (negsuc 2) ++ standard_v)
    (vertex_of_u 0 1 1 ∷ crossing 0 0 quarter 0 1 ∷ corner_of_v 0 0 0 ∷ crossing 2 1 quarter 1 0 ∷ [])
    ∷ []

-- E, F, F with V turned over, G, H
abbrev pub across : List Case
across =
    refused_with 6 (triangle (pos 10) (pos 10) (pos 11) (pos 10) (pos 10) (pos 11) ++ standard_v)
    ∷ ring_of (below_v ++ standard_v) (vertex_of_u 0 0 0 ∷ vertex_of_u 1 4 0 ∷ crossing 1 1 0 4 0 ∷ crossing 2 1 0 0 0 ∷ [])
    ∷ ring_of (below_v ++ turned_v) (vertex_of_u 0 0 0 ∷ vertex_of_u 1 4 0 ∷ crossing 1 0 minus_zero 4 0 ∷ crossing 2 0 minus_zero 0 0 ∷ [])
    ∷ ring_of (triangle (negsuc 2) (pos 5) (pos 5) (negsuc 2) (pos 9) (pos 9) ++ standard_v) (crossing 0 0 five_eighths 0 2 ∷ crossing 0 1 five_eighths 2 0 ∷ corner_of_v 1 4 0 ∷ corner_of_v 2 0 4 ∷ [])
    ∷ ring_of (small_u ++ turned_v) three_vertices
    ∷ []

-- U0 lies 2^60 away, so that on line 0 the fraction is 2^62 / 2^62, and on line 2 16 / 2^62 and 12 / 2^62; I, J, K, L, and lists of other lengths
abbrev pub odd : List Case
odd =
    ring_of (triangle (pos (2 ^ 60)) (pos 1) (negsuc 0) (pos 1) (negsuc 0) (pos 2) ++ standard_v)
    (crossing 0 2 0x3c50_0000_0000_0000 3 1 ∷ crossing 0 0 whole 0 1 ∷ crossing 2 0 whole 0 2 ∷ crossing 2 2 0x3c48_0000_0000_0000 2 2 ∷ [])
    ∷ refused_with 3 (small_u ++ flat)
    ∷ refused_with 5 (flat ++ standard_v)
    ∷ refused_with 2 (nan ∷ zero ∷ small_u ++ (zero ∷ zero ∷ zero ∷ zero ∷ []))
    ∷ refused_with 4 (small_u ++ triangle (pos 0) (pos 0) (pos (10 ^ 300)) (pos 0) (pos 0) (pos (10 ^ 300)))
    ∷ refused_with 1 []
    ∷ refused_with 1 (small_u ++ (zero ∷ standard_v))
    ∷ []

-- a pair whose boxes share no point and which has a ring by rounding (the list calls it apart); one of whose crossings' way Q − P overflows; and one whose area overflows, all corners being finite. The last two are 4 at every place
abbrev pub judged : List Case
judged =
    ring_of (triangle (pos 327628) (pos 2) (negsuc 335622) (pos 719289) (negsuc 969091) (pos 2) ++ triangle (negsuc 778993) (negsuc 314944) (negsuc 940498) (negsuc 380240) (pos 0) (pos 0))
    (record { number = 0; kind = 2; which = 0; edge = 2; line = 2; t = of_bits binary64 0x3fd0_2b80_b91c_9403; x = of_bits binary64 0x4013_c994_fbaa_0000; y = of_int binary64 (pos 2) }
    ∷ record { number = 0; kind = 2; which = 0; edge = 2; line = 0; t = of_bits binary64 0x3fe7_ea3f_a371_b5ff; x = of_bits binary64 0x4013_c994_fbac_0000; y = of_int binary64 (pos 2) }
    ∷ corner_of_v 2 0 0 ∷ [])
    ∷ refused_with 4 (map (of_bits binary64) (0x0000000000000000 ∷ 0x8180000000000000 ∷ 0x7fe0000000000000 ∷ 0x0170000000000000 ∷ 0xffe0000000000000 ∷ 0x0170000000000000
    ∷ 0x0000000000000000 ∷ 0x0000000000000000 ∷ 0x7fd0000000000000 ∷ 0x0000000000000000 ∷ 0x0000000000000000 ∷ 0x0180000000000000 ∷ []))
    ∷ refused_with 4 (map (of_bits binary64) (0x0000000000000000 ∷ 0x0198000000000000 ∷ 0x7fe4000000000000 ∷ 0x0000000000000000 ∷ 0xffe4000000000000 ∷ 0x0180000000000000
    ∷ 0x0000000000000000 ∷ 0x819c000000000000 ∷ 0x7fec000000000000 ∷ 0x0170000000000000 ∷ 0xffec000000000000 ∷ 0x0190000000000000 ∷ []))
    ∷ []

abbrev pub cases : List Case
cases = inside ++ (across ++ (odd ++ judged))
