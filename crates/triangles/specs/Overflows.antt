-- Witnesses, first part: what is refused at which stage, and what is not reached and so refuses nothing. Definitions only.
use Rattle.std.specs.Prelude.{true, false, List, [], ◌∷◌}
use Rattle.std.specs.Float.{binary64}
use Rattle.std.specs.Float.Ieee.{of_bits}
use Rattle.triangles.specs.Cases.{Case, flags, refused_with, bits}

-- case D at 2^270: the pair test on edge 1 overflows to NaN, which compares false, while the corners would be finite
abbrev overflowed_test : Case
overflowed_test = refused_with 4 (bits (0x50d0000000000000 ∷ 0x50d0000000000000 ∷ 0xd0e8000000000000 ∷ 0x50d0000000000000 ∷ 0x50d0000000000000 ∷ 0xd0e8000000000000
    ∷ 0x0000000000000000 ∷ 0x0000000000000000 ∷ 0x50f0000000000000 ∷ 0x0000000000000000 ∷ 0x0000000000000000 ∷ 0x50f0000000000000 ∷ []))

-- the same with U listed from U1, so that it is edge 0
abbrev overflowed_test_on_edge0 : Case
overflowed_test_on_edge0 = refused_with 4 (bits (0xd0e8000000000000 ∷ 0x50d0000000000000 ∷ 0x50d0000000000000 ∷ 0xd0e8000000000000 ∷ 0x50d0000000000000 ∷ 0x50d0000000000000
    ∷ 0x0000000000000000 ∷ 0x0000000000000000 ∷ 0x50f0000000000000 ∷ 0x0000000000000000 ∷ 0x0000000000000000 ∷ 0x50f0000000000000 ∷ []))

-- the same with U listed from U2, so that it is edge 2
abbrev overflowed_test_on_edge2 : Case
overflowed_test_on_edge2 = refused_with 4 (bits (0x50d0000000000000 ∷ 0xd0e8000000000000 ∷ 0x50d0000000000000 ∷ 0x50d0000000000000 ∷ 0xd0e8000000000000 ∷ 0x50d0000000000000
    ∷ 0x0000000000000000 ∷ 0x0000000000000000 ∷ 0x50f0000000000000 ∷ 0x0000000000000000 ∷ 0x0000000000000000 ∷ 0x50f0000000000000 ∷ []))

-- case B at 2^270: the same size, but one order only is admissible on each edge, so no pair test is computed
abbrev test_not_reached : Case
test_not_reached = record {
  values = bits (0x0000000000000000 ∷ 0x0000000000000000 ∷ 0x5100000000000000 ∷ 0x0000000000000000 ∷ 0x0000000000000000 ∷ 0x5100000000000000
      ∷ 0x50d0000000000000 ∷ 0x50d0000000000000 ∷ 0x50e0000000000000 ∷ 0x50d0000000000000 ∷ 0x50d0000000000000 ∷ 0x50e0000000000000 ∷ []);
  number = 0;
  n = 3;
  corners = bits (0x50d0000000000000 ∷ 0x50d0000000000000 ∷ 0x50e0000000000000 ∷ 0x50d0000000000000 ∷ 0x50d0000000000000 ∷ 0x50e0000000000000 ∷ []);
  area = of_bits binary64 0x61a0000000000000;
  in_v = flags false false false;
  in_u = flags true true true;
  neighbour = flags true true true;
  tests = 0;
}

-- a_P − a_Q overflows on edge 0, so that t = a_P / ∞ is a finite zero
abbrev hidden_denominator : Case
hidden_denominator = refused_with 4 (bits (0x0000000000000000 ∷ 0x0000000000000000 ∷ 0x6000000000000000 ∷ 0x5fd0000000000000 ∷ 0x5ff8000000000000 ∷ 0x5fd0000000000000
    ∷ 0x0000000000000000 ∷ 0x0000000000000000 ∷ 0x6000000000000000 ∷ 0x0000000000000000 ∷ 0x0000000000000000 ∷ 0x5fd0000000000000 ∷ []))

-- Q − P overflows on edge 1, whose crossings are in the ring
abbrev position_reached : Case
position_reached = refused_with 4 (bits (0x0000000000000000 ∷ 0x8180000000000000 ∷ 0x7fe0000000000000 ∷ 0x0170000000000000 ∷ 0xffe0000000000000 ∷ 0x0170000000000000
    ∷ 0x0000000000000000 ∷ 0x0000000000000000 ∷ 0x7fd0000000000000 ∷ 0x0000000000000000 ∷ 0x0000000000000000 ∷ 0x0180000000000000 ∷ []))

-- Q − P overflows on edge 1, whose crossings are not in the ring and get no position
abbrev position_not_reached : Case
position_not_reached = record {
  values = bits (0x0000000000000000 ∷ 0x8180000000000000 ∷ 0x7fe0000000000000 ∷ 0x01a4000000000000 ∷ 0xffe0000000000000 ∷ 0x01a4000000000000
      ∷ 0x0000000000000000 ∷ 0x0000000000000000 ∷ 0x7fd0000000000000 ∷ 0x0000000000000000 ∷ 0x0000000000000000 ∷ 0x0180000000000000 ∷ []);
  number = 0;
  n = 4;
  corners = bits (0x7fb5555555555554 ∷ 0x0000000000000000 ∷ 0x7fc0000000000000 ∷ 0x0170000000000000 ∷ 0x0000000000000000 ∷ 0x0180000000000000 ∷ 0x0000000000000000 ∷ 0x0000000000000000 ∷ []);
  area = of_bits binary64 0x4145555555555555;
  in_v = flags false false false;
  in_u = flags true false true;
  neighbour = flags true true true;
  tests = 2;
}

-- c_2 − c_0 overflows, all corners being finite
abbrev overflowed_area : Case
overflowed_area = refused_with 4 (bits (0x0000000000000000 ∷ 0x0198000000000000 ∷ 0x7fe4000000000000 ∷ 0x0000000000000000 ∷ 0xffe4000000000000 ∷ 0x0180000000000000
    ∷ 0x0000000000000000 ∷ 0x819c000000000000 ∷ 0x7fec000000000000 ∷ 0x0170000000000000 ∷ 0xffec000000000000 ∷ 0x0190000000000000 ∷ []))

-- a parameter of a vertex of U overflows, d and e being finite; then the same with U listed from U1, and from U2
abbrev overflowed_parameter : Case
overflowed_parameter = refused_with 4 (bits (0x5fd8000000000000 ∷ 0xdfec000000000000 ∷ 0xdff0000000000000 ∷ 0xdfd0000000000000 ∷ 0xdff0000000000000 ∷ 0xdfec000000000000
    ∷ 0x5fd8000000000000 ∷ 0xdfd8000000000000 ∷ 0x0000000000000000 ∷ 0x5fd0000000000000 ∷ 0xdfd8000000000000 ∷ 0x5fc0000000000000 ∷ []))

abbrev overflowed_parameter_from_u1 : Case
overflowed_parameter_from_u1 = refused_with 4 (bits (0xdff0000000000000 ∷ 0xdfd0000000000000 ∷ 0xdff0000000000000 ∷ 0xdfec000000000000 ∷ 0x5fd8000000000000 ∷ 0xdfec000000000000
    ∷ 0x5fd8000000000000 ∷ 0xdfd8000000000000 ∷ 0x0000000000000000 ∷ 0x5fd0000000000000 ∷ 0xdfd8000000000000 ∷ 0x5fc0000000000000 ∷ []))

abbrev overflowed_parameter_from_u2 : Case
overflowed_parameter_from_u2 = refused_with 4 (bits (0xdff0000000000000 ∷ 0xdfec000000000000 ∷ 0x5fd8000000000000 ∷ 0xdfec000000000000 ∷ 0xdff0000000000000 ∷ 0xdfd0000000000000
    ∷ 0x5fd8000000000000 ∷ 0xdfd8000000000000 ∷ 0x0000000000000000 ∷ 0x5fd0000000000000 ∷ 0xdfd8000000000000 ∷ 0x5fc0000000000000 ∷ []))

-- w of U0 overflows, where lines 0 and 1 are minus and w is not looked at
abbrev overflowed_unseen_w : Case
overflowed_unseen_w = refused_with 4 (bits (0xdfe57ae2ad22098c ∷ 0xdfd7dddf6b095ff1 ∷ 0xdfb317e5ef3ab327 ∷ 0xdfc317e5ef3ab327 ∷ 0xdfb317e5ef3ab327 ∷ 0xdfb317e5ef3ab327
    ∷ 0x0000000000000000 ∷ 0x0000000000000000 ∷ 0x5fe7dddf6b095ff1 ∷ 0x0000000000000000 ∷ 0x0000000000000000 ∷ 0x5fe7dddf6b095ff1 ∷ []))

-- e overflows, d and the parameters being finite
abbrev overflowed_e : Case
overflowed_e = refused_with 4 (bits (0xe980000000000000 ∷ 0xe980000000000000 ∷ 0x6998000000000000 ∷ 0xe980000000000000 ∷ 0xe980000000000000 ∷ 0x6998000000000000
    ∷ 0x0000000000000000 ∷ 0x0000000000000000 ∷ 0x4010000000000000 ∷ 0x0000000000000000 ∷ 0x0000000000000000 ∷ 0x4010000000000000 ∷ []))

-- V is flat and e overflows: 3 comes first
abbrev flat_v_first : Case
flat_v_first = refused_with 3 (bits (0x6570000000000000 ∷ 0x6570000000000000 ∷ 0x6580000000000000 ∷ 0x6570000000000000 ∷ 0x6570000000000000 ∷ 0x6580000000000000
    ∷ 0x0000000000000000 ∷ 0x0000000000000000 ∷ 0x3ff0000000000000 ∷ 0x3ff0000000000000 ∷ 0x4000000000000000 ∷ 0x4000000000000000 ∷ []))

-- d overflows and U is flat: 4 comes first
abbrev overflow_first : Case
overflow_first = refused_with 4 (bits (0x0000000000000000 ∷ 0x0000000000000000 ∷ 0x3ff0000000000000 ∷ 0x3ff0000000000000 ∷ 0x4000000000000000 ∷ 0x4000000000000000
    ∷ 0x0000000000000000 ∷ 0x0000000000000000 ∷ 0x6590000000000000 ∷ 0x0000000000000000 ∷ 0x0000000000000000 ∷ 0x6590000000000000 ∷ []))

-- d underflows to zero
abbrev underflowed_d : Case
underflowed_d = refused_with 3 (bits (0x3ff0000000000000 ∷ 0x3ff0000000000000 ∷ 0x4000000000000000 ∷ 0x3ff0000000000000 ∷ 0x3ff0000000000000 ∷ 0x4000000000000000
    ∷ 0x0000000000000000 ∷ 0x0000000000000000 ∷ 0x1e30000000000000 ∷ 0x0000000000000000 ∷ 0x0000000000000000 ∷ 0x1e30000000000000 ∷ []))

abbrev pub overflows : List Case
overflows =
    overflowed_test
    ∷ overflowed_test_on_edge0
    ∷ overflowed_test_on_edge2
    ∷ test_not_reached
    ∷ hidden_denominator
    ∷ position_reached
    ∷ position_not_reached
    ∷ overflowed_area
    ∷ overflowed_parameter
    ∷ overflowed_parameter_from_u1
    ∷ overflowed_parameter_from_u2
    ∷ overflowed_unseen_w
    ∷ overflowed_e
    ∷ flat_v_first
    ∷ overflow_first
    ∷ underflowed_d
    ∷ []
