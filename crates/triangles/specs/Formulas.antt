-- Witnesses, third part: formulas held against others that say the same of exact numbers and are rounded otherwise. Definitions only.
use Rattle.std.specs.Prelude.{true, false, List, [], ◌∷◌}
use Rattle.std.specs.Float.{binary64}
use Rattle.std.specs.Float.Ieee.{of_bits}
use Rattle.triangles.specs.Cases.{Case, flags, refused_with, bits}

-- V's corners are on one line but for rounding: d is zero as it is taken, from V0, and from V1 or V2 it would not be
abbrev flat_from_v0 : Case
flat_from_v0 = refused_with 3 (bits (0xc059000000000000 ∷ 0xc059000000000000 ∷ 0x4072c00000000000 ∷ 0xc059000000000000 ∷ 0xc059000000000000 ∷ 0x4072c00000000000
    ∷ 0xbfe0000000000000 ∷ 0x3fd3333333333333 ∷ 0xbff199999999999a ∷ 0xbff3333333333333 ∷ 0xbfeccccccccccccd ∷ 0xbfe6666666666666 ∷ []))

-- the other way round: from V1 or V2 the cross would be zero, and d is not. V lies in U, and the area is half of d
abbrev not_flat_from_v0 : Case
not_flat_from_v0 = record {
  values = bits (0xc059000000000000 ∷ 0xc059000000000000 ∷ 0x4072c00000000000 ∷ 0xc059000000000000 ∷ 0xc059000000000000 ∷ 0x4072c00000000000
      ∷ 0x3fe999999999999a ∷ 0xbfc999999999999a ∷ 0x3ff0000000000000 ∷ 0xbfe6666666666666 ∷ 0x3ff999999999999a ∷ 0xc00199999999999a ∷ []);
  number = 0;
  n = 3;
  corners = bits (0x3fe999999999999a ∷ 0xbfc999999999999a ∷ 0x3ff0000000000000 ∷ 0xbfe6666666666666 ∷ 0x3ff999999999999a ∷ 0xc00199999999999a ∷ []);
  area = of_bits binary64 0x3c80000000000000;
  in_v = flags false false false;
  in_u = flags true true true;
  neighbour = flags true true true;
  tests = 3;
}

-- U is V of the first of these: e is zero from U0, and not from U1 or U2
abbrev flat_from_u0 : Case
flat_from_u0 = refused_with 5 (bits (0xbfe0000000000000 ∷ 0x3fd3333333333333 ∷ 0xbff199999999999a ∷ 0xbff3333333333333 ∷ 0xbfeccccccccccccd ∷ 0xbfe6666666666666
    ∷ 0xc059000000000000 ∷ 0xc059000000000000 ∷ 0x4072c00000000000 ∷ 0xc059000000000000 ∷ 0xc059000000000000 ∷ 0x4072c00000000000 ∷ []))

-- U is V of the second: e is not zero, and would be from U1 or U2
abbrev not_flat_from_u0 : Case
not_flat_from_u0 = record {
  values = bits (0x3fe999999999999a ∷ 0xbfc999999999999a ∷ 0x3ff0000000000000 ∷ 0xbfe6666666666666 ∷ 0x3ff999999999999a ∷ 0xc00199999999999a
      ∷ 0xc059000000000000 ∷ 0xc059000000000000 ∷ 0x4072c00000000000 ∷ 0xc059000000000000 ∷ 0xc059000000000000 ∷ 0x4072c00000000000 ∷ []);
  number = 0;
  n = 3;
  corners = bits (0x3fe999999999999a ∷ 0xbfc999999999999a ∷ 0x3ff0000000000000 ∷ 0xbfe6666666666666 ∷ 0x3ff999999999999a ∷ 0xc00199999999999a ∷ []);
  area = of_bits binary64 0x3c80000000000000;
  in_v = flags true true true;
  in_u = flags false false false;
  neighbour = flags false false false;
  tests = 0;
}

-- a ring of six. Its area has other bits if its terms are added from the last to the first, or seen from another corner; and so has some corner if x, y
-- or w is a cross that is taken from another point
abbrev six_corners : Case
six_corners = record {
  values = bits (0x3feccccccccccccd ∷ 0x0000000000000000 ∷ 0xbfb999999999999a ∷ 0x3fe999999999999a ∷ 0x3fe3333333333333 ∷ 0xbfe6666666666666
      ∷ 0xbfe6666666666666 ∷ 0xbfb999999999999a ∷ 0x3fe999999999999a ∷ 0x3fd999999999999a ∷ 0x3feccccccccccccd ∷ 0xbfe6666666666666 ∷ []);
  number = 0;
  n = 6;
  corners = bits (0x3fea9a9a9a9a9a98 ∷ 0x3fac1c1c1c1c1c40 ∷ 0x3fe0909090909091 ∷ 0x3fd3939393939394 ∷ 0x3fc7627627627628 ∷ 0x3fc8dc8dc8dc8dc8 ∷ 0x3fe129e4129e412a ∷ 0xbfe2094f2094f208 ∷ 0x3fe4877baaede212 ∷ 0xbfe34c67f9b2ce5f ∷ 0x3feb1eb851eb851e ∷ 0xbfbf5c28f5c28f70 ∷ []);
  area = of_bits binary64 0x3fd5d64e1b1eea7d;
  in_v = flags false false false;
  in_u = flags false false false;
  neighbour = flags true true true;
  tests = 3;
}

-- c_1 and c_2 are one place of V's line but for rounding, and their term has the other sign: it is taken off, and not added
abbrev terms_of_both_signs : Case
terms_of_both_signs = record {
  values = bits (0x3fb999999999999a ∷ 0x3fb999999999999a ∷ 0xbfd3333333333333 ∷ 0x3fe6666666666666 ∷ 0x0000000000000000 ∷ 0xbfe47ae147ae147b
      ∷ 0xbfc999999999999a ∷ 0xbfe3333333333333 ∷ 0x3fd3333333333333 ∷ 0xbfe6666666666666 ∷ 0x3fb999999999999a ∷ 0xbfd999999999999a ∷ []);
  number = 0;
  n = 4;
  corners = bits (0xbfa149cecb785a6e ∷ 0xbfdf4eaf197d3abd ∷ 0x0000000000000000 ∷ 0xbfe47ae147ae147a ∷ 0x0000000000000000 ∷ 0xbfe47ae147ae147b ∷ 0x3f9a5c42ea33b4fa ∷ 0xbfdcc4b069710ba9 ∷ []);
  area = of_bits binary64 0x3f751ff514e03ffc;
  in_v = flags false false false;
  in_u = flags false false false;
  neighbour = flags true true false;
  tests = 6;
}

-- the area's terms are 2 and 3 of the smallest values above zero: half of their sum, rounded to even, is 2 of them, where their halves would make 3
abbrev half_of_the_sum : Case
half_of_the_sum = record {
  values = bits (0x0000000000000000 ∷ 0x1e60000000000000 ∷ 0x0000000000000000 ∷ 0x9e60000000000000 ∷ 0x1e78000000000000 ∷ 0x1e60000000000000
      ∷ 0x0000000000000000 ∷ 0x0000000000000000 ∷ 0x1e80000000000000 ∷ 0x0000000000000000 ∷ 0x0000000000000000 ∷ 0x1e80000000000000 ∷ []);
  number = 0;
  n = 4;
  corners = bits (0x0000000000000000 ∷ 0x1e60000000000000 ∷ 0x0000000000000000 ∷ 0x0000000000000000 ∷ 0x1e68000000000000 ∷ 0x0000000000000000 ∷ 0x1e78000000000000 ∷ 0x1e60000000000000 ∷ []);
  area = of_bits binary64 0x0000000000000002;
  in_v = flags true false true;
  in_u = flags false false false;
  neighbour = flags false true false;
  tests = 0;
}

-- the area's only term is −0.0, which 0.0 takes up
abbrev sum_from_zero : Case
sum_from_zero = record {
  values = bits (0x3ff0000000000000 ∷ 0x3ff0000000000000 ∷ 0x8000000000000000 ∷ 0x4000000000000000 ∷ 0x4000000000000000 ∷ 0x4000000000000000
      ∷ 0x3ff0000000000000 ∷ 0xc000000000000000 ∷ 0x8000000000000000 ∷ 0x4000000000000000 ∷ 0xc000000000000000 ∷ 0x3ff0000000000000 ∷ []);
  number = 0;
  n = 3;
  corners = bits (0x0000000000000000 ∷ 0x4000000000000000 ∷ 0x8000000000000000 ∷ 0x4000000000000000 ∷ 0x0000000000000000 ∷ 0x4000000000000000 ∷ []);
  area = of_bits binary64 0x0000000000000000;
  in_v = flags false true false;
  in_u = flags false false false;
  neighbour = flags false true false;
  tests = 0;
}

-- U0 stands on V0, and x is −0.0 there. So is t, and a corner keeps y = −0.0; of x as the cross of V2 − V0 and r, negated, it would have 0.0
abbrev x_keeps_its_zero : Case
x_keeps_its_zero = record {
  values = bits (0xc000000000000000 ∷ 0x8000000000000000 ∷ 0xc008000000000000 ∷ 0x3ff0000000000000 ∷ 0x4008000000000000 ∷ 0xc000000000000000
      ∷ 0xc000000000000000 ∷ 0x0000000000000000 ∷ 0xbff0000000000000 ∷ 0xbff0000000000000 ∷ 0xbff0000000000000 ∷ 0xc000000000000000 ∷ []);
  number = 0;
  n = 4;
  corners = bits (0xc000000000000000 ∷ 0x8000000000000000 ∷ 0xc000000000000000 ∷ 0x8000000000000000 ∷ 0xc000000000000000 ∷ 0x0000000000000000 ∷ 0xc000000000000000 ∷ 0x0000000000000000 ∷ []);
  area = of_bits binary64 0x0000000000000000;
  in_v = flags true false false;
  in_u = flags true false false;
  neighbour = flags true true false;
  tests = 2;
}

abbrev pub formulas : List Case
formulas =
    flat_from_v0
    ∷ not_flat_from_v0
    ∷ flat_from_u0
    ∷ not_flat_from_u0
    ∷ six_corners
    ∷ terms_of_both_signs
    ∷ half_of_the_sum
    ∷ sum_from_zero
    ∷ x_keeps_its_zero
    ∷ []
