-- Witnesses, second part: how a tie is decided, how w and a position are reckoned, and what keeps its bits. Definitions only.
use Rattle.std.specs.Prelude.{true, false, List, [], ◌∷◌}
use Rattle.std.specs.Float.{binary64}
use Rattle.std.specs.Float.Ieee.{of_bits}
use Rattle.triangles.specs.Cases.{Case, flags, bits}

-- w is (d − x) − y: taken as d − (x + y), U0 would be in V
abbrev w_not_from_the_sum : Case
w_not_from_the_sum = record {
  values = bits (0x4008cccccccccccd ∷ 0x3feccccccccccccd ∷ 0xc018000000000000 ∷ 0x4022000000000000 ∷ 0x4000000000000000 ∷ 0x3ff0000000000000
      ∷ 0x0000000000000000 ∷ 0x0000000000000000 ∷ 0x4010000000000000 ∷ 0x0000000000000000 ∷ 0x0000000000000000 ∷ 0x4010000000000000 ∷ []);
  number = 0;
  n = 5;
  corners = bits (0x4008cccccccccccc ∷ 0x3fecccccccccccd0 ∷ 0x0000000000000000 ∷ 0x400d465465465465 ∷ 0x0000000000000000 ∷ 0x4008000000000000 ∷ 0x4000000000000000 ∷ 0x3ff0000000000000 ∷ 0x4008cccccccccccd ∷ 0x3feccccccccccccd ∷ []);
  area = of_bits binary64 0x40002d02d02d02d0;
  in_v = flags false false true;
  in_u = flags false false false;
  neighbour = flags true false true;
  tests = 1;
}

-- .. and taken as (d − y) − x, U0 here would not be in V
abbrev w_from_x_first : Case
w_from_x_first = record {
  values = bits (0x3fd3333333333333 ∷ 0x400d99999999999a ∷ 0xc018000000000000 ∷ 0x4022000000000000 ∷ 0x4000000000000000 ∷ 0x3ff0000000000000
      ∷ 0x0000000000000000 ∷ 0x0000000000000000 ∷ 0x4010000000000000 ∷ 0x0000000000000000 ∷ 0x0000000000000000 ∷ 0x4010000000000000 ∷ []);
  number = 0;
  n = 4;
  corners = bits (0x3fd3333333333333 ∷ 0x400d99999999999a ∷ 0x0000000000000000 ∷ 0x400f9e79e79e79e8 ∷ 0x0000000000000000 ∷ 0x4008000000000000 ∷ 0x4000000000000000 ∷ 0x3ff0000000000000 ∷ []);
  area = of_bits binary64 0x3ff2492492492492;
  in_v = flags true false true;
  in_u = flags false false false;
  neighbour = flags true false false;
  tests = 0;
}

-- case F with U0 at negative zeros, which are copied as they are
abbrev negative_zeros_copied : Case
negative_zeros_copied = record {
  values = bits (0x8000000000000000 ∷ 0x8000000000000000 ∷ 0x4010000000000000 ∷ 0x0000000000000000 ∷ 0x0000000000000000 ∷ 0xc010000000000000
      ∷ 0x0000000000000000 ∷ 0x0000000000000000 ∷ 0x4010000000000000 ∷ 0x0000000000000000 ∷ 0x0000000000000000 ∷ 0x4010000000000000 ∷ []);
  number = 0;
  n = 4;
  corners = bits (0x8000000000000000 ∷ 0x8000000000000000 ∷ 0x4010000000000000 ∷ 0x0000000000000000 ∷ 0x4010000000000000 ∷ 0x0000000000000000 ∷ 0x0000000000000000 ∷ 0x8000000000000000 ∷ []);
  area = of_bits binary64 0x0000000000000000;
  in_v = flags true true false;
  in_u = flags false false false;
  neighbour = flags false true false;
  tests = 0;
}

-- x of U0 is −0.0, and plus
abbrev negative_zero_plus : Case
negative_zero_plus = record {
  values = bits (0x8000000000000000 ∷ 0x3ff0000000000000 ∷ 0xbff0000000000000 ∷ 0x3ff0000000000000 ∷ 0xbff0000000000000 ∷ 0x4000000000000000
      ∷ 0x0000000000000000 ∷ 0x0000000000000000 ∷ 0x4010000000000000 ∷ 0x0000000000000000 ∷ 0x0000000000000000 ∷ 0x4010000000000000 ∷ []);
  number = 0;
  n = 3;
  corners = bits (0x8000000000000000 ∷ 0x3ff0000000000000 ∷ 0x0000000000000000 ∷ 0x3ff0000000000000 ∷ 0x0000000000000000 ∷ 0x3ff0000000000000 ∷ []);
  area = of_bits binary64 0x0000000000000000;
  in_v = flags true false false;
  in_u = flags false false false;
  neighbour = flags true false false;
  tests = 0;
}

-- V listed the other way round: y of U0 is 0.0, negated to −0.0
abbrev negated_zero : Case
negated_zero = record {
  values = bits (0x8000000000000000 ∷ 0x3ff0000000000000 ∷ 0xbff0000000000000 ∷ 0x3ff0000000000000 ∷ 0xbff0000000000000 ∷ 0x4000000000000000
      ∷ 0x0000000000000000 ∷ 0x0000000000000000 ∷ 0x0000000000000000 ∷ 0x4010000000000000 ∷ 0x4010000000000000 ∷ 0x0000000000000000 ∷ []);
  number = 0;
  n = 3;
  corners = bits (0x8000000000000000 ∷ 0x3ff0000000000000 ∷ 0x0000000000000000 ∷ 0x3ff0000000000000 ∷ 0x0000000000000000 ∷ 0x3ff0000000000000 ∷ []);
  area = of_bits binary64 0x0000000000000000;
  in_v = flags true false false;
  in_u = flags false false false;
  neighbour = flags false true false;
  tests = 0;
}

-- edge 0 has x = −0.0 at both ends, and its crossing x = −0.0 + t·0.0, which is 0.0
abbrev upright_at_negative_zero : Case
upright_at_negative_zero = record {
  values = bits (0x8000000000000000 ∷ 0x3ff0000000000000 ∷ 0x8000000000000000 ∷ 0xbff0000000000000 ∷ 0x4008000000000000 ∷ 0x3ff0000000000000
      ∷ 0x0000000000000000 ∷ 0x0000000000000000 ∷ 0x4010000000000000 ∷ 0x0000000000000000 ∷ 0x0000000000000000 ∷ 0x4010000000000000 ∷ []);
  number = 0;
  n = 4;
  corners = bits (0x8000000000000000 ∷ 0x3ff0000000000000 ∷ 0x0000000000000000 ∷ 0x0000000000000000 ∷ 0x3ff8000000000000 ∷ 0x0000000000000000 ∷ 0x4008000000000000 ∷ 0x3ff0000000000000 ∷ []);
  area = of_bits binary64 0x4002000000000000;
  in_v = flags true false true;
  in_u = flags false false false;
  neighbour = flags false true false;
  tests = 0;
}

-- edge 0 has y = −0.0 at both ends, and its crossing y = 0.0
abbrev level_at_negative_zero : Case
level_at_negative_zero = record {
  values = bits (0x3ff0000000000000 ∷ 0x8000000000000000 ∷ 0xbff0000000000000 ∷ 0x8000000000000000 ∷ 0x3ff0000000000000 ∷ 0x4008000000000000
      ∷ 0x0000000000000000 ∷ 0x0000000000000000 ∷ 0x4010000000000000 ∷ 0x0000000000000000 ∷ 0x0000000000000000 ∷ 0x4010000000000000 ∷ []);
  number = 0;
  n = 4;
  corners = bits (0x3ff0000000000000 ∷ 0x8000000000000000 ∷ 0x0000000000000000 ∷ 0x0000000000000000 ∷ 0x0000000000000000 ∷ 0x3ff8000000000000 ∷ 0x3ff0000000000000 ∷ 0x4008000000000000 ∷ []);
  area = of_bits binary64 0x4002000000000000;
  in_v = flags true false true;
  in_u = flags false false false;
  neighbour = flags true false false;
  tests = 0;
}

-- edges 0 and 2 cross all three lines: edge 0 is decided from U1, its far end, by one test, edge 2 from U2, its start and higher vertex, by three
abbrev three_on_an_edge : Case
three_on_an_edge = record {
  values = bits (0xc010000000000000 ∷ 0xc014000000000000 ∷ 0x0000000000000000 ∷ 0x4022000000000000 ∷ 0x401c000000000000 ∷ 0x4010000000000000
      ∷ 0x0000000000000000 ∷ 0x0000000000000000 ∷ 0x4010000000000000 ∷ 0x0000000000000000 ∷ 0x0000000000000000 ∷ 0x4010000000000000 ∷ []);
  number = 0;
  n = 4;
  corners = bits (0x4009333333333334 ∷ 0x3feb333333333338 ∷ 0x4000e38e38e38e3a ∷ 0x0000000000000000 ∷ 0x0000000000000000 ∷ 0x0000000000000000 ∷ 0x0000000000000000 ∷ 0x4010000000000000 ∷ []);
  area = of_bits binary64 0x401cc9f49f49f4a1;
  in_v = flags false false false;
  in_u = flags true false true;
  neighbour = flags true true true;
  tests = 4;
}

-- a tie on edge 1, whose lower vertex has two signs on the lines: line 0 is met first, the stretch between is −−+, and there is no ring
abbrev tie : Case
tie = record {
  values = bits (0xbff0000000000000 ∷ 0xbff0000000000000 ∷ 0x3ff0000000000000 ∷ 0xbff0000000000000 ∷ 0xbff0000000000000 ∷ 0x3ff0000000000000
      ∷ 0x0000000000000000 ∷ 0x0000000000000000 ∷ 0x4010000000000000 ∷ 0x0000000000000000 ∷ 0x0000000000000000 ∷ 0x4010000000000000 ∷ []);
  number = 0;
  n = 0;
  corners = [];
  area = of_bits binary64 0x0000000000000000;
  in_v = flags false false false;
  in_u = flags false false false;
  neighbour = flags false false false;
  tests = 1;
}

-- the same with U1 and U2 exchanged: line 0 is again met first, now from the other end, so that the stretch between is +++
abbrev tie_exchanged : Case
tie_exchanged = record {
  values = bits (0xbff0000000000000 ∷ 0xbff0000000000000 ∷ 0xbff0000000000000 ∷ 0x3ff0000000000000 ∷ 0x3ff0000000000000 ∷ 0xbff0000000000000
      ∷ 0x0000000000000000 ∷ 0x0000000000000000 ∷ 0x4010000000000000 ∷ 0x0000000000000000 ∷ 0x0000000000000000 ∷ 0x4010000000000000 ∷ []);
  number = 0;
  n = 3;
  corners = bits (0x0000000000000000 ∷ 0x0000000000000000 ∷ 0x0000000000000000 ∷ 0x0000000000000000 ∷ 0x0000000000000000 ∷ 0x0000000000000000 ∷ []);
  area = of_bits binary64 0x0000000000000000;
  in_v = flags false false false;
  in_u = flags true false false;
  neighbour = flags true true false;
  tests = 1;
}

-- a tie on edge 0, whose lower vertex is minus on both lines
abbrev tie_same_sign : Case
tie_same_sign = record {
  values = bits (0xbff0000000000000 ∷ 0xbff0000000000000 ∷ 0x3ff0000000000000 ∷ 0x3ff0000000000000 ∷ 0xc000000000000000 ∷ 0x4008000000000000
      ∷ 0x0000000000000000 ∷ 0x0000000000000000 ∷ 0x4010000000000000 ∷ 0x0000000000000000 ∷ 0x0000000000000000 ∷ 0x4010000000000000 ∷ []);
  number = 0;
  n = 4;
  corners = bits (0x0000000000000000 ∷ 0x0000000000000000 ∷ 0x3ff0000000000000 ∷ 0x3ff0000000000000 ∷ 0x0000000000000000 ∷ 0x3ffaaaaaaaaaaaaa ∷ 0x0000000000000000 ∷ 0x0000000000000000 ∷ []);
  area = of_bits binary64 0x3feaaaaaaaaaaaaa;
  in_v = flags false true false;
  in_u = flags true false false;
  neighbour = flags true true false;
  tests = 1;
}

abbrev pub ties_and_zeros : List Case
ties_and_zeros =
    w_not_from_the_sum
    ∷ w_from_x_first
    ∷ negative_zeros_copied
    ∷ negative_zero_plus
    ∷ negated_zero
    ∷ upright_at_negative_zero
    ∷ level_at_negative_zero
    ∷ three_on_an_edge
    ∷ tie
    ∷ tie_exchanged
    ∷ tie_same_sign
    ∷ []
