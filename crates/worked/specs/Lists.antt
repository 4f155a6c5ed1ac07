-- Lists worked by hand: 01's example with 02's closing lines, rooms around its length, files in which a wrong order, a wrong count, a wrong set or U for V would show, files of recordings that share an edge, a part of one, or a corner, files of far pairs, old files, and files of edition 2. Definitions and statements.
use Rattle.std.specs.Prelude.{ℕ, ◌+◌, ◌-◌, ◌≡◌, List, [], ◌∷◌, ◌++◌, replicate}
use Rattle.layout.specs.Worked.{small, six, v, u, seven, nine, changed, trailer, pair_of, example}
use Rattle.listing.specs.Listing.{list_of, output_of}

-- a file and a room of so many points; number, place, length, leaks, touching, tested and formerly held back of the result, the room's front afterwards, behind which `points` points are left; what the program writes
pub record Case : Type 0 where
  pub file : List ℕ
  pub room : ℕ
  pub number : ℕ
  pub place : ℕ
  pub length : ℕ
  pub leaks : ℕ
  pub touching : ℕ
  pub tested : ℕ
  pub formerly : ℕ
  pub front : List ℕ
  pub points : ℕ
  pub output : List ℕ

abbrev pub points_of : ℕ → List ℕ
points_of n = replicate n 46

pub record Shown (c : Case) : Type 0 where
  pub number : (list_of c.file (points_of c.room)).result.number ≡ c.number
  pub place : (list_of c.file (points_of c.room)).result.place ≡ c.place
  pub length : (list_of c.file (points_of c.room)).result.length ≡ c.length
  pub leaks : (list_of c.file (points_of c.room)).result.leaks ≡ c.leaks
  pub touching : (list_of c.file (points_of c.room)).result.touching ≡ c.touching
  pub tested : (list_of c.file (points_of c.room)).result.tested ≡ c.tested
  pub formerly : (list_of c.file (points_of c.room)).result.formerly_held_back ≡ c.formerly
  pub room : (list_of c.file (points_of c.room)).room ≡ c.front ++ points_of c.points
  pub output : output_of c.file ≡ c.output

-- ---- texts, byte by byte: `leaks 1` and `test 9 train 7 pairs 1` with other digits in their places
abbrev pub first : ℕ → List ℕ
first k = 108 ∷ 101 ∷ 97 ∷ 107 ∷ 115 ∷ 32 ∷ (48 + k) ∷ 10 ∷ []

abbrev pub line_with : List ℕ → List ℕ → List ℕ → List ℕ
line_with t r n = 116 ∷ 101 ∷ 115 ∷ 116 ∷ 32 ∷ (t ++ (32 ∷ 116 ∷ 114 ∷ 97 ∷ 105 ∷ 110 ∷ 32 ∷ (r ++ (32 ∷ 112 ∷ 97 ∷ 105 ∷ 114 ∷ 115 ∷ 32 ∷ (n ++ (10 ∷ []))))))

abbrev pub line : ℕ → ℕ → ℕ → List ℕ
line t r n = line_with ((48 + t) ∷ []) ((48 + r) ∷ []) ((48 + n) ∷ [])

-- `touching 0` with other digits in its place
abbrev pub last_with : List ℕ → List ℕ
last_with t = 116 ∷ 111 ∷ 117 ∷ 99 ∷ 104 ∷ 105 ∷ 110 ∷ 103 ∷ 32 ∷ (t ++ (10 ∷ []))

abbrev pub last : ℕ → List ℕ
last t = last_with ((48 + t) ∷ [])

-- `formerly held back 0` with other digits in its place
abbrev pub old_with : List ℕ → List ℕ
old_with k = 102 ∷ 111 ∷ 114 ∷ 109 ∷ 101 ∷ 114 ∷ 108 ∷ 121 ∷ 32 ∷ 104 ∷ 101 ∷ 108 ∷ 100 ∷ 32 ∷ 98 ∷ 97 ∷ 99 ∷ 107 ∷ 32 ∷ (k ++ (10 ∷ []))

abbrev pub old : ℕ → List ℕ
old k = old_with ((48 + k) ∷ [])

-- the two closing lines
abbrev pub ends : ℕ → ℕ → List ℕ
ends t k = last t ++ old k

-- `refused 13 at 72`
abbrev pub refused13at72 : List ℕ
refused13at72 = 114 ∷ 101 ∷ 102 ∷ 117 ∷ 115 ∷ 101 ∷ 100 ∷ 32 ∷ 49 ∷ 51 ∷ 32 ∷ 97 ∷ 116 ∷ 32 ∷ 55 ∷ 50 ∷ 10 ∷ []

-- `refused 11 at 0`, and `leaks 10`
abbrev pub refused11at0 : List ℕ
refused11at0 = 114 ∷ 101 ∷ 102 ∷ 117 ∷ 115 ∷ 101 ∷ 100 ∷ 32 ∷ 49 ∷ 49 ∷ 32 ∷ 97 ∷ 116 ∷ 32 ∷ 48 ∷ 10 ∷ []

abbrev pub first_ten : List ℕ
first_ten = 108 ∷ 101 ∷ 97 ∷ 107 ∷ 115 ∷ 32 ∷ 49 ∷ 48 ∷ 10 ∷ []

-- ---- files
-- U of cases E and F; and a U that has no ring with V of case D, though V taken as U has one with it, at its corner and without an area
abbrev pub u_e : List ℕ
u_e = six (small 10) (small 10) (small 11) (small 10) (small 10) (small 11)

abbrev pub u_f : List ℕ
u_f = six (small 0) (small 0) (small 4) (small 0) (small 0) (252 ∷ 255 ∷ 255 ∷ 255 ∷ [])

abbrev pub minus_one : List ℕ
minus_one = 255 ∷ 255 ∷ 255 ∷ 255 ∷ []

abbrev pub u_one_way : List ℕ
u_one_way = six minus_one minus_one (small 1) minus_one minus_one (small 1)

-- in this order: test 9 with U of D and of E, training 7 with V, 5 of set 2 with V, training 3 with V twice, test 4 with U of F; and the same with another set for 5
abbrev pub mixed_with : ℕ → List ℕ
mixed_with set =
    u ++ (u_e ++ (v ++ (v ++ (v ++ (v ++ (u_f
    ++ (changed 9 0 2 0 1 0 ++ (changed 7 48 1 0 0 0 ++ (changed 5 72 1 0 set 0 ++ (changed 3 96 2 0 0 0 ++ (changed 4 144 1 0 1 0
    ++ trailer 168 5 240)))))))))))

abbrev pub mixed : List ℕ
mixed = mixed_with 2

abbrev pub one_way : List ℕ
one_way = pair_of v u_one_way seven nine

abbrev pub other_way : List ℕ
other_way = pair_of u_one_way v seven nine

-- (1,0),(3,0),(2,−4), with a part of V's edge from (0,0) to (4,0); and (4,0),(8,0),(8,4), with V's corner (4,0) alone
abbrev pub u_part : List ℕ
u_part = six (small 1) (small 0) (small 3) (small 0) (small 2) (252 ∷ 255 ∷ 255 ∷ 255 ∷ [])

abbrev pub u_corner : List ℕ
u_corner = six (small 4) (small 0) (small 8) (small 0) (small 8) (small 4)

-- U of F and of D with V: one pair touches, and one overlaps; in either order
abbrev pub both_kinds : List ℕ → List ℕ → List ℕ
both_kinds one other = one ++ (other ++ (v ++ (changed 9 0 2 0 1 0 ++ (changed 7 48 1 0 0 0 ++ trailer 72 2 108))))

-- U (458,−958),(−13747,−4524),(−1189,−975) and V (−6479,−2470),(−805,−156),(−12827,−4264): V's edge from V2 to V0 lies on U's from U1 to U2, with U0 on one side and V1 on the other, so that in exact numbers they share that edge and no more; rounded, the ring has an area
abbrev pub u_rounded : List ℕ
u_rounded = six (202 ∷ 1 ∷ 0 ∷ 0 ∷ []) (66 ∷ 252 ∷ 255 ∷ 255 ∷ []) (77 ∷ 202 ∷ 255 ∷ 255 ∷ []) (84 ∷ 238 ∷ 255 ∷ 255 ∷ []) (91 ∷ 251 ∷ 255 ∷ 255 ∷ []) (49 ∷ 252 ∷ 255 ∷ 255 ∷ [])

abbrev pub v_rounded : List ℕ
v_rounded = six (177 ∷ 230 ∷ 255 ∷ 255 ∷ []) (90 ∷ 246 ∷ 255 ∷ 255 ∷ []) (219 ∷ 252 ∷ 255 ∷ 255 ∷ []) (100 ∷ 255 ∷ 255 ∷ 255 ∷ []) (229 ∷ 205 ∷ 255 ∷ 255 ∷ []) (88 ∷ 239 ∷ 255 ∷ 255 ∷ [])

-- (0,−1),(−1,0),(0,3) and (4,1),(2,−1),(0,1): V's corner (0,1) lies on U's edge from (0,3) to (0,−1), a tie, and there is no ring
abbrev pub u_tied : List ℕ
u_tied = six (small 0) minus_one minus_one (small 0) (small 0) (small 3)

abbrev pub v_tied : List ℕ
v_tied = six (small 4) (small 1) (small 2) minus_one (small 0) (small 1)

-- (6,0),(4,1),(4,−1): its edge from (4,1) to (4,−1) goes through V's corner (4,0), a tie. y, the lower line, is met first from (4,1), and then all of the edge is outside V; from (4,−1) it would be met at the corner
abbrev pub u_turned : List ℕ
u_turned = six (small 6) (small 0) (small 4) (small 1) (small 4) minus_one

-- (1,1),(1,−3),(5,−1), with U of D's edge from (1,1) to (1,−3)
abbrev pub v_beside : List ℕ
v_beside = six (small 1) (small 1) (small 1) (253 ∷ 255 ∷ 255 ∷ 255 ∷ []) (small 5) minus_one

-- test 9 with U of D, training 7 with V, trainings 3 and 5 with the triangle beside U
abbrev pub one_and_two : List ℕ
one_and_two = u ++ (v ++ (v_beside ++ (v_beside ++ (changed 9 0 1 0 1 0 ++ (changed 7 24 1 0 0 0 ++ (changed 3 48 1 0 0 0 ++ (changed 5 72 1 0 0 0 ++ trailer 96 4 156)))))))

-- (20,20),(21,20),(20,21), far from all others
abbrev pub v_far : List ℕ
v_far = six (small 20) (small 20) (small 21) (small 20) (small 20) (small 21)

-- test 9 with U of E and of D, training 7 with a far V and with V, test 4 with the turned U: only the second with the second overlaps
abbrev pub seconds : List ℕ
seconds = u_e ++ (u ++ (v_far ++ (v ++ (u_turned ++ (changed 9 0 2 0 1 0 ++ (changed 7 48 2 0 0 0 ++ (changed 4 96 1 0 1 0 ++ trailer 120 3 168)))))))

-- U (327628,2),(−335623,719289),(−969092,2) and V (−778994,−314945),(−940499,−380241),(0,0): every y of V is below every y of U, and rounding gives them a ring and an area beyond V's tip
abbrev pub u_beyond : List ℕ
u_beyond = six (204 ∷ 255 ∷ 4 ∷ 0 ∷ []) (2 ∷ 0 ∷ 0 ∷ 0 ∷ []) (249 ∷ 224 ∷ 250 ∷ 255 ∷ []) (185 ∷ 249 ∷ 10 ∷ 0 ∷ []) (124 ∷ 54 ∷ 241 ∷ 255 ∷ []) (2 ∷ 0 ∷ 0 ∷ 0 ∷ [])

abbrev pub v_beyond : List ℕ
v_beyond = six (14 ∷ 29 ∷ 244 ∷ 255 ∷ []) (191 ∷ 49 ∷ 251 ∷ 255 ∷ []) (45 ∷ 166 ∷ 241 ∷ 255 ∷ []) (175 ∷ 50 ∷ 250 ∷ 255 ∷ []) (0 ∷ 0 ∷ 0 ∷ 0 ∷ []) (0 ∷ 0 ∷ 0 ∷ 0 ∷ [])

-- U (4,591250),(1,−164391),(500204,−582337) and V (0,0),(−933757,−541494),(−973496,−564539): every x of V is below every x of U, and rounding gives them a ring without an area
abbrev pub u_beside : List ℕ
u_beside = six (4 ∷ 0 ∷ 0 ∷ 0 ∷ []) (146 ∷ 5 ∷ 9 ∷ 0 ∷ []) (1 ∷ 0 ∷ 0 ∷ 0 ∷ []) (217 ∷ 125 ∷ 253 ∷ 255 ∷ []) (236 ∷ 161 ∷ 7 ∷ 0 ∷ []) (63 ∷ 29 ∷ 247 ∷ 255 ∷ [])

abbrev pub v_needle : List ℕ
v_needle = six (0 ∷ 0 ∷ 0 ∷ 0 ∷ []) (0 ∷ 0 ∷ 0 ∷ 0 ∷ []) (131 ∷ 192 ∷ 241 ∷ 255 ∷ []) (202 ∷ 188 ∷ 247 ∷ 255 ∷ []) (72 ∷ 37 ∷ 241 ∷ 255 ∷ []) (197 ∷ 98 ∷ 247 ∷ 255 ∷ [])

-- (4,4),(8,4),(8,8), whose box has the corner (4,4) with V's, and (5,0),(9,0),(9,4), whose box is a centimetre from it
abbrev pub u_at_corner : List ℕ
u_at_corner = six (small 4) (small 4) (small 8) (small 4) (small 8) (small 8)

abbrev pub u_aside : List ℕ
u_aside = six (small 5) (small 0) (small 9) (small 0) (small 9) (small 4)

-- test 9 with (5,0),(9,0),(9,4) and (4,4),(8,4),(8,8), training 7 with V and a far V, 5 of set 2 with V, test 4 with U of D, training 3 with V: near are the second of 9 with each V, and U of D with each
abbrev pub near_and_far : List ℕ
near_and_far =
    u_aside ++ (u_at_corner ++ (v ++ (v_far ++ (v ++ (u ++ (v
    ++ (changed 9 0 2 0 1 0 ++ (changed 7 48 2 0 0 0 ++ (changed 5 96 1 0 2 0 ++ (changed 4 120 1 0 1 0 ++ (changed 3 144 1 0 0 0
    ++ trailer 168 5 240)))))))))))

-- tests 1 and 2 with one U each, and trainings 3 to 7 with V of D each: 264 bytes
abbrev pub ten : List ℕ → List ℕ
ten t =
    t ++ (t ++ (v ++ (v ++ (v ++ (v ++ (v
    ++ (changed 1 0 1 0 1 0 ++ (changed 2 24 1 0 1 0 ++ (changed 3 48 1 0 0 0 ++ (changed 4 72 1 0 0 0 ++ (changed 5 96 1 0 0 0 ++ (changed 6 120 1 0 0 0 ++ (changed 7 144 1 0 0 0
    ++ (small 168 ++ (small 7 ++ (8 ∷ 1 ∷ 0 ∷ 0 ∷ []))))))))))))))))

abbrev pub five_lines : ℕ → List ℕ
five_lines t = line t 3 1 ++ (line t 4 1 ++ (line t 5 1 ++ (line t 6 1 ++ line t 7 1)))

-- test 4,294,967,295 and training 10
abbrev pub large_ids : List ℕ
large_ids = pair_of v u (changed 10 0 1 0 0 0) (255 ∷ 255 ∷ 255 ∷ 255 ∷ 24 ∷ 0 ∷ 0 ∷ 0 ∷ 1 ∷ 0 ∷ 1 ∷ 0 ∷ [])

-- four triangles with three: twelve pairs
abbrev pub twelve : List ℕ
twelve = u ++ (u ++ (u ++ (u ++ (v ++ (v ++ (v ++ (changed 9 0 4 0 1 0 ++ (changed 7 96 3 0 0 0 ++ trailer 168 2 204))))))))

-- recording 7 of the example stored with set 2: all that there is to train on
abbrev pub old_seven : List ℕ
old_seven = changed 7 0 1 0 2 0

-- no test recordings: 7 and 9 stored with set 2
abbrev pub no_tests : List ℕ
no_tests = pair_of v u old_seven (changed 9 24 1 0 2 0)

-- test 9 with U of D between 3 and 7, which are stored with set 2 and have V each
abbrev pub around : List ℕ
around = v ++ (u ++ (v ++ (changed 3 0 1 0 2 0 ++ (changed 9 24 1 0 1 0 ++ (changed 7 48 1 0 2 0 ++ trailer 72 3 120)))))

-- recordings 0 to 9 stored with set 2, each with V: 372 bytes
abbrev pub ten_old : List ℕ
ten_old =
    v ++ (v ++ (v ++ (v ++ (v ++ (v ++ (v ++ (v ++ (v ++ (v
    ++ (changed 0 0 1 0 2 0 ++ (changed 1 24 1 0 2 0 ++ (changed 2 48 1 0 2 0 ++ (changed 3 72 1 0 2 0 ++ (changed 4 96 1 0 2 0
    ++ (changed 5 120 1 0 2 0 ++ (changed 6 144 1 0 2 0 ++ (changed 7 168 1 0 2 0 ++ (changed 8 192 1 0 2 0 ++ (changed 9 216 1 0 2 0
    ++ (small 240 ++ (small 10 ++ (116 ∷ 1 ∷ 0 ∷ 0 ∷ []))))))))))))))))))))))

-- the example with a count of 65 recordings
abbrev pub too_many : List ℕ
too_many = v ++ (u ++ (seven ++ (nine ++ trailer 48 65 84)))

-- ---- edition 2
-- (0,0),(20,0),(0,10), of own area 100; (0,0),(50,0),(0,10), of 250; and (100,100),(100,110),(120,100), of 100 as well, with e = −200
abbrev pub u_wide : List ℕ
u_wide = six (small 0) (small 0) (small 20) (small 0) (small 0) (small 10)

abbrev pub u_long : List ℕ
u_long = six (small 0) (small 0) (small 50) (small 0) (small 0) (small 10)

abbrev pub u_other : List ℕ
u_other = six (small 100) (small 100) (small 100) (small 110) (small 120) (small 100)

-- (1,1),(2,1),(1,y), which lies in the first two and has half of y − 1 for its area: 0.5 for 2, 1 for 3, 1.5 for 4
abbrev pub v_of : ℕ → List ℕ
v_of y = six (small 1) (small 1) (small 2) (small 1) (small 1) (small y)

-- (0,0),(20,0),(0,−4), with the edge from (0,0) to (20,0) of the first
abbrev pub v_under : List ℕ
v_under = six (small 0) (small 0) (small 20) (small 0) (small 0) (252 ∷ 255 ∷ 255 ∷ 255 ∷ [])

-- test 9, of this last byte, with u, and training 7 with v
abbrev pub by_last : ℕ → List ℕ → List ℕ → List ℕ
by_last last u v = pair_of u v (changed 9 0 1 0 1 last) (changed 7 24 1 0 0 0)

-- test 9 of edition 2, with one triangle, and 7 and 3 with one each; and 7 with both
abbrev pub with_two : List ℕ → List ℕ → List ℕ → List ℕ
with_two u v w = u ++ (v ++ (w ++ (changed 9 0 1 0 1 1 ++ (changed 7 24 1 0 0 0 ++ (changed 3 48 1 0 0 0 ++ trailer 72 3 120)))))

abbrev pub with_both : List ℕ → List ℕ → List ℕ → List ℕ
with_both u v w = u ++ (v ++ (w ++ (changed 9 0 1 0 1 1 ++ (changed 7 24 2 0 0 0 ++ trailer 72 2 108))))

-- test 9 of edition 2 with two triangles, and 7 with one
abbrev pub of_two : List ℕ → List ℕ → List ℕ → List ℕ
of_two u t v = u ++ (t ++ (v ++ (changed 9 0 2 0 1 1 ++ (changed 7 48 1 0 0 0 ++ trailer 72 2 108))))

-- tests 9 of edition 1 and 4 of edition 2, training 7 with the area 1, and 5 of set 2 with 1.5
abbrev pub both_editions : List ℕ
both_editions = u_wide ++ (u_wide ++ (v_of 3 ++ (v_of 4 ++ (changed 9 0 1 0 1 0 ++ (changed 4 24 1 0 1 1 ++ (changed 7 48 1 0 0 0 ++ (changed 5 72 1 0 2 0 ++ trailer 96 4 156)))))))

-- (0,0),(8,0),(0,15), of own area 60; and (−w,6),(w,−4),(−w,−4), which cuts (0,0),(w/5,0),(0,1) off it: w/10
abbrev pub u_sixty : List ℕ
u_sixty = six (small 0) (small 0) (small 8) (small 0) (small 0) (small 15)

abbrev pub u_eighty : List ℕ
u_eighty = six (small 0) (small 0) (small 8) (small 0) (small 0) (small 20)

abbrev pub minus : ℕ → List ℕ
minus n = (256 - n) ∷ 255 ∷ 255 ∷ 255 ∷ []

abbrev pub v_tenths : ℕ → List ℕ
v_tenths w = six (minus w) (small 6) (small w) (minus 4) (minus w) (minus 4)

-- test 9 of edition 2; training 7 with 0.1, 0.2 and 0.3, and training 8 with 0.3, 0.2 and 0.1: the sums are 0.6000000000000001 and 0.6
abbrev pub sums : List ℕ
sums =
    u_sixty ++ (v_tenths 1 ++ (v_tenths 2 ++ (v_tenths 3 ++ (v_tenths 3 ++ (v_tenths 2 ++ (v_tenths 1
    ++ (changed 9 0 1 0 1 1 ++ (changed 7 24 3 0 0 0 ++ (changed 8 96 3 0 0 0 ++ trailer 168 3 216)))))))))

-- (0,0),(11,0),(0,20), of own area 110: a hundredth of it is 1.1, and 100 times 1.1 is 110.00000000000001
abbrev pub u_hundred_ten : List ℕ
u_hundred_ten = six (small 0) (small 0) (small 11) (small 0) (small 0) (small 20)

-- (0,0),(8,0),(0,20), of own area 80, twice, with 0.4, 0.1 and 0.3: added as they are decided they make 1.6000000000000003, by rows, or with the training triangles outside, 1.6
abbrev pub row_by_row : List ℕ
row_by_row = u_eighty ++ (u_eighty ++ (v_tenths 4 ++ (v_tenths 1 ++ (v_tenths 3 ++ (changed 9 0 2 0 1 1 ++ (changed 7 48 3 0 0 0 ++ trailer 120 2 156))))))

-- ---- what comes of them
abbrev pub listed_old : List ℕ → ℕ → ℕ → ℕ → ℕ → ℕ → ℕ → List ℕ → ℕ → Case
listed_old file room length leaks touching tested formerly text points = record { file = file; room = room; number = 0; place = 0; length = length; leaks = leaks; touching = touching; tested = tested; formerly = formerly; front = text; points = points; output = text }

-- of a file without set 2
abbrev pub listed : List ℕ → ℕ → ℕ → ℕ → ℕ → ℕ → List ℕ → ℕ → Case
listed file room length leaks touching tested text points = listed_old file room length leaks touching tested 0 text points

abbrev pub not_listed : List ℕ → ℕ → ℕ → ℕ → List ℕ → Case
not_listed file room number place output = record { file = file; room = room; number = number; place = place; length = 0; leaks = 0; touching = 0; tested = 0; formerly = 0; front = []; points = room; output = output }

-- the list with one line, of test 9 and training 7, and that of none, with so many that only touch
abbrev pub one_line : List ℕ
one_line = first 1 ++ (line 9 7 1 ++ ends 0 0)

abbrev pub no_line : ℕ → List ℕ
no_line t = first 0 ++ ends t 0

abbrev pub rooms : List Case
rooms =
    -- 01's example: in a room that is longer, in one of its length, in one that is a byte shorter, and in ones that all lines but the last and its first two lines would fit
    listed example 72 63 1 0 1 one_line 9
    ∷ listed example 63 63 1 0 1 one_line 0
    ∷ not_listed example 62 7 0 one_line
    ∷ not_listed example 42 7 0 one_line
    ∷ not_listed example 31 7 0 one_line
    -- no recordings
    ∷ listed (trailer 0 0 12) 40 40 0 0 0 (no_line 0) 0
    ∷ not_listed (trailer 0 0 12) 39 7 0 (no_line 0)
    -- table order, set 2 among the training recordings, several pairs, recordings that only touch, one of them in two triangle pairs
    ∷ listed_old mixed 110 109 3 3 8 1 (first 3 ++ (line 9 7 1 ++ (line 9 5 1 ++ (line 9 3 2 ++ ends 3 1)))) 1
    -- a part of an edge, a corner
    ∷ listed (pair_of v u_part seven nine) 40 40 0 1 1 (no_line 1) 0
    ∷ listed (pair_of v u_corner seven nine) 40 40 0 1 1 (no_line 1) 0
    -- U and V not exchanged
    ∷ listed one_way 40 40 0 0 1 (no_line 0) 0
    ∷ listed other_way 40 40 0 1 1 (no_line 1) 0
    -- one pair touches and one overlaps: a line, and not among those that only touch
    ∷ listed (both_kinds u_f u) 63 63 1 0 2 one_line 0
    ∷ listed (both_kinds u u_f) 63 63 1 0 2 one_line 0
    -- one test recording overlaps a training recording and touches two others
    ∷ listed one_and_two 63 63 1 2 3 (first 1 ++ (line 9 7 1 ++ ends 2 0)) 0
    -- by the computed area, and by the computed ring
    ∷ listed (pair_of v_rounded u_rounded seven nine) 63 63 1 0 1 one_line 0
    ∷ listed (pair_of v_tied u_tied seven nine) 40 40 0 0 1 (no_line 0) 0
    ∷ []

abbrev pub counts : List Case
counts =
    -- numbers of several digits
    listed large_ids 73 73 1 0 1 (first 1 ++ (line_with (52 ∷ 50 ∷ 57 ∷ 52 ∷ 57 ∷ 54 ∷ 55 ∷ 50 ∷ 57 ∷ 53 ∷ []) (49 ∷ 48 ∷ []) (49 ∷ []) ++ ends 0 0)) 0
    ∷ listed twelve 64 64 1 0 12 (first 1 ++ (line_with (57 ∷ []) (55 ∷ []) (49 ∷ 50 ∷ []) ++ ends 0 0)) 0
    -- of several triangles the second with the second, and a tie that turns on the order of U's vertices
    ∷ listed seconds 63 63 1 0 2 one_line 0
    -- ten lines, and ten that only touch
    ∷ listed (ten u) 271 271 10 0 10 (first_ten ++ (five_lines 1 ++ (five_lines 2 ++ ends 0 0))) 0
    ∷ listed (ten u_f) 41 41 0 10 10 (first 0 ++ (last_with (49 ∷ 48 ∷ []) ++ old 0)) 0
    -- a refused file, before the room is looked at
    ∷ not_listed too_many 51 13 72 refused13at72
    ∷ not_listed too_many 0 13 72 refused13at72
    ∷ not_listed [] 51 11 0 refused11at0
    ∷ []

abbrev pub boxes : List Case
boxes =
    -- boxes that share no point, whatever rounding says; a corner of boxes, a centimetre between them; each pair whose boxes share a point counted, also where it leaks no more
    listed (pair_of v_beyond u_beyond seven nine) 40 40 0 0 0 (no_line 0) 0
    ∷ listed (pair_of v_needle u_beside seven nine) 40 40 0 0 0 (no_line 0) 0
    ∷ listed (pair_of v u_at_corner seven nine) 40 40 0 0 1 (no_line 0) 0
    ∷ listed (pair_of v u_aside seven nine) 40 40 0 0 0 (no_line 0) 0
    ∷ listed_old near_and_far 109 109 3 0 6 1 (first 3 ++ (line 4 7 1 ++ (line 4 5 1 ++ (line 4 3 1 ++ ends 0 1)))) 0
    ∷ not_listed near_and_far 108 7 0 (first 3 ++ (line 4 7 1 ++ (line 4 5 1 ++ (line 4 3 1 ++ ends 0 1))))
    ∷ []

abbrev pub olds : List Case
olds =
    -- set 2 as all that there is to train on: overlapping, only touching, apart
    listed_old (pair_of v u old_seven nine) 63 63 1 0 1 1 (first 1 ++ (line 9 7 1 ++ ends 0 1)) 0
    ∷ listed_old (pair_of v u_f old_seven nine) 40 40 0 1 1 1 (first 0 ++ ends 1 1) 0
    ∷ listed_old (pair_of v u_e old_seven nine) 40 40 0 0 0 1 (first 0 ++ ends 0 1) 0
    -- no test recordings, though the two would overlap
    ∷ listed_old no_tests 40 40 0 0 0 2 (first 0 ++ ends 0 2) 0
    -- before and behind the test recording in the table, and not with each other
    ∷ listed_old around 86 86 2 0 2 2 (first 2 ++ (line 9 3 1 ++ (line 9 7 1 ++ ends 0 2))) 0
    -- a number of two digits, and a room that is a byte too short for it
    ∷ listed_old ten_old 41 41 0 0 0 10 (first 0 ++ (last 0 ++ old_with (49 ∷ 48 ∷ []))) 0
    ∷ not_listed ten_old 40 7 0 (first 0 ++ (last 0 ++ old_with (49 ∷ 48 ∷ [])))
    -- the same recordings with 0 for 2: the same but for the last line
    ∷ listed (mixed_with 0) 109 109 3 3 8 (first 3 ++ (line 9 7 1 ++ (line 9 5 1 ++ (line 9 3 2 ++ ends 3 0)))) 0
    ∷ []

abbrev pub slivers : List Case
slivers =
    -- one per cent is no leak by edition 2, and not touching either; less is none, more is one; by edition 1 all are
    listed (by_last 1 u_wide (v_of 3)) 40 40 0 0 1 (no_line 0) 0
    ∷ listed (by_last 1 u_wide (v_of 2)) 40 40 0 0 1 (no_line 0) 0
    ∷ listed (by_last 1 u_wide (v_of 4)) 63 63 1 0 1 one_line 0
    ∷ listed (by_last 0 u_wide (v_of 3)) 63 63 1 0 1 one_line 0
    ∷ not_listed (by_last 1 u_wide (v_of 4)) 62 7 0 one_line
    -- 0.6 per cent with each of two training recordings, and twice that with one, where N counts both
    ∷ listed (with_two u_long (v_of 4) (v_of 4)) 40 40 0 0 2 (no_line 0) 0
    ∷ listed (with_both u_long (v_of 4) (v_of 4)) 63 63 1 0 2 (first 1 ++ (line 9 7 2 ++ ends 0 0)) 0
    -- the own area is that of all test triangles, whatever their orientation: 1.5, 2 and 2.5 of 200
    ∷ listed (of_two u_wide u_other (v_of 4)) 40 40 0 0 1 (no_line 0) 0
    ∷ listed (of_two u_other u_wide (v_of 5)) 40 40 0 0 1 (no_line 0) 0
    ∷ listed (of_two u_other u_wide (v_of 6)) 63 63 1 0 1 one_line 0
    -- one pair touches: alone it is counted, beside a sliver it is not
    ∷ listed (by_last 1 u_wide v_under) 40 40 0 1 1 (no_line 1) 0
    ∷ listed (with_both u_wide (v_of 3) v_under) 40 40 0 0 2 (no_line 0) 0
    ∷ listed (with_two u_wide (v_of 3) v_under) 40 40 0 1 2 (no_line 1) 0
    -- both editions in one file, beside training and set 2
    ∷ listed_old both_editions 109 109 3 0 4 1 (first 3 ++ (line 9 7 1 ++ (line 9 5 1 ++ (line 4 5 1 ++ ends 0 1)))) 0
    -- two test triangles overlap: 3 of 200
    ∷ listed (of_two u_wide u_wide (v_of 4)) 63 63 1 0 2 (first 1 ++ (line 9 7 2 ++ ends 0 0)) 0
    -- the sum is multiplied, and the own area not divided
    ∷ listed (by_last 1 u_hundred_ten (v_tenths 11)) 63 63 1 0 1 one_line 0
    -- only the order of adding decides
    ∷ listed sums 63 63 1 0 6 (first 1 ++ (line 9 7 3 ++ ends 0 0)) 0
    ∷ listed row_by_row 63 63 1 0 6 (first 1 ++ (line 9 7 6 ++ ends 0 0)) 0
    ∷ []

-- all of them
abbrev pub cases : List Case
cases = rooms ++ (counts ++ (boxes ++ (olds ++ slivers)))
