-- Lists worked by hand: the file with no recordings, 01's example of 84 bytes, the same with a last byte of 1, and one draft or more for each refusal and for the order of two. Definitions and statements.
use Rattle.std.specs.Prelude.{ℕ, zero, suc, ◌+◌, ◌≡◌, List, [], ◌∷◌, ◌++◌, ℤ, pos, negsuc, replicate}
use Rattle.layout.specs.Worked.{trailer, changed, pair_of, example, double, v as v_bytes, u as u_bytes, far as far_bytes, seven}
use Rattle.text.specs.declared.Written.{Written}
use Rattle.filing.specs.Given.{Given, given_of}
use Rattle.filing.specs.Written.{written}
use Rattle.filing.specs.Taken.{listed, taken_from}

-- lists and the length of a room of points, 46; what is said, and the room afterwards
pub record Case : Type 0 where
  pub given : Given
  pub room : ℕ
  pub says : Written
  pub after : List ℕ

pub record Shown (c : Case) : Type 0 where
  pub says : (written c.given (replicate c.room 46)).result ≡ c.says
  pub after : (written c.given (replicate c.room 46)).room ≡ c.after

abbrev pub points : ℕ → List ℕ
points n = replicate n 46

abbrev pub refused_lists : Given → ℕ → ℕ → Case
refused_lists g room number = record { given = g; room = room; says = record { number = number; place = 0; length = 0 }; after = points room }

-- the file, of so many bytes, and so many points behind it
abbrev pub written_lists : Given → List ℕ → ℕ → ℕ → ℕ → Case
written_lists g file length rest room = record { given = g; room = room; says = record { number = 0; place = 0; length = length }; after = file ++ points rest }

-- ---- case D's triangles: V (0,0),(4,0),(0,4) and U (1,1),(−3,1),(1,−3); one at both ends of the range
abbrev pub v : List ℤ
v = pos 0 ∷ pos 0 ∷ pos 4 ∷ pos 0 ∷ pos 0 ∷ pos 4 ∷ []

abbrev pub u : List ℤ
u = pos 1 ∷ pos 1 ∷ negsuc 2 ∷ pos 1 ∷ pos 1 ∷ negsuc 2 ∷ []

abbrev pub far : List ℤ
far = negsuc 999999 ∷ pos 1 ∷ pos 3 ∷ pos 1 ∷ pos 1 ∷ pos 1000000 ∷ []

-- no area; a number out of range at either end; both
abbrev pub on_a_line : List ℤ
on_a_line = pos 0 ∷ pos 1 ∷ pos 1 ∷ pos 2 ∷ pos 2 ∷ pos 3 ∷ []

abbrev pub above : List ℤ
above = pos 0 ∷ pos 0 ∷ pos 4 ∷ pos 0 ∷ pos 0 ∷ pos 1000001 ∷ []

abbrev pub below : List ℤ
below = negsuc 1000000 ∷ pos 0 ∷ pos 4 ∷ pos 0 ∷ pos 0 ∷ pos 4 ∷ []

abbrev pub least : List ℤ
least = pos 1 ∷ pos 1 ∷ pos 1 ∷ pos 1 ∷ pos 1 ∷ negsuc 2147483647 ∷ []

-- the entry of id 67,305,985, test, at 24
abbrev pub large_test : List ℕ
large_test = 1 ∷ 2 ∷ 3 ∷ 4 ∷ 24 ∷ 0 ∷ 0 ∷ 0 ∷ 1 ∷ 0 ∷ 1 ∷ 0 ∷ []

-- 01's example with a last byte of 1: recording 9 goes by the second edition of the leak rule
abbrev pub second : List ℕ
second = pair_of v_bytes u_bytes seven (changed 9 24 1 0 1 1)

-- ---- two recordings, 7 of training and 9 of test, and what is changed of them
abbrev pub two : List ℤ → Given
two numbers = given_of (7 ∷ 9 ∷ []) (1 ∷ 1 ∷ []) (0 ∷ 1 ∷ []) (0 ∷ 0 ∷ []) numbers

-- with other sets, a and b, and with last bytes, x and y, too
abbrev pub of_lasts : ℕ → ℕ → ℕ → ℕ → Given
of_lasts a b x y = given_of (7 ∷ 9 ∷ []) (1 ∷ 1 ∷ []) (a ∷ b ∷ []) (x ∷ y ∷ []) (v ++ u)

abbrev pub of_sets : ℕ → ℕ → Given
of_sets a b = of_lasts a b 0 0

abbrev pub counted : ℕ → ℕ → Given
counted a b = given_of (7 ∷ 9 ∷ []) (a ∷ b ∷ []) (0 ∷ 1 ∷ []) (0 ∷ 0 ∷ []) (v ++ u)

-- V again and again
unfoldable pub again : ℕ → List ℤ
again zero = []
again (suc n) = v ++ again n

-- n test recordings of one triangle each with ids from 0 on, and one more with this id and this triangle
abbrev pub many : ℕ → ℕ → List ℤ → Given
many n id triangle = given_of (listed (λ i. i) n ++ (id ∷ [])) (replicate (n + 1) 1) (replicate (n + 1) 1) (replicate (n + 1) 0) (again n ++ triangle)

abbrev pub cases : List Case
cases =
    -- no recordings: twelve bytes, the rest of the room as it was
    written_lists (given_of [] [] [] [] []) (trailer 0 0 12) 12 2 14
    ∷ written_lists (given_of [] [] [] [] []) (trailer 0 0 12) 12 0 12
    ∷ refused_lists (given_of [] [] [] [] []) 11 19
    -- two recordings, one of two triangles, and one with a large id at the ends of the range
    ∷ written_lists (two (v ++ u)) example 84 0 84
    ∷ written_lists (two (v ++ u)) example 84 3 87
    ∷ written_lists (given_of (7 ∷ []) (2 ∷ []) (0 ∷ []) (0 ∷ []) (v ++ u)) double 72 0 72
    ∷ written_lists (given_of (7 ∷ 67305985 ∷ []) (1 ∷ 1 ∷ []) (0 ∷ 1 ∷ []) (0 ∷ 0 ∷ []) (v ++ far)) (pair_of v_bytes far_bytes seven large_test) 84 1 85
    -- a test recording of the second edition, behind a training recording, before one, and before another test recording
    ∷ written_lists (of_lasts 0 1 0 1) second 84 0 84
    ∷ written_lists (of_lasts 1 0 1 0) (pair_of v_bytes u_bytes (changed 7 0 1 0 1 1) (changed 9 24 1 0 0 0)) 84 2 86
    ∷ written_lists (of_lasts 1 1 1 0) (pair_of v_bytes u_bytes (changed 7 0 1 0 1 1) (changed 9 24 1 0 1 0)) 84 0 84
    -- 15 at once, whatever else is wrong: each list is the odd one, and a triangle is broken off
    ∷ refused_lists (given_of (7 ∷ 7 ∷ 9 ∷ []) (0 ∷ 1 ∷ []) (3 ∷ 1 ∷ []) (0 ∷ 0 ∷ []) on_a_line) 0 15
    ∷ refused_lists (given_of (7 ∷ 7 ∷ []) (0 ∷ []) (3 ∷ 1 ∷ []) (0 ∷ 0 ∷ []) above) 0 15
    ∷ refused_lists (given_of (7 ∷ 7 ∷ []) (0 ∷ 1 ∷ []) (2 ∷ 1 ∷ 1 ∷ []) (0 ∷ 0 ∷ 0 ∷ []) above) 0 15
    ∷ refused_lists (given_of (7 ∷ 7 ∷ []) (0 ∷ 1 ∷ []) (2 ∷ 1 ∷ []) (2 ∷ []) above) 0 15
    ∷ refused_lists (given_of (7 ∷ 7 ∷ []) (0 ∷ 1 ∷ []) (2 ∷ 1 ∷ []) (2 ∷ 1 ∷ 1 ∷ []) above) 0 15
    ∷ refused_lists (two (v ++ (u ++ (pos 1 ∷ [])))) 84 15
    ∷ refused_lists (given_of [] [] [] [] (pos 1 ∷ pos 2 ∷ pos 3 ∷ pos 4 ∷ pos 5 ∷ [])) 12 15
    -- where nothing else is wrong: a last byte too few, one too many, and one without recordings
    ∷ refused_lists (given_of (7 ∷ 9 ∷ []) (1 ∷ 1 ∷ []) (0 ∷ 1 ∷ []) (0 ∷ []) (v ++ u)) 84 15
    ∷ refused_lists (given_of (7 ∷ 9 ∷ []) (1 ∷ 1 ∷ []) (0 ∷ 1 ∷ []) (0 ∷ 1 ∷ 0 ∷ []) (v ++ u)) 84 15
    ∷ refused_lists (given_of [] [] [] (0 ∷ []) []) 12 15
    -- 14: no triangles, a set that there is not; before 16 of the same entry, after 16 of an earlier one
    ∷ refused_lists (counted 0 2) 84 14
    ∷ refused_lists (of_sets 0 3) 84 14
    ∷ refused_lists (of_sets 128 1) 84 14
    ∷ refused_lists (given_of (7 ∷ 7 ∷ []) (1 ∷ 0 ∷ []) (0 ∷ 1 ∷ []) (0 ∷ 0 ∷ []) (v ++ u)) 84 14
    ∷ refused_lists (given_of (7 ∷ 7 ∷ 9 ∷ []) (1 ∷ 1 ∷ 0 ∷ []) (0 ∷ 1 ∷ 1 ∷ []) (0 ∷ 0 ∷ 0 ∷ []) (v ++ u)) 84 16
    -- 14 for the set that is retired, in every entry; before 16 of the same entry and before 15, after 16 of an earlier one
    ∷ refused_lists (of_sets 2 1) 84 14
    ∷ refused_lists (of_sets 0 2) 84 14
    ∷ refused_lists (given_of (7 ∷ 7 ∷ []) (1 ∷ 1 ∷ []) (0 ∷ 2 ∷ []) (0 ∷ 0 ∷ []) (v ++ u)) 84 14
    ∷ refused_lists (given_of (7 ∷ 9 ∷ []) (1 ∷ 5 ∷ []) (0 ∷ 2 ∷ []) (0 ∷ 0 ∷ []) (v ++ u)) 84 14
    ∷ refused_lists (given_of (7 ∷ 7 ∷ 9 ∷ []) (1 ∷ 1 ∷ 1 ∷ []) (0 ∷ 1 ∷ 2 ∷ []) (0 ∷ 0 ∷ 0 ∷ []) (v ++ (u ++ v))) 200 16
    -- 14 for a last byte of 1 beside set 0, in either entry, and beside set 2; for another value beside set 1 and set 0
    ∷ refused_lists (of_lasts 0 1 1 0) 84 14
    ∷ refused_lists (of_lasts 1 0 0 1) 84 14
    ∷ refused_lists (of_lasts 0 2 0 1) 84 14
    ∷ refused_lists (of_lasts 0 1 0 2) 84 14
    ∷ refused_lists (of_lasts 0 1 0 128) 84 14
    ∷ refused_lists (of_lasts 0 1 0 255) 84 14
    ∷ refused_lists (of_lasts 0 1 2 0) 84 14
    -- before 16 of the same entry and before 15, after 16 of an earlier one; and 16 where the last byte may stand there
    ∷ refused_lists (given_of (7 ∷ 7 ∷ []) (1 ∷ 1 ∷ []) (0 ∷ 0 ∷ []) (0 ∷ 1 ∷ []) (v ++ u)) 84 14
    ∷ refused_lists (given_of (7 ∷ 9 ∷ []) (1 ∷ 5 ∷ []) (0 ∷ 1 ∷ []) (0 ∷ 2 ∷ []) (v ++ u)) 84 14
    ∷ refused_lists (given_of (7 ∷ 7 ∷ 9 ∷ []) (1 ∷ 1 ∷ 1 ∷ []) (0 ∷ 1 ∷ 0 ∷ []) (0 ∷ 1 ∷ 1 ∷ []) (v ++ (u ++ v))) 200 16
    ∷ refused_lists (given_of (7 ∷ 7 ∷ []) (1 ∷ 1 ∷ []) (0 ∷ 1 ∷ []) (0 ∷ 1 ∷ []) (v ++ u)) 84 16
    -- 16, of an id that is not the previous one too, and before 15
    ∷ refused_lists (given_of (7 ∷ 9 ∷ 7 ∷ []) (1 ∷ 1 ∷ 1 ∷ []) (0 ∷ 1 ∷ 0 ∷ []) (0 ∷ 0 ∷ 0 ∷ []) (v ++ (u ++ v))) 200 16
    ∷ refused_lists (given_of (7 ∷ 7 ∷ []) (1 ∷ 5 ∷ []) (0 ∷ 1 ∷ []) (0 ∷ 0 ∷ []) (v ++ u)) 84 16
    -- 15 by the counts: one too few, one too many, right but for 2^32, for 2^16, and for 24 times it in 32 bits, no recordings; before 17 and 18
    ∷ refused_lists (counted 1 2) 84 15
    ∷ refused_lists (given_of (7 ∷ []) (1 ∷ []) (0 ∷ []) (0 ∷ []) (v ++ u)) 84 15
    ∷ refused_lists (counted 4294967295 3) 84 15
    ∷ refused_lists (given_of (7 ∷ []) (65537 ∷ []) (0 ∷ []) (0 ∷ []) v) 84 15
    ∷ refused_lists (given_of (7 ∷ []) (536870913 ∷ []) (0 ∷ []) (0 ∷ []) v) 84 15
    ∷ refused_lists (given_of [] [] [] [] (above ++ on_a_line)) 84 15
    ∷ refused_lists (given_of (7 ∷ []) (3 ∷ []) (0 ∷ []) (0 ∷ []) (above ++ on_a_line)) 84 15
    -- 17 at either end and of the least i32, 18, 17 before 18, and the first triangle before the second
    ∷ refused_lists (two (v ++ above)) 84 17
    ∷ refused_lists (two (below ++ u)) 84 17
    ∷ refused_lists (two (least ++ u)) 84 17
    ∷ refused_lists (two (v ++ on_a_line)) 84 18
    ∷ refused_lists (two (on_a_line ++ above)) 84 18
    ∷ refused_lists (two (above ++ on_a_line)) 84 17
    -- 65 recordings: 16 of the first id and 18 of the last triangle before 13, and 13 before 19
    ∷ refused_lists (many 64 0 v) 0 16
    ∷ refused_lists (many 64 64 on_a_line) 0 18
    ∷ refused_lists (many 64 64 v) 0 13
    ∷ refused_lists (many 64 64 v) 3000 13
    -- 66 recordings: an id again, the set that is retired, a last byte of 2 and a count of zero behind the 65th, each before 13
    ∷ refused_lists (many 65 64 v) 0 16
    ∷ refused_lists (given_of (listed (λ i. i) 66) (replicate 66 1) (replicate 65 1 ++ (2 ∷ [])) (replicate 66 0) (again 66)) 0 14
    ∷ refused_lists (given_of (listed (λ i. i) 66) (replicate 66 1) (replicate 66 1) (replicate 65 1 ++ (2 ∷ [])) (again 66)) 0 14
    ∷ refused_lists (given_of (listed (λ i. i) 66) (replicate 65 1 ++ (0 ∷ [])) (replicate 66 1) (replicate 66 0) (again 65)) 0 14
    -- 64 recordings are not too many: 19 in a room of 2,315 bytes, one too few
    ∷ refused_lists (many 63 63 v) 2315 19
    -- a room that is a byte too short
    ∷ refused_lists (two (v ++ u)) 83 19
    ∷ []

-- what the reader got from 01's example, and from the one with a last byte of 1
abbrev pub TakenFromExample : Type 0
TakenFromExample = taken_from example ≡ two (v ++ u)

abbrev pub TakenFromSecond : Type 0
TakenFromSecond = taken_from second ≡ of_lasts 0 1 0 1
