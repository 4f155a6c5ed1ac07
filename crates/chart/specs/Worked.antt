-- Texts worked by hand, byte by byte: numbers around every change of sign and width, 02's example, and a text or more for each refusal and for the order of two. Definitions and statements.
use Rattle.std.specs.Prelude.{ℕ, ◌≡◌, List, [], ◌∷◌, ◌++◌, ℤ, pos, negsuc, replicate}
use Rattle.text.specs.declared.Written.{Written}
use Rattle.layout.specs.Parts.{Triangle, triangle_of}
use Rattle.layout.specs.Worked.{v, u, trailer, pair_of, example, double, changed, far, seven, large}
use Rattle.chart.specs.Numbers.{metres}
use Rattle.chart.specs.Words.{text_of}
use Rattle.chart.specs.Showing.{shown_of}

-- ---- numbers
pub record Number : Type 0 where
  pub centimetres : ℤ
  pub text : List ℕ

abbrev pub NumberShown : Number → Type 0
NumberShown n = metres n.centimetres ≡ n.text

abbrev pub is : ℤ → List ℕ → Number
is z text = record { centimetres = z; text = text }

abbrev pub numbers : List Number
numbers =
    -- 0.00, 0.01, 0.05, 0.99, 1.00, 9.99, 10.00, 100.00, 9999.99, 10000.00
    is (pos 0) (48 ∷ 46 ∷ 48 ∷ 48 ∷ [])
    ∷ is (pos 1) (48 ∷ 46 ∷ 48 ∷ 49 ∷ [])
    ∷ is (pos 5) (48 ∷ 46 ∷ 48 ∷ 53 ∷ [])
    ∷ is (pos 99) (48 ∷ 46 ∷ 57 ∷ 57 ∷ [])
    ∷ is (pos 100) (49 ∷ 46 ∷ 48 ∷ 48 ∷ [])
    ∷ is (pos 999) (57 ∷ 46 ∷ 57 ∷ 57 ∷ [])
    ∷ is (pos 1000) (49 ∷ 48 ∷ 46 ∷ 48 ∷ 48 ∷ [])
    ∷ is (pos 10000) (49 ∷ 48 ∷ 48 ∷ 46 ∷ 48 ∷ 48 ∷ [])
    ∷ is (pos 999999) (57 ∷ 57 ∷ 57 ∷ 57 ∷ 46 ∷ 57 ∷ 57 ∷ [])
    ∷ is (pos 1000000) (49 ∷ 48 ∷ 48 ∷ 48 ∷ 48 ∷ 46 ∷ 48 ∷ 48 ∷ [])
    -- -0.01, -0.05, -0.10, -0.99, -1.00, -1.01, -123.45, -9999.99, -10000.00
    ∷ is (negsuc 0) (45 ∷ 48 ∷ 46 ∷ 48 ∷ 49 ∷ [])
    ∷ is (negsuc 4) (45 ∷ 48 ∷ 46 ∷ 48 ∷ 53 ∷ [])
    ∷ is (negsuc 9) (45 ∷ 48 ∷ 46 ∷ 49 ∷ 48 ∷ [])
    ∷ is (negsuc 98) (45 ∷ 48 ∷ 46 ∷ 57 ∷ 57 ∷ [])
    ∷ is (negsuc 99) (45 ∷ 49 ∷ 46 ∷ 48 ∷ 48 ∷ [])
    ∷ is (negsuc 100) (45 ∷ 49 ∷ 46 ∷ 48 ∷ 49 ∷ [])
    ∷ is (negsuc 12344) (45 ∷ 49 ∷ 50 ∷ 51 ∷ 46 ∷ 52 ∷ 53 ∷ [])
    ∷ is (negsuc 999998) (45 ∷ 57 ∷ 57 ∷ 57 ∷ 57 ∷ 46 ∷ 57 ∷ 57 ∷ [])
    ∷ is (negsuc 999999) (45 ∷ 49 ∷ 48 ∷ 48 ∷ 48 ∷ 48 ∷ 46 ∷ 48 ∷ 48 ∷ [])
    ∷ []

-- ---- texts
-- "GEOMETRYCOLLECTION (", and "POLYGON (("
abbrev pub opening : List ℕ
opening = 71 ∷ 69 ∷ 79 ∷ 77 ∷ 69 ∷ 84 ∷ 82 ∷ 89 ∷ 67 ∷ 79 ∷ 76 ∷ 76 ∷ 69 ∷ 67 ∷ 84 ∷ 73 ∷ 79 ∷ 78 ∷ 32 ∷ 40 ∷ []

abbrev pub polygon : List ℕ
polygon = 80 ∷ 79 ∷ 76 ∷ 89 ∷ 71 ∷ 79 ∷ 78 ∷ 32 ∷ 40 ∷ 40 ∷ []

-- "0.00 0.00"
abbrev pub origin : List ℕ
origin = 48 ∷ 46 ∷ 48 ∷ 48 ∷ 32 ∷ 48 ∷ 46 ∷ 48 ∷ 48 ∷ []

-- 02's example: (0,0),(400,0),(0,−5); behind its polygon's word "0.00 0.00, 4.00 0.00, 0.00 -0.05, 0.00 0.00)))"
abbrev pub example02 : Triangle
example02 = triangle_of (pos 0) (pos 0) (pos 400) (pos 0) (pos 0) (negsuc 4)

abbrev pub text02 : List ℕ
text02 =
    opening ++ (polygon ++ (origin ++ (
    44 ∷ 32 ∷ 52 ∷ 46 ∷ 48 ∷ 48 ∷ 32 ∷ 48 ∷ 46 ∷ 48 ∷ 48 ∷ 44 ∷ 32 ∷ 48 ∷ 46 ∷ 48 ∷ 48 ∷ 32 ∷ 45 ∷ 48 ∷ 46 ∷ 48 ∷ 53 ∷ 44 ∷ 32 ∷ []) ++ (origin ++ (41 ∷ 41 ∷ 41 ∷ []))))

abbrev pub Example02 : Type 0
Example02 = text_of (example02 ∷ []) ≡ text02

-- ---- calls: a file, an id and the length of a room of points, 46; what is said, and the room afterwards
pub record Call : Type 0 where
  pub file : List ℕ
  pub id : ℕ
  pub room : ℕ
  pub says : Written
  pub after : List ℕ

pub record CallShown (c : Call) : Type 0 where
  pub says : (shown_of c.file c.id (replicate c.room 46)).result ≡ c.says
  pub after : (shown_of c.file c.id (replicate c.room 46)).room ≡ c.after

abbrev pub refused_call : List ℕ → ℕ → ℕ → ℕ → ℕ → Call
refused_call file id room number place = record { file = file; id = id; room = room; says = record { number = number; place = place; length = 0 }; after = replicate room 46 }

-- the text, of so many bytes, and so many points behind it
abbrev pub shown_call : List ℕ → ℕ → ℕ → List ℕ → ℕ → ℕ → Call
shown_call file id room text length rest = record { file = file; id = id; room = room; says = record { number = 0; place = 0; length = length }; after = text ++ replicate rest 46 }

-- (0,0),(4,0),(0,4): "POLYGON ((0.00 0.00, 0.04 0.00, 0.00 0.04, 0.00 0.00))"
abbrev pub v_polygon : List ℕ
v_polygon =
    polygon ++ (origin ++ (
    44 ∷ 32 ∷ 48 ∷ 46 ∷ 48 ∷ 52 ∷ 32 ∷ 48 ∷ 46 ∷ 48 ∷ 48 ∷ 44 ∷ 32 ∷ 48 ∷ 46 ∷ 48 ∷ 48 ∷ 32 ∷ 48 ∷ 46 ∷ 48 ∷ 52 ∷ 44 ∷ 32 ∷ []) ++ (origin ++ (41 ∷ 41 ∷ [])))

-- (1,1),(−3,1),(1,−3): "POLYGON ((0.01 0.01, -0.03 0.01, 0.01 -0.03, 0.01 0.01))"
abbrev pub u_polygon : List ℕ
u_polygon =
    polygon ++ (
    48 ∷ 46 ∷ 48 ∷ 49 ∷ 32 ∷ 48 ∷ 46 ∷ 48 ∷ 49 ∷ 44 ∷ 32 ∷ 45 ∷ 48 ∷ 46 ∷ 48 ∷ 51 ∷ 32 ∷ 48 ∷ 46 ∷ 48 ∷ 49 ∷ 44 ∷ 32 ∷ 48 ∷ 46 ∷ 48 ∷ 49 ∷ 32 ∷ 45 ∷ 48 ∷ 46 ∷ 48 ∷ 51 ∷ 44 ∷ 32 ∷ 48 ∷ 46 ∷ 48 ∷ 49 ∷ 32 ∷ 48 ∷ 46 ∷ 48 ∷ 49 ∷ 41 ∷ 41 ∷ [])

-- (−1000000,1),(3,1),(1,1000000): "POLYGON ((-10000.00 0.01, 0.03 0.01, 0.01 10000.00, -10000.00 0.01))"
abbrev pub far_polygon : List ℕ
far_polygon =
    polygon ++ (
    45 ∷ 49 ∷ 48 ∷ 48 ∷ 48 ∷ 48 ∷ 46 ∷ 48 ∷ 48 ∷ 32 ∷ 48 ∷ 46 ∷ 48 ∷ 49 ∷ 44 ∷ 32 ∷ 48 ∷ 46 ∷ 48 ∷ 51 ∷ 32 ∷ 48 ∷ 46 ∷ 48 ∷ 49 ∷ 44 ∷ 32 ∷ 48 ∷ 46 ∷ 48 ∷ 49 ∷ 32 ∷ 49 ∷ 48 ∷ 48 ∷ 48 ∷ 48 ∷ 46 ∷ 48 ∷ 48 ∷ 44 ∷ 32 ∷ 45 ∷ 49 ∷ 48 ∷ 48 ∷ 48 ∷ 48 ∷ 46 ∷ 48 ∷ 48 ∷ 32 ∷ 48 ∷ 46 ∷ 48 ∷ 49 ∷ 41 ∷ 41 ∷ [])

-- a file of three triangles that are one recording
abbrev pub triple : List ℕ
triple = v ++ (u ++ (far ++ (changed 7 0 3 0 0 0 ++ trailer 72 1 96)))

abbrev pub one_of : List ℕ → List ℕ
one_of text = opening ++ (text ++ (41 ∷ []))

abbrev pub two_of : List ℕ → List ℕ → List ℕ
two_of text next = opening ++ (text ++ (44 ∷ 32 ∷ (next ++ (41 ∷ []))))

abbrev pub calls : List Call
calls =
    -- 01's example: recording 7 and recording 9, in rooms that just hold the text, and in longer ones
    shown_call example 7 75 (one_of v_polygon) 75 0
    ∷ shown_call example 7 78 (one_of v_polygon) 75 3
    ∷ shown_call example 9 77 (one_of u_polygon) 77 0
    -- one recording of two triangles; one of set 2, with an id of four bytes
    ∷ shown_call double 7 140 (two_of v_polygon u_polygon) 133 7
    ∷ shown_call (pair_of v far seven large) 67305985 100 (one_of far_polygon) 89 11
    -- one recording of three triangles
    ∷ shown_call triple 7 210 (opening ++ (v_polygon ++ (44 ∷ 32 ∷ (u_polygon ++ (44 ∷ 32 ∷ (far_polygon ++ (41 ∷ []))))))) 203 7
    -- 20: one byte too short, and no byte
    ∷ refused_call example 7 74 20 0
    ∷ refused_call example 7 0 20 0
    -- 21: an id that is not there, a recording's number in the table, an id with the same low byte, an id's bytes elsewhere in the file, with no room too, and of a file without recordings
    ∷ refused_call example 8 100 21 0
    ∷ refused_call example 0 100 21 0
    ∷ refused_call example 1 100 21 0
    ∷ refused_call example 263 100 21 0
    ∷ refused_call (pair_of v far seven large) 1 100 21 0
    ∷ refused_call example 4 100 21 0
    ∷ refused_call example 8 0 21 0
    ∷ refused_call (trailer 0 0 12) 0 100 21 0
    -- the file's own before both, at its place
    ∷ refused_call (pair_of v v seven (changed 7 24 1 0 1 0)) 7 0 16 60
    ∷ refused_call (pair_of v v seven (changed 9 24 1 0 3 0)) 8 100 14 60
    ∷ refused_call [] 7 0 11 0
    ∷ []
