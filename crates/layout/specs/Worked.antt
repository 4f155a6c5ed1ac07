-- Files worked by hand, byte by byte: the twelve bytes of 01, its example of 84, and one file or more for each refusal. Definitions and statements.
use Rattle.std.specs.Prelude.{ℕ, zero, suc, ◌<◌, ◌≡◌, List, [], ◌∷◌, ◌++◌, length, pos, negsuc}
use Rattle.layout.specs.Parts.{triangle_at}
use Rattle.layout.specs.Verdict.{number_at, good, verdict}
use Rattle.layout.specs.Recordings.{no_recording, recording_of, part_of}
use Rattle.layout.specs.declared.Verdict.{Verdict}
use Rattle.layout.specs.declared.Recording.{Recording}

-- a file and a recording's number; what is said of the file, of the recording, and which bytes are its part
pub record Case : Type 0 where
  pub file : List ℕ
  pub k : ℕ
  pub file_says : Verdict
  pub recording_says : Recording
  pub part : List ℕ

pub record Shown (c : Case) : Type 0 where
  pub file_says : verdict c.file ≡ c.file_says
  pub recording_says : recording_of c.file c.k ≡ c.recording_says
  pub part : part_of c.file c.k ≡ c.part

-- ---- case D's triangles: V (0,0),(4,0),(0,4) and U (1,1),(−3,1),(1,−3)
abbrev pub v : List ℕ
v = 0 ∷ 0 ∷ 0 ∷ 0 ∷ 0 ∷ 0 ∷ 0 ∷ 0 ∷ 4 ∷ 0 ∷ 0 ∷ 0 ∷ 0 ∷ 0 ∷ 0 ∷ 0 ∷ 0 ∷ 0 ∷ 0 ∷ 0 ∷ 4 ∷ 0 ∷ 0 ∷ 0 ∷ []

abbrev pub u : List ℕ
u = 1 ∷ 0 ∷ 0 ∷ 0 ∷ 1 ∷ 0 ∷ 0 ∷ 0 ∷ 253 ∷ 255 ∷ 255 ∷ 255 ∷ 1 ∷ 0 ∷ 0 ∷ 0 ∷ 1 ∷ 0 ∷ 0 ∷ 0 ∷ 253 ∷ 255 ∷ 255 ∷ 255 ∷ []

-- numbers of three bytes: 1,000,000 and −1,000,000, and one further each
abbrev pub top : List ℕ
top = 64 ∷ 66 ∷ 15 ∷ 0 ∷ []

abbrev pub bottom : List ℕ
bottom = 192 ∷ 189 ∷ 240 ∷ 255 ∷ []

abbrev pub above_top : List ℕ
above_top = 65 ∷ 66 ∷ 15 ∷ 0 ∷ []

abbrev pub below_bottom : List ℕ
below_bottom = 191 ∷ 189 ∷ 240 ∷ 255 ∷ []

-- a number below 256, and a triangle of six numbers
abbrev pub small : ℕ → List ℕ
small n = n ∷ 0 ∷ 0 ∷ 0 ∷ []

abbrev pub six : List ℕ → List ℕ → List ℕ → List ℕ → List ℕ → List ℕ → List ℕ
six x0 y0 x1 y1 x2 y2 = x0 ++ (y0 ++ (x1 ++ (y1 ++ (x2 ++ y2))))

abbrev pub far : List ℕ
far = six bottom (small 1) (small 3) (small 1) (small 1) top

-- (0,1),(1,2),(2,3) has no area; (0,0),(4,0),(0,4) with one number replaced, which is out of range; and one that is out of range and has no area
abbrev pub on_a_line : List ℕ
on_a_line = six (small 0) (small 1) (small 1) (small 2) (small 2) (small 3)

abbrev pub too_far : ℕ → List ℕ
too_far zero = six above_top (small 0) (small 4) (small 0) (small 0) (small 4)
too_far (suc zero) = six (small 0) below_bottom (small 4) (small 0) (small 0) (small 4)
too_far (suc (suc zero)) = six (small 0) (small 0) above_top (small 0) (small 0) (small 4)
too_far (suc (suc (suc zero))) = six (small 0) (small 0) (small 4) below_bottom (small 0) (small 4)
too_far (suc (suc (suc (suc zero)))) = six (small 0) (small 0) (small 4) (small 0) above_top (small 4)
too_far (suc (suc (suc (suc (suc n))))) = six (small 0) (small 0) (small 4) (small 0) (small 0) below_bottom

abbrev pub too_far_on_a_line : List ℕ
too_far_on_a_line = six (small 1) (small 1) (small 1) (small 1) (small 1) above_top

-- ---- entries: training recording 7 at 0 and test recording 9 at 24, each of one triangle; then entries with one thing changed
abbrev pub seven : List ℕ
seven = 7 ∷ 0 ∷ 0 ∷ 0 ∷ 0 ∷ 0 ∷ 0 ∷ 0 ∷ 1 ∷ 0 ∷ 0 ∷ 0 ∷ []

abbrev pub nine : List ℕ
nine = 9 ∷ 0 ∷ 0 ∷ 0 ∷ 24 ∷ 0 ∷ 0 ∷ 0 ∷ 1 ∷ 0 ∷ 1 ∷ 0 ∷ []

-- id 67,305,985, with set 2
abbrev pub large : List ℕ
large = 1 ∷ 2 ∷ 3 ∷ 4 ∷ 24 ∷ 0 ∷ 0 ∷ 0 ∷ 1 ∷ 0 ∷ 2 ∷ 0 ∷ []

-- an entry of one triangle, or of the two bytes low and high, with an id and a first place below 256
abbrev pub changed : ℕ → ℕ → ℕ → ℕ → ℕ → ℕ → List ℕ
changed id first low high set last = small id ++ (small first ++ (low ∷ high ∷ set ∷ last ∷ []))

-- an entry that begins at 1,572,840, where 65,535 triangles end
abbrev pub beyond : List ℕ
beyond = small 9 ++ (232 ∷ 255 ∷ 23 ∷ 0 ∷ 1 ∷ 0 ∷ 1 ∷ 0 ∷ [])

-- ---- trailers: place of the table, count, length, each below 256
abbrev pub trailer : ℕ → ℕ → ℕ → List ℕ
trailer table count length = small table ++ (small count ++ small length)

-- a file of two triangles and two entries
abbrev pub pair_of : List ℕ → List ℕ → List ℕ → List ℕ → List ℕ
pair_of first second entry next = first ++ (second ++ (entry ++ (next ++ trailer 48 2 84)))

abbrev pub example : List ℕ
example = pair_of v u seven nine

-- a file of two triangles that are one recording
abbrev pub double : List ℕ
double = v ++ (u ++ (changed 7 0 2 0 0 0 ++ trailer 48 1 72))

-- ---- what is said
abbrev pub refused_file : List ℕ → ℕ → ℕ → Case
refused_file file number place = record { file = file; k = 0; file_says = number_at number place; recording_says = no_recording (number_at number place); part = [] }

abbrev pub answered_with : ℕ → List ℕ → ℕ → ℕ → ℕ → ℕ → ℕ → List ℕ → Case
answered_with last file k id first count set part = record {
  file = file;
  k = k;
  file_says = good;
  recording_says = record { number = 0; place = 0; id = id; first = first; count = count; set = set; last = last };
  part = part;
}

abbrev pub answered_file : List ℕ → ℕ → ℕ → ℕ → ℕ → ℕ → List ℕ → Case
answered_file file k id first count set part = answered_with 0 file k id first count set part

abbrev pub no_such_recording : List ℕ → ℕ → Case
no_such_recording file k = record { file = file; k = k; file_says = good; recording_says = no_recording (number_at 10 0); part = [] }

abbrev pub cases : List Case
cases =
    no_such_recording (trailer 0 0 12) 0
    ∷ answered_file example 0 7 0 1 0 v
    ∷ answered_file example 1 9 24 1 1 u
    ∷ no_such_recording example 2
    ∷ answered_file double 0 7 0 2 0 (v ++ u)
    ∷ answered_file (pair_of v far seven large) 1 67305985 24 1 2 far
    -- a test recording of the second edition, behind a training recording and before one
    ∷ answered_with 1 (pair_of v u seven (changed 9 24 1 0 1 1)) 1 9 24 1 1 u
    ∷ answered_with 1 (pair_of v u (changed 7 0 1 0 1 1) (changed 9 24 1 0 0 0)) 0 7 0 1 1 v
    ∷ answered_file (pair_of v u (changed 7 0 1 0 1 1) (changed 9 24 1 0 0 0)) 1 9 24 1 0 u
    -- 11 of no bytes and of eleven; 12; 13: table 4, 65 recordings, and a table whose end is the file's but for 2^32
    ∷ refused_file [] 11 0
    ∷ refused_file (0 ∷ 0 ∷ 0 ∷ 0 ∷ 0 ∷ 0 ∷ 0 ∷ 11 ∷ 0 ∷ 0 ∷ 0 ∷ []) 11 0
    ∷ refused_file (v ++ (u ++ (seven ++ (nine ++ trailer 48 2 85)))) 12 0
    ∷ refused_file (trailer 4 0 12) 13 0
    ∷ refused_file (v ++ trailer 24 65 36) 13 24
    ∷ refused_file (244 ∷ 255 ∷ 255 ∷ 255 ∷ 1 ∷ 0 ∷ 0 ∷ 0 ∷ 12 ∷ 0 ∷ 0 ∷ 0 ∷ []) 13 0
    -- 14 by each of its reasons
    ∷ refused_file (pair_of v u (changed 7 0 0 0 0 0) nine) 14 48
    ∷ refused_file (pair_of v u seven (changed 9 24 1 0 3 0)) 14 60
    -- a last byte of 1 beside set 0, set 2 and a set that there is not; of another value beside each set
    ∷ refused_file (pair_of v u (changed 7 0 1 0 0 1) nine) 14 48
    ∷ refused_file (pair_of v u seven (changed 9 24 1 0 2 1)) 14 60
    ∷ refused_file (pair_of v u seven (changed 9 24 1 0 3 1)) 14 60
    ∷ refused_file (pair_of v u seven (changed 9 24 1 0 1 2)) 14 60
    ∷ refused_file (pair_of v u seven (changed 9 24 1 0 1 255)) 14 60
    ∷ refused_file (pair_of v u (changed 7 0 1 0 0 2) nine) 14 48
    ∷ refused_file (pair_of v u seven (changed 9 24 1 0 2 2)) 14 60
    -- of the second edition, each of the others
    ∷ refused_file (pair_of v u seven (changed 9 24 0 0 1 1)) 14 60
    ∷ refused_file (pair_of v u seven (changed 9 48 1 0 1 1)) 14 60
    ∷ refused_file (pair_of v u seven (changed 7 24 1 0 1 1)) 16 60
    ∷ refused_file (pair_of v u seven (changed 7 24 1 0 0 1)) 14 60
    ∷ refused_file (pair_of v u (changed 7 24 1 0 0 0) nine) 14 48
    ∷ refused_file (pair_of v u seven (changed 9 48 1 0 1 0)) 14 60
    -- 16, of an id that is not the previous one too, and 14 before it
    ∷ refused_file (pair_of v u seven (changed 7 24 1 0 1 0)) 16 60
    ∷ refused_file (v ++ (u ++ (v ++ (seven ++ (nine ++ (changed 7 48 1 0 0 0 ++ trailer 72 3 120)))))) 16 96
    ∷ refused_file (pair_of v u seven (changed 7 24 1 0 3 0)) 14 60
    -- 15: the last triangle ends beyond the table, also where an entry before it does; no recordings but a triangle
    ∷ refused_file (pair_of v u seven (changed 9 24 255 255 1 0)) 15 48
    ∷ refused_file (pair_of v u (changed 7 0 255 255 0 0) beyond) 15 48
    ∷ refused_file (v ++ trailer 24 0 36) 15 24
    -- 17 by each number, 18, 17 before 18, and the first triangle before the second
    ∷ refused_file (pair_of v (too_far 0) seven nine) 17 24
    ∷ refused_file (pair_of v (too_far 1) seven nine) 17 24
    ∷ refused_file (pair_of v (too_far 2) seven nine) 17 24
    ∷ refused_file (pair_of v (too_far 3) seven nine) 17 24
    ∷ refused_file (pair_of v (too_far 4) seven nine) 17 24
    ∷ refused_file (pair_of v (too_far 5) seven nine) 17 24
    ∷ refused_file (pair_of v on_a_line seven nine) 18 24
    ∷ refused_file (pair_of v too_far_on_a_line seven nine) 17 24
    ∷ refused_file (pair_of on_a_line (too_far 5) seven nine) 18 0
    ∷ []

-- the example's second triangle, vertex by vertex
abbrev pub SecondTriangle : Type 0
SecondTriangle = triangle_at example 1 ≡ record { v0 = record { x = pos 1; y = pos 1 }; v1 = record { x = negsuc 2; y = pos 1 }; v2 = record { x = pos 1; y = negsuc 2 } }

-- a file that is too long, whatever is in it
abbrev pub TooLong : Type 0
TooLong = (file : List ℕ) → 65536 < length file → verdict file ≡ number_at 11 0
