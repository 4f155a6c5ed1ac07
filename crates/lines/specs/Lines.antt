-- 01, "Numbers and lines" and "Crossings and their order along an edge": lines, corners, edges and signs by number. Definitions only.
use Rattle.std.specs.Prelude.{Bool, false, List, [], ◌∷◌, ℕ, zero, suc, min, max, get_or}

-- m numbers from i on
unfoldable pub up_from : ℕ → ℕ → List ℕ
up_from i zero = []
up_from i (suc m) = i ∷ up_from (suc i) m

-- the lines 0 .. n−1; a triangle's are 0 (x), 1 (y), 2 (w)
unfoldable pub lines : ℕ → List ℕ
unfolding up_from
lines n = up_from 0 n

-- the numbers of U's vertices and edges, and of V's corners, edges and lines
abbrev pub three : List ℕ
three = 0 ∷ 1 ∷ 2 ∷ []

-- the corner of V on two lines, as a table: row a, column b. V0 is on x and y, V1 on y and w, V2 on x and w; the diagonal has no meaning
abbrev pub corner_table : List (List ℕ)
corner_table = (0 ∷ 0 ∷ 2 ∷ []) ∷ (0 ∷ 1 ∷ 1 ∷ []) ∷ (2 ∷ 1 ∷ 2 ∷ []) ∷ []

abbrev pub corner_on : ℕ → ℕ → ℕ
corner_on a b = get_or (get_or corner_table a []) b 0

-- the other way round, from a corner to its two lines, the lower first (that both tables say the same is proved)
abbrev pub line_table : List (List ℕ)
line_table = (0 ∷ 1 ∷ []) ∷ (1 ∷ 2 ∷ []) ∷ (0 ∷ 2 ∷ []) ∷ []

abbrev pub line_of : ℕ → ℕ → ℕ
line_of k i = get_or (get_or line_table k []) i 0

abbrev pub lower_line : ℕ → ℕ
lower_line k = line_of k 0

abbrev pub upper_line : ℕ → ℕ
upper_line k = line_of k 1

-- the two ends of U's edges, in the direction of the walk round U: 0 to 1, 1 to 2, 2 to 0
abbrev pub end_table : List (List ℕ)
end_table = (0 ∷ 1 ∷ []) ∷ (1 ∷ 2 ∷ []) ∷ (2 ∷ 0 ∷ []) ∷ []

abbrev pub end_of : ℕ → ℕ → ℕ
end_of e i = get_or (get_or end_table e []) i 0

abbrev pub start : ℕ → ℕ
start e = end_of e 0

abbrev pub finish : ℕ → ℕ
finish e = end_of e 1

-- the same two, by their numbers
abbrev pub lower_end : ℕ → ℕ
lower_end e = min (start e) (finish e)

abbrev pub higher_end : ℕ → ℕ
higher_end e = max (start e) (finish e)

-- of a vertex's signs the one on line a; true is plus
abbrev pub sign : List Bool → ℕ → Bool
sign s a = get_or s a false

-- of the signs of several vertices those of vertex i, as an edge's walk takes them
abbrev pub signs_at : List (List Bool) → ℕ → ℕ → Bool
signs_at ss i = sign (get_or ss i [])
