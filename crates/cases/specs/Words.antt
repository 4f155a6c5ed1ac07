-- A text in lines, a line in words: what stands before the first byte of a kind. Definitions only.
use Rattle.std.specs.Prelude.{ℕ, cond, List, [], ◌∷◌, drop, eqb}
use Rattle.cases.specs.declared.EachLine.{EachLine}

-- the bytes before the first `stop`; all, if there is none
unfoldable pub before : ℕ → List ℕ → List ℕ
before stop [] = []
before stop (b ∷ rest) = cond (eqb b stop) [] (b ∷ before stop rest)

-- the same from a place of the text on
abbrev pub until : List ℕ → ℕ → ℕ → List ℕ
until text from stop = before stop (drop from text)

-- ---- the lines of a text
-- with one more byte at the front of the first line
abbrev pub longer : ℕ → List (List ℕ) → List (List ℕ)
longer b [] = (b ∷ []) ∷ []
longer b (line ∷ lines) = (b ∷ line) ∷ lines

-- a line feed ends a line, and behind the last one there is none
unfoldable pub lines_of : List ℕ → List (List ℕ)
lines_of [] = []
lines_of (b ∷ rest) = cond (eqb b 10) ([] ∷ lines_of rest) (longer b (lines_of rest))

-- those that are still to come
abbrev pub lines_left : EachLine → List (List ℕ)
lines_left l = lines_of l.rest.now
