-- 01, "Crossings and their order along an edge": the order of two and of three lines, and which pair tests are computed.
-- From signs and outcomes of pair tests alone. Definitions only.
use Rattle.std.specs.Prelude.{Bool, false, not, ◌&&◌, cond, List, [], ◌∷◌, ◌++◌, reverse, map, ℕ, min, max, eqb, ltb, get_or, length}
use Rattle.floats.specs.Lists.{filter, differ}
use Rattle.lines.specs.Lines.{lines, three, corner_on, start, finish, signs_at}
use Rattle.lines.specs.Crossings.{crossed, admissible}

-- the lines of an edge in the order in which they are met, and the pair tests computed to find it, the lower line first
pub record Ordering : Type 0 where
  pub order : List ℕ
  pub tests : List (ℕ × ℕ)

abbrev pub ordering : List ℕ → List (ℕ × ℕ) → Ordering
ordering o ts = record { order = o; tests = ts }

-- line a is met before line b, by the outcomes t of an edge: the outcome of the two, turned once if a is the higher line, and once more if the
-- walk starts at the edge's higher vertex (back)
unfoldable pub before : List Bool → Bool → ℕ → ℕ → Bool
before t back a b = differ back (differ (ltb b a) (get_or t (corner_on a b) false))

-- the pair test that tells a from b
abbrev pub pair_of : ℕ → ℕ → ℕ × ℕ
pair_of a b = (min a b, max a b)

-- two lines crossed, from the signs s: where just one order is admissible it is taken, with no pair test; else the pair test is asked
unfoldable pub two_lines : (ℕ → ℕ → Bool) → (ℕ → Bool) → ℕ → ℕ → Ordering
unfolding admissible
two_lines first s a b =
    let ab = admissible 3 s (a ∷ b ∷ []) in
    let ba = admissible 3 s (b ∷ a ∷ []) in
    cond (ab && not ba) (ordering (a ∷ b ∷ []) [])
    (cond (ba && not ab) (ordering (b ∷ a ∷ []) [])
    (cond (first a b) (ordering (a ∷ b ∷ []) (pair_of a b ∷ [])) (ordering (b ∷ a ∷ []) (pair_of a b ∷ []))))

-- three lines crossed, seen from a vertex that is minus on c alone, with a < b the two others. If a is before c: a, c, b. If not, and b is
-- before c: b, c, a. If neither is: c, and then a and b as their own test has them
unfoldable pub around : (ℕ → ℕ → Bool) → ℕ → ℕ → ℕ → Ordering
around first c a b =
    cond (first a c) (ordering (a ∷ c ∷ b ∷ []) (pair_of a c ∷ []))
    (cond (first b c) (ordering (b ∷ c ∷ a ∷ []) (pair_of a c ∷ pair_of b c ∷ []))
    (ordering (c ∷ cond (first a b) (a ∷ b ∷ []) (b ∷ a ∷ [])) (pair_of a c ∷ pair_of b c ∷ pair_of a b ∷ [])))

-- the lines on which s is minus, and those on which it is plus
unfoldable pub minus_of : (ℕ → Bool) → List ℕ
unfolding filter lines
minus_of s = filter (λ a. not (s a)) (lines 3)

unfoldable pub plus_of : (ℕ → Bool) → List ℕ
unfolding filter lines
plus_of s = filter s (lines 3)

unfoldable pub from_end : (ℕ → ℕ → Bool) → (ℕ → Bool) → Ordering
unfolding around minus_of plus_of
from_end first s = around first (get_or (minus_of s) 0 0) (get_or (plus_of s) 0 0) (get_or (plus_of s) 1 0)

-- the same, seen from the other end
abbrev pub from_other_end : Ordering → Ordering
from_other_end d = ordering (reverse d.order) d.tests

-- of the two ends one is minus on one line and one on two: start at the first kind
unfoldable pub three_lines : List Bool → Bool → (ℕ → Bool) → (ℕ → Bool) → Ordering
unfolding from_end minus_of before
three_lines t back p q = cond (eqb (length (minus_of p)) 1) (from_end (before t back) p) (from_other_end (from_end (before t (not back)) q))

-- by the lines that the edge from p to q crosses
unfoldable pub ordering_by : List Bool → Bool → (ℕ → Bool) → (ℕ → Bool) → List ℕ → Ordering
unfolding two_lines three_lines before
ordering_by t back p q [] = ordering [] []
ordering_by t back p q (a ∷ []) = ordering (a ∷ []) []
ordering_by t back p q (a ∷ b ∷ []) = two_lines (before t back) p a b
ordering_by t back p q (a ∷ b ∷ c ∷ r) = three_lines t back p q

-- the order along an edge from the signs p to the signs q, walked from p; back where p stands at the end with the higher number
unfoldable pub order_along : List Bool → Bool → (ℕ → Bool) → (ℕ → Bool) → Ordering
unfolding ordering_by crossed
order_along t back p q = ordering_by t back p q (crossed 3 p q)

-- edge e of U, with the signs ss of U's vertices and the outcomes ts e of its pair tests
unfoldable pub ordering_on : List (List Bool) → (ℕ → List Bool) → ℕ → Ordering
unfolding order_along
ordering_on ss ts e = order_along (ts e) (ltb (finish e) (start e)) (signs_at ss (start e)) (signs_at ss (finish e))

-- the orders of all three edges
unfoldable pub orders_of : List (List Bool) → (ℕ → List Bool) → List (List ℕ)
unfolding ordering_on
orders_of ss ts = map (λ e. (ordering_on ss ts e).order) three

abbrev pub order_at : List (List ℕ) → ℕ → List ℕ
order_at os e = get_or os e []

-- ---- all admissible orders, of which the rules above always take one (a law)
-- every way to put x into a list, and every order of a list
unfoldable pub insertions : ℕ → List ℕ → List (List ℕ)
insertions x [] = (x ∷ []) ∷ []
insertions x (y ∷ ys) = (x ∷ y ∷ ys) ∷ map (λ l. y ∷ l) (insertions x ys)

unfoldable pub every_insertion : ℕ → List (List ℕ) → List (List ℕ)
unfolding insertions
every_insertion x [] = []
every_insertion x (l ∷ ls) = insertions x l ++ every_insertion x ls

unfoldable pub arrangements : List ℕ → List (List ℕ)
unfolding every_insertion
arrangements [] = [] ∷ []
arrangements (x ∷ xs) = every_insertion x (arrangements xs)

-- the admissible orders of an edge from the signs p to the signs q: those with no stretch that is minus on all lines
unfoldable pub admissible_orders : ℕ → (ℕ → Bool) → (ℕ → Bool) → List (List ℕ)
unfolding filter arrangements admissible crossed
admissible_orders n p q = filter (admissible n p) (arrangements (crossed n p q))
