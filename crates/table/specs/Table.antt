-- 02, No. 5, "One table for the signs": how the table's index and its entries are made up, and what the rules say of each entry. Definitions and a statement.
-- Both are octal numbers. A digit holds three truth values: 4 stands for the first, 2 for the second, 1 for the third.
use Rattle.std.specs.Prelude.{◌≡◌, Bool, false, cond, List, [], ◌∷◌, map, ℕ, ◌+◌, ◌*◌, ◌/◌, ◌%◌, ◌<◌, eqb, get_or}
use Rattle.floats.specs.Lists.{all}
use Rattle.lines.specs.Lines.{three, start, finish, sign, signs_at}
use Rattle.lines.specs.Crossings.{crosses, some_plus}
use Rattle.ring.specs.Flags.{vertex_in}

-- ---- digits
abbrev pub digit_of : List Bool → ℕ
digit_of s = cond (sign s 0) 4 0 + cond (sign s 1) 2 0 + cond (sign s 2) 1 0

-- and back; of a longer number, its last digit
abbrev pub flags_in : ℕ → List Bool
flags_in d = eqb (d / 4 % 2) 1 ∷ eqb (d / 2 % 2) 1 ∷ eqb (d % 2) 1 ∷ []

-- ---- the index: a digit for each of U0, U1 and U2, its signs on the lines 0, 1 and 2, plus being true
abbrev pub index_of : List (List Bool) → ℕ
index_of ss = 64 * digit_of (get_or ss 0 []) + 8 * digit_of (get_or ss 1 []) + digit_of (get_or ss 2 [])

-- and back
abbrev pub signs_in : ℕ → List (List Bool)
signs_in i = flags_in (i / 64) ∷ flags_in (i / 8) ∷ flags_in i ∷ []

-- ---- the entry, as the rules have it: a digit for the vertices that are in V, and one for each of the edges 0, 1 and 2, the lines that it crosses;
-- 0 where a vertex is minus three times
-- the lines that an edge from the signs s to the signs t crosses
abbrev pub crossed_from : List Bool → List Bool → ℕ
crossed_from s t = digit_of (map (crosses (sign s) (sign t)) three)

-- those of edge e
abbrev pub crossed_lines : List (List Bool) → ℕ → ℕ
crossed_lines ss e = crossed_from (get_or ss (start e) []) (get_or ss (finish e) [])

-- the vertices that are in V
unfoldable pub in_v_of : List (List Bool) → ℕ
unfolding vertex_in
in_v_of ss = digit_of (map (vertex_in (signs_at ss)) three)

unfoldable pub entry_for : List (List Bool) → ℕ
unfolding all some_plus in_v_of
entry_for ss = cond (all (λ i. some_plus 3 (signs_at ss i)) three) (512 * in_v_of ss + 64 * crossed_lines ss 0 + 8 * crossed_lines ss 1 + crossed_lines ss 2) 0

-- ---- number i of a table in blocks of sixteen rows of four
unfoldable pub number_in : List (List (List ℕ)) → ℕ → ℕ
number_in blocks i = get_or (get_or (get_or blocks (i / 64) []) (i / 4 % 16) []) (i % 4) 0

-- ---- an entry's digits; of an edge that there is not, 0
abbrev pub in_v_in : ℕ → ℕ
in_v_in entry = entry / 512

abbrev pub crossed_in : ℕ → ℕ → ℕ
crossed_in entry e = cond (eqb e 0) (entry / 64 % 8) (cond (eqb e 1) (entry / 8 % 8) (cond (eqb e 2) (entry % 8) 0))

-- ---- the same said apart from the definition, truth value by truth value: what an entry tells, read off its digits
pub record Tells (ss : List (List Bool)) : Type 0 where
  -- edge e crosses line a
  pub crossings : (e a : ℕ) → e < 3 → a < 3 → sign (flags_in (crossed_in (entry_for ss) e)) a ≡ crosses (signs_at ss (start e)) (signs_at ss (finish e)) a
  -- vertex i is in V
  pub vertices : (i : ℕ) → i < 3 → sign (flags_in (in_v_in (entry_for ss))) i ≡ vertex_in (signs_at ss) i

-- vertex i is minus three times
abbrev pub MinusThrice : List (List Bool) → ℕ → Type 0
MinusThrice ss i = (a : ℕ) → a < 3 → signs_at ss i a ≡ false

-- of all signs: an entry tells so where no vertex is minus three times, and where one is, it is 0
pub record TableTells : Type 0 where
  pub told : (ss : List (List Bool)) → ((i : ℕ) → i < 3 → MinusThrice ss i → ⊥) → Tells ss
  pub holds_zero : (ss : List (List Bool)) (i : ℕ) → i < 3 → MinusThrice ss i → entry_for ss ≡ 0
