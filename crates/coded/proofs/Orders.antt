-- The code's order along an edge is the order of the rules, and it computes the same pair tests: one computed test over all signs and all
-- that the pair tests can say. Assumes nothing.
use mathlib.Core.Path.{◌≡◌, refl, sym, ap, ap₂, subst, ◌∙◌, fun_ext}
use mathlib.Core.Bool.{Bool, true, false, ◌&&◌, beq}
use mathlib.Core.List.Memᴰ.{head as here}
use mathlib.Core.List.Memᴰ.{tail as there}
use mathlib.Core.List.{List, [], ◌∷◌, map, reverse, Memᴰ}
use Prim.Native.Nat.{ℕ, zero, suc}
use lib.Dec.{T, eqb, eqb→eq}
use lib.Ieee.Fits.{and_l, and_r}
use native.Mathlib.Omega.{arith}
use Rattle.floats.specs.Lists.{all, differ}
use Rattle.floats.proofs.Lists.{so, all_at, same_bool, same_list, same_list_lem}
use Rattle.lines.specs.Lines.{three, corner_on, lower_line, upper_line, sign, signs_at}
use Rattle.lines.specs.Crossings.{crosses, some_plus}
use Rattle.lines.specs.declared.Params.{Params}
use Rattle.lines.specs.Parameters.{signs, signs_of}
use Rattle.edges.specs.declared.Order.{Order}
use Rattle.edges.specs.declared.Test.{Test}
use Rattle.order.specs.Order.{Ordering, order_along}
use Rattle.edges.specs.Code.{tested, ordered, order_by, before_in, ordering_from, test_fine, order_of}
use Rattle.order.proofs.Every.{seven, eight, in_seven}
use Rattle.table.specs.Table.{crossed_from, entry_for, crossed_in}
use Rattle.table.proofs.Entries.{reads_crossed}
use Rattle.order.proofs.Edge.{same_order, same_order_lem}

-- ---- tests by corner: of the three corners, and of any other number
abbrev test : Bool → Bool → Test
test first fine = record { first = first; fine = fine }

unfoldable four_tests : List Test
four_tests = test true true ∷ test true false ∷ test false true ∷ test false false ∷ []

in_four : (t : Test) → Memᴰ t four_tests
unfolding four_tests
in_four t = go t.first t.fine
  where
    go : (a b : Bool) → Memᴰ (test a b) four_tests
    go true true = here refl
    go true false = there (here refl)
    go false true = there (there (here refl))
    go false false = there (there (there (here refl)))

unfoldable by_corner : Test → Test → Test → Test → ℕ → Test
by_corner x y z d zero = x
by_corner x y z d (suc zero) = y
by_corner x y z d (suc (suc zero)) = z
by_corner x y z d (suc (suc (suc k))) = d

tested-by_corner : (p q : Params) (s : List Bool) (k : ℕ) → tested p q s k ≡ by_corner (tested p q s 0) (tested p q s 1) (tested p q s 2) (tested p q s 3) k
unfolding by_corner tested
tested-by_corner p q s zero = refl
tested-by_corner p q s (suc zero) = refl
tested-by_corner p q s (suc (suc zero)) = refl
tested-by_corner p q s (suc (suc (suc k))) = refl

-- ---- the computed test
unfoldable same_ordered : Order → Order → Bool
same_ordered a b = eqb a.before b.before && beq a.fine b.fine

same_ordered_lem : (a b : Order) → T (same_ordered a b) → a ≡ b
unfolding same_ordered
same_ordered_lem a b t =
    ap₂ ordered (eqb→eq a.before b.before (and_l (eqb a.before b.before) (beq a.fine b.fine) t))
    (same_bool a.fine b.fine (and_r (eqb a.before b.before) (beq a.fine b.fine) t))

-- the lines of a pair test are those of the corner on them
abbrev cornered : ℕ × ℕ → Bool
cornered t = eqb (lower_line (corner_on t.0 t.1)) t.0 && eqb (upper_line (corner_on t.0 t.1)) t.1

abbrev decides : (ℕ → Test) → List Bool → List Bool → Ordering
decides tests s t = order_along (map (λ k. (tests k).first) three) false (sign s) (sign t)

unfoldable agrees : (ℕ → Test) → List Bool → List Bool → Bool
unfolding all same_ordered order_by before_in order_along
agrees tests s t =
    let d = decides tests s t in
    all cornered d.tests && same_ordered (order_by tests s (crossed_from s t)) (ordered (before_in d.order) (all (λ t. (tests (corner_on t.0 t.1)).fine) d.tests))

unfoldable agrees_with : Test → Test → Test → Test → Bool
unfolding all seven agrees by_corner
agrees_with x y z d = all (λ s. all (agrees (by_corner x y z d) s) seven) seven

all_agree : T (all (λ x. all (λ y. all (λ z. all (agrees_with x y z) four_tests) four_tests) four_tests) four_tests)
unfolding all four_tests agrees_with
all_agree = tt

agrees_at : (tests : ℕ → Test) (x y z d : Test) → tests ≡ by_corner x y z d → (s t : List Bool) → Memᴰ s seven → Memᴰ t seven → T (agrees tests s t)
unfolding agrees_with
agrees_at tests x y z d h s t ms mt =
    subst (λ f. T (agrees f s t)) (sym h)
    (all_at (agrees (by_corner x y z d) s) seven
    (all_at (λ s. all (agrees (by_corner x y z d) s) seven) seven
    (all_at (agrees_with x y z) four_tests
    (all_at (λ z. all (agrees_with x y z) four_tests) four_tests
    (all_at (λ y. all (λ z. all (agrees_with x y z) four_tests) four_tests) four_tests
    (all_at (λ x. all (λ y. all (λ z. all (agrees_with x y z) four_tests) four_tests) four_tests) four_tests all_agree (in_four x)) (in_four y)) (in_four z)) (in_four d)) ms) mt)

-- ---- of any parameters
pub signs_in_seven : (p : Params) → Memᴰ (signs_of p) seven
unfolding signs_of signs
signs_in_seven p = in_seven _ _ _

tests_fine : (p q : Params) (ts : List (ℕ × ℕ)) → T (all cornered ts) → all (λ t. (tested p q (signs_of p) (corner_on t.0 t.1)).fine) ts ≡ all (test_fine p q) ts
unfolding all tested
tests_fine p q [] h = refl
tests_fine p q (t ∷ ts) h =
    let k = and_l (cornered t) (all cornered ts) h in
    let a = eqb→eq (lower_line (corner_on t.0 t.1)) t.0 (and_l (eqb (lower_line (corner_on t.0 t.1)) t.0) (eqb (upper_line (corner_on t.0 t.1)) t.1) k) in
    let b = eqb→eq (upper_line (corner_on t.0 t.1)) t.1 (and_r (eqb (lower_line (corner_on t.0 t.1)) t.0) (eqb (upper_line (corner_on t.0 t.1)) t.1) k) in
    ap₂ ◌&&◌ (ap₂ (λ x y. test_fine p q (x, y)) a b) (tests_fine p q ts (and_r (cornered t) (all cornered ts) h))

pub is_order : (p q : Params) → order_by (tested p q (signs_of p)) (signs_of p) (crossed_from (signs_of p) (signs_of q)) ≡ order_of p q
unfolding agrees order_of ordering_from
is_order p q =
    let tests = tested p q (signs_of p) in
    let d = decides tests (signs_of p) (signs_of q) in
    let t : T (agrees tests (signs_of p) (signs_of q)) =
    agrees_at tests (tests 0) (tests 1) (tests 2) (tests 3) (fun_ext (tested-by_corner p q (signs_of p))) (signs_of p) (signs_of q) (signs_in_seven p) (signs_in_seven q) in
    let fine = all (λ t. (tests (corner_on t.0 t.1)).fine) d.tests in
    same_ordered_lem (order_by tests (signs_of p) (crossed_from (signs_of p) (signs_of q))) (ordered (before_in d.order) fine)
    (and_r (all cornered d.tests) (same_ordered (order_by tests (signs_of p) (crossed_from (signs_of p) (signs_of q))) (ordered (before_in d.order) fine)) t)
    ∙ ap (ordered (before_in d.order))
    (tests_fine p q d.tests (and_l (all cornered d.tests) (same_ordered (order_by tests (signs_of p) (crossed_from (signs_of p) (signs_of q))) (ordered (before_in d.order) fine)) t))

-- ---- the lines that an edge crosses are those that the table has for it
differ_comm : (a b : Bool) → differ a b ≡ differ b a
differ_comm true true = refl
differ_comm true false = refl
differ_comm false true = refl
differ_comm false false = refl

crossed_back : (s t : List Bool) → crossed_from s t ≡ crossed_from t s
crossed_back s t =
    let c : (a : ℕ) → crosses (sign s) (sign t) a ≡ crosses (sign t) (sign s) a = λ a. differ_comm (sign s a) (sign t a) in
    rw (c 0, c 1, c 2) refl

module _ (p q r : List Bool) (mp : Memᴰ p seven) (mq : Memᴰ q seven) (mr : Memᴰ r seven) where
  abbrev ss : List (List Bool)
  ss = p ∷ q ∷ r ∷ []

  plus_somewhere : (s : List Bool) → Memᴰ s seven → some_plus 3 (sign s) ≡ true
  plus_somewhere s m = so (all_at (λ s. some_plus 3 (sign s)) seven (unfold all some_plus seven in tt) m)

  none_minus : all (λ i. some_plus 3 (signs_at ss i)) three ≡ true
  unfolding all
  none_minus = rw (plus_somewhere p mp, plus_somewhere q mq, plus_somewhere r mr) refl

  pub crossed_01 : crossed_in (entry_for ss) 0 ≡ crossed_from p q
  crossed_01 = reads_crossed ss none_minus 0 (omega arith)

  pub crossed_12 : crossed_in (entry_for ss) 1 ≡ crossed_from q r
  crossed_12 = reads_crossed ss none_minus 1 (omega arith)

  -- seen from the lower vertex: edge 2 runs from U2 to U0
  pub crossed_02 : crossed_in (entry_for ss) 2 ≡ crossed_from p r
  crossed_02 = reads_crossed ss none_minus 2 (omega arith) ∙ crossed_back r p

-- ---- an edge that is walked from its higher vertex has the same pair tests, and the order the other way round
same_tests : List (ℕ × ℕ) → List (ℕ × ℕ) → Bool
same_tests = same_list (λ s t. eqb s.0 t.0 && eqb s.1 t.1)

same_tests_lem : (x y : List (ℕ × ℕ)) → T (same_tests x y) → x ≡ y
unfolding same_tests
same_tests_lem = same_list_lem _ (λ s t h. ap₂ (λ a b. (a, b)) (eqb→eq s.0 t.0 (and_l (eqb s.0 t.0) (eqb s.1 t.1) h)) (eqb→eq s.1 t.1 (and_r (eqb s.0 t.0) (eqb s.1 t.1) h)))

unfoldable walked_back : List Bool → List Bool → List Bool → Bool
unfolding order_along same_order same_tests same_list
walked_back t p q =
    let back = order_along t true (sign q) (sign p) in
    let d = order_along t false (sign p) (sign q) in
    same_order (reverse back.order) d.order && same_tests back.tests d.tests

all-walked_back : T (all (λ t. all (λ p. all (walked_back t p) seven) seven) eight)
unfolding all seven eight walked_back
all-walked_back = tt

module _ (t p q : List Bool) (mt : Memᴰ t eight) (mp : Memᴰ p seven) (mq : Memᴰ q seven) where
  abbrev back : Ordering
  back = order_along t true (sign q) (sign p)

  abbrev forth : Ordering
  forth = order_along t false (sign p) (sign q)

  is_walked_back : T (same_order (reverse back.order) forth.order && same_tests back.tests forth.tests)
  unfolding walked_back
  is_walked_back = all_at (walked_back t p) seven (all_at (λ p. all (walked_back t p) seven) seven (all_at (λ t. all (λ p. all (walked_back t p) seven) seven) eight all-walked_back mt) mp) mq

  pub back-order : reverse back.order ≡ forth.order
  back-order = same_order_lem _ _ (and_l (same_order (reverse back.order) forth.order) (same_tests back.tests forth.tests) is_walked_back)

  pub back-tests : back.tests ≡ forth.tests
  back-tests = same_tests_lem _ _ (and_r (same_order (reverse back.order) forth.order) (same_tests back.tests forth.tests) is_walked_back)
