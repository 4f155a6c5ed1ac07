-- Every entry of the table is what the rules say of its index: one computed test, and the law that carries it to each index. Assumes nothing.
use mathlib.Core.Path.{◌≡◌, refl, sym, ap, subst, ◌∙◌}
use mathlib.Core.Bool.{Bool, true, ◌&&◌}
use mathlib.Core.List.{List, [], ◌∷◌, map}
use Prim.Native.Nat.{ℕ, zero, suc, ◌+◌, ◌*◌, ◌/◌, ◌%◌, ◌<◌}
use native.Mathlib.Nat.{add-zero, zero-add}
use native.Mathlib.Omega.{arith}
use lib.Dec.{T, eqb, eqb→eq}
use lib.Ieee.Fits.{and_l, and_r}
use lib.ListN.{length, get_or}
use Rattle.floats.specs.Lists.{all}
use Rattle.floats.proofs.Lists.{taken}
use Rattle.lines.specs.Lines.{three, start, finish, signs_at}
use Rattle.lines.specs.Crossings.{crosses, some_plus}
use Rattle.ring.specs.Flags.{vertex_in}
use Rattle.table.specs.Table.{index_of, signs_in, crossed_lines, in_v_of, entry_for, number_in, in_v_in, crossed_in}
use Rattle.table.proofs.Digits.{digit_below, signs_back}

-- ---- the test: of a row, of rows of four, of blocks of sixteen rows, i being the first index
unfoldable right_row : ℕ → List ℕ → Bool
unfolding entry_for
right_row i [] = true
right_row i (x ∷ xs) = eqb x (entry_for (signs_in i)) && right_row (i + 1) xs

unfoldable right_rows : ℕ → List (List ℕ) → Bool
unfolding right_row
right_rows i [] = true
right_rows i (r ∷ rs) = (eqb (length r) 4 && right_row i r) && right_rows (i + 4) rs

unfoldable right_blocks : ℕ → List (List (List ℕ)) → Bool
unfolding right_rows
right_blocks i [] = true
right_blocks i (b ∷ bs) = (eqb (length b) 16 && right_rows i b) && right_blocks (i + 64) bs

-- every number of the table is what the rules say of its index
unfoldable pub right : List (List (List ℕ)) → Bool
unfolding right_blocks
right blocks = eqb (length blocks) 8 && right_blocks 0 blocks

-- ---- the law
abbrev entry : ℕ → ℕ
entry i = entry_for (signs_in i)

-- where the test passes, the first part has its length and passes, and so does the rest
long : (n m : ℕ) (t rest : Bool) → T ((eqb n m && t) && rest) → n ≡ m
long n m t rest h = eqb→eq n m (and_l (eqb n m) t (and_l (eqb n m && t) rest h))

passes : (n m : ℕ) (t rest : Bool) → T ((eqb n m && t) && rest) → T t
passes n m t rest h = and_r (eqb n m) t (and_l (eqb n m && t) rest h)

at_column : (i : ℕ) (xs : List ℕ) → T (right_row i xs) → (k : ℕ) → k < length xs → get_or xs k 0 ≡ entry (i + k)
unfolding right_row
at_column i [] t k h = absurd (omega (arith, h))
at_column i (x ∷ xs) t zero h = eqb→eq x (entry i) (and_l (eqb x (entry i)) (right_row (i + 1) xs) t) ∙ ap entry (sym (add-zero i))
at_column i (x ∷ xs) t (suc k) h = at_column (i + 1) xs (and_r (eqb x (entry i)) (right_row (i + 1) xs) t) k (omega (arith, h)) ∙ ap entry (next i k)
  where
    next : (i k : ℕ) → i + 1 + k ≡ i + suc k
    next i k = omega arith

at_row : (i : ℕ) (rs : List (List ℕ)) → T (right_rows i rs) → (j : ℕ) → j < length rs → (k : ℕ) → k < 4 → get_or (get_or rs j []) k 0 ≡ entry (i + (4 * j + k))
unfolding right_rows
at_row i [] t j h k l = absurd (omega (arith, h))
at_row i (r ∷ rs) t zero h k l =
    at_column i r (passes (length r) 4 (right_row i r) (right_rows (i + 4) rs) t) k (subst (λ n. k < n) (sym (long (length r) 4 (right_row i r) (right_rows (i + 4) rs) t)) l)
    ∙ ap (λ n. entry (i + n)) (sym (zero-add k))
at_row i (r ∷ rs) t (suc j) h k l = at_row (i + 4) rs (and_r (eqb (length r) 4 && right_row i r) (right_rows (i + 4) rs) t) j (omega (arith, h)) k l ∙ ap entry (next i j k)
  where
    next : (i j k : ℕ) → i + 4 + (4 * j + k) ≡ i + (4 * suc j + k)
    next i j k = omega arith

at_block : (i : ℕ) (bs : List (List (List ℕ))) → T (right_blocks i bs) → (b : ℕ) → b < length bs → (j : ℕ) → j < 16 → (k : ℕ) → k < 4 → get_or (get_or (get_or bs b []) j []) k 0 ≡ entry (i + (64 * b + (4 * j + k)))
unfolding right_blocks
at_block i [] t b h j l k m = absurd (omega (arith, h))
at_block i (c ∷ bs) t zero h j l k m =
    at_row i c (passes (length c) 16 (right_rows i c) (right_blocks (i + 64) bs) t) j (subst (λ n. j < n) (sym (long (length c) 16 (right_rows i c) (right_blocks (i + 64) bs) t)) l) k m
    ∙ ap (λ n. entry (i + n)) (sym (zero-add (4 * j + k)))
at_block i (c ∷ bs) t (suc b) h j l k m =
    at_block (i + 64) bs (and_r (eqb (length c) 16 && right_rows i c) (right_blocks (i + 64) bs) t) b (omega (arith, h)) j l k m ∙ ap entry (next i b (4 * j + k))
  where
    next : (i b n : ℕ) → i + 64 + (64 * b + n) ≡ i + (64 * suc b + n)
    next i b n = omega arith

place : (i : ℕ) → 64 * (i / 64) + (4 * (i / 4 % 16) + i % 4) ≡ i
place i = omega arith

pub in_right : (blocks : List (List (List ℕ))) → T (right blocks) → (i : ℕ) → i < 512 → number_in blocks i ≡ entry_for (signs_in i)
unfolding right number_in
in_right blocks t i h =
    let eight = eqb→eq (length blocks) 8 (and_l (eqb (length blocks) 8) (right_blocks 0 blocks) t) in
    let inside : i / 64 < 8 = omega (arith, h) in
    at_block 0 blocks (and_r (eqb (length blocks) 8) (right_blocks 0 blocks) t) (i / 64) (subst (λ n. i / 64 < n) (sym eight) inside) (i / 4 % 16) (omega arith) (i % 4) (omega arith) ∙ ap entry (zero-add (64 * (i / 64) + (4 * (i / 4 % 16) + i % 4)) ∙ place i)

-- so the entry at the index of nine signs is what the rules say of them
pub at_index : (ss : List (List Bool)) → entry_for (signs_in (index_of ss)) ≡ entry_for ss
unfolding entry_for in_v_of vertex_in all some_plus
at_index ss = ap entry_for (signs_back ss) ∙ refl

module _ (a b c d : ℕ) (hb : b < 8) (hc : c < 8) (hd : d < 8) where
  first_of_four : (512 * a + 64 * b + 8 * c + d) / 512 ≡ a
  first_of_four = omega (arith, hb, hc, hd)

  second_of_four : (512 * a + 64 * b + 8 * c + d) / 64 % 8 ≡ b
  second_of_four = omega (arith, hb, hc, hd)

  third_of_four : (512 * a + 64 * b + 8 * c + d) / 8 % 8 ≡ c
  third_of_four = omega (arith, hc, hd)

  fourth_of_four : (512 * a + 64 * b + 8 * c + d) % 8 ≡ d
  fourth_of_four = omega (arith, hd)

crossed_below : (ss : List (List Bool)) (e : ℕ) → crossed_lines ss e < 8
crossed_below ss e = digit_below (map (crosses (signs_at ss (start e)) (signs_at ss (finish e))) three)

-- ---- an entry read back, digit by digit, where no vertex is minus three times
module _ (ss : List (List Bool)) (h : all (λ i. some_plus 3 (signs_at ss i)) three ≡ true) where
  whole : entry_for ss ≡ 512 * in_v_of ss + 64 * crossed_lines ss 0 + 8 * crossed_lines ss 1 + crossed_lines ss 2
  unfolding entry_for
  whole = sym (taken 0 h refl)

  pub reads_in_v : in_v_in (entry_for ss) ≡ in_v_of ss
  reads_in_v = ap in_v_in whole ∙ first_of_four (in_v_of ss) _ _ _ (crossed_below ss 0) (crossed_below ss 1) (crossed_below ss 2)

  pub reads_crossed : (e : ℕ) → e < 3 → crossed_in (entry_for ss) e ≡ crossed_lines ss e
  reads_crossed zero k = ap (λ n. crossed_in n 0) whole ∙ second_of_four (in_v_of ss) _ _ _ (crossed_below ss 0) (crossed_below ss 1) (crossed_below ss 2)
  reads_crossed (suc zero) k = ap (λ n. crossed_in n 1) whole ∙ third_of_four (in_v_of ss) _ _ _ (crossed_below ss 0) (crossed_below ss 1) (crossed_below ss 2)
  reads_crossed (suc (suc zero)) k = ap (λ n. crossed_in n 2) whole ∙ fourth_of_four (in_v_of ss) _ _ _ (crossed_below ss 0) (crossed_below ss 1) (crossed_below ss 2)
  reads_crossed (suc (suc (suc e))) k = absurd (omega (arith, k))
