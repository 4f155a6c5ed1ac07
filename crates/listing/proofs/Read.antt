-- The list is read back from its text, and a refusal from its line. Assumes nothing.
use Prim.Native.Nat.{ℕ, suc, ◌+◌, ◌-◌, ◌*◌, ◌<◌}
use mathlib.Core.Path.{◌≡◌, refl, sym, ap, ◌∙◌}
use mathlib.Core.Bool.{true, false}
use mathlib.Core.List.Memᴰ.{head as here}
use mathlib.Core.List.Memᴰ.{tail as there}
use mathlib.Core.List.{List, [], ◌∷◌, ◌++◌, append_assoc}
use native.Mathlib.Omega.{arith}
use lib.Dec.{eqb}
use borrow.Author.Tests.{ne_eqb}
use lib.ListN.{length, length-append}
use Rattle.floats.specs.Lists.{count}
use Rattle.floats.proofs.Lists.{count-append}
use Rattle.text.specs.Decimal.{decimal, read_on}
use Rattle.text.proofs.Decimal.{AllDigits, is_digit_lem, decimals}
use Rattle.listing.specs.Turns.{each}
use Rattle.listing.specs.Leaks.{Leak, leaks, touching, formerly_held_back}
use Rattle.listing.specs.Words.{leaks_word, test_word, train_word, pairs_word, touching_word, formerly_word, refused_word, at_word, feed, count_line, first_line, leak_line, leak_lines, touching_line, formerly_line, all_but_last, text_of, list_text, refused_line}
use Rattle.listing.specs.Read.{numbers_by, numbers_in, feeds, three_of, ListsReadBack, RefusalsReadBack}

none_before : (m : ℕ) → 0 + m ≡ m
none_before m = omega arith

-- ---- a run of digits
run : (n : ℕ) (xs ys : List ℕ) → AllDigits xs → numbers_by true n (xs ++ ys) ≡ numbers_by true (read_on n xs) ys
unfolding numbers_by read_on
run n [] ys d = refl
run n (x ∷ xs) ys d = let h = d x (here refl) in rw (is_digit_lem x h.0 h.1) (run (10 * n + (x - 48)) xs ys (λ b m. d b (there m)))

begun : (xs ys : List ℕ) → AllDigits xs → 0 < length xs → numbers_by false 0 (xs ++ ys) ≡ numbers_by true (read_on 0 xs) ys
unfolding numbers_by read_on
begun [] ys d h = absurd (omega (arith, h))
begun (x ∷ xs) ys d h = let g = d x (here refl) in rw (is_digit_lem x g.0 g.1) (run (x - 48) xs ys (λ b m. d b (there m)) ∙ ap (λ k. numbers_by true (read_on k xs) ys) (sym (none_before (x - 48))))

number : (n : ℕ) (ys : List ℕ) → numbers_by false 0 (decimal n ++ ys) ≡ numbers_by true n ys
number n ys = let d = decimals n in begun (decimal n) ys d.digits d.some ∙ ap (λ k. numbers_by true k ys) d.reads_back

-- ---- no line feed in a number
no_feed : (xs : List ℕ) → AllDigits xs → feeds xs ≡ 0
unfolding count
no_feed [] d = refl
no_feed (x ∷ xs) d = let h = d x (here refl) in let g = h.0 in rw (ne_eqb 10 x (λ e. omega (arith, e, g)), no_feed xs (λ b m. d b (there m))) refl

feeds_number : (n : ℕ) (ys : List ℕ) → feeds (decimal n ++ ys) ≡ feeds ys
feeds_number n ys = count-append (eqb 10) (decimal n) ys ∙ (ap (λ k. k + feeds ys) (no_feed (decimal n) (decimals n).digits) ∙ none_before (feeds ys))

-- ---- a line is put together from the left; here it is taken apart from the left
five : (a b c d e : List ℕ) → a ++ b ++ c ++ d ++ e ≡ a ++ (b ++ (c ++ (d ++ e)))
five a b c d e = append_assoc (a ++ b ++ c) d e ∙ (append_assoc (a ++ b) c (d ++ e) ∙ append_assoc a b (c ++ (d ++ e)))

eight : (a b c d e f g h : List ℕ) → a ++ b ++ c ++ d ++ e ++ f ++ g ++ h ≡ a ++ (b ++ (c ++ (d ++ (e ++ (f ++ (g ++ h))))))
eight a b c d e f g h = append_assoc (a ++ b ++ c ++ d ++ e ++ f) g h ∙ (append_assoc (a ++ b ++ c ++ d ++ e) f (g ++ h) ∙ (append_assoc (a ++ b ++ c ++ d) e (f ++ (g ++ h)) ∙ five a b c d (e ++ (f ++ (g ++ h)))))

-- ---- the leak lines
line_apart : (l : Leak) (ys : List ℕ) → leak_line l ++ ys ≡ test_word ++ (decimal l.test ++ (train_word ++ (decimal l.train ++ (pairs_word ++ (decimal l.pairs ++ (feed ++ ys))))))
unfolding leak_line
line_apart l ys = eight test_word (decimal l.test) train_word (decimal l.train) pairs_word (decimal l.pairs) feed ys

leak_numbers : (l : Leak) (ys : List ℕ) → numbers_in (leak_line l ++ ys) ≡ l.test ∷ l.train ∷ l.pairs ∷ numbers_in ys
unfolding numbers_by
leak_numbers l ys = ap numbers_in (line_apart l ys) ∙ (number l.test _ ∙ ap (λ k. l.test ∷ k) (number l.train _ ∙ ap (λ k. l.train ∷ k) (number l.pairs (feed ++ ys))))

leak_feeds : (l : Leak) (ys : List ℕ) → feeds (leak_line l ++ ys) ≡ suc (feeds ys)
unfolding count
leak_feeds l ys = ap feeds (line_apart l ys) ∙ (feeds_number l.test _ ∙ (feeds_number l.train _ ∙ feeds_number l.pairs (feed ++ ys)))

lines_numbers : (ls : List Leak) (ys : List ℕ) → numbers_in (leak_lines ls ++ ys) ≡ each three_of ls ++ numbers_in ys
unfolding leak_lines each
lines_numbers [] ys = refl
lines_numbers (l ∷ ls) ys = ap numbers_in (append_assoc (leak_line l) (leak_lines ls) ys) ∙ (leak_numbers l (leak_lines ls ++ ys) ∙ ap (λ k. l.test ∷ l.train ∷ l.pairs ∷ k) (lines_numbers ls ys))

lines_feeds : (ls : List Leak) (ys : List ℕ) → feeds (leak_lines ls ++ ys) ≡ length ls + feeds ys
unfolding leak_lines each
lines_feeds [] ys = sym (none_before (feeds ys))
lines_feeds (l ∷ ls) ys = ap feeds (append_assoc (leak_line l) (leak_lines ls) ys) ∙ (leak_feeds l (leak_lines ls ++ ys) ∙ (ap suc (lines_feeds ls ys) ∙ one_more (length ls) (feeds ys)))
  where
    one_more : (m n : ℕ) → suc (m + n) ≡ suc m + n
    one_more m n = omega arith

-- ---- a line of a word and a number
count_apart : (word : List ℕ) (k : ℕ) (ys : List ℕ) → count_line word k ++ ys ≡ word ++ (decimal k ++ (feed ++ ys))
unfolding count_line
count_apart word k ys = append_assoc (word ++ decimal k) feed ys ∙ append_assoc word (decimal k) (feed ++ ys)

count_last : (word : List ℕ) (k : ℕ) → count_line word k ≡ word ++ (decimal k ++ feed)
unfolding count_line
count_last word k = append_assoc word (decimal k) feed

pub count_length : (word : List ℕ) (k : ℕ) → length (count_line word k) ≡ length word + length (decimal k) + 1
unfolding count_line
count_length word k = simp length-append (omega arith)

-- ---- the two closing lines
abbrev closing : ℕ → ℕ → List ℕ
closing t k = touching_line t ++ formerly_line k

formerly_numbers : (k : ℕ) → numbers_in (formerly_line k) ≡ k ∷ []
unfolding numbers_by
formerly_numbers k = ap numbers_in (count_last formerly_word k) ∙ number k feed

closing_numbers : (t k : ℕ) → numbers_in (closing t k) ≡ t ∷ k ∷ []
unfolding numbers_by
closing_numbers t k = ap numbers_in (count_apart touching_word t (formerly_line k)) ∙ (number t (feed ++ formerly_line k) ∙ ap (λ r. t ∷ r) (formerly_numbers k))

formerly_feeds : (k : ℕ) → feeds (formerly_line k) ≡ 1
unfolding count
formerly_feeds k = ap feeds (count_last formerly_word k) ∙ feeds_number k feed

closing-feeds : (t k : ℕ) → feeds (closing t k) ≡ 2
unfolding count
closing-feeds t k = ap feeds (count_apart touching_word t (formerly_line k)) ∙ (feeds_number t (feed ++ formerly_line k) ∙ ap suc (formerly_feeds k))

-- ---- the list
list_apart : (ls : List Leak) (t k : ℕ) → text_of ls t k ≡ leaks_word ++ (decimal (length ls) ++ (feed ++ (leak_lines ls ++ closing t k)))
unfolding text_of all_but_last
list_apart ls t k = append_assoc (first_line (length ls) ++ leak_lines ls) (touching_line t) (formerly_line k) ∙ (append_assoc (first_line (length ls)) (leak_lines ls) (closing t k) ∙ count_apart leaks_word (length ls) (leak_lines ls ++ closing t k))

list_numbers : (ls : List Leak) (t k : ℕ) → numbers_in (text_of ls t k) ≡ length ls ∷ (each three_of ls ++ (t ∷ k ∷ []))
unfolding numbers_by
list_numbers ls t k =
    ap numbers_in (list_apart ls t k)
    ∙ (number (length ls) (feed ++ (leak_lines ls ++ closing t k)) ∙ ap (λ r. length ls ∷ r) (lines_numbers ls (closing t k) ∙ ap (λ r. each three_of ls ++ r) (closing_numbers t k)))

list_feeds : (ls : List Leak) (t k : ℕ) → feeds (text_of ls t k) ≡ length ls + 3
unfolding count
list_feeds ls t k =
    ap feeds (list_apart ls t k)
    ∙ (feeds_number (length ls) (feed ++ (leak_lines ls ++ closing t k)) ∙ (ap suc (lines_feeds ls (closing t k) ∙ ap (λ n. length ls + n) (closing-feeds t k)) ∙ one_more (length ls)))
  where
    one_more : (m : ℕ) → suc (m + 2) ≡ m + 3
    one_more m = omega arith

pub lists_read_back : ListsReadBack
unfolding list_text
lists_read_back file = record { numbers = list_numbers (leaks file) (touching file) (formerly_held_back file); lines = list_feeds (leaks file) (touching file) (formerly_held_back file) }

-- ---- a refusal
refusal_numbers : (n p : ℕ) → numbers_in (refused_word ++ decimal n ++ at_word ++ decimal p ++ feed) ≡ n ∷ p ∷ []
unfolding numbers_by
refusal_numbers n p = ap numbers_in (five refused_word (decimal n) at_word (decimal p) feed) ∙ (number n _ ∙ ap (λ k. n ∷ k) (number p feed))

refusal_feeds : (n p : ℕ) → feeds (refused_word ++ decimal n ++ at_word ++ decimal p ++ feed) ≡ 1
unfolding count
refusal_feeds n p = ap feeds (five refused_word (decimal n) at_word (decimal p) feed) ∙ (feeds_number n _ ∙ feeds_number p feed)

pub refusals_read_back : RefusalsReadBack
unfolding refused_line
refusals_read_back v = record { numbers = refusal_numbers v.number v.place; lines = refusal_feeds v.number v.place }
