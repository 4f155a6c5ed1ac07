-- The lines of lists and refusals: how long they are, and that their words and numbers, one behind the other, are the lines. Assumes nothing.
use Prim.Native.Nat.{ℕ, ◌+◌, ◌<◌, ◌≤◌}
use mathlib.Core.Path.{◌≡◌, refl}
use mathlib.Core.List.{List, ◌++◌}
use native.Mathlib.Omega.{arith}
use lib.ListN.{length, length-append}
use Rattle.text.specs.Decimal.{decimal}
use Rattle.text.proofs.Laws.{width_most}
use Rattle.layout.specs.Verdict.{number_at}
use Rattle.listing.specs.Words.{test_word, train_word, pairs_word, leaks_word, touching_word, formerly_word, refused_word, at_word, feed, count_line, first_line, leak_line, touching_line, formerly_line, refused_line}
use Rattle.listing.proofs.Read.{count_length}
use Rattle.wording.specs.Lines.{leak_line_of}

pub line_length : (t r n : ℕ) → length (leak_line_of t r n) ≡ 20 + length (decimal t) + length (decimal r) + length (decimal n)
unfolding leak_line
line_length t r n = simp length-append (omega arith)

pub line_is : (t r n : ℕ) → test_word ++ decimal t ++ train_word ++ decimal r ++ pairs_word ++ decimal n ++ feed ≡ leak_line_of t r n
unfolding leak_line
line_is t r n = refl

pub count_is : (word : List ℕ) (k : ℕ) → word ++ decimal k ++ feed ≡ count_line word k
unfolding count_line
count_is word k = refl

pub first_length : (k : ℕ) → length (first_line k) ≡ 7 + length (decimal k)
first_length k = let e = count_length leaks_word k in omega (arith, e)

pub touching_length : (k : ℕ) → length (touching_line k) ≡ 10 + length (decimal k)
touching_length k = let e = count_length touching_word k in omega (arith, e)

pub formerly_length : (k : ℕ) → length (formerly_line k) ≡ 20 + length (decimal k)
formerly_length k = let e = count_length formerly_word k in omega (arith, e)

pub refused_length : (n p : ℕ) → length (refused_line (number_at n p)) ≡ 13 + length (decimal n) + length (decimal p)
unfolding refused_line
refused_length n p = simp length-append (omega arith)

-- of two numbers of 32 bits
pub refused_short : (n p : ℕ) → n < 4294967296 → p < 4294967296 → length (refused_line (number_at n p)) ≤ 33
refused_short n p h k =
    let e = refused_length n p in
    omega (arith, e, width_most 9 n (omega (arith, h)), width_most 9 p (omega (arith, k)))

pub refused_is : (n p : ℕ) → refused_word ++ decimal n ++ at_word ++ decimal p ++ feed ≡ refused_line (number_at n p)
unfolding refused_line
refused_is n p = refl
