-- 01, "The leak list", with 02, No. 1 and No. 7: its text, as bytes. Definitions only.
use Rattle.std.specs.Prelude.{ℕ, List, [], ◌∷◌, ◌++◌, length}
use Rattle.text.specs.Decimal.{decimal}
use Rattle.layout.specs.declared.Verdict.{Verdict}
use Rattle.listing.specs.Turns.{each}
use Rattle.listing.specs.Leaks.{Leak, leaks, touching, formerly_held_back}

-- "leaks "
abbrev pub leaks_word : List ℕ
leaks_word = 108 ∷ 101 ∷ 97 ∷ 107 ∷ 115 ∷ 32 ∷ []

-- "test "
abbrev pub test_word : List ℕ
test_word = 116 ∷ 101 ∷ 115 ∷ 116 ∷ 32 ∷ []

-- " train "
abbrev pub train_word : List ℕ
train_word = 32 ∷ 116 ∷ 114 ∷ 97 ∷ 105 ∷ 110 ∷ 32 ∷ []

-- " pairs "
abbrev pub pairs_word : List ℕ
pairs_word = 32 ∷ 112 ∷ 97 ∷ 105 ∷ 114 ∷ 115 ∷ 32 ∷ []

-- "touching "
abbrev pub touching_word : List ℕ
touching_word = 116 ∷ 111 ∷ 117 ∷ 99 ∷ 104 ∷ 105 ∷ 110 ∷ 103 ∷ 32 ∷ []

-- "formerly held back "
abbrev pub formerly_word : List ℕ
formerly_word = 102 ∷ 111 ∷ 114 ∷ 109 ∷ 101 ∷ 114 ∷ 108 ∷ 121 ∷ 32 ∷ 104 ∷ 101 ∷ 108 ∷ 100 ∷ 32 ∷ 98 ∷ 97 ∷ 99 ∷ 107 ∷ 32 ∷ []

-- "refused "
abbrev pub refused_word : List ℕ
refused_word = 114 ∷ 101 ∷ 102 ∷ 117 ∷ 115 ∷ 101 ∷ 100 ∷ 32 ∷ []

-- " at "
abbrev pub at_word : List ℕ
at_word = 32 ∷ 97 ∷ 116 ∷ 32 ∷ []

-- a line feed, with which every line ends
abbrev pub feed : List ℕ
feed = 10 ∷ []

-- a line of a word and a number
unfoldable pub count_line : List ℕ → ℕ → List ℕ
unfolding decimal
count_line word k = word ++ decimal k ++ feed

-- the first line: how many leak lines follow
abbrev pub first_line : ℕ → List ℕ
first_line k = count_line leaks_word k

unfoldable pub leak_line : Leak → List ℕ
unfolding decimal
leak_line l = test_word ++ decimal l.test ++ train_word ++ decimal l.train ++ pairs_word ++ decimal l.pairs ++ feed

unfoldable pub leak_lines : List Leak → List ℕ
unfolding leak_line each
leak_lines ls = each leak_line ls

-- behind them, also where the number is 0: how many pairs of recordings only touch
abbrev pub touching_line : ℕ → List ℕ
touching_line k = count_line touching_word k

-- after all others, also where the number is 0: how many recordings were formerly held back
abbrev pub formerly_line : ℕ → List ℕ
formerly_line k = count_line formerly_word k

-- the list of these leaks and of so many pairs of recordings that only touch, without its last line
unfoldable pub all_but_last : List Leak → ℕ → List ℕ
unfolding count_line leak_lines
all_but_last ls t = first_line (length ls) ++ leak_lines ls ++ touching_line t

-- the whole list, with so many recordings that were formerly held back
unfoldable pub text_of : List Leak → ℕ → ℕ → List ℕ
unfolding count_line all_but_last
text_of ls t k = all_but_last ls t ++ formerly_line k

-- the whole list of a file
unfoldable pub list_text : List ℕ → List ℕ
unfolding text_of leaks touching formerly_held_back
list_text file = text_of (leaks file) (touching file) (formerly_held_back file)

-- the one line that the program writes of a refused file
unfoldable pub refused_line : Verdict → List ℕ
unfolding decimal
refused_line v = refused_word ++ decimal v.number ++ at_word ++ decimal v.place ++ feed
