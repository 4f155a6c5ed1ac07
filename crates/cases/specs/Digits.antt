-- Hexadecimal digits, as the cases are written: a number, the highest digit first, and bytes, two digits each. Definitions only.
use Rattle.std.specs.Prelude.{ℕ, zero, suc, ◌+◌, ◌-◌, ◌*◌, ◌/◌, ◌%◌, min, cond, List, [], ◌∷◌, ◌++◌, length, get_or, drop, ltb}

-- 0 to 9 and a to f; any other byte counts as 0
unfoldable pub digit_value : ℕ → ℕ
digit_value b = cond (ltb b 48) 0 (cond (ltb b 58) (b - 48) (cond (ltb b 97) 0 (cond (ltb b 103) (b - 87) 0)))

-- the digit at a place of the text
abbrev pub digit_at : List ℕ → ℕ → ℕ
digit_at text i = digit_value (get_or text i 0)

-- the number of the first i digits. Sixteen digits make 64 bits; of more the last sixteen count
unfoldable pub number_to : List ℕ → ℕ → ℕ
unfolding digit_value
number_to text zero = 0
number_to text (suc i) = number_to text i % 1152921504606846976 * 16 + digit_at text i

unfoldable pub number_of : List ℕ → ℕ
unfolding number_to
number_of text = number_to text (length text)

-- byte k: the higher digit first
abbrev pub byte_of : List ℕ → ℕ → ℕ
byte_of text k = digit_at text (2 * k) * 16 + digit_at text (2 * k + 1)

-- m bytes from byte k on
unfoldable pub bytes_from : List ℕ → ℕ → ℕ → List ℕ
unfolding digit_value
bytes_from text zero k = []
bytes_from text (suc m) k = byte_of text k ∷ bytes_from text m (k + 1)

-- as many bytes as the text has, or as there is room for
abbrev pub fitting : List ℕ → List ℕ → ℕ
fitting text room = min (length text / 2) (length room)

-- the room with these at its front; the rest as it was
unfoldable pub filled : List ℕ → List ℕ → List ℕ
unfolding bytes_from
filled text room = bytes_from text (fitting text room) 0 ++ drop (fitting text room) room

-- ---- the other way: a byte by its two digits, the higher first
abbrev pub glyph : ℕ → ℕ
glyph d = cond (ltb d 10) (48 + d) (87 + d)

-- the digits of m bytes from byte k on
unfoldable pub digits_from : List ℕ → ℕ → ℕ → List ℕ
digits_from bytes zero k = []
digits_from bytes (suc m) k = glyph (get_or bytes k 0 / 16) ∷ glyph (get_or bytes k 0 % 16) ∷ digits_from bytes m (k + 1)

-- as many bytes as there are, or as there is room for the digits of
abbrev pub spelt : List ℕ → List ℕ → ℕ
spelt bytes room = min (length bytes) (length room / 2)

-- the room with their digits at its front; the rest as it was
unfoldable pub lettered : List ℕ → List ℕ → List ℕ
unfolding digits_from
lettered bytes room = digits_from bytes (spelt bytes room) 0 ++ drop (2 * spelt bytes room) room
