-- 01, "The footprint file": little-endian numbers in a list of bytes. Definitions only.
use Rattle.std.specs.Prelude.{ℕ, ◌+◌, ◌*◌, ◌<◌, cond, List, [], ◌∷◌, get_or, ltb, ℤ, pos, ◌-ℤ◌}

-- every number of the list is a byte
abbrev pub Bytes : List ℕ → Type 0
Bytes list = (k : ℕ) → get_or list k 0 < 256

-- two and four bytes, the lowest first
abbrev pub two : ℕ → ℕ → ℕ
two a b = a + b * 256

abbrev pub four : ℕ → ℕ → ℕ → ℕ → ℕ
four a b c d = a + b * 256 + c * 65536 + d * 16777216

-- the number that is stored at a place; beyond the end every byte counts as 0
abbrev pub byte_at : List ℕ → ℕ → ℕ
byte_at bytes at = get_or bytes at 0

unfoldable pub u16_at : List ℕ → ℕ → ℕ
u16_at bytes at = two (byte_at bytes at) (byte_at bytes (at + 1))

unfoldable pub u32_at : List ℕ → ℕ → ℕ
u32_at bytes at = four (byte_at bytes at) (byte_at bytes (at + 1)) (byte_at bytes (at + 2)) (byte_at bytes (at + 3))

-- an i32 by its 32 bits: two's complement
unfoldable pub signed : ℕ → ℤ
signed v = cond (ltb v 2147483648) (pos v) (pos v -ℤ pos 4294967296)

unfoldable pub i32_at : List ℕ → ℕ → ℤ
unfolding signed u32_at
i32_at bytes at = signed (u32_at bytes at)

-- the six numbers that a triangle is stored by, each by its 32 bits
unfoldable pub six_of : List ℕ → List ℕ
unfolding u32_at
six_of bytes = u32_at bytes 0 ∷ u32_at bytes 4 ∷ u32_at bytes 8 ∷ u32_at bytes 12 ∷ u32_at bytes 16 ∷ u32_at bytes 20 ∷ []
