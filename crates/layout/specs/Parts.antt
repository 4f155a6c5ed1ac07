-- 01, "The footprint file": what stands where. A file is a list of bytes, a place a natural number, counted from the front; natural numbers have no largest, so a sum of them is the sum.
-- Definitions only.
use Rattle.std.specs.Prelude.{ℕ, zero, suc, ◌+◌, ◌-◌, ◌*◌, ◌/◌, List, [], ◌∷◌, length, get_or, ℤ}
use Rattle.floats.specs.Numbers.{Point}
use Rattle.layout.specs.Bytes.{byte_at, u16_at, u32_at, signed, i32_at}
use Rattle.layout.specs.declared.Entry.{Entry}

-- three vertices, in whole centimetres
pub record Triangle : Type 0 where
  pub v0 : Point ℤ
  pub v1 : Point ℤ
  pub v2 : Point ℤ

-- by its six numbers, in their order
abbrev pub triangle_of : ℤ → ℤ → ℤ → ℤ → ℤ → ℤ → Triangle
triangle_of x0 y0 x1 y1 x2 y2 = record { v0 = record { x = x0; y = y0 }; v1 = record { x = x1; y = y1 }; v2 = record { x = x2; y = y2 } }

-- by six numbers as they are stored, each by its 32 bits
abbrev pub triangle_by : List ℕ → Triangle
triangle_by six = triangle_of (signed (get_or six 0 0)) (signed (get_or six 1 0)) (signed (get_or six 2 0)) (signed (get_or six 3 0)) (signed (get_or six 4 0)) (signed (get_or six 5 0))

-- and these again
abbrev pub numbers_of : Triangle → List ℤ
numbers_of t = t.v0.x ∷ t.v0.y ∷ t.v1.x ∷ t.v1.y ∷ t.v2.x ∷ t.v2.y ∷ []

-- triangles stand first, 24 bytes each
abbrev pub triangle_place : ℕ → ℕ
triangle_place k = 24 * k

module _ (file : List ℕ) where
  -- the trailer, the last twelve bytes: the table's place, the count of recordings, the file's length
  unfoldable pub table_place : ℕ
  unfolding u32_at
  table_place = u32_at file (length file - 12)

  unfoldable pub count_of : ℕ
  unfolding u32_at
  count_of = u32_at file (length file - 8)

  unfoldable pub stored_length : ℕ
  unfolding u32_at
  stored_length = u32_at file (length file - 4)

  -- twelve bytes at a place as a table entry
  unfoldable pub entry_from : ℕ → Entry
  unfolding u32_at u16_at
  entry_from at = record { id = u32_at file at; first = u32_at file (at + 4); count = u16_at file (at + 8); set = byte_at file (at + 10); last = byte_at file (at + 11) }

  -- the table: entry i
  unfoldable pub entry_place : ℕ → ℕ
  unfolding table_place
  entry_place i = table_place + 12 * i

  unfoldable pub entry_at : ℕ → Entry
  unfolding entry_from entry_place
  entry_at i = entry_from (entry_place i)

  -- 24 bytes at a place as a triangle: x and y of each vertex
  unfoldable pub triangle_from : ℕ → Triangle
  unfolding i32_at
  triangle_from at = triangle_of (i32_at file at) (i32_at file (at + 4)) (i32_at file (at + 8)) (i32_at file (at + 12)) (i32_at file (at + 16)) (i32_at file (at + 20))

  -- the triangles, first of all: triangle k, and how many there are before the table
  unfoldable pub triangle_at : ℕ → Triangle
  unfolding triangle_from
  triangle_at k = triangle_from (triangle_place k)

  unfoldable pub triangles_of : ℕ
  unfolding table_place
  triangles_of = table_place / 24

-- where an entry's triangles end
abbrev pub part_end : Entry → ℕ
part_end e = e.first + 24 * e.count

-- where the triangles of the first i entries end: at 0 for none, else where those of the last of them do
unfoldable pub end_before : List ℕ → ℕ → ℕ
unfolding entry_at
end_before file zero = 0
end_before file (suc i) = part_end (entry_at file i)
