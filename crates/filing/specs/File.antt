-- 02, No. 2, with 01, "The footprint file": the bytes that are written. Definitions only.
use Rattle.std.specs.Prelude.{ℕ, zero, suc, ◌+◌, ◌-◌, ◌*◌, ◌/◌, ◌%◌, List, [], ◌∷◌, ◌++◌, length, get_or, ℤ, pos, negsuc}
use Rattle.layout.specs.declared.Entry.{Entry}
use Rattle.filing.specs.Given.{Given, recordings, triangles, entry_of}

-- a number in two and in four bytes, the lowest first
abbrev pub in_two : ℕ → List ℕ
in_two v = v % 256 ∷ v / 256 % 256 ∷ []

abbrev pub in_four : ℕ → List ℕ
in_four v = v % 256 ∷ v / 256 % 256 ∷ v / 65536 % 256 ∷ v / 16777216 % 256 ∷ []

-- the 32 bits of an i32: two's complement
abbrev pub bits_of : ℤ → ℕ
bits_of (pos n) = n
bits_of (negsuc n) = 4294967296 - suc n

-- a table entry in its twelve bytes
unfoldable pub entry_bytes : Entry → List ℕ
entry_bytes e = in_four e.id ++ in_four e.first ++ in_two e.count ++ (e.set ∷ e.last ∷ [])

-- the first m of things that have bytes, one after the other
unfoldable pub joined : (ℕ → List ℕ) → ℕ → List ℕ
joined bytes zero = []
joined bytes (suc m) = joined bytes m ++ bytes m

-- four bytes for each of the numbers
unfoldable pub number_bytes : List ℤ → List ℕ
unfolding joined
number_bytes numbers = joined (λ j. in_four (bits_of (get_or numbers j (pos 0)))) (length numbers)

module _ (g : Given) where
  -- first all triangles, number by number
  unfoldable pub triangle_bytes : List ℕ
  unfolding number_bytes
  triangle_bytes = number_bytes g.numbers

  -- then the table
  unfoldable pub table_bytes : List ℕ
  unfolding joined entry_bytes entry_of
  table_bytes = joined (λ i. entry_bytes (entry_of g i)) (recordings g)

  -- how long the file is: 24 bytes a triangle, 12 a recording, and the trailer
  abbrev pub file_length : ℕ
  file_length = 24 * triangles g + 12 * recordings g + 12

  -- last the trailer: the table's place, which is where the triangles end, the count of recordings, and the file's length
  unfoldable pub trailer_bytes : List ℕ
  trailer_bytes = in_four (24 * triangles g) ++ in_four (recordings g) ++ in_four file_length

  unfoldable pub file_of : List ℕ
  unfolding triangle_bytes table_bytes trailer_bytes
  file_of = triangle_bytes ++ table_bytes ++ trailer_bytes
