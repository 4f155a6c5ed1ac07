-- 01, "The footprint file", with 02, No. 8: the tests of the refusal table, of plain numbers. Whoever reads a file's bytes, or means to write some, asks the same. Definitions only.
use Rattle.std.specs.Prelude.{ℕ, ◌+◌, ◌*◌, Bool, not, ◌||◌, cond, List, eqb, ltb, ℤ, nat_abs}
use Rattle.floats.specs.Lists.{any}
use Rattle.floats.specs.Numbers.{cross_from}
use Rattle.floats.specs.Whole.{whole, is_nought}
use Rattle.sets.specs.Editions.{is_wrong_last}
use Rattle.layout.specs.Parts.{Triangle, numbers_of}
use Rattle.layout.specs.declared.Entry.{Entry}

-- 11: the length is under 12 or over 65,536
abbrev pub is_bad_length : ℕ → Bool
is_bad_length length = ltb length 12 || ltb 65536 length

-- 12: the stored length is another
abbrev pub is_other_length : ℕ → ℕ → Bool
is_other_length stored length = not (eqb stored length)

-- 13: over 64 recordings, or the table with the trailer after it does not end the file
abbrev pub is_bad_trailer : ℕ → ℕ → ℕ → Bool
is_bad_trailer table count length = ltb 64 count || not (eqb (table + 12 * count + 12) length)

-- 14: no triangles, a set that there is not, a last byte that may not stand beside the set, or a beginning that is not `end`, where the entry before ended
unfoldable pub is_bad_entry : Entry → ℕ → Bool
is_bad_entry e end = eqb e.count 0 || (ltb 2 e.set || (is_wrong_last e.set e.last || not (eqb e.first end)))

-- 16: the id is among those of the entries before
unfoldable pub is_seen : ℕ → List ℕ → Bool
unfolding any
is_seen id before = any (eqb id) before

-- 15: the end of the last entry's triangles, or 0 if there is no entry, is not the table's place
abbrev pub is_wrong_end : ℕ → ℕ → Bool
is_wrong_end end table = not (eqb end table)

-- 17: one of the six numbers is outside −1,000,000 to 1,000,000
abbrev pub is_far : ℤ → Bool
is_far z = ltb 1000000 (nat_abs z)

unfoldable pub is_out_of_range : Triangle → Bool
unfolding any
is_out_of_range t = any is_far (numbers_of t)

-- 18: the area is exactly zero. Twice the area is the cross that the triangle rules take, here in whole numbers
unfoldable pub twice_area : Triangle → ℤ
twice_area t = cross_from whole t.v0 t.v1 t.v2

unfoldable pub is_flat : Triangle → Bool
unfolding twice_area
is_flat t = is_nought (twice_area t)

-- the number of an entry, by where the entry before ended and by whether its id was seen: 14 before 16, or 0
unfoldable pub entry_rule : Entry → ℕ → Bool → ℕ
unfolding is_bad_entry
entry_rule e end seen = cond (is_bad_entry e end) 14 (cond seen 16 0)

-- the number of a triangle: 17 before 18, or 0
unfoldable pub triangle_rule : Triangle → ℕ
unfolding is_out_of_range is_flat
triangle_rule t = cond (is_out_of_range t) 17 (cond (is_flat t) 18 0)
