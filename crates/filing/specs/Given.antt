-- 02, No. 2 and No. 8: what a writer is handed, four lists with an entry for each recording and one of the triangles' coordinates, and which recordings and triangles these are. Definitions only.
use Rattle.std.specs.Prelude.{ℕ, zero, suc, ◌+◌, ◌*◌, ◌/◌, List, length, get_or, ℤ, pos}
use Rattle.layout.specs.Parts.{Triangle, triangle_of}
use Rattle.layout.specs.declared.Entry.{Entry}

pub record Given : Type 0 where
  pub ids : List ℕ
  pub counts : List ℕ
  pub sets : List ℕ
  -- the last bytes of the entries: 0, or 1 for a test recording that goes by the second edition of the leak rule
  pub lasts : List ℕ
  pub numbers : List ℤ

-- by the five lists
abbrev pub given_of : List ℕ → List ℕ → List ℕ → List ℕ → List ℤ → Given
given_of ids counts sets lasts numbers = record { ids = ids; counts = counts; sets = sets; lasts = lasts; numbers = numbers }

-- a table entry, by what stands in it
abbrev pub entry_by : ℕ → ℕ → ℕ → ℕ → ℕ → Entry
entry_by id first count set last = record { id = id; first = first; count = count; set = set; last = last }

-- the sum of the first i counts, of natural numbers, so it is exact
unfoldable pub sum_of : List ℕ → ℕ → ℕ
sum_of counts zero = 0
sum_of counts (suc i) = sum_of counts i + get_or counts i 0

module _ (g : Given) where
  -- how many recordings there are, and how many whole triangles, six numbers each
  abbrev pub recordings : ℕ
  recordings = length g.ids

  abbrev pub triangles : ℕ
  triangles = length g.numbers / 6

  abbrev pub id_at : ℕ → ℕ
  id_at i = get_or g.ids i 0

  abbrev pub count_at : ℕ → ℕ
  count_at i = get_or g.counts i 0

  abbrev pub set_at : ℕ → ℕ
  set_at i = get_or g.sets i 0

  abbrev pub last_at : ℕ → ℕ
  last_at i = get_or g.lasts i 0

  abbrev pub coordinate_at : ℕ → ℤ
  coordinate_at j = get_or g.numbers j (pos 0)

  -- how many triangles the first i recordings have
  abbrev pub sum_to : ℕ → ℕ
  sum_to i = sum_of g.counts i

  -- the entry of recording i: its triangles begin where those of the recordings before it end
  unfoldable pub entry_of : ℕ → Entry
  unfolding sum_of
  entry_of i = entry_by (id_at i) (24 * sum_to i) (count_at i) (set_at i) (last_at i)

  -- triangle k: its six numbers
  unfoldable pub triangle_in : ℕ → Triangle
  triangle_in k = triangle_of (coordinate_at (6 * k)) (coordinate_at (6 * k + 1)) (coordinate_at (6 * k + 2)) (coordinate_at (6 * k + 3)) (coordinate_at (6 * k + 4)) (coordinate_at (6 * k + 5))
