-- 02, No. 2 and No. 8: what the reader got from a file, as lists: id, count, set and last byte of each recording in the table's order, and the numbers of all parts in that order. Definitions only.
use Rattle.std.specs.Prelude.{ℕ, zero, suc, ◌*◌, ◌/◌, List, [], ◌∷◌, ◌++◌, length, ℤ}
use Rattle.layout.specs.Bytes.{i32_at}
use Rattle.layout.specs.Parts.{count_of}
use Rattle.layout.specs.Recordings.{recording_of, part_of}
use Rattle.filing.specs.Given.{Given}

-- the first m of things, in a list
unfoldable pub listed : {A : Type 0} → (ℕ → A) → ℕ → List A
listed f zero = []
listed f (suc m) = listed f m ++ (f m ∷ [])

-- the numbers of a part, one after the other, and of the parts of the first m recordings
unfoldable pub numbers_in : List ℕ → List ℤ
unfolding listed i32_at
numbers_in part = listed (λ j. i32_at part (4 * j)) (length part / 4)

unfoldable pub numbers_to : List ℕ → ℕ → List ℤ
unfolding numbers_in part_of
numbers_to file zero = []
numbers_to file (suc m) = numbers_to file m ++ numbers_in (part_of file m)

unfoldable pub taken_from : List ℕ → Given
unfolding listed recording_of numbers_to
taken_from file = record {
  ids = listed (λ i. (recording_of file i).id) (count_of file);
  counts = listed (λ i. (recording_of file i).count) (count_of file);
  sets = listed (λ i. (recording_of file i).set) (count_of file);
  lasts = listed (λ i. (recording_of file i).last) (count_of file);
  numbers = numbers_to file (count_of file);
}
