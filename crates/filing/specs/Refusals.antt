-- 02, No. 2, No. 7 and No. 8: the writer's refusals and their order. The rules of an entry and of a triangle are the reader's own, `entry_rule` and `triangle_rule`, but that no entry is written with the set that is retired. Definitions only.
use Rattle.std.specs.Prelude.{ℕ, zero, suc, ◌+◌, ◌*◌, Bool, not, ◌||◌, cond, List, [], ◌∷◌, length, get_or, eqb, ltb}
use Rattle.layout.specs.declared.Entry.{Entry}
use Rattle.layout.specs.Rules.{is_seen, entry_rule, triangle_rule}
use Rattle.sets.specs.Sets.{is_retired}
use Rattle.filing.specs.Given.{Given, recordings, triangles, id_at, sum_of, sum_to, entry_of, triangle_in}
use Rattle.filing.specs.File.{file_length}

-- the rows of the table; those of entries and triangles are rows of each entry and each triangle
pub data Row : Type 0 where
  unequal : Row
  bad_entry : ℕ → Row
  id_again : ℕ → Row
  wrong_sum : Row
  out_of_range : ℕ → Row
  flat : ℕ → Row
  too_many : Row
  no_room : Row

abbrev pub number_of : Row → ℕ
number_of unequal = 15
number_of (bad_entry i) = 14
number_of (id_again i) = 16
number_of wrong_sum = 15
number_of (out_of_range k) = 17
number_of (flat k) = 18
number_of too_many = 13
number_of no_room = 19

-- a number, or 0 where the test does not hold
abbrev pub number_if : Bool → ℕ → ℕ
number_if test number = cond test number 0

-- the first of two numbers that is not 0
abbrev pub or_else : ℕ → ℕ → ℕ
or_else number rest = cond (eqb number 0) rest number

-- and of m things from number i on, each in turn
unfoldable pub first_from : (ℕ → ℕ) → ℕ → ℕ → ℕ
first_from number_of_thing zero i = 0
first_from number_of_thing (suc m) i = or_else (number_of_thing i) (first_from number_of_thing m (i + 1))

-- the first i ids, the latest first
unfoldable pub ids_before : List ℕ → ℕ → List ℕ
ids_before ids zero = []
ids_before ids (suc i) = get_or ids i 0 ∷ ids_before ids i

-- the number of an entry that is to be written: 14 for the set that is retired, else what the reader says, of the last byte too
unfoldable pub new_entry_rule : Entry → ℕ → Bool → ℕ
unfolding entry_rule
new_entry_rule e end seen = cond (is_retired e.set) 14 (entry_rule e end seen)

module _ (g : Given) where
  -- 15 at once: the lists differ in length, or a triangle is broken off
  abbrev pub is_unequal : Bool
  is_unequal = not (eqb (length g.counts) (recordings g)) || (not (eqb (length g.sets) (recordings g)) || (not (eqb (length g.lasts) (recordings g)) || not (eqb (6 * triangles g) (length g.numbers))))

  -- 14, 16 or 0: recording i's entry, behind entries that end where it begins
  unfoldable pub entry_number : ℕ → ℕ
  unfolding new_entry_rule entry_of is_seen ids_before
  entry_number i = new_entry_rule (entry_of g i) (24 * sum_to g i) (is_seen (id_at g i) (ids_before g.ids i))

  -- 15 between the entries and the triangles: the sum of all counts is another than that of the triangles
  abbrev pub is_wrong_sum : Bool
  is_wrong_sum = not (eqb (sum_to g (recordings g)) (triangles g))

  -- 17, 18 or 0: triangle k by the reader's rule
  unfoldable pub triangle_number : ℕ → ℕ
  unfolding triangle_rule triangle_in
  triangle_number k = triangle_rule (triangle_in g k)

  -- 13: over 64 recordings
  abbrev pub is_too_many : Bool
  is_too_many = ltb 64 (recordings g)

  -- 19: there is less room than the file takes, or it would be longer than a file may be
  abbrev pub has_no_room : ℕ → Bool
  has_no_room room = ltb room (file_length g) || ltb 65536 (file_length g)

  -- the number of the first refusal that applies, with a room of so many bytes; 0 if none does
  unfoldable pub refusal : ℕ → ℕ
  unfolding first_from entry_number triangle_number sum_of
  refusal room =
      or_else (number_if is_unequal (number_of unequal))
      (or_else (first_from entry_number (recordings g) 0)
      (or_else (number_if is_wrong_sum (number_of wrong_sum))
      (or_else (first_from triangle_number (triangles g) 0)
      (or_else (number_if is_too_many (number_of too_many))
      (number_if (has_no_room room) (number_of no_room))))))
