-- The verdict in three stages, as a reader comes to it, and the rules of an entry and a triangle in it. Definitions and statements.
use Rattle.std.specs.Prelude.{ℕ, ◌≡◌, cond, List, [], ◌∷◌, ◌++◌, eqb}
use Rattle.floats.specs.Turns.{in_turn}
use Rattle.layout.specs.Parts.{count_of, entry_place, entry_at, end_before, triangle_place, triangle_at, triangles_of}
use Rattle.layout.specs.Rules.{is_seen, entry_rule, triangle_rule}
use Rattle.layout.specs.Verdict.{Row, bad_length, other_length, bad_trailer, bad_entry, id_again, wrong_end, out_of_range, flat, ids_before, first_of, number_at, verdict}
use Rattle.layout.specs.declared.Verdict.{Verdict}

-- the first of two that is a refusal
abbrev pub or_else : Verdict → Verdict → Verdict
or_else v w = cond (eqb v.number 0) w v

-- a number at a place, or what comes after it
abbrev pub at_or : ℕ → ℕ → Verdict → Verdict
at_or number place rest = cond (eqb number 0) rest (number_at number place)

module _ (file : List ℕ) where
  abbrev pub trailer_rows : List Row
  trailer_rows = bad_length ∷ other_length ∷ bad_trailer ∷ []

  abbrev pub table_rows : List Row
  table_rows = in_turn bad_entry id_again (count_of file) 0 ++ (wrong_end ∷ [])

  abbrev pub triangle_rows : List Row
  triangle_rows = in_turn out_of_range flat (triangles_of file) 0

  -- the rule of entry i and of triangle k, of the numbers that the file has there
  abbrev pub entry_number : ℕ → ℕ
  entry_number i = entry_rule (entry_at file i) (end_before file i) (is_seen (entry_at file i).id (ids_before file i))

  abbrev pub triangle_number : ℕ → ℕ
  triangle_number k = triangle_rule (triangle_at file k)

pub record ByRules (file : List ℕ) : Type 0 where
  -- the verdict is what the trailer says, else what the table says, else what the triangles say
  pub by_stages : verdict file ≡ or_else (first_of file (trailer_rows file)) (or_else (first_of file (table_rows file)) (first_of file (triangle_rows file)))
  -- in which the two rows of an entry or a triangle say its rule's number at its place
  pub entries : (i : ℕ) (rest : List Row) → first_of file (bad_entry i ∷ id_again i ∷ rest) ≡ at_or (entry_number file i) (entry_place file i) (first_of file rest)
  pub triangles : (k : ℕ) (rest : List Row) → first_of file (out_of_range k ∷ flat k ∷ rest) ≡ at_or (triangle_number file k) (triangle_place k) (first_of file rest)
