-- 02, No. 6: which recording has an id, and which triangles are stored for it. Definitions and statements.
use Prim.Native.Nat.{ℕ, zero, suc, ◌+◌, ◌<◌, ◌≤◌}
use Rattle.std.specs.Prelude.{◌≡◌, ◌↔◌, List, [], ◌∷◌, eqb}
use Rattle.std.proofs.Math.Bool.{cond}
use Rattle.layout.specs.Parts.{Triangle, count_of, entry_at, triangle_from}
use Rattle.layout.specs.Layout.{Layout}
use Rattle.layout.specs.Recordings.{part_of}
use Rattle.chart.specs.Words.{text_of}

-- so many triangles, as they are stored from a place on
unfoldable pub triangles_from : List ℕ → ℕ → ℕ → List Triangle
unfolding triangle_from
triangles_from bytes at zero = []
triangles_from bytes at (suc n) = triangle_from bytes at ∷ triangles_from bytes (at + 24) n

module _ (file : List ℕ) where
  -- the first of n entries, from entry k on, that has the id; the one behind them where none has
  unfoldable pub searched : ℕ → ℕ → ℕ → ℕ
  unfolding entry_at
  searched id zero k = k
  searched id (suc n) k = let later = searched id n (suc k) in cond (eqb (entry_at file k).id id) k later

  -- the number of the recording that has the id; the count of recordings where none has
  unfoldable pub number_with : ℕ → ℕ
  unfolding searched count_of
  number_with id = searched id (count_of file) 0

  -- the triangles of recording k, and their text
  unfoldable pub triangles_in : ℕ → List Triangle
  unfolding triangles_from entry_at
  triangles_in k = triangles_from file (entry_at file k).first (entry_at file k).count

  unfoldable pub recording_text : ℕ → List ℕ
  unfolding triangles_in text_of
  recording_text k = text_of (triangles_in k)

  -- recording k of the file has the id
  pub record Has (id k : ℕ) : Type 0 where
    pub in_table : k < count_of file
    pub same_id : (entry_at file k).id ≡ id

-- what the number of an id comes to, in facts: it is below the count exactly if a recording has the id, and that one has it; of a good file no other recording has it too
pub record Numbered (file : List ℕ) (id : ℕ) : Type 0 where
  pub there : (number_with file id < count_of file) ↔ ((k : ℕ) × Has file id k)
  pub has : number_with file id < count_of file → Has file id (number_with file id)
  pub not_there : count_of file ≤ number_with file id → number_with file id ≡ count_of file
  pub only : Layout file → (k : ℕ) → Has file id k → k ≡ number_with file id

abbrev pub IdsNumbered : Type 0
IdsNumbered = (file : List ℕ) (id : ℕ) → Numbered file id

-- the triangles of a good file's recording are those of the part that is handed back of it, all of them
abbrev pub TrianglesOfPart : Type 0
TrianglesOfPart = (file : List ℕ) (k : ℕ) → Layout file → k < count_of file → triangles_in file k ≡ triangles_from (part_of file k) 0 (entry_at file k).count
