-- What a footprint file that has the layout holds. Definitions only.
use Rattle.std.specs.Prelude.{ℕ, List, cond, ltb, take, drop, Option, Some, None}
use Rattle.std.specs.Simd.{first_chunks}
use Rattle.layout.specs.Parts.{table_place, count_of, triangles_of, entry_at}
use Rattle.layout.specs.declared.Entry.{Entry}
use Rattle.footprint.specs.declared.Footprint.{Footprint}

-- its bytes
abbrev pub contents : Footprint → List ℕ
contents f = f.bytes.now

-- of a file's bytes: entry k, if there is one
unfoldable pub entry_in : List ℕ → ℕ → Option Entry
unfolding count_of entry_at
entry_in file k = cond (ltb k (count_of file)) (Some (entry_at file k)) None

-- the entries, twelve bytes each
unfoldable pub entries_in : List ℕ → List (List ℕ)
unfolding table_place count_of
entries_in file = first_chunks 12 (count_of file) (drop (table_place file) file)

-- the triangles, 24 bytes each
unfoldable pub triangles_in : List ℕ → List (List ℕ)
unfolding table_place triangles_of
triangles_in file = first_chunks 24 (triangles_of file) (take (table_place file) file)
