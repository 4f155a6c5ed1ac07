-- 02, No. 6: the well-known text of triangles, as bytes. The pieces are those of the viewer's language: a point, a polygon of one ring of four points, and a collection of members, each by its text. Definitions only.
use Rattle.std.specs.Prelude.{List, [], ◌∷◌, ◌++◌, map, ℕ, ℤ}
use Rattle.floats.specs.Numbers.{Point}
use Rattle.layout.specs.Parts.{Triangle}
use Rattle.chart.specs.Numbers.{metres}

-- "GEOMETRYCOLLECTION ("
abbrev pub collection_word : List ℕ
collection_word = 71 ∷ 69 ∷ 79 ∷ 77 ∷ 69 ∷ 84 ∷ 82 ∷ 89 ∷ 67 ∷ 79 ∷ 76 ∷ 76 ∷ 69 ∷ 67 ∷ 84 ∷ 73 ∷ 79 ∷ 78 ∷ 32 ∷ 40 ∷ []

-- ")"
abbrev pub collection_end : List ℕ
collection_end = 41 ∷ []

-- "POLYGON (("
abbrev pub polygon_word : List ℕ
polygon_word = 80 ∷ 79 ∷ 76 ∷ 89 ∷ 71 ∷ 79 ∷ 78 ∷ 32 ∷ 40 ∷ 40 ∷ []

-- "))"
abbrev pub polygon_end : List ℕ
polygon_end = 41 ∷ 41 ∷ []

-- ", " between points, and between members
abbrev pub comma : List ℕ
comma = 44 ∷ 32 ∷ []

-- " " between the numbers of a point
abbrev pub space : List ℕ
space = 32 ∷ []

unfoldable pub point_text : Point ℤ → List ℕ
unfolding metres
point_text p = metres p.x ++ (space ++ metres p.y)

-- a polygon of one ring, by its four points
unfoldable pub polygon_text : Point ℤ → Point ℤ → Point ℤ → Point ℤ → List ℕ
unfolding point_text
polygon_text p q r s = polygon_word ++ (point_text p ++ (comma ++ (point_text q ++ (comma ++ (point_text r ++ (comma ++ (point_text s ++ polygon_end)))))))

-- members, each behind a comma and a space
unfoldable pub others : List (List ℕ) → List ℕ
others [] = []
others (member ∷ members) = comma ++ (member ++ others members)

-- the first member, and the others; a collection has one at least
unfoldable pub members : List (List ℕ) → List ℕ
unfolding others
members [] = []
members (first ∷ rest) = first ++ others rest

unfoldable pub collection_text : List (List ℕ) → List ℕ
unfolding members
collection_text texts = collection_word ++ (members texts ++ collection_end)

-- a triangle: its vertices as they are stored, and the first again, which closes the ring
unfoldable pub triangle_text : Triangle → List ℕ
unfolding polygon_text
triangle_text t = polygon_text t.v0 t.v1 t.v2 t.v0

-- triangles: one collection of a polygon each, in their order
unfoldable pub text_of : List Triangle → List ℕ
unfolding collection_text triangle_text
text_of ts = collection_text (map triangle_text ts)
