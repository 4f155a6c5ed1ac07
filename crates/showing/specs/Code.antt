-- What the code takes of a recording: its triangles, each as its 24 bytes, and the polygons that they stand for. Definitions only.
use Rattle.std.specs.Prelude.{ℕ, List, map}
use Rattle.layout.specs.Bytes.{six_of}
use Rattle.layout.specs.Parts.{triangle_by}
use Rattle.chart.specs.Words.{triangle_text}

abbrev pub text_at : List ℕ → List ℕ
text_at bytes = triangle_text (triangle_by (six_of bytes))

abbrev pub texts_of : List (List ℕ) → List (List ℕ)
texts_of triangles = map text_at triangles
