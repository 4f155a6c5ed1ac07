-- 02, No. 6: what stands in a recording's text. Statements only.
use Rattle.std.specs.Prelude.{ℕ, ◌+◌, ◌*◌, ◌<◌, ◌≡◌, List, [], map, length, get_or}
use Rattle.layout.specs.Parts.{Triangle, count_of, entry_at, triangle_from}
use Rattle.layout.specs.Layout.{Layout}
use Rattle.chart.specs.Recorded.{triangles_in, recording_text}
use Rattle.chart.specs.Read.{found, ring_of, read_text}

pub record Stored (file : List ℕ) (k : ℕ) : Type 0 where
  -- as many triangles as the entry tells, the j-th as it stands 24 bytes times j behind the first
  pub many : length (triangles_in file k) ≡ (entry_at file k).count
  pub each : (other : Triangle) (j : ℕ) → j < (entry_at file k).count → get_or (triangles_in file k) j other ≡ triangle_from file ((entry_at file k).first + 24 * j)
  -- the recording's text reads back as their rings, with nothing behind it
  pub reads_back : read_text (recording_text file k) ≡ found (map ring_of (triangles_in file k)) []

abbrev pub AllStored : Type 0
AllStored = (file : List ℕ) (k : ℕ) → Layout file → k < count_of file → Stored file k
