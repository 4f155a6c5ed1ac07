-- 02, No. 6: a room of 256,545 bytes is always enough. Statements only.
use Rattle.std.specs.Prelude.{ℕ, ◌+◌, ◌*◌, ◌<◌, ◌≤◌, List, length}
use Rattle.layout.specs.Parts.{count_of, entry_at}
use Rattle.layout.specs.Layout.{Layout}
use Rattle.chart.specs.Recorded.{recording_text}

pub record Enough (file : List ℕ) (k : ℕ) : Type 0 where
  -- a recording of so many triangles has a text of at most 94 bytes for each, and 19 more
  pub by_count : length (recording_text file k) ≤ 94 * (entry_at file k).count + 19
  -- and a recording has at most 2,729 triangles
  pub always : length (recording_text file k) ≤ 256545

abbrev pub AlwaysEnough : Type 0
AlwaysEnough = (file : List ℕ) (k : ℕ) → Layout file → k < count_of file → Enough file k
