-- 01, "The leak list": a room of 65,536 bytes is always enough. Statements only.
use Rattle.std.specs.Prelude.{ℕ, ◌≤◌, List, length}
use Rattle.layout.specs.Bytes.{Bytes}
use Rattle.layout.specs.Layout.{Layout}
use Rattle.listing.specs.Words.{list_text}

-- the whole list of a good file has at most 65,536 bytes
abbrev pub AlwaysEnough : Type 0
AlwaysEnough = (file : List ℕ) → Bytes file → Layout file → length (list_text file) ≤ 65536
