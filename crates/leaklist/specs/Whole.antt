-- 01, "The leak list": in a room of 65,536 bytes all of what the program writes has its place. Statements only.
use Rattle.std.specs.Prelude.{ℕ, ◌≤◌, ◌≡◌, List, length}
use Rattle.layout.specs.Bytes.{Bytes}
use Rattle.listing.specs.Listing.{output_of}
use Rattle.leaklist.specs.Code.{told_of}

-- what is told of a file in a room is what the program writes, and it fits
pub record ToldWhole (file room : List ℕ) : Type 0 where
  pub whole : told_of file room ≡ output_of file
  pub fits : length (output_of file) ≤ length room

-- so of all bytes, in every room of at least 65,536
abbrev pub AlwaysToldWhole : Type 0
AlwaysToldWhole = (file room : List ℕ) → Bytes file → 65536 ≤ length room → ToldWhole file room
