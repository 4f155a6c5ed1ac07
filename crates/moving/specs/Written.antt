-- 02, No. 7 with No. 2 and No. 8: an old file is moved over by the writer: from its lists, with 0 for every 2, comes the same file with every 2 stored as 0. Definitions and statements.
use Rattle.std.specs.Prelude.{ℕ, ◌≤◌, ◌≡◌, List, map, length, take}
use Rattle.layout.specs.Bytes.{Bytes}
use Rattle.layout.specs.Verdict.{verdict, good}
use Rattle.text.specs.declared.Written.{Written}
use Rattle.filing.specs.Given.{Given, given_of}
use Rattle.filing.specs.Taken.{taken_from}
use Rattle.filing.specs.Promise.{WritePromise}
use Rattle.moving.specs.Moved.{moved_set, moved}

-- lists with 0 for every set of 2, and all else as it was, the last bytes too
abbrev pub moved_lists : Given → Given
moved_lists g = given_of g.ids g.counts (map moved_set g.sets) g.lasts g.numbers

-- so changed, the lists that the reader finds in a good file make the file so changed, byte for byte, in every room that holds it
abbrev pub AllWrittenOver : Type 0
AllWrittenOver = (file room : List ℕ) (result : Written) (after : List ℕ) → Bytes file → verdict file ≡ good → length file ≤ length room → WritePromise (moved_lists (taken_from file)) room result after → (result.number ≡ 0) × (result.length ≡ length file) × (take result.length after ≡ moved file)
