-- 02, No. 2: what is stored of an entry and of three numbers. Definitions only.
use Rattle.std.specs.Prelude.{ℕ, ◌%◌, List, ◌++◌, get_or}
use Rattle.layout.specs.declared.Entry.{Entry}
use Rattle.filing.specs.Given.{entry_by}
use Rattle.filing.specs.File.{in_four}

-- an entry has a byte for its set and one for its last byte: of numbers up to 255, as every entry of a file has, all is stored
abbrev pub stored : Entry → Entry
stored e = entry_by e.id e.first e.count (e.set % 256) (e.last % 256)

-- three numbers in four bytes each
abbrev pub three_bytes : List ℕ → List ℕ
three_bytes three = in_four (get_or three 0 0) ++ in_four (get_or three 1 0) ++ in_four (get_or three 2 0)
