-- Leaks as triples of numbers, one behind the other, and what is promised of writing their list. Definitions and a statement.
use Rattle.std.specs.Prelude.{ℕ, zero, suc, ◌+◌, ◌*◌, ◌/◌, ◌≡◌, List, [], ◌∷◌, ◌++◌, length, min, get_or}
use Rattle.listing.specs.declared.Listed.{Listed}
use Rattle.listing.specs.declared.Counts.{Counts}
use Rattle.listing.specs.Leaks.{Leak, Beside}
use Rattle.listing.specs.Listing.{list_from}

-- triple k, from 0, as a leak: two ids and N
abbrev pub leak_at : List ℕ → ℕ → Leak
leak_at found k = record { test = get_or found (3 * k) 0; train = get_or found (3 * k + 1) 0; pairs = get_or found (3 * k + 2) 0 }

-- the first k triples as leaks
unfoldable pub leaks_in : List ℕ → ℕ → List Leak
leaks_in found zero = []
leaks_in found (suc k) = leaks_in found k ++ (leak_at found k ∷ [])

-- of k leaks those that there are numbers for, and 4,096 at most: 64 times 64, more than any file has
unfoldable pub held_in : List ℕ → ℕ → ℕ
held_in found k = min k (min (length found / 3) 4096)

-- three numbers as a leak
abbrev pub leak_of : List ℕ → Leak
leak_of triple = record { test = get_or triple 0 0; train = get_or triple 1 0; pairs = get_or triple 2 0 }

-- of k leaks those that there are triples for, likewise
abbrev pub held : List (List ℕ) → ℕ → ℕ
held found k = min k (min (length found) 4096)

-- what is counted beside them, and how many recordings were formerly held back
abbrev pub beside_in : Counts → ℕ → Beside
beside_in c formerly = record { touching = c.touching; tested = c.tested; formerly_held_back = formerly }

-- what is promised of writing them, with what is counted beside them: the result and the room afterwards
pub record WrittenAs (ls : List Leak) (b : Beside) (room : List ℕ) (result : Listed) (after : List ℕ) : Type 0 where
  pub result_is : result ≡ (list_from ls b room).result
  pub after_is : after ≡ (list_from ls b room).room

-- no second result and no second room meets it
abbrev pub NoSecondWritten : Type 0
NoSecondWritten = (ls : List Leak) (c : Beside) (room : List ℕ) (r s : Listed) (a b : List ℕ) → WrittenAs ls c room r a → WrittenAs ls c room s b → (r ≡ s) × (a ≡ b)
