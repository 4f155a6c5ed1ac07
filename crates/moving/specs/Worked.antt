-- A file worked by hand: 01's example with set 2 for recording 7, and moved over. Definitions and statements.
use Rattle.std.specs.Prelude.{ℕ, ◌≡◌, List, [], ◌∷◌}
use Rattle.layout.specs.Worked.{small, six, v, u, nine, changed, pair_of, example}
use Rattle.moving.specs.Moved.{moved}

-- recording 7 of the example stored with set 2
abbrev pub old_example : List ℕ
old_example = pair_of v u (changed 7 0 1 0 2 0) nine

-- a file in which 2 stands in a triangle, in two ids, in the trailer, and as the set of both its recordings
abbrev pub twos : ℕ → List ℕ
twos set = pair_of (six (small 2) (small 0) (small 4) (small 2) (small 2) (small 4)) u (2 ∷ 2 ∷ 2 ∷ 2 ∷ 0 ∷ 0 ∷ 0 ∷ 0 ∷ 1 ∷ 0 ∷ set ∷ 0 ∷ []) (changed 2 24 1 0 set 0)

pub record ByHand : Type 0 where
  pub one : moved old_example ≡ example
  pub stays : moved example ≡ example
  pub others : moved (twos 2) ≡ twos 0
