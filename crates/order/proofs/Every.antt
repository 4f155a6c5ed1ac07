-- The signs that a vertex can have on three lines, the outcomes that an edge's pair tests can have, and that there are no others. Assumes nothing.
use mathlib.Core.Path.{refl}
use Prim.Native.Nat.{ℕ, zero, suc, ◌<◌}
use native.Mathlib.Omega.{arith}
use mathlib.Core.Bool.{Bool, true, false}
use mathlib.Core.List.Memᴰ.{head as here}
use mathlib.Core.List.Memᴰ.{tail as there}
use mathlib.Core.List.{List, [], ◌∷◌, Memᴰ}
use Rattle.lines.specs.Lines.{three}
use Rattle.lines.specs.Parameters.{last_unseen}

-- the seven signs of a vertex: none is minus on all three lines
unfoldable pub seven : List (List Bool)
seven =
    (true ∷ true ∷ true ∷ [])
    ∷ (true ∷ true ∷ false ∷ [])
    ∷ (true ∷ false ∷ true ∷ [])
    ∷ (false ∷ true ∷ true ∷ [])
    ∷ (true ∷ false ∷ false ∷ [])
    ∷ (false ∷ true ∷ false ∷ [])
    ∷ (false ∷ false ∷ true ∷ [])
    ∷ []

-- the eight outcomes of an edge's three pair tests
unfoldable pub eight : List (List Bool)
unfolding seven
eight = (false ∷ false ∷ false ∷ []) ∷ seven

pub in_seven : (x y w : Bool) → Memᴰ (last_unseen (x ∷ y ∷ []) w) seven
unfolding last_unseen seven
in_seven true true true = here refl
in_seven true true false = there (here refl)
in_seven true false true = there (there (here refl))
in_seven false true true = there (there (there (here refl)))
in_seven true false false = there (there (there (there (here refl))))
in_seven false true false = there (there (there (there (there (here refl)))))
in_seven false false w = there (there (there (there (there (there (here refl))))))

pub in_eight : (x y z : Bool) → Memᴰ (x ∷ y ∷ z ∷ []) eight
unfolding eight
in_eight false false false = here refl
in_eight true true true = there (here refl)
in_eight true true false = there (there (here refl))
in_eight true false true = there (there (there (here refl)))
in_eight false true true = there (there (there (there (here refl))))
in_eight true false false = there (there (there (there (there (here refl)))))
in_eight false true false = there (there (there (there (there (there (here refl))))))
in_eight false false true = there (there (there (there (there (there (there (here refl)))))))

pub in_three : (a : ℕ) → a < 3 → Memᴰ a three
in_three zero h = here refl
in_three (suc zero) h = there (here refl)
in_three (suc (suc zero)) h = there (there (here refl))
in_three (suc (suc (suc a))) h = absurd (omega arith)
