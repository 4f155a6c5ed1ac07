-- Things taken in turn, in which the list is written. Definitions only.
use Rattle.std.specs.Prelude.{ℕ, zero, suc, List, [], ◌∷◌, ◌++◌}

-- 0, 1, .. n − 1
unfoldable pub up_to : ℕ → List ℕ
up_to zero = []
up_to (suc n) = up_to n ++ (n ∷ [])

-- of each in turn what f gives, one after the other
unfoldable pub each : {A B : Type 0} → (A → List B) → List A → List B
each f [] = []
each f (x ∷ xs) = f x ++ each f xs

-- each in turn added to what there is, from the left
unfoldable pub folded : {A B : Type 0} → (B → A → B) → B → List A → B
folded add so_far [] = so_far
folded add so_far (x ∷ xs) = folded add (add so_far x) xs
