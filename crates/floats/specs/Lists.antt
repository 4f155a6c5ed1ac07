-- Tests and counts over lists, in which the rules are written. Definitions only.
use Rattle.std.specs.Prelude.{Bool, true, false, not, ◌&&◌, ◌||◌, cond, List, [], ◌∷◌, ℕ, suc}
use Rattle.std.specs.Bool.{beq}

unfoldable pub all : {A : Type 0} → (A → Bool) → List A → Bool
all f [] = true
all f (x ∷ xs) = f x && all f xs

unfoldable pub any : {A : Type 0} → (A → Bool) → List A → Bool
any f [] = false
any f (x ∷ xs) = f x || any f xs

-- those that pass the test, in their order
unfoldable pub filter : {A : Type 0} → (A → Bool) → List A → List A
filter f [] = []
filter f (x ∷ xs) = let r = filter f xs in cond (f x) (x ∷ r) r

-- how many pass the test
unfoldable pub count : {A : Type 0} → (A → Bool) → List A → ℕ
count f [] = 0
count f (x ∷ xs) = let r = count f xs in cond (f x) (suc r) r

-- once if the test holds, else not at all
abbrev pub once : Bool → ℕ
once b = cond b 1 0

-- two truth values are not the same
abbrev pub differ : Bool → Bool → Bool
differ p q = not (beq p q)
