-- From a computed test over a list to what it says of each member, and tests over lists joined.
-- Assumes nothing.
use mathlib.Core.Path.{◌≡◌, refl, sym, ap, ap₂, subst, ◌∙◌}
use mathlib.Core.Logic.{◌⊎◌, inl, inr}
use mathlib.Core.Bool.{Bool, true, false, ◌&&◌, ◌||◌, cond, beq, and_assoc, false≢true}
use mathlib.Core.List.Memᴰ
use mathlib.Core.List.{List, [], ◌∷◌, ◌++◌, Memᴰ}
use Prim.Native.Nat.{ℕ, zero, suc, ◌+◌, ◌<◌}
use native.Mathlib.Omega.{arith}
use lib.Dec.{T, eqb, eqb→eq}
use lib.Ieee.Fits.{and_i, and_l, and_r}
use lib.ListN.{length, get_or}
use Rattle.floats.specs.Lists.{all, any, filter, count}

pub so : {b : Bool} → T b → b ≡ true
so {b} t = go b t
  where
    go : (b : Bool) → T b → b ≡ true
    go true t = refl
    go false t = absurd t

pub os : {b : Bool} → b ≡ true → T b
os h = subst T (sym h) tt

pub or_cases : (a b : Bool) → T (a || b) → T a ⊎ T b
or_cases true b t = inl tt
or_cases false b t = inr t

pub same_bool : (a b : Bool) → T (beq a b) → a ≡ b
same_bool true true t = refl
same_bool true false t = absurd t
same_bool false true t = absurd t
same_bool false false t = refl

-- what holds of all holds of each member
pub all_at : {A : Type 0} (f : A → Bool) (xs : List A) {x : A} → T (all f xs) → Memᴰ x xs → T (f x)
unfolding all
all_at f [] t m = absurd (Memᴰ.not-nil m)
all_at f (y ∷ ys) {x} t m = go (Memᴰ.cases_cons m) (λ k. all_at f ys (and_r (f y) (all f ys) t) k)
  where
    go : (x ≡ y) ⊎ Memᴰ x ys → (Memᴰ x ys → T (f x)) → T (f x)
    go (inl e) rest = subst (λ z. T (f z)) (sym e) (and_l (f y) (all f ys) t)
    go (inr k) rest = rest k

pub all_of : {A : Type 0} (f : A → Bool) (xs : List A) → ((x : A) → Memᴰ x xs → T (f x)) → T (all f xs)
unfolding all
all_of f [] h = tt
all_of f (x ∷ xs) h = and_i (f x) (all f xs) (h x (Memᴰ.head refl)) (all_of f xs (λ y m. h y (Memᴰ.tail m)))

-- what holds of all holds at each place
pub all_get_d : {A : Type 0} (f : A → Bool) (xs : List A) (k : ℕ) (d : A) → T (all f xs) → k < length xs → T (f (get_or xs k d))
unfolding all
all_get_d f [] k d t h = absurd (omega arith)
all_get_d f (x ∷ xs) zero d t h = and_l (f x) (all f xs) t
all_get_d f (x ∷ xs) (suc k) d t h = all_get_d f xs k d (and_r (f x) (all f xs) t) (omega arith)

-- where not all pass, one does not
pub fails_at : {A : Type 0} (f : A → Bool) (xs : List A) → all f xs ≡ false → (x : A) × Memᴰ x xs × (f x ≡ false)
unfolding all
fails_at f [] h = absurd (false≢true (sym h))
fails_at f (y ∷ ys) h = go (f y) refl h (λ k. fails_at f ys k)
  where
    go : (b : Bool) → f y ≡ b → (b && all f ys) ≡ false → (all f ys ≡ false → (x : _) × Memᴰ x ys × (f x ≡ false)) → (x : _) × Memᴰ x (y ∷ ys) × (f x ≡ false)
    go true e h rest = let r = rest h in (r.0, Memᴰ.tail r.1, r.2)
    go false e h rest = (y, Memᴰ.head refl, e)

-- where one member fails, not all pass
pub fails_all : {A : Type 0} (f : A → Bool) (xs : List A) {x : A} → Memᴰ x xs → f x ≡ false → all f xs ≡ false
fails_all f xs m h = go (all f xs) refl
  where
    go : (b : Bool) → all f xs ≡ b → all f xs ≡ false
    go true e = absurd (subst T h (all_at f xs (os e) m))
    go false e = e

pub all_append : {A : Type 0} (f : A → Bool) (xs ys : List A) → all f (xs ++ ys) ≡ (all f xs && all f ys)
unfolding all
all_append f [] ys = refl
all_append f (x ∷ xs) ys = ap (λ b. f x && b) (all_append f xs ys) ∙ sym (and_assoc (f x) (all f xs) (all f ys))

-- a test that finds a member, by a test of sameness that is right
pub any_member : {A : Type 0} (same : A → A → Bool) → ((a b : A) → T (same a b) → a ≡ b) → (x : A) (ys : List A) → T (any (same x) ys) → Memᴰ x ys
unfolding any
any_member same is x [] t = absurd t
any_member same is x (y ∷ ys) t = elim (or_cases (same x y) (any (same x) ys) t) [
  | inl h ↦ Memᴰ.head (is x y h)
  | inr h ↦ Memᴰ.tail (any_member same is x ys h)
]

pub filter-append : {A : Type 0} (f : A → Bool) (xs ys : List A) → filter f (xs ++ ys) ≡ filter f xs ++ filter f ys
unfolding filter
filter-append f [] ys = refl
filter-append f (x ∷ xs) ys = go (f x) (filter-append f xs ys)
  where
    go : (b : Bool) → filter f (xs ++ ys) ≡ filter f xs ++ filter f ys → cond b (x ∷ filter f (xs ++ ys)) (filter f (xs ++ ys)) ≡ cond b (x ∷ filter f xs) (filter f xs) ++ filter f ys
    go true h = ap (x ∷◌) h
    go false h = h

pub count-append : {A : Type 0} (f : A → Bool) (xs ys : List A) → count f (xs ++ ys) ≡ count f xs + count f ys
unfolding count
count-append f [] ys = omega arith
count-append f (x ∷ xs) ys = go (f x) (count-append f xs ys)
  where
    go : (b : Bool) → count f (xs ++ ys) ≡ count f xs + count f ys → cond b (suc (count f (xs ++ ys))) (count f (xs ++ ys)) ≡ cond b (suc (count f xs)) (count f xs) + count f ys
    go true h = omega arith
    go false h = h

-- two lists are the same, element by element
unfoldable pub same_list : {A : Type 0} → (A → A → Bool) → List A → List A → Bool
same_list same [] [] = true
same_list same [] (y ∷ ys) = false
same_list same (x ∷ xs) [] = false
same_list same (x ∷ xs) (y ∷ ys) = same x y && same_list same xs ys

pub same_list_lem : {A : Type 0} (same : A → A → Bool) → ((a b : A) → T (same a b) → a ≡ b) → (x y : List A) → T (same_list same x y) → x ≡ y
unfolding same_list
same_list_lem same is [] [] t = refl
same_list_lem same is [] (b ∷ y) t = absurd t
same_list_lem same is (a ∷ x) [] t = absurd t
same_list_lem same is (a ∷ x) (b ∷ y) t = ap₂ ◌∷◌ (is a b (and_l (same a b) (same_list same x y) t)) (same_list_lem same is x y (and_r (same a b) (same_list same x y) t))

-- both truth values
unfoldable pub bools : List Bool
bools = true ∷ false ∷ []

pub in_bools : (b : Bool) → Memᴰ b bools
unfolding bools
in_bools true = Memᴰ.head refl
in_bools false = Memᴰ.tail (Memᴰ.head refl)

-- a test of both, and of three truth values at once
unfoldable pub each : (Bool → Bool) → Bool
unfolding all bools
each f = all f bools

pub each_at : (f : Bool → Bool) → T (each f) → (b : Bool) → T (f b)
unfolding each
each_at f t b = all_at f bools t (in_bools b)

-- two numbers that depend on three truth values are the same if they are so by computation
pub same_by_three : (f g : Bool → Bool → Bool → ℕ) → T (each (λ x. each (λ y. each (λ z. eqb (f x y z) (g x y z))))) → (x y z : Bool) → f x y z ≡ g x y z
same_by_three f g t x y z =
    eqb→eq (f x y z) (g x y z)
    (each_at (λ z. eqb (f x y z) (g x y z))
    (each_at (λ y. each (λ z. eqb (f x y z) (g x y z)))
    (each_at (λ x. each (λ y. each (λ z. eqb (f x y z) (g x y z)))) t x) y) z)

-- ---- a choice whose test is known
pub taken : {A : Type 0} {b : Bool} {x r : A} (y : A) → b ≡ true → r ≡ x → r ≡ cond b x y
taken {b} {x} {r} y h e = subst (λ t. r ≡ cond t x y) (sym h) e

pub left : {A : Type 0} {b : Bool} {y r : A} (x : A) → b ≡ false → r ≡ y → r ≡ cond b x y
left {b} {y} {r} x h e = subst (λ t. r ≡ cond t x y) (sym h) e
