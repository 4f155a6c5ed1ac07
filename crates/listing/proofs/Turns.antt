-- What is in lists that are taken in turn, filtered and mapped, and in which order. Assumes nothing.
use Prim.Native.Nat.{ℕ, zero, suc, ◌+◌, ◌<◌}
use mathlib.Core.Path.{◌≡◌, refl, sym, ap, ap₂, subst, ◌∙◌}
use mathlib.Core.Logic.{◌⊎◌, inl, inr}
use mathlib.Core.Bool.{Bool, true, false, cond}
use mathlib.Core.List.Memᴰ.{append_left as on-left}
use mathlib.Core.List.Memᴰ.{append_right as on-right}
use mathlib.Core.List.Memᴰ.{head as here}
use mathlib.Core.List.Memᴰ.{tail as there}
use mathlib.Core.List.{List, [], ◌∷◌, ◌++◌, map, append_assoc, append-nil, Memᴰ}
use native.Mathlib.Omega.{arith}
use lib.Dec.{ltb}
use borrow.Author.Tests.{ltb-true, ltb-false}
use lib.ListN.{length, get_or}
use Rattle.floats.specs.Lists.{filter, count}
use Rattle.floats.proofs.Lists.{count-append}
use Rattle.listing.specs.Turns.{up_to, each, folded}

-- ---- membership
pub in_append : {A : Type 0} (xs ys : List A) {x : A} → Memᴰ x (xs ++ ys) → Memᴰ x xs ⊎ Memᴰ x ys
in_append [] ys m = inr m
in_append (y ∷ xs) ys (here e) = inl (here e)
in_append (y ∷ xs) ys (there m) = elim (in_append xs ys m) [
  | inl l ↦ inl (there l)
  | inr r ↦ inr r
]

pub below : (n : ℕ) {i : ℕ} → Memᴰ i (up_to n) → i < n
unfolding up_to
below zero m = elim m [ ]
below (suc n) m = elim (in_append (up_to n) (n ∷ []) m) [
  | inl l ↦ let h = below n l in omega (arith, h)
  | inr r ↦ last r
]
  where
    last : {i : ℕ} → Memᴰ i (n ∷ []) → i < suc n
    last (here e) = omega (arith, e)
    last (there x5) = elim x5 [ ]

pub reached : (n i : ℕ) → i < n → Memᴰ i (up_to n)
unfolding up_to
reached zero i h = absurd (omega (arith, h))
reached (suc n) i h = go (reached n i) (ltb i n) refl
  where
    go : (i < n → Memᴰ i (up_to n)) → (b : Bool) → ltb i n ≡ b → Memᴰ i (up_to n ++ (n ∷ []))
    go f true e = on-left (n ∷ []) (f (ltb-true i n e))
    go f false e = on-right (up_to n) (here (omega (arith, h, ltb-false i n e)))

module _ {A : Type 0} (p : A → Bool) where
  pub kept : (xs : List A) {x : A} → Memᴰ x xs → p x ≡ true → Memᴰ x (filter p xs)
  unfolding filter
  kept [] m h = elim m [ ]
  kept (y ∷ xs) {x} (here e) h = rw (ap p (sym e) ∙ h) (here e)
  kept (y ∷ xs) {x} (there m) h = go (p y) (kept xs m h)
    where
      go : (b : Bool) → Memᴰ x (filter p xs) → Memᴰ x (cond b (y ∷ filter p xs) (filter p xs))
      go true m = there m
      go false m = m

  pub passed : (xs : List A) {x : A} → Memᴰ x (filter p xs) → Memᴰ x xs × (p x ≡ true)
  unfolding filter
  passed [] m = elim m [ ]
  passed (y ∷ xs) {x} m = go (p y) refl (passed xs) m
    where
      lift : Memᴰ x xs × (p x ≡ true) → Memᴰ x (y ∷ xs) × (p x ≡ true)
      lift r = (there r.0, r.1)

      first : p y ≡ true → (Memᴰ x (filter p xs) → Memᴰ x xs × (p x ≡ true)) → Memᴰ x (y ∷ filter p xs) → Memᴰ x (y ∷ xs) × (p x ≡ true)
      first e f (here q) = (here q, ap p q ∙ e)
      first e f (there m) = lift (f m)

      go : (b : Bool) → p y ≡ b → (Memᴰ x (filter p xs) → Memᴰ x xs × (p x ≡ true)) → Memᴰ x (cond b (y ∷ filter p xs) (filter p xs)) → Memᴰ x (y ∷ xs) × (p x ≡ true)
      go true e f m = first e f m
      go false e f m = lift (f m)

module _ {A B : Type 0} (f : A → B) where
  pub mapped : (xs : List A) {x : A} → Memᴰ x xs → Memᴰ (f x) (map f xs)
  mapped [] m = elim m [ ]
  mapped (y ∷ xs) (here e) = here (ap f e)
  mapped (y ∷ xs) (there m) = there (mapped xs m)

  pub unmapped : (xs : List A) {y : B} → Memᴰ y (map f xs) → (x : A) × Memᴰ x xs × (y ≡ f x)
  unmapped [] m = elim m [ ]
  unmapped (x ∷ xs) (here e) = (x, here refl, e)
  unmapped (x ∷ xs) (there m) = let r = unmapped xs m in (r.0, there r.1, r.2)

module _ {A B : Type 0} (f : A → List B) where
  pub in_each : (xs : List A) {x : A} {y : B} → Memᴰ x xs → Memᴰ y (f x) → Memᴰ y (each f xs)
  unfolding each
  in_each [] m n = elim m [ ]
  in_each (z ∷ xs) {x} {y} (here e) n = on-left (each f xs) (subst (λ w. Memᴰ y (f w)) e n)
  in_each (z ∷ xs) (there m) n = on-right (f z) (in_each xs m n)

  pub of_each : (xs : List A) {y : B} → Memᴰ y (each f xs) → (x : A) × Memᴰ x xs × Memᴰ y (f x)
  unfolding each
  of_each [] m = elim m [ ]
  of_each (z ∷ xs) m = elim (in_append (f z) (each f xs) m) [
    | inl l ↦ (z, here refl, l)
    | inr r ↦ let q = of_each xs r in (q.0, there q.1, q.2)
  ]

  pub each_append : (xs ys : List A) → each f (xs ++ ys) ≡ each f xs ++ each f ys
  unfolding each
  each_append [] ys = refl
  each_append (x ∷ xs) ys = ap (λ r. f x ++ r) (each_append xs ys) ∙ sym (append_assoc (f x) (each f xs) (each f ys))

-- ---- one after the other
pub map-append : {A B : Type 0} (f : A → B) (xs ys : List A) → map f (xs ++ ys) ≡ map f xs ++ map f ys
map-append f [] ys = refl
map-append f (x ∷ xs) ys = ap (f x ∷◌) (map-append f xs ys)

pub folded-append : {A B : Type 0} (add : B → A → B) (so_far : B) (xs ys : List A) → folded add so_far (xs ++ ys) ≡ folded add (folded add so_far xs) ys
unfolding folded
folded-append add so_far [] ys = refl
folded-append add so_far (x ∷ xs) ys = folded-append add (add so_far x) xs ys

pub each_one : {A B : Type 0} (f : A → List B) (x : A) → each f (x ∷ []) ≡ f x
unfolding each
each_one f x = append-nil (f x)

-- what gives the same of each that is there gives the same of all
pub map-map : {A B C : Type 0} (g : B → C) (f : A → B) (xs : List A) → map g (map f xs) ≡ map (λ x. g (f x)) xs
map-map g f [] = refl
map-map g f (x ∷ xs) = ap (g (f x) ∷◌) (map-map g f xs)

pub map_same_in : {A B : Type 0} (f g : A → B) (xs : List A) → ((x : A) → Memᴰ x xs → f x ≡ g x) → map f xs ≡ map g xs
map_same_in f g [] same = refl
map_same_in f g (x ∷ xs) same = ap₂ ◌∷◌ (same x (here refl)) (map_same_in f g xs (λ y m. same y (there m)))

pub map_same : {A B : Type 0} (f g : A → B) → ((x : A) → f x ≡ g x) → (xs : List A) → map f xs ≡ map g xs
map_same f g same xs = map_same_in f g xs (λ x m. same x)

pub filter_same_in : {A : Type 0} (p q : A → Bool) (xs : List A) → ((x : A) → Memᴰ x xs → p x ≡ q x) → filter p xs ≡ filter q xs
unfolding filter
filter_same_in p q [] same = refl
filter_same_in p q (x ∷ xs) same = ap₂ (λ b r. cond b (x ∷ r) r) (same x (here refl)) (filter_same_in p q xs (λ y m. same y (there m)))

-- ---- how many
pub filter-count : {A : Type 0} (p : A → Bool) (xs : List A) → length (filter p xs) ≡ count p xs
unfolding filter count
filter-count p [] = refl
filter-count p (x ∷ xs) = go (p x) (filter-count p xs)
  where
    go : (b : Bool) → length (filter p xs) ≡ count p xs → length (cond b (x ∷ filter p xs) (filter p xs)) ≡ cond b (suc (count p xs)) (count p xs)
    go true e = ap suc e
    go false e = e

-- a sum from n on
pub sum_from : (n : ℕ) (ns : List ℕ) → folded ◌+◌ n ns ≡ n + folded ◌+◌ 0 ns
unfolding folded
sum_from n [] = omega arith
sum_from n (m ∷ ns) = sum_from (n + m) ns ∙ (together (folded ◌+◌ 0 ns) ∙ ap (λ k. n + k) (sym (sum_from (0 + m) ns)))
  where
    together : (k : ℕ) → n + m + k ≡ n + (0 + m + k)
    together k = omega arith

pub count-each : {A B : Type 0} (p : B → Bool) (f : A → List B) (xs : List A) → count p (each f xs) ≡ folded ◌+◌ 0 (map (λ x. count p (f x)) xs)
unfolding each count folded
count-each p f [] = refl
count-each p f (x ∷ xs) = count-append p (f x) (each f xs) ∙ (ap (λ n. count p (f x) + n) (count-each p f xs) ∙ (from_none (count p (f x)) (folded ◌+◌ 0 rest) ∙ sym (sum_from (0 + count p (f x)) rest)))
  where
    rest : List ℕ
    rest = map (λ y. count p (f y)) xs

    from_none : (n k : ℕ) → n + k ≡ 0 + n + k
    from_none n k = omega arith

-- ---- by place
pub member_at : {A : Type 0} (xs : List A) (d : A) (k : ℕ) → k < length xs → Memᴰ (get_or xs k d) xs
member_at [] d k h = absurd (omega (arith, h))
member_at (x ∷ xs) d zero h = here refl
member_at (x ∷ xs) d (suc k) h = there (member_at xs d k (omega (arith, h)))

pub map_at : {A B : Type 0} (g : A → B) (xs : List A) (k : ℕ) (d : B) (d' : A) → k < length xs → get_or (map g xs) k d ≡ g (get_or xs k d')
map_at g [] k d d' h = absurd (omega (arith, h))
map_at g (x ∷ xs) zero d d' h = refl
map_at g (x ∷ xs) (suc k) d d' h = map_at g xs k d d' (omega (arith, h))

-- ---- order: each stands before all that follow it
unfoldable pub Sorted : {A : Type 0} → (A → A → Type 0) → List A → Type 0
Sorted R [] = Unit
Sorted R (x ∷ xs) = ((y : _) → Memᴰ y xs → R x y) × Sorted R xs

module _ {A : Type 0} (R : A → A → Type 0) where
  pub Sorted-append : (xs ys : List A) → Sorted R xs → Sorted R ys → ((x y : A) → Memᴰ x xs → Memᴰ y ys → R x y) → Sorted R (xs ++ ys)
  unfolding Sorted
  Sorted-append [] ys p q across = q
  Sorted-append (x ∷ xs) ys p q across = (first, Sorted-append xs ys p.1 q (λ a b m n. across a b (there m) n))
    where
      first : (y : A) → Memᴰ y (xs ++ ys) → R x y
      first y m = elim (in_append xs ys m) [
        | inl l ↦ p.0 y l
        | inr r ↦ across x y (here refl) r
      ]

  pub sorted_filter : (p : A → Bool) (xs : List A) → Sorted R xs → Sorted R (filter p xs)
  unfolding Sorted filter
  sorted_filter p [] s = s
  sorted_filter p (x ∷ xs) s = go (p x) (sorted_filter p xs s.1)
    where
      go : (b : Bool) → Sorted R (filter p xs) → Sorted R (cond b (x ∷ filter p xs) (filter p xs))
      go true t = (λ y m. s.0 y (passed p xs m).0, t)
      go false t = t

  pub Sorted-at : (xs : List A) (d : A) → Sorted R xs → (k l : ℕ) → k < l → l < length xs → R (get_or xs k d) (get_or xs l d)
  unfolding Sorted
  Sorted-at [] d s k l h n = absurd (omega (arith, n))
  Sorted-at (x ∷ xs) d s k zero h n = absurd (omega (arith, h))
  Sorted-at (x ∷ xs) d s zero (suc l) h n = s.0 (get_or xs l d) (member_at xs d l (omega (arith, n)))
  Sorted-at (x ∷ xs) d s (suc k) (suc l) h n = Sorted-at xs d s.1 k l (omega (arith, h)) (omega (arith, n))

-- where nothing stands before itself, none is there twice
pub Sorted-once : {A : Type 0} (R : A → A → Type 0) (xs : List A) (d : A) → ((x y : A) → R x y → x ≡ y → ⊥) → Sorted R xs → (k l : ℕ) → k < length xs → l < length xs → get_or xs k d ≡ get_or xs l d → k ≡ l
Sorted-once R xs d not_same s k l m n e = go (ltb k l) refl (ltb l k) refl
  where
    go : (b : Bool) → ltb k l ≡ b → (c : Bool) → ltb l k ≡ c → k ≡ l
    go true h c g = absurd (not_same (get_or xs k d) (get_or xs l d) (Sorted-at R xs d s k l (ltb-true k l h) n) e)
    go false h true g = absurd (not_same (get_or xs l d) (get_or xs k d) (Sorted-at R xs d s l k (ltb-true l k g) m) (sym e))
    go false h false g = omega (arith, ltb-false k l h, ltb-false l k g)

pub Sorted-map : {A B : Type 0} (R : A → A → Type 0) (S : B → B → Type 0) (f : A → B) (xs : List A) → ((x y : A) → R x y → S (f x) (f y)) → Sorted R xs → Sorted S (map f xs)
unfolding Sorted
Sorted-map R S f [] h s = s
Sorted-map {B = B} R S f (x ∷ xs) h s = (first, Sorted-map R S f xs h s.1)
  where
    first : (y : B) → Memᴰ y (map f xs) → S (f x) y
    first y m = let r = unmapped f xs m in subst (S (f x)) (sym r.2) (h x r.0 (s.0 r.0 r.1))

pub Sorted-each : {A B : Type 0} (R : A → A → Type 0) (S : B → B → Type 0) (f : A → List B) (xs : List A) → Sorted R xs → ((x : A) → Sorted S (f x)) → ((x y : A) → R x y → (u v : B) → Memᴰ u (f x) → Memᴰ v (f y) → S u v) → Sorted S (each f xs)
unfolding Sorted each
Sorted-each R S f [] s own across = s
Sorted-each {B = B} R S f (x ∷ xs) s own across = Sorted-append S (f x) (each f xs) (own x) (Sorted-each R S f xs s.1 own across) after
  where
    after : (u v : B) → Memᴰ u (f x) → Memᴰ v (each f xs) → S u v
    after u v m n = let r = of_each f xs n in across x r.0 (s.0 r.0 r.1) u v m r.2

pub Sorted-up_to : (n : ℕ) → Sorted ◌<◌ (up_to n)
unfolding Sorted up_to
Sorted-up_to zero = tt
Sorted-up_to (suc n) = Sorted-append ◌<◌ (up_to n) (n ∷ []) (Sorted-up_to n) ((λ y m. elim m [ ]), tt) last
  where
    last : (x y : ℕ) → Memᴰ x (up_to n) → Memᴰ y (n ∷ []) → x < y
    last x y m (here e) = let h = below n m in omega (arith, h, e)
    last x y m (there x5) = elim x5 [ ]
