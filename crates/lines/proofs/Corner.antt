-- Over any lines: where each edge meets each line that it crosses once, both lines through a corner agree whether it lies inside, since each sees
-- of the walk just what `Two` is about. Assumes nothing.
use mathlib.Core.Path.{◌≡◌, refl, sym, ap, ap₂, subst, ◌∙◌}
use mathlib.Core.Bool.{Bool, true, false, not, cond, false≢true}
use mathlib.Core.List.{List, [], ◌∷◌, ◌++◌, map}
use Prim.Native.Nat.{ℕ, suc, ◌+◌}
use lib.Dec.{eqb}
use lib.ListN.{length, length-append}
use borrow.Author.Tests.{eqb-true}
use Rattle.floats.specs.Lists.{filter, count, once, differ}
use Rattle.floats.proofs.Lists.{filter-append, each, same_by_three}
use Rattle.lines.specs.Crossings.{Crossing, flip, walk}
use Rattle.lines.specs.Round.{on_both_sides, crossings_of, crossings, hits, corner_by, edges_across, MeetsOnce, Agrees}
use Rattle.lines.proofs.Count.{round, across}
use Rattle.lines.proofs.Two.{seen, unlike, says, say_at, short}

-- ---- from the walk to what two lines see of it
map-append : {A B : Type 0} (f : A → B) (x y : List A) → map f (x ++ y) ≡ map f x ++ map f y
map-append f [] y = refl
map-append f (a ∷ x) y = ap (f a ∷◌) (map-append f x y)

-- what decides of a corner: two crossings of one of its lines, and that their signs on the other are unlike
apart_is : (b : ℕ) (l : List Crossing) → on_both_sides b l ≡ unlike (map (λ c. c.signs b) l)
unfolding on_both_sides unlike
apart_is b [] = refl
apart_is b (c ∷ []) = refl
apart_is b (c ∷ d ∷ []) = refl
apart_is b (c ∷ d ∷ e ∷ r) = refl

eqb_sym : (a b : ℕ) → eqb a b ≡ eqb b a
eqb_sym a b = go (eqb a b) (eqb b a) refl refl
  where
    go : (x y : Bool) → eqb a b ≡ x → eqb b a ≡ y → eqb a b ≡ eqb b a
    go true y p q = ap₂ eqb (eqb-true a b p) (sym (eqb-true a b p))
    go false true p q = ap₂ eqb (sym (eqb-true b a q)) (eqb-true b a q)
    go false false p q = p ∙ sym q

-- the order o, as lines a and b see it
proj : ℕ → ℕ → List ℕ → List Bool
proj a b [] = []
proj a b (l ∷ o) = cond (eqb a l) (true ∷ proj a b o) (cond (eqb b l) (false ∷ proj a b o) (proj a b o))

count_first : (a b : ℕ) (o : List ℕ) → count (λ e. e) (proj a b o) ≡ count (eqb a) o
unfolding proj count
count_first a b [] = refl
count_first a b (l ∷ o) = go (eqb a l) (eqb b l) (count_first a b o)
  where
    go : (x y : Bool) → count (λ e. e) (proj a b o) ≡ count (eqb a) o → count (λ e. e) (cond x (true ∷ proj a b o) (cond y (false ∷ proj a b o) (proj a b o))) ≡ cond x (suc (count (eqb a) o)) (count (eqb a) o)
    go true y h = ap suc h
    go false true h = h
    go false false h = h

-- the crossings of line a by edge e
hits_on : ℕ → (ℕ → Bool) → List ℕ → ℕ → List Crossing
hits_on e s o a = filter (λ c. eqb a c.line) (walk e s o)

hits_length : (e : ℕ) (s : ℕ → Bool) (o : List ℕ) (a : ℕ) → length (hits_on e s o a) ≡ count (eqb a) o
unfolding hits_on walk filter count
hits_length e s [] a = refl
hits_length e s (l ∷ o) a = go (eqb a l) (hits_length e (flip l s) o a)
  where
    go : (x : Bool) → length (hits_on e (flip l s) o a) ≡ count (eqb a) o → length (cond x (record { edge = e; line = l; signs = s } ∷ hits_on e (flip l s) o a) (hits_on e (flip l s) o a)) ≡ cond x (suc (count (eqb a) o)) (count (eqb a) o)
    go true h = ap suc h
    go false h = h

module _ (a b : ℕ) (distinct : eqb a b ≡ true → ⊥) where
  both : (l : ℕ) → eqb a l ≡ true → eqb b l ≡ true → ⊥
  both l p q = distinct (subst (λ z. eqb a z ≡ true) (sym (eqb-true b l q)) p)

  count_second : (o : List ℕ) → count not (proj a b o) ≡ count (eqb b) o
  unfolding proj count
  count_second [] = refl
  count_second (l ∷ o) = go (eqb a l) (eqb b l) refl refl (count_second o)
    where
      go : (x y : Bool) → eqb a l ≡ x → eqb b l ≡ y → count not (proj a b o) ≡ count (eqb b) o → count not (cond x (true ∷ proj a b o) (cond y (false ∷ proj a b o) (proj a b o))) ≡ cond y (suc (count (eqb b) o)) (count (eqb b) o)
      go true true p q h = absurd (both l p q)
      go true false p q h = h
      go false true p q h = ap suc h
      go false false p q h = h

  swapped : (o : List ℕ) → proj b a o ≡ map not (proj a b o)
  unfolding proj
  swapped [] = refl
  swapped (l ∷ o) = go (eqb a l) (eqb b l) refl refl (swapped o)
    where
      go : (x y : Bool) → eqb a l ≡ x → eqb b l ≡ y → proj b a o ≡ map not (proj a b o) → cond y (true ∷ proj b a o) (cond x (false ∷ proj b a o) (proj b a o)) ≡ map not (cond x (true ∷ proj a b o) (cond y (false ∷ proj a b o) (proj a b o)))
      go true true p q h = absurd (both l p q)
      go true false p q h = ap (false ∷◌) h
      go false true p q h = ap (true ∷◌) h
      go false false p q h = h

  seen_is : (e : ℕ) (s : ℕ → Bool) (o : List ℕ) → map (λ c. c.signs b) (hits_on e s o a) ≡ seen (s b) (proj a b o)
  unfolding hits_on walk filter proj seen flip
  seen_is e s [] = refl
  seen_is e s (l ∷ o) = go (eqb a l) (eqb b l) refl refl (seen_is e (flip l s) o)
    where
      at_b : (y : Bool) → eqb b l ≡ y → flip l s b ≡ differ y (s b)
      at_b y q = ap (λ t. differ t (s b)) (eqb_sym l b ∙ q)

      kept : (t : Bool) → differ false t ≡ t
      kept true = refl
      kept false = refl

      turned : (t : Bool) → differ true t ≡ not t
      turned true = refl
      turned false = refl

      go : (x y : Bool) → eqb a l ≡ x → eqb b l ≡ y → map (λ c. c.signs b) (hits_on e (flip l s) o a) ≡ seen (flip l s b) (proj a b o) →
          map (λ c. c.signs b) (cond x (record { edge = e; line = l; signs = s } ∷ hits_on e (flip l s) o a) (hits_on e (flip l s) o a)) ≡ seen (s b) (cond x (true ∷ proj a b o) (cond y (false ∷ proj a b o) (proj a b o)))
      go true true p q h = absurd (both l p q)
      go true false p q h = ap (s b ∷◌) (h ∙ ap (λ t. seen t (proj a b o)) (at_b false q ∙ kept (s b)))
      go false true p q h = h ∙ ap (λ t. seen t (proj a b o)) (at_b true q ∙ turned (s b))
      go false false p q h = h ∙ ap (λ t. seen t (proj a b o)) (at_b false q ∙ kept (s b))

-- the crossings of line a, edge by edge
hits_are : (u : ℕ → ℕ → Bool) (o : ℕ → List ℕ) (a : ℕ) → hits u o a ≡ hits_on 0 (u 0) (o 0) a ++ (hits_on 1 (u 1) (o 1) a ++ hits_on 2 (u 2) (o 2) a)
unfolding hits crossings crossings_of hits_on
hits_are u o a =
    filter-append (λ c. eqb a c.line) (walk 0 (u 0) (o 0)) (walk 1 (u 1) (o 1) ++ walk 2 (u 2) (o 2))
    ∙ ap (λ l. hits_on 0 (u 0) (o 0) a ++ l) (filter-append (λ c. eqb a c.line) (walk 1 (u 1) (o 1)) (walk 2 (u 2) (o 2)))

says_is : (a b : ℕ) → (eqb a b ≡ true → ⊥) → (u : ℕ → ℕ → Bool) (o : ℕ → List ℕ) → corner_by u o a b ≡ says (u 0 b) (u 1 b) (u 2 b) (proj a b (o 0)) (proj a b (o 1)) (proj a b (o 2))
unfolding corner_by says
says_is a b d u o =
    apart_is b (hits u o a)
    ∙ (ap (λ l. unlike (map (λ c. c.signs b) l)) (hits_are u o a)
    ∙ ap unlike (map-append _ (hits_on 0 (u 0) (o 0) a) (hits_on 1 (u 1) (o 1) a ++ hits_on 2 (u 2) (o 2) a)
    ∙ ap₂ ◌++◌ (seen_is a b d 0 (u 0) (o 0)) (map-append _ (hits_on 1 (u 1) (o 1) a) (hits_on 2 (u 2) (o 2) a)
    ∙ ap₂ ◌++◌ (seen_is a b d 1 (u 1) (o 1)) (seen_is a b d 2 (u 2) (o 2)))))

module _ (u : ℕ → ℕ → Bool) (o : ℕ → List ℕ) (m : MeetsOnce u o) where
  agree_distinct : (a b : ℕ) → (eqb a b ≡ true → ⊥) → corner_by u o a b ≡ corner_by u o b a
  agree_distinct a b d =
      says_is a b d u o
      ∙ (say_at (u 0 a) (u 1 a) (u 2 a) (u 0 b) (u 1 b) (u 2 b) _ _ _
      (short _ _ _ (count_first a b (o 0) ∙ m.edge0 a) (count_second a b d (o 0) ∙ m.edge0 b))
      (short _ _ _ (count_first a b (o 1) ∙ m.edge1 a) (count_second a b d (o 1) ∙ m.edge1 b))
      (short _ _ _ (count_first a b (o 2) ∙ m.edge2 a) (count_second a b d (o 2) ∙ m.edge2 b))
      ∙ (cc (swapped a b d (o 0), swapped a b d (o 1), swapped a b d (o 2))
      ∙ sym (says_is b a (λ h. d (eqb_sym a b ∙ h)) u o)))

  agree : (a b : ℕ) → corner_by u o a b ≡ corner_by u o b a
  agree a b = go (eqb a b) refl
    where
      go : (x : Bool) → eqb a b ≡ x → corner_by u o a b ≡ corner_by u o b a
      go true p = ap₂ (corner_by u o) (eqb-true a b p) (sym (eqb-true a b p))
      go false p = agree_distinct a b (λ h. false≢true (sym p ∙ h))

  found_all : (a : ℕ) → length (hits u o a) ≡ edges_across u a
  unfolding count
  found_all a =
      ap length (hits_are u o a)
      ∙ simp (length-append, hits_length, m.edge0, m.edge1, m.edge2) (same_by_three sum nested (unfold each in tt) (differ (u 0 a) (u 1 a)) (differ (u 1 a) (u 2 a)) (differ (u 2 a) (u 0 a)) ∙ round u a)
    where
      sum : Bool → Bool → Bool → ℕ
      sum x y z = once x + (once y + once z)

      nested : Bool → Bool → Bool → ℕ
      nested x y z = cond x (suc (cond y (suc (cond z 1 0)) (cond z 1 0))) (cond y (suc (cond z 1 0)) (cond z 1 0))

  pub agrees : Agrees u o
  agrees = record { none_or_two = across u; all_found = found_all; both_lines = agree }
