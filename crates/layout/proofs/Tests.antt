-- Each row of the refusal table exists and its test holds exactly if the row applies. Assumes nothing.
use Prim.Native.Nat.{ℕ, zero, suc, ◌+◌, ◌*◌, ◌<◌, ◌≤◌}
use mathlib.Core.Path.{◌≡◌, refl, sym, ap, subst, ◌∙◌}
use mathlib.Core.Logic.{◌⊎◌, inl, inr, ⊎_elim, ◌↔◌}
use mathlib.Core.Bool.{Bool, true, false, not, ◌||◌, false≢true, or-true}
use mathlib.Core.List.Memᴰ
use mathlib.Core.List.Memᴰ.{head as here}
use mathlib.Core.List.Memᴰ.{tail as there}
use mathlib.Core.List.{List, [], ◌∷◌, Memᴰ}
use native.Mathlib.Omega.{arith}
use native.Mathlib.Nat.{eq-or-lt_of_le}
use lib.Dec.{T, eqb, ltb}
use lib.IntN.{ℤ, pos, negsuc, nat_abs}
use lib.ListN.{length}
use borrow.Author.Tests.{eqb-true, eqb-false, eq-eqb, ne_eqb, ltb-true, lt-ltb, not-true}
use Rattle.floats.specs.Lists.{any}
use Rattle.floats.specs.Whole.{is_nought}
use Rattle.sets.proofs.Editions.{all_lasts}
use Rattle.layout.specs.Parts.{Triangle, numbers_of, table_place, count_of, stored_length, entry_at, end_before, part_end, triangle_at}
use Rattle.layout.specs.Rules.{is_bad_length, is_bad_trailer, is_bad_entry, is_seen, is_wrong_end, is_far, is_out_of_range, twice_area, is_flat}
use Rattle.layout.specs.Verdict.{Row, bad_length, other_length, bad_trailer, bad_entry, id_again, wrong_end, out_of_range, flat, number_of, ids_before, test}
use Rattle.layout.specs.Rows.{BadLength, BadTrailer, BadEntry, OutOfRange, Flat, Applies}
use Rattle.layout.specs.declared.Entry.{Entry}

-- the numbers of the table
pub in_table : (row : Row) → (11 ≤ number_of row) × (number_of row ≤ 18)
in_table bad_length = (omega arith, omega arith)
in_table other_length = (omega arith, omega arith)
in_table bad_trailer = (omega arith, omega arith)
in_table (bad_entry i) = (omega arith, omega arith)
in_table (id_again i) = (omega arith, omega arith)
in_table wrong_end = (omega arith, omega arith)
in_table (out_of_range k) = (omega arith, omega arith)
in_table (flat k) = (omega arith, omega arith)

pub nonzero : (row : Row) → number_of row ≡ 0 → ⊥
nonzero row e = omega (arith, (in_table row).0)

-- a test holds exactly if a predicate does
abbrev pub Tells : Bool → Type 0 → Type 0
Tells b P = (b ≡ true) ↔ P

pub less : (a b : ℕ) → Tells (ltb a b) (a < b)
less a b = (ltb-true a b, lt-ltb a b)

same : (a b : ℕ) → Tells (eqb a b) (a ≡ b)
same a b = (eqb-true a b, eq-eqb a b)

pub other : (a b : ℕ) → Tells (not (eqb a b)) (a ≡ b → ⊥)
other a b = ((λ h. eqb-false a b (not-true (eqb a b) h)), (λ h. ap not (ne_eqb a b h)))

pub either : {a b : Bool} {A B : Type 0} → Tells a A → Tells b B → Tells (a || b) (A ⊎ B)
either {a} {b} {A} {B} p q = (to a refl, from)
  where
    to : (x : Bool) → a ≡ x → (x || b) ≡ true → A ⊎ B
    to true e h = inl (p.0 e)
    to false e h = inr (q.0 h)

    from : A ⊎ B → (a || b) ≡ true
    from (inl h) = rw (p.1 h) refl
    from (inr h) = rw (q.1 h) (or-true a)

-- of something that there is, or of a row that there always is
pub both : {b : Bool} {E P : Type 0} → Tells b P → (E × (b ≡ true)) ↔ (E × P)
both t = ((λ w. (w.0, t.0 w.1)), (λ w. (w.0, t.1 w.1)))

pub only : {b : Bool} {P : Type 0} → Tells b P → (T true × (b ≡ true)) ↔ P
only t = ((λ w. t.0 w.1), (λ p. (tt, t.1 p)))

-- one of a list passes
abbrev pub One : {A : Type 0} → (A → Bool) → List A → Type 0
One {A} f xs = (x : A) × Memᴰ x xs × (f x ≡ true)

pub some_to : {A : Type 0} (f : A → Bool) (xs : List A) → any f xs ≡ true → One f xs
unfolding any
some_to f [] h = absurd (false≢true h)
some_to {A} f (y ∷ ys) h = go (f y) refl h (some_to f ys)
  where
    go : (b : Bool) → f y ≡ b → (b || any f ys) ≡ true → (any f ys ≡ true → One f ys) → One f (y ∷ ys)
    go true e h rest = (y, here refl, e)
    go false e h rest = let w = rest h in (w.0, there w.1, w.2)

pub some_from : {A : Type 0} (f : A → Bool) (xs : List A) {x : A} → Memᴰ x xs → f x ≡ true → any f xs ≡ true
unfolding any
some_from f [] m e = absurd (Memᴰ.not-nil m)
some_from f (y ∷ ys) {x} m e = go (Memᴰ.cases_cons m) (λ k. some_from f ys k e)
  where
    go : (x ≡ y) ⊎ Memᴰ x ys → (Memᴰ x ys → any f ys ≡ true) → (f y || any f ys) ≡ true
    go (inl q) rest = rw (sym (ap f q) ∙ e) refl
    go (inr k) rest = rw (rest k) (or-true (f y))

some : {A : Type 0} (f : A → Bool) (xs : List A) → Tells (any f xs) (One f xs)
some f xs = (some_to f xs, λ w. some_from f xs w.1 w.2)

-- ---- the tests of plain numbers
length_test : (n : ℕ) → Tells (is_bad_length n) (BadLength n)
length_test n = either (less n 12) (less 65536 n)

trailer_test : (t c n : ℕ) → Tells (is_bad_trailer t c n) (BadTrailer t c n)
trailer_test t c n = either (less 64 c) (other (t + 12 * c + 12) n)

pub entry_test : (e : Entry) (end : ℕ) → Tells (is_bad_entry e end) (BadEntry e end)
unfolding is_bad_entry
entry_test e end = either (same e.count 0) (either (less 2 e.set) (either (all_lasts e.set e.last).wrong (other e.first end)))

pub range_test : (t : Triangle) → Tells (is_out_of_range t) (OutOfRange t)
unfolding is_out_of_range
range_test t =
    let w = some is_far (numbers_of t) in
    ((λ h. let o = w.0 h in (o.0, o.1, ltb-true 1000000 (nat_abs o.0) o.2)), (λ o. w.1 (o.0, o.1, lt-ltb 1000000 (nat_abs o.0) o.2)))

pub nought : (z : ℤ) → Tells (is_nought z) (z ≡ pos 0)
nought (pos zero) = ((λ h. refl), (λ h. refl))
nought (pos (suc n)) = ((λ h. absurd (false≢true h)), (λ h. absurd (false≢true (ap is_nought h))))
nought (negsuc n) = ((λ h. absurd (false≢true h)), (λ h. absurd (false≢true (ap is_nought h))))

pub Flat-test : (t : Triangle) → Tells (is_flat t) (Flat t)
unfolding is_flat
Flat-test t = nought (twice_area t)

-- ---- ids that were seen: `before i` has those with a lower number, the latest first
module _ (id_of : ℕ → ℕ) (before : ℕ → List ℕ) (none : before 0 ≡ []) (next : (i : ℕ) → before (suc i) ≡ id_of i ∷ before i) where
  id_at : (i j : ℕ) → j < i → Memᴰ (id_of j) (before i)
  id_at zero j h = absurd (omega arith)
  id_at (suc i) j h = let le : j ≤ i = omega arith in
      subst (Memᴰ (id_of j)) (sym (next i)) (⊎_elim (λ (q : j ≡ i). here (ap id_of q)) (λ (l : j < i). there (id_at i j l)) (eq-or-lt_of_le le))

  at_id : (i : ℕ) {id : ℕ} → Memᴰ id (before i) → (j : ℕ) × (j < i) × (id_of j ≡ id)
  at_id zero {id} m = absurd (Memᴰ.not-nil (subst (Memᴰ id) none m))
  at_id (suc i) {id} m = go (Memᴰ.cases_cons (subst (Memᴰ id) (next i) m)) (at_id i)
    where
      go : (id ≡ id_of i) ⊎ Memᴰ id (before i) → (Memᴰ id (before i) → (j : ℕ) × (j < i) × (id_of j ≡ id)) → (j : ℕ) × (j < suc i) × (id_of j ≡ id)
      go (inl q) rest = (i, omega arith, sym q)
      go (inr k) rest = let w = rest k in let l = w.1 in (w.0, omega arith, w.2)

  pub seen_test : (i id : ℕ) → Tells (is_seen id (before i)) ((j : ℕ) × (j < i) × (id_of j ≡ id))
  unfolding is_seen
  seen_test i id =
      let w = some (eqb id) (before i) in (
        (λ h. let o = w.0 h in let a = at_id i o.1 in (a.0, a.1, a.2 ∙ sym (eqb-true id o.0 o.2))),
        (λ a. w.1 (id_of a.0, id_at i a.0 a.1, eq-eqb id (id_of a.0) (sym a.2))),
      )

-- ---- the tests of a file
module _ (file : List ℕ) where
  ids_before_lem : (i id : ℕ) → Tells (is_seen id (ids_before file i)) ((j : ℕ) × (j < i) × ((entry_at file j).id ≡ id))
  unfolding ids_before
  ids_before_lem = seen_test (λ j. (entry_at file j).id) (ids_before file) refl (λ i. refl)

  -- the end of the last entry, or 0
  EndsWrong : ℕ → Type 0
  EndsWrong n = ((i : ℕ) × (i + 1 ≡ n) × (part_end (entry_at file i) ≡ table_place file → ⊥)) ⊎ ((n ≡ 0) × (table_place file ≡ 0 → ⊥))

  end_test : (n : ℕ) → Tells (is_wrong_end (end_before file n) (table_place file)) (EndsWrong n)
  unfolding EndsWrong end_before
  end_test zero =
      let w = other 0 (table_place file) in
      ((λ h. inr (refl, λ q. w.0 h (sym q))), (λ x. ⊎_elim (λ a. let q = a.1 in absurd (omega arith)) (λ b. w.1 (λ q. b.1 (sym q))) x))
  end_test (suc n) =
      let w = other (part_end (entry_at file n)) (table_place file) in
      ((λ h. inl (n, omega arith, w.0 h)), (λ x. ⊎_elim (λ a. let q : a.0 ≡ n = omega (arith, a.1) in w.1 (subst (λ m. part_end (entry_at file m) ≡ table_place file → ⊥) q a.2)) (λ b. let q = b.0 in absurd (omega arith)) x))

  -- there is such a row: rows of entries for entries, of triangles for triangles
  abbrev pub Exists : Row → Type 0
  Exists bad_length = T true
  Exists other_length = T true
  Exists bad_trailer = T true
  Exists (bad_entry i) = i < count_of file
  Exists (id_again i) = i < count_of file
  Exists wrong_end = T true
  Exists (out_of_range k) = 24 * k + 24 ≤ table_place file
  Exists (flat k) = 24 * k + 24 ≤ table_place file

  pub applies : (row : Row) → (Exists row × (test file row ≡ true)) ↔ Applies file row
  unfolding test
  applies bad_length = only (length_test (length file))
  applies other_length = only (other (stored_length file) (length file))
  applies bad_trailer = only (trailer_test (table_place file) (count_of file) (length file))
  applies (bad_entry i) = both (entry_test (entry_at file i) (end_before file i))
  applies (id_again i) = both (ids_before_lem i (entry_at file i).id)
  applies wrong_end = unfold EndsWrong in only (end_test (count_of file))
  applies (out_of_range k) = both (range_test (triangle_at file k))
  applies (flat k) = both (Flat-test (triangle_at file k))
