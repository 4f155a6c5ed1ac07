-- The cascade of refusals is a search along a list of rows, which holds exactly the rows that there are, in their order. Assumes nothing.
use Prim.Native.Nat.{ℕ, zero, suc, ◌+◌, ◌*◌, ◌/◌, ◌<◌, ◌≤◌}
use mathlib.Core.Path.{◌≡◌, refl, sym, ap, ap₂, subst, ◌∙◌}
use mathlib.Core.Logic.{inl, ⊎_elim, ◌↔◌}
use mathlib.Core.Bool.{Bool, true, false, not, ◌||◌, cond}
use mathlib.Core.List.Memᴰ
use mathlib.Core.List.Memᴰ.{head as here}
use mathlib.Core.List.Memᴰ.{tail as there}
use mathlib.Core.List.{List, [], ◌∷◌, ◌++◌, Memᴰ}
use native.Mathlib.Omega.{arith}
use lib.Dec.{T, eqb}
use borrow.Author.Tests.{ne_eqb}
use lib.ListN.{length}
use Rattle.floats.specs.Turns.{in_turn}
use Rattle.floats.proofs.Turns.{turn_listed, turn_members, Sorted, turn_Sorted, turn_stage, late}
use Rattle.sets.specs.Sets.{is_retired}
use Rattle.sets.proofs.Sets.{all_roles}
use Rattle.layout.specs.Rules.{is_bad_entry, is_seen, is_out_of_range, is_flat, entry_rule, triangle_rule}
use Rattle.layout.proofs.Tests.{Tells, less, other, either, both, only, entry_test, range_test, Flat-test, seen_test}
use Rattle.filing.specs.Given.{Given, recordings, triangles, id_at, set_at, sum_of, sum_to, entry_of, triangle_in}
use Rattle.filing.specs.File.{file_length}
use Rattle.filing.specs.Refusals.{Row, unequal, bad_entry, id_again, wrong_sum, out_of_range, flat, too_many, no_room, number_of, number_if, or_else, first_from, is_unequal, ids_before, new_entry_rule, entry_number, is_wrong_sum, triangle_number, is_too_many, has_no_room, refusal}
use Rattle.filing.specs.Rows.{Applies, stage_of, turn_of}

-- the numbers of the table
pub in_table : (row : Row) → (13 ≤ number_of row) × (number_of row ≤ 19)
in_table unequal = (omega arith, omega arith)
in_table (bad_entry i) = (omega arith, omega arith)
in_table (id_again i) = (omega arith, omega arith)
in_table wrong_sum = (omega arith, omega arith)
in_table (out_of_range k) = (omega arith, omega arith)
in_table (flat k) = (omega arith, omega arith)
in_table too_many = (omega arith, omega arith)
in_table no_room = (omega arith, omega arith)

pub nonzero : (row : Row) → number_of row ≡ 0 → ⊥
nonzero row e = omega (arith, (in_table row).0)

-- six times as many as fit are all of them, if they are some number of sixes
pub sixes : (t n : ℕ) → 6 * t ≡ n → 6 * (n / 6) ≡ n
sixes t n e = omega arith

module _ (g : Given) (room : ℕ) where
  -- the row's test
  unfoldable pub test : Row → Bool
  unfolding entry_of sum_of ids_before triangle_in is_bad_entry is_seen is_out_of_range is_flat
  test unequal = is_unequal g
  test (bad_entry i) = is_retired (set_at g i) || is_bad_entry (entry_of g i) (24 * sum_to g i)
  test (id_again i) = is_seen (id_at g i) (ids_before g.ids i)
  test wrong_sum = is_wrong_sum g
  test (out_of_range k) = is_out_of_range (triangle_in g k)
  test (flat k) = is_flat (triangle_in g k)
  test too_many = is_too_many g
  test no_room = has_no_room g room

  -- what the first of these rows that holds says
  unfoldable pub first_of : List Row → ℕ
  unfolding test
  first_of [] = 0
  first_of (row ∷ rows) = cond (test row) (number_of row) (first_of rows)

  last : List Row
  last = too_many ∷ no_room ∷ []

  triangle_rows : List Row
  unfolding last
  triangle_rows = in_turn out_of_range flat (triangles g) 0 ++ last

  pub rows : List Row
  unfolding triangle_rows
  rows = unequal ∷ (in_turn bad_entry id_again (recordings g) 0 ++ (wrong_sum ∷ triangle_rows))

  -- ---- the cascade along the rows
  or_assoc : (a b c : ℕ) → or_else (or_else a b) c ≡ or_else a (or_else b c)
  or_assoc a b c = go (eqb a 0) refl
    where
      go : (t : Bool) → eqb a 0 ≡ t → or_else (cond t b a) c ≡ cond t (or_else b c) a
      go true e = refl
      go false e = rw e refl

  in_turn_lem : (a b : ℕ → Row) (f : ℕ → ℕ) → ((j : ℕ) → f j ≡ cond (test (a j)) (number_of (a j)) (cond (test (b j)) (number_of (b j)) 0)) → (m i : ℕ) (rest : ℕ) (tail : List Row) → rest ≡ first_of tail → or_else (first_from f m i) rest ≡ first_of (in_turn a b m i ++ tail)
  unfolding first_from in_turn first_of
  in_turn_lem a b f h zero i rest tail e = e
  in_turn_lem a b f h (suc m) i rest tail e =
      or_assoc (f i) (first_from f m (i + 1)) rest
      ∙ (ap₂ (λ n r. or_else n r) (h i) (in_turn_lem a b f h m (i + 1) rest tail e) ∙ pair (test (a i)) (test (b i)) (number_of (a i)) (number_of (b i)) (nonzero (a i)) (nonzero (b i)) (first_of (in_turn a b m (i + 1) ++ tail)))
    where
      nought : (n : ℕ) → (n ≡ 0 → ⊥) → eqb n 0 ≡ false
      nought n z = ne_eqb n 0 z

      pair : (s t : Bool) (x y : ℕ) → (x ≡ 0 → ⊥) → (y ≡ 0 → ⊥) → (r : ℕ) → or_else (cond s x (cond t y 0)) r ≡ cond s x (cond t y r)
      pair true t x y p q r = rw (nought x p) refl
      pair false true x y p q r = rw (nought y q) refl
      pair false false x y p q r = refl

  single : (row : Row) (t : Bool) (rest : ℕ) → or_else (number_if t (number_of row)) rest ≡ cond t (number_of row) rest
  single row true rest = rw (ne_eqb (number_of row) 0 (nonzero row)) refl
  single row false rest = refl

  -- either reason for 14 comes to it
  either_way : (s t : Bool) (n rest : ℕ) → cond s n (cond t n rest) ≡ cond (s || t) n rest
  either_way true t n rest = refl
  either_way false t n rest = refl

  entry_told : (j : ℕ) → entry_number g j ≡ cond (test (bad_entry j)) 14 (cond (test (id_again j)) 16 0)
  unfolding test entry_number new_entry_rule entry_rule entry_of
  entry_told j = either_way (is_retired (set_at g j)) (is_bad_entry (entry_of g j) (24 * sum_to g j)) 14 (cond (is_seen (id_at g j) (ids_before g.ids j)) 16 0)

  pub by_rows : refusal g room ≡ first_of rows
  unfolding refusal rows triangle_rows last first_of test triangle_number triangle_rule
  by_rows =
      let end : or_else (number_if (is_too_many g) 13) (number_if (has_no_room g room) 19) ≡ first_of last = single too_many (is_too_many g) (number_if (has_no_room g room) 19) in
      let third = in_turn_lem out_of_range flat (triangle_number g) (λ j. refl) (triangles g) 0 _ last end in
      let sum = ap (or_else (number_if (is_wrong_sum g) 15)) third ∙ single wrong_sum (is_wrong_sum g) (first_of triangle_rows) in
      let table = in_turn_lem bad_entry id_again (entry_number g) entry_told (recordings g) 0 _ (wrong_sum ∷ triangle_rows) sum in
      ap (or_else (number_if (is_unequal g) 15)) table ∙ single unequal (is_unequal g) (first_of (in_turn bad_entry id_again (recordings g) 0 ++ (wrong_sum ∷ triangle_rows)))

  -- ---- the rows that there are
  abbrev pub Exists : Row → Type 0
  Exists unequal = T true
  Exists (bad_entry i) = i < recordings g
  Exists (id_again i) = i < recordings g
  Exists wrong_sum = T true
  Exists (out_of_range k) = 6 * k + 6 ≤ length g.numbers
  Exists (flat k) = 6 * k + 6 ≤ length g.numbers
  Exists too_many = T true
  Exists no_room = T true

  -- the numbers are those of whole triangles exactly if six times as many as fit are all of them
  whole_test : Tells (not (eqb (6 * triangles g) (length g.numbers))) ((t : ℕ) → 6 * t ≡ length g.numbers → ⊥)
  whole_test =
      let w = other (6 * triangles g) (length g.numbers) in
      ((λ h t e. w.0 h (sixes t (length g.numbers) e)), (λ h. w.1 (h (triangles g))))

  seen_before : (i id : ℕ) → Tells (is_seen id (ids_before g.ids i)) ((j : ℕ) × (j < i) × (id_at g j ≡ id))
  unfolding ids_before
  seen_before = seen_test (id_at g) (ids_before g.ids) refl (λ i. refl)

  pub told : (row : Row) → (Exists row × (test row ≡ true)) ↔ Applies g room row
  unfolding test
  told unequal = only (either (other (length g.counts) (recordings g)) (either (other (length g.sets) (recordings g)) (either (other (length g.lasts) (recordings g)) whole_test)))
  told (bad_entry i) = both (either (all_roles (set_at g i)).retired (entry_test (entry_of g i) (24 * sum_to g i)))
  told (id_again i) = both (seen_before i (id_at g i))
  told wrong_sum = only (other (sum_to g (recordings g)) (triangles g))
  told (out_of_range k) = both (range_test (triangle_in g k))
  told (flat k) = both (Flat-test (triangle_in g k))
  told too_many = only (less 64 (recordings g))
  told no_room = only (either (less room (file_length g)) (less 65536 (file_length g)))

  -- ---- all of them stand in the list, no others, in their order
  in_table_rows : {row : Row} → Memᴰ row (in_turn bad_entry id_again (recordings g) 0) → Memᴰ row rows
  unfolding rows
  in_table_rows m = there (Memᴰ.append_left (wrong_sum ∷ triangle_rows) m)

  behind_table : {row : Row} → Memᴰ row (wrong_sum ∷ triangle_rows) → Memᴰ row rows
  unfolding rows
  behind_table m = there (Memᴰ.append_right (in_turn bad_entry id_again (recordings g) 0) m)

  in_triangle_rows : {row : Row} → Memᴰ row (in_turn out_of_range flat (triangles g) 0) → Memᴰ row rows
  unfolding triangle_rows
  in_triangle_rows m = behind_table (there (Memᴰ.append_left last m))

  behind_triangles : {row : Row} → Memᴰ row last → Memᴰ row rows
  unfolding triangle_rows
  behind_triangles m = behind_table (there (Memᴰ.append_right (in_turn out_of_range flat (triangles g) 0) m))

  of_entry : (i : ℕ) → i < recordings g → Memᴰ (bad_entry i) rows × Memᴰ (id_again i) rows
  of_entry i h = let w = turn_listed bad_entry id_again (recordings g) 0 i (omega arith) (omega (arith, h)) in (in_table_rows w.0, in_table_rows w.1)

  of_triangle : (k : ℕ) → 6 * k + 6 ≤ length g.numbers → Memᴰ (out_of_range k) rows × Memᴰ (flat k) rows
  of_triangle k h = let w = turn_listed out_of_range flat (triangles g) 0 k (omega arith) (omega (arith, h)) in (in_triangle_rows w.0, in_triangle_rows w.1)

  pub listed : (row : Row) → Exists row → Memᴰ row rows
  unfolding last
  listed unequal h = unfold rows in here refl
  listed (bad_entry i) h = (of_entry i h).0
  listed (id_again i) h = (of_entry i h).1
  listed wrong_sum h = behind_table (here refl)
  listed (out_of_range k) h = (of_triangle k h).0
  listed (flat k) h = (of_triangle k h).1
  listed too_many h = behind_triangles (here refl)
  listed no_room h = behind_triangles (there (here refl))

  -- what holds of the rows one by one holds of each in the list
  each : (P : Row → Type 0) → P unequal → ((i : ℕ) → i < recordings g → P (bad_entry i) × P (id_again i)) → P wrong_sum → ((k : ℕ) → 6 * k + 6 ≤ length g.numbers → P (out_of_range k) × P (flat k)) → P too_many → P no_room → (row : Row) → Memᴰ row rows → P row
  unfolding rows triangle_rows last
  each P first entry sum triangle many long row m = ⊎_elim (λ q. subst P (sym q) first) second (Memᴰ.cases_cons m)
    where
      six : (k n : ℕ) → k < 0 + n / 6 → 6 * k + 6 ≤ n
      six k n h = omega arith

      fourth : Memᴰ row (too_many ∷ no_room ∷ []) → P row
      fourth k = ⊎_elim (λ q. subst P (sym q) many) (λ k1. ⊎_elim (λ q. subst P (sym q) long) (λ k2. absurd (Memᴰ.not-nil k2)) (Memᴰ.cases_cons k1)) (Memᴰ.cases_cons k)

      third : Memᴰ row (wrong_sum ∷ triangle_rows) → P row
      third k = ⊎_elim (λ q. subst P (sym q) sum)
          (λ k1. ⊎_elim (turn_members out_of_range flat (triangles g) 0 P (λ j p q. triangle j (six j (length g.numbers) q)) row) fourth (Memᴰ.append_cases (in_turn out_of_range flat (triangles g) 0) k1))
          (Memᴰ.cases_cons k)

      second : Memᴰ row (in_turn bad_entry id_again (recordings g) 0 ++ (wrong_sum ∷ triangle_rows)) → P row
      second k = ⊎_elim (turn_members bad_entry id_again (recordings g) 0 P (λ j p q. entry j (omega (arith, q))) row) third (Memᴰ.append_cases (in_turn bad_entry id_again (recordings g) 0) k)

  pub exists : (row : Row) → Memᴰ row rows → Exists row
  exists = each Exists tt (λ i h. (h, h)) tt (λ k h. (h, h)) tt tt

  last_late : (e : Row) → Memᴰ e last → 3 < stage_of e
  unfolding last
  last_late e k = late stage_of turn_of e too_many 3 (omega arith) k (λ k1. late stage_of turn_of e no_room 3 (omega arith) k1 (λ k2. absurd (Memᴰ.not-nil k2)))

  triangles_late : (e : Row) → Memᴰ e triangle_rows → 2 < stage_of e
  unfolding triangle_rows
  triangles_late e k = ⊎_elim
      (λ w. let q = turn_stage stage_of turn_of out_of_range flat 3 (λ i. (refl, refl)) (λ i. (refl, refl)) (triangles g) 0 e w in omega (arith, q))
      (λ w. let q = last_late e w in omega (arith, q))
      (Memᴰ.append_cases (in_turn out_of_range flat (triangles g) 0) k)

  tail_late : (e : Row) → Memᴰ e (wrong_sum ∷ triangle_rows) → 1 < stage_of e
  tail_late e k = late stage_of turn_of e wrong_sum 1 (omega arith) k (λ k1. let q = triangles_late e k1 in omega (arith, q))

  table_late : (e : Row) → Memᴰ e (in_turn bad_entry id_again (recordings g) 0 ++ (wrong_sum ∷ triangle_rows)) → 0 < stage_of e
  table_late e k = ⊎_elim
      (λ w. let q = turn_stage stage_of turn_of bad_entry id_again 1 (λ i. (refl, refl)) (λ i. (refl, refl)) (recordings g) 0 e w in omega (arith, q))
      (λ w. let q = tail_late e w in omega (arith, q))
      (Memᴰ.append_cases (in_turn bad_entry id_again (recordings g) 0) k)

  pub sorted : Sorted stage_of turn_of rows
  unfolding rows triangle_rows last
  sorted =
      let end : Sorted stage_of turn_of last = ((λ e k. inl (late stage_of turn_of e no_room 4 (omega arith) k (λ k1. absurd (Memᴰ.not-nil k1)))), ((λ e k. absurd (Memᴰ.not-nil k)), tt)) in
      let third = turn_Sorted stage_of turn_of out_of_range flat 3 (λ i. (refl, refl)) (λ i. (refl, refl)) (triangles g) 0 last last_late end in
      let second = turn_Sorted stage_of turn_of bad_entry id_again 1 (λ i. (refl, refl)) (λ i. (refl, refl)) (recordings g) 0 (wrong_sum ∷ triangle_rows) tail_late ((λ e k. inl (triangles_late e k)), third) in
      ((λ e k. inl (table_late e k)), second)
