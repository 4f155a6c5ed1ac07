-- A turn of each loop: the things that are left say what all say. Assumes nothing.
use Prim.Native.Nat.{ℕ, zero, suc, ◌+◌, ◌-◌, ◌*◌, ◌<◌, ◌≤◌}
use mathlib.Core.Path.{◌≡◌, refl, sym, ap, ap₂, ◌∙◌}
use mathlib.Core.Logic.{⊎_elim}
use mathlib.Core.Bool.{Bool, true, false, ◌||◌, cond, or-true}
use mathlib.Core.List.{List, []}
use native.Mathlib.Omega.{arith}
use native.Mathlib.Numerals.{add-one}
use lib.Dec.{eqb}
use lib.IntN.{ℤ, pos}
use lib.ListN.{length, get_or, take, drop}
use Rattle.std.specs.List.{fold}
use Rattle.std.proofs.lemmas.List.Sums.{fold_more}
use lib.Seq.{get_or-take, get_or-drop, drop-drop}
use Rattle.std.specs.Simd.{first_chunks}
use borrow.Author.Tests.{eq-eqb, ne_eqb, eqb-true, eqb-false, lt-ltb}
use native.Mathlib.Nat.{eq-or-lt_of_le}
use Rattle.floats.specs.Lists.{any}
use Rattle.sets.specs.Sets.{is_retired}
use Rattle.layout.specs.declared.Entry.{Entry}
use Rattle.layout.specs.Bytes.{signed}
use Rattle.layout.specs.Parts.{Triangle, triangle_of, triangle_by}
use Rattle.layout.specs.declared.Fault.{Fault}
use Rattle.layout.specs.declared.Fault.TheVariants.{FileLength, StoredLength, Trailer, Table}
use Rattle.layout.specs.Told.{fault_number}
use Rattle.std.specs.Prelude.{Result, Ok, Err}
use Rattle.std.specs.Result.{MatchResult, IsErrAnd}
use Rattle.layout.specs.Told.{ruled}
use Rattle.refusing.specs.declared.WriteRefusal.{WriteRefusal}
use Rattle.refusing.specs.Told.{IsOfRule, refusal_number, told}
use Rattle.layout.specs.Rules.{is_bad_entry, is_seen, is_out_of_range, is_flat, entry_rule, triangle_rule}
use Rattle.filing.specs.Given.{Given, given_of, entry_by, sum_of, id_at, count_at, set_at, last_at, sum_to, entry_of, triangle_in}
use Rattle.filing.specs.Refusals.{ids_before, first_from, new_entry_rule, entry_number, triangle_number}
use Rattle.filing.proofs.Fit.{sum_up as sum-grows}

-- ---- the first of numbers that is not 0
module _ (f : ℕ → ℕ) (n i : ℕ) where
  pub first_stop : {x : ℕ} → i < n → f i ≡ x → (x ≡ 0 → ⊥) → first_from f (n - i) i ≡ x
  unfolding first_from
  first_stop {x} l e z = let q : n - i ≡ suc (n - (i + 1)) = omega (arith, l) in rw (q, e, ne_eqb x 0 z) refl

  pub first_go : {x : ℕ} → i < n → f i ≡ x → x ≡ 0 → first_from f (n - i) i ≡ first_from f (n - (i + 1)) (i + 1)
  unfolding first_from
  first_go {x} l e z = let q : n - i ≡ suc (n - (i + 1)) = omega (arith, l) in rw (q, e, eq-eqb x 0 z) refl

  pub first_end : n ≤ i → first_from f (n - i) i ≡ 0
  unfolding first_from
  first_end l = let q : n - i ≡ 0 = omega (arith, l) in rw q refl

pub first_all : (f : ℕ → ℕ) (n : ℕ) → first_from f n 0 ≡ first_from f (n - 0) 0
first_all f n = let q : n ≡ n - 0 = omega arith in ap (λ m. first_from f m 0) q

-- ---- ids, from the first to the latest
pub seen_turn : (ids : List ℕ) (id j : ℕ) {seen : Bool} → seen ≡ is_seen id (ids_before ids j) → (eqb id (get_or ids j 0) || seen) ≡ is_seen id (ids_before ids (j + 1))
seen_turn ids id j p = ap (λ s. eqb id (get_or ids j 0) || s) p ∙ sym (ap (λ n. is_seen id (ids_before ids n)) (add-one j) ∙ (unfold is_seen any ids_before in refl))

pub seen_fold : (ids : List ℕ) (id i : ℕ) → i ≤ length ids → fold (λ seen other. eqb id other || seen) false (take i ids) ≡ is_seen id (ids_before ids i)
seen_fold ids id zero h = unfold is_seen any ids_before in refl
seen_fold ids id (suc i) h =
    ap (λ n. fold (λ seen other. eqb id other || seen) false (take n ids)) (sym (add-one i))
    ∙ (fold_more (λ seen other. eqb id other || seen) false ids i 0 (omega (arith, h)) ∙ (seen_turn ids id i (seen_fold ids id i (omega (arith, h))) ∙ ap (λ n. is_seen id (ids_before ids n)) (add-one i)))

-- ---- the number of an entry that is to be written
-- a set over 1 is the one that is retired, or over 2 and none for the reader either
pub over_one : (e : Entry) (end : ℕ) (seen : Bool) → 1 < e.set → 14 ≡ new_entry_rule e end seen
unfolding new_entry_rule entry_rule is_bad_entry
over_one e end seen h = go (is_retired e.set) refl
  where
    none : (n : ℕ) → 1 < n → (n ≡ 2 → ⊥) → 2 < n
    none n h z = ⊎_elim (λ q. absurd (z (sym q))) (λ l. l) (eq-or-lt_of_le h)

    go : (b : Bool) → is_retired e.set ≡ b → 14 ≡ cond b 14 (entry_rule e end seen)
    go true r = refl
    go false r = sym (rw (lt-ltb 2 e.set (none e.set h (eqb-false e.set 2 r)), or-true (eqb e.count 0)) refl)

-- of any other the reader's rule is asked
pub up_to_one : (e : Entry) (end : ℕ) (seen : Bool) → e.set ≤ 1 → {r : ℕ} → r ≡ entry_rule e end seen → r ≡ new_entry_rule e end seen
unfolding new_entry_rule
up_to_one e end seen h p = p ∙ sym (rw (ne_eqb e.set 2 (λ z. omega (arith, h, z))) refl)

-- what it gives is the number of a reason against an entry
pub entry_reason : (e : Entry) (end : ℕ) (seen : Bool) (why : Fault) → fault_number why ≡ entry_rule e end seen → IsOfRule why
unfolding entry_rule
entry_reason e end seen why p = go (is_bad_entry e end) seen why p
  where
    go : (bad seen : Bool) (why : Fault) → fault_number why ≡ cond bad 14 (cond seen 16 0) → IsOfRule why
    go b s Fault.Entry p = tt
    go b s Fault.SameId p = tt
    go b s Fault.OutOfRange p = tt
    go b s Fault.NoArea p = tt
    go true s FileLength p = absurd (omega (arith, p))
    go true s StoredLength p = absurd (omega (arith, p))
    go true s Trailer p = absurd (omega (arith, p))
    go true s Table p = absurd (omega (arith, p))
    go false true FileLength p = absurd (omega (arith, p))
    go false true StoredLength p = absurd (omega (arith, p))
    go false true Trailer p = absurd (omega (arith, p))
    go false true Table p = absurd (omega (arith, p))
    go false false FileLength p = absurd (omega (arith, p))
    go false false StoredLength p = absurd (omega (arith, p))
    go false false Trailer p = absurd (omega (arith, p))
    go false false Table p = absurd (omega (arith, p))

-- ---- where an entry begins does not matter to its number, if it is where the one before ended
pub anywhere : (id first count set last : ℕ) (seen : Bool) → new_entry_rule (entry_by id first count set last) first seen ≡ new_entry_rule (entry_by id 0 count set last) 0 seen
unfolding new_entry_rule entry_rule is_bad_entry
anywhere id first count set last seen = rw (eq-eqb first first refl) refl

pub entry_is : (g : Given) (i : ℕ) {set last x : ℕ} {seen : Bool} → seen ≡ is_seen (id_at g i) (ids_before g.ids i) → set ≡ set_at g i → last ≡ last_at g i → x ≡ new_entry_rule (entry_by (id_at g i) 0 (count_at g i) set last) 0 seen → entry_number g i ≡ x
unfolding entry_number entry_of
entry_is g i {x = x} {seen} s a b e =
    ap (λ b. new_entry_rule (entry_by (id_at g i) (24 * sum_to g i) (count_at g i) (set_at g i) (last_at g i)) (24 * sum_to g i) b) (sym s)
    ∙ (anywhere (id_at g i) (24 * sum_to g i) (count_at g i) (set_at g i) (last_at g i) seen ∙ sym (e ∙ ap₂ (λ s t. new_entry_rule (entry_by (id_at g i) 0 (count_at g i) s t) 0 seen) a b))

-- ---- counts, of which what is left is counted down
sum_up : (counts : List ℕ) (n i : ℕ) → i ≤ n → sum_of counts i ≤ sum_of counts n
sum_up counts = sum-grows (given_of [] counts [] [] [])

module _ (counts : List ℕ) (n i left total : ℕ) (e : left + sum_of counts i ≡ total) where
  pub too_many : i < n → left < get_or counts i 0 → false ≡ eqb (sum_of counts n) total
  unfolding sum_of
  too_many l h = let up = sum_up counts n (suc i) (omega (arith, l)) in sym (ne_eqb (sum_of counts n) total (λ q. omega (arith, up, h, e, q)))

  pub one_less : get_or counts i 0 ≤ left → left - get_or counts i 0 + sum_of counts (i + 1) ≡ total
  unfolding sum_of
  one_less h = let q : i + 1 ≡ suc i = omega arith in ap (λ k. left - get_or counts i 0 + sum_of counts k) q ∙ omega (arith, h, e)

  pub all_counted : i ≡ n → eqb left 0 ≡ eqb (sum_of counts n) total
  all_counted q = go (eqb left 0) refl
    where
      same : sum_of counts i ≡ sum_of counts n
      same = ap (sum_of counts) q

      go : (b : Bool) → eqb left 0 ≡ b → eqb left 0 ≡ eqb (sum_of counts n) total
      go true z = z ∙ sym (eq-eqb (sum_of counts n) total (omega (arith, e, same, eqb-true left 0 z)))
      go false z = z ∙ sym (ne_eqb (sum_of counts n) total (λ w. eqb-false left 0 z (omega (arith, e, same, w))))

-- ---- triangles
six : {a b c d e f a' b' c' d' e' f' : ℤ} → a ≡ a' → b ≡ b' → c ≡ c' → d ≡ d' → e ≡ e' → f ≡ f' → triangle_of a b c d e f ≡ triangle_of a' b' c' d' e' f'
six p q r s t u = rw (p, q, r, s, t, u) refl

-- by the bits of its numbers
pub by_bits : (bits : List ℕ) (numbers : List ℤ) → ((i : ℕ) → i < 6 → signed (get_or bits i 0) ≡ get_or numbers i (pos 0)) → triangle_by bits ≡ triangle_in (given_of [] [] [] [] numbers) 0
unfolding triangle_in
by_bits bits numbers h = six (h 0 (omega arith)) (h 1 (omega arith)) (h 2 (omega arith)) (h 3 (omega arith)) (h 4 (omega arith)) (h 5 (omega arith))

-- what the rule gives is the number of a reason against a triangle
pub triangle_reason : (t : Triangle) (why : Fault) → fault_number why ≡ triangle_rule t → IsOfRule why
unfolding triangle_rule
triangle_reason t why p = go (is_out_of_range t) (is_flat t) why p
  where
    go : (far flat : Bool) (why : Fault) → fault_number why ≡ cond far 17 (cond flat 18 0) → IsOfRule why
    go b s Fault.Entry p = tt
    go b s Fault.SameId p = tt
    go b s Fault.OutOfRange p = tt
    go b s Fault.NoArea p = tt
    go true s FileLength p = absurd (omega (arith, p))
    go true s StoredLength p = absurd (omega (arith, p))
    go true s Trailer p = absurd (omega (arith, p))
    go true s Table p = absurd (omega (arith, p))
    go false true FileLength p = absurd (omega (arith, p))
    go false true StoredLength p = absurd (omega (arith, p))
    go false true Trailer p = absurd (omega (arith, p))
    go false true Table p = absurd (omega (arith, p))
    go false false FileLength p = absurd (omega (arith, p))
    go false false StoredLength p = absurd (omega (arith, p))
    go false false Trailer p = absurd (omega (arith, p))
    go false false Table p = absurd (omega (arith, p))

-- one of the chunks of the list
chunk_is : (numbers : List ℤ) (n k : ℕ) → k < n → get_or (first_chunks 6 n numbers) k [] ≡ take 6 (drop (6 * k) numbers)
chunk_is numbers zero k h = absurd (omega arith)
chunk_is numbers (suc n) zero h = refl
chunk_is numbers (suc n) (suc k) h =
    let q : 6 + 6 * k ≡ 6 * suc k = omega arith in
    chunk_is (drop 6 numbers) n k (omega (arith, h)) ∙ ap (take 6) (drop-drop (6 * k) 6 numbers ∙ ap (λ m. drop m numbers) q)

-- cut out of the list
pub cut_six : (numbers : List ℤ) (n k : ℕ) (chunks : List (List ℤ)) → chunks ≡ first_chunks 6 n numbers → k < n → {r : ℕ} → r ≡ triangle_rule (triangle_in (given_of [] [] [] [] (get_or chunks k [])) 0) → triangle_number (given_of [] [] [] [] numbers) k ≡ r
unfolding triangle_number triangle_in
cut_six numbers n k chunks e l {r} p =
    let q : 6 * k + 0 ≡ 6 * k = omega arith in
    sym (p ∙ ap triangle_rule (six (at 0 (omega arith) ∙ ap (λ j. get_or numbers j (pos 0)) q) (at 1 (omega arith)) (at 2 (omega arith)) (at 3 (omega arith)) (at 4 (omega arith)) (at 5 (omega arith))))
  where
    at : (r : ℕ) → r < 6 → get_or (get_or chunks k []) r (pos 0) ≡ get_or numbers (6 * k + r) (pos 0)
    at r h = ap (λ s. get_or s r (pos 0)) (ap (λ s. get_or s k []) e ∙ chunk_is numbers n k l) ∙ (get_or-take 6 (drop (6 * k) numbers) r (pos 0) h ∙ get_or-drop (6 * k) numbers r (pos 0))

-- ---- a result whose reason is put as the writer's
-- it says the same number
pub by_reason : {A : Type 0} (r : Result A Fault) (m : Result A WriteRefusal) {P : Fault → WriteRefusal → Type 0} → MatchResult r (λ x. m ≡ Ok x) (λ e. IsErrAnd m (P e)) → ((e : Fault) (w : WriteRefusal) → P e w → refusal_number w ≡ fault_number e) → told m ≡ ruled r
by_reason (Ok x) m h p = ap told h
by_reason (Err e) (Err w) h p = p e w h
by_reason (Err e) (Ok x) h p = absurd h
