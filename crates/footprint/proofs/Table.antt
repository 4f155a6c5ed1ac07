-- The table as the reader comes to it: an entry is read at its place, its id is compared with those before it, and it leaves the end of the triangles behind. Assumes nothing.
use Prim.Native.Nat.{ℕ, zero, suc, ◌+◌, ◌-◌, ◌*◌, ◌/◌, ◌<◌, ◌≤◌}
use mathlib.Core.Path.{◌≡◌, refl, sym, ap, ap₂, ◌∙◌}
use Rattle.std.specs.List.{list_any}
use Rattle.std.specs.Simd.{first_chunks}
use Rattle.std.proofs.Math.Bool.{or_comm, or-false}
use Rattle.std.proofs.Common.{length-drop}
use Rattle.std.proofs.lemmas.List.{drop-drop}
use Rattle.std.proofs.lemmas.List.Folds.{list_any-append}
use mathlib.Core.Bool.{Bool, true, false, not, ◌||◌, cond}
use mathlib.Core.List.{List, [], ◌∷◌, ◌++◌}
use native.Mathlib.Omega.{arith}
use native.Mathlib.Nat.{add-zero}
use lib.ListN.{length, take, drop, get_or}
use lib.Dec.{eqb, ltb}
use borrow.Author.Tests.{eq-eqb, ne_eqb, eqb-true}
use Rattle.floats.specs.Lists.{any}
use Rattle.floats.specs.Turns.{in_turn}
use Rattle.layout.specs.Bytes.{u32_at}
use Rattle.layout.specs.Parts.{table_place, count_of, entry_from, entry_place, entry_at, part_end, end_before}
use Rattle.sets.specs.Editions.{is_wrong_last}
use Rattle.layout.specs.Rules.{is_bad_entry, is_seen, entry_rule}
use Rattle.layout.specs.Verdict.{bad_entry, id_again, wrong_end, ids_before, test, place_of, first_of, number_at, good}
use Rattle.layout.specs.Stages.{table_rows, entry_number}
use Rattle.layout.specs.declared.Entry.{Entry}
use Rattle.layout.proofs.Slices.{four_part, entry_part}
use Rattle.footprint.proofs.Chunks.{take_chunks, chunk_is, rest_is, last_chunk}

-- an id and an entry are read where they were cut out, with what stands behind them or without
pub id_cut : (file : List ℕ) (at n : ℕ) → 4 ≤ n → {v : ℕ} → v ≡ u32_at (take n (drop at file)) 0 → v ≡ u32_at file at
id_cut file at n whole h = h ∙ (four_part file at n 0 whole ∙ ap (u32_at file) (add-zero at))

pub entry_cut : (file : List ℕ) (at n : ℕ) → 12 ≤ n → {e : Entry} → e ≡ entry_from (take n (drop at file)) 0 → e ≡ entry_from file at
entry_cut file at n whole h = h ∙ (entry_part file at n 0 whole ∙ ap (entry_from file) (add-zero at))

module _ (file : List ℕ) {table : ℕ} (at_table : table ≡ table_place file) where
  pub place_is : (i : ℕ) → table + 12 * i ≡ entry_place file i
  unfolding entry_place
  place_is i = ap (λ t. t + 12 * i) at_table

  pub entry_is : (i : ℕ) {e : Entry} → e ≡ entry_from file (table + 12 * i) → e ≡ entry_at file i
  unfolding entry_at
  entry_is i h = h ∙ ap (entry_from file) (place_is i)

  -- the ids of the first entries are those that stand in their arrays
  pub seen_is : (id i : ℕ) → list_any (λ bytes. eqb id (u32_at bytes 0)) (first_chunks 12 i (drop table file)) ≡ is_seen id (ids_before file i)
  seen_is id zero = unfold is_seen ids_before any in refl
  seen_is id (suc i) = ap (list_any (λ bytes. eqb id (u32_at bytes 0))) (last_chunk 12 i (drop table file)) ∙ (list_any-append _ (first_chunks 12 i (drop table file)) (take 12 (drop (12 * i) (drop table file)) ∷ []) ∙ (or_comm (list_any (λ bytes. eqb id (u32_at bytes 0)) (first_chunks 12 i (drop table file))) _ ∙ (ap₂ ◌||◌ (or-false _ ∙ ap (eqb id) (id_there ∙ id_is)) (seen_is id i) ∙ sym (unfold is_seen ids_before any in refl))))
    where
      id_there : u32_at (take 12 (drop (12 * i) (drop table file))) 0 ≡ u32_at file (table + 12 * i)
      id_there = rw (drop-drop (12 * i) table file) (id_cut file (table + 12 * i) 12 (omega arith) refl)

      id_is : u32_at file (table + 12 * i) ≡ (entry_at file i).id
      id_is = unfold entry_at entry_from in ap (u32_at file) (place_is i)

  -- and an entry is read in its twelve bytes
  pub entry_in_array : (i : ℕ) {bytes : List ℕ} {e : Entry} → bytes ≡ take 12 (drop (12 * i) (drop table file)) → e ≡ entry_from bytes 0 → e ≡ entry_from file (table + 12 * i)
  entry_in_array i b h = h ∙ (ap (λ xs. entry_from xs 0) b ∙ rw (drop-drop (12 * i) table file) (entry_cut file (table + 12 * i) 12 (omega arith) refl))

-- an entry that is not refused begins where those before it end
starts : (e : Entry) (end : ℕ) (seen : Bool) → entry_rule e end seen ≡ 0 → e.first ≡ end
unfolding entry_rule is_bad_entry
starts e end seen h = eqb-true e.first end (go (eqb e.count 0) (ltb 2 e.set) (is_wrong_last e.set e.last) (eqb e.first end) h)
  where
    go : (a b c d : Bool) → ◌≡◌ {A = ℕ} (cond (a || (b || (c || not d))) 14 (cond seen 16 0)) 0 → d ≡ true
    go true b c d h = absurd (omega arith)
    go false true c d h = absurd (omega arith)
    go false false true d h = absurd (omega arith)
    go false false false false h = absurd (omega arith)
    go false false false true h = refl

-- so the end that the reader carries is the end of its triangles
pub end_is : (file : List ℕ) (i : ℕ) (e : Entry) (end : ℕ) (seen : Bool) {number : ℕ} → e ≡ entry_at file i → number ≡ entry_rule e end seen → number ≡ 0 → end + 24 * e.count ≡ end_before file (i + 1)
end_is file i e end seen p q z =
    let f = starts e end seen (sym q ∙ z) in
    let s : i + 1 ≡ suc i = omega arith in
    ap (λ t. t + 24 * e.count) (sym f) ∙ (ap part_end p ∙ sym (ap (end_before file) s ∙ unfold end_before in refl))

-- ---- what the reader knows of entry i, and its number
module _ (file : List ℕ) {table : ℕ} (at_table : table ≡ table_place file) (i : ℕ) (e : Entry) (end : ℕ) (seen : Bool) (read : e ≡ entry_from file (table + 12 * i)) (ends : end ≡ end_before file i) (looked : seen ≡ is_seen e.id (ids_before file i)) where
  pub number_is : {n : ℕ} → n ≡ entry_rule e end seen → n ≡ entry_number file i
  number_is h = h ∙ rw (looked, ends, entry_is file at_table i read) refl

module _ (file : List ℕ) {count : ℕ} (in_table : count ≡ count_of file) where
  -- all rows of the table, before the first turn
  pub at_start : first_of file (table_rows file) ≡ first_of file (in_turn bad_entry id_again (count - 0) 0 ++ (wrong_end ∷ []))
  at_start = let q : count - 0 ≡ count_of file = omega arith in rw q refl

  -- and after the last one
  module _ {table end i : ℕ} (at_table : table ≡ table_place file) (ends : end ≡ end_before file i) (below : i ≤ count) (above : count ≤ i) where
    last : end_before file (count_of file) ≡ end
    last = let q : count_of file ≡ i = omega arith in ap (end_before file) q ∙ sym ends

    pub wrong_end_lem : (end ≡ table → ⊥) → number_at 15 table ≡ first_of file (wrong_end ∷ [])
    unfolding first_of test place_of
    wrong_end_lem n = sym (rw (last, ← at_table, ne_eqb end table n) refl)

    pub right_end : end ≡ table → good ≡ first_of file (wrong_end ∷ [])
    unfolding first_of test place_of
    right_end h = sym (rw (last, ← at_table, eq-eqb end table h) refl)

-- the entries are fewer than the arrays from the table on
pub fewer : (file : List ℕ) (table count : ℕ) → table + 12 * count + 12 ≡ length file → count < length (take (length file - table) (drop table file)) / 12
fewer file table count h = let l : length (take (length file - table) (drop table file)) ≡ length file - table = ap length (rest_is table file) ∙ length-drop table file in omega (arith, l, h)

-- and these arrays, as the code has them
module _ (file : List ℕ) {table : ℕ} (at_table : table ≡ table_place file) {arrays : List (List ℕ)} {m : ℕ} (are : arrays ≡ first_chunks 12 m (take (length file - table) (drop table file))) where
  pub seen_of : (id i : ℕ) {seen : Bool} → i ≤ m → seen ≡ list_any (λ bytes. eqb id (u32_at bytes 0)) (take i arrays) → seen ≡ is_seen id (ids_before file i)
  seen_of id i b h = h ∙ (ap (list_any (λ bytes. eqb id (u32_at bytes 0))) (ap (take i) are ∙ (take_chunks 12 m i _ b ∙ ap (first_chunks 12 i) (rest_is table file))) ∙ seen_is file at_table id i)

  pub array_of : (i : ℕ) (d : List ℕ) → i < m → get_or arrays i d ≡ take 12 (drop (12 * i) (drop table file))
  array_of i d h = ap (λ xs. get_or xs i d) are ∙ (chunk_is 12 m i _ d h ∙ ap (λ xs. take 12 (drop (12 * i) xs)) (rest_is table file))
