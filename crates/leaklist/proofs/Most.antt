-- How many triangle pairs are tested at most: no more of two recordings than they have, and so no more of all than the file has triangles, squared. Assumes nothing.
use Prim.Native.Nat.{ℕ, zero, suc, ◌+◌, ◌-◌, ◌*◌, ◌<◌, ◌≤◌}
use mathlib.Core.Path.{◌≡◌, refl, sym, ap, ◌∙◌}
use mathlib.Core.Bool.{Bool, true, false, cond}
use mathlib.Core.List.{List}
use native.Mathlib.Omega.{arith}
use native.Mathlib.Nat.{mul_comm, mul_assoc, mul-add, mul-le-mul_left}
use Rattle.layout.specs.Parts.{count_of, entry_at, part_end, end_before}
use Rattle.layout.specs.Layout.{Layout}
use Rattle.layout.proofs.Inside.{parts_inside, starts}
use Rattle.sets.specs.Sets.{is_test, is_training}
use Rattle.listing.specs.Pairs.{near_at, triangle_pairs}
use Rattle.listing.specs.Leaks.{tally_for}
use Rattle.listing.proofs.Tallied.{tally_tested, pairs_length}
use Rattle.listing.proofs.Enough.{count_most}
use Rattle.leaklist.specs.Code.{nothing, found_for, item_of, row_to, test_of, list_to}

module _ (file : List ℕ) where
  -- of two recordings
  two_most : (i j : ℕ) → (tally_for file (i, j)).tested ≤ (entry_at file i).count * (entry_at file j).count
  unfolding tally_for
  two_most i j =
      let e = entry_at file i in
      let f = entry_at file j in
      let a = tally_tested file e f in
      let b = count_most (λ q. near_at file e f q.0 q.1) (triangle_pairs e f) in
      let c = pairs_length e f in
      omega (arith, a, b, c)

  item_most : (i j : ℕ) → (item_of file i j).tested ≤ (entry_at file i).count * (entry_at file j).count
  unfolding item_of found_for
  item_most i j = go (is_training (entry_at file j).set)
    where
      go : (b : Bool) → (cond b (found_for file (i, j)) nothing).tested ≤ (entry_at file i).count * (entry_at file j).count
      go true = two_most i j
      go false = omega arith

  module _ (good : Layout file) where
    -- where the next recording begins
    next_end : (n : ℕ) → n < count_of file → end_before file (suc n) ≡ end_before file n + 24 * (entry_at file n).count
    next_end n h = let e : end_before file (suc n) ≡ part_end (entry_at file n) = (unfold end_before in refl) in e ∙ ap (λ f. f + 24 * (entry_at file n).count) (starts file good n h)

    end_most : (n : ℕ) → n ≤ count_of file → end_before file n ≤ 65536
    end_most zero h = unfold end_before in omega arith
    end_most (suc n) h =
        let inside = (parts_inside file n good (omega (arith, h))).in_file in
        let m = good.at_most65536 in
        let e : end_before file (suc n) ≡ part_end (entry_at file n) = (unfold end_before in refl) in
        omega (arith, inside, m, e)

    -- of one test recording and the first n
    row_most : (i n : ℕ) → n ≤ count_of file → 24 * (row_to file i n).tested ≤ (entry_at file i).count * end_before file n
    row_most i zero h = unfold row_to in omega arith
    row_most i (suc n) h =
        let C = (entry_at file i).count in
        let c = (entry_at file n).count in
        let E = end_before file n in
        let before = row_most i n (omega (arith, h)) in
        let item = item_most i n in
        let e : C * end_before file (suc n) ≡ C * E + C * (24 * c) = ap (λ x. C * x) (next_end n (omega (arith, h))) ∙ mul-add C E (24 * c) in
        let f : C * (24 * c) ≡ 24 * (C * c) = sym (mul_assoc C 24 c) ∙ (ap (λ x. x * c) (mul_comm C 24) ∙ mul_assoc 24 C c) in
        let g : (row_to file i (suc n)).tested ≡ (row_to file i n).tested + (item_of file i n).tested = (unfold row_to in refl) in
        omega (arith, before, item, e, f, g)

    test_most : (i : ℕ) → 24 * (test_of file i).tested ≤ (entry_at file i).count * 65536
    unfolding test_of
    test_most i = go (is_test (entry_at file i).set)
      where
        go : (b : Bool) → 24 * (cond b (row_to file i (count_of file)) nothing).tested ≤ (entry_at file i).count * 65536
        go true = let r = row_most i (count_of file) (omega arith) in let m = mul-le-mul_left (entry_at file i).count (end_most (count_of file) (omega arith)) in omega (arith, r, m)
        go false = omega arith

    -- of the first n recordings and all
    list_most : (n : ℕ) → n ≤ count_of file → 576 * (list_to file n).tested ≤ end_before file n * 65536
    list_most zero h = unfold list_to in omega arith
    list_most (suc n) h =
        let before = list_most n (omega (arith, h)) in
        let test = test_most n in
        let e = next_end n (omega (arith, h)) in
        let g : (list_to file (suc n)).tested ≡ (list_to file n).tested + (test_of file n).tested = (unfold list_to in refl) in
        omega (arith, before, test, e, g)

    -- fewer than 32 bits hold
    pub tested_fits : (n : ℕ) → n < count_of file → (list_to file n).tested + (test_of file n).tested ≤ 4294967295
    tested_fits n h =
        let l = list_most (suc n) (omega (arith, h)) in
        let m = end_most (suc n) (omega (arith, h)) in
        let g : (list_to file (suc n)).tested ≡ (list_to file n).tested + (test_of file n).tested = (unfold list_to in refl) in
        omega (arith, l, m, g)

  -- a row grows
  row_grows : (i n k : ℕ) → (row_to file i n).tested ≤ (row_to file i (n + k)).tested
  row_grows i n zero = let e : n + 0 ≡ n = omega arith in let f = ap (λ m. (row_to file i m).tested) e in omega (arith, f)
  row_grows i n (suc k) =
      let before = row_grows i n k in
      let e : n + suc k ≡ suc (n + k) = omega arith in
      let f = ap (λ m. (row_to file i m).tested) e in
      let g : (row_to file i (suc (n + k))).tested ≡ (row_to file i (n + k)).tested + (item_of file i (n + k)).tested = (unfold row_to in refl) in
      omega (arith, before, f, g)

  -- as the code comes to it
  pub row_part : (i j n : ℕ) → j < n → (row_to file i j).tested + (item_of file i j).tested ≤ (row_to file i n).tested
  row_part i j n h =
      let grown = row_grows i (suc j) (n - suc j) in
      let e : suc j + (n - suc j) ≡ n = omega (arith, h) in
      let f = ap (λ m. (row_to file i m).tested) e in
      let g : (row_to file i (suc j)).tested ≡ (row_to file i j).tested + (item_of file i j).tested = (unfold row_to in refl) in
      omega (arith, grown, f, g)
