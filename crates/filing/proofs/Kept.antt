-- 02, No. 2, second statement, with No. 7 and No. 8: the lists that the reader finds in a good file without set 2 make that file again. They are not refused, and the bytes of each number, each entry and the trailer are those that were read. Assumes nothing.
use Prim.Native.Nat.{ℕ, zero, suc, ◌+◌, ◌-◌, ◌*◌, ◌/◌, ◌<◌, ◌≤◌}
use mathlib.Core.Path.{◌≡◌, refl, sym, ap, ap₂, subst, ◌∙◌}
use mathlib.Core.Logic.{inl, inr}
use mathlib.Core.List.{List, ◌++◌, Memᴰ}
use native.Mathlib.Omega.{arith}
use lib.IntN.{pos}
use lib.ListN.{length, get_or, take, drop, length-drop, take-append-drop}
use lib.Seq.{take-add, drop-drop, take_all}
use Rattle.layout.specs.Bytes.{Bytes, u32_at, i32_at}
use Rattle.layout.specs.Parts.{numbers_of, table_place, count_of as count_in, stored_length, entry_place, entry_at, end_before, triangle_from, triangle_at}
use Rattle.layout.specs.Rules.{twice_area}
use Rattle.layout.specs.Layout.{Layout}
use Rattle.layout.proofs.Inside.{starts, end_at}
use Rattle.filing.specs.Given.{entry_by, recordings, triangles, coordinate_at, sum_of, sum_to, entry_of, triangle_in}
use Rattle.filing.specs.File.{in_four, bits_of, entry_bytes, triangle_bytes, table_bytes, trailer_bytes, file_length, file_of}
use Rattle.filing.specs.Taken.{taken_from}
use Rattle.filing.proofs.Bytes.{four_kept, bits_kept, entry_kept, three_kept}
use Rattle.filing.proofs.Joined.{joined_front}
use Rattle.filing.proofs.Read.{places, six}
use Rattle.filing.specs.Fit.{Fit}
use Rattle.filing.specs.Promise.{NoneRetired, SomeRetired}
use Rattle.filing.specs.Refusals.{Row, unequal, bad_entry, id_again, wrong_sum, out_of_range, flat, too_many, no_room, number_of, refusal}
use Rattle.filing.specs.Rows.{Applies, First}
use Rattle.filing.proofs.Rows.{exactly_when}
use Rattle.filing.proofs.Fit.{known}
use Rattle.filing.proofs.Taken.{listed-length, listed_at, numbers_are, table_whole, id_is, count_is, set_is, last_is, taken_lengths}

module _ (file : List ℕ) (l : Layout file) where
  n_is : recordings (taken_from file) ≡ count_in file
  n_is = (taken_lengths file).0

  numbers-length : length (taken_from file).numbers ≡ table_place file / 4
  numbers-length = ap length (numbers_are file l) ∙ listed-length (λ j. i32_at file (4 * j)) (table_place file / 4)

  number_is : (j : ℕ) → j < table_place file / 4 → coordinate_at (taken_from file) j ≡ i32_at file (4 * j)
  number_is j h = ap (λ xs. get_or xs j (pos 0)) (numbers_are file l) ∙ listed_at (λ k. i32_at file (4 * k)) (pos 0) (table_place file / 4) j h

  -- the sums are the places where parts end
  sum_is : (i : ℕ) → i ≤ count_in file → 24 * sum_to (taken_from file) i ≡ end_before file i
  unfolding sum_of end_before
  sum_is zero h = refl
  sum_is (suc i) h =
      let w = sum_is i (omega (arith, h)) in
      let c = count_is file l i (omega (arith, h)) in
      let s = starts file l i (omega (arith, h)) in
      omega (arith, w, c, s)

  all_is : 24 * sum_to (taken_from file) (count_in file) ≡ table_place file
  all_is = sum_is (count_in file) (omega arith) ∙ end_at file l (count_in file) refl

  triangles_is : 24 * triangles (taken_from file) ≡ table_place file
  triangles_is = let t = table_whole file l in let e = t.1 in let n = numbers-length in omega (arith, e, n)

  entry_is : (i : ℕ) → i < count_in file → entry_of (taken_from file) i ≡ entry_at file i
  unfolding entry_of
  entry_is i h = same (id_is file l i h) (sum_is i (omega (arith, h)) ∙ sym (starts file l i h)) (count_is file l i h) (set_is file l i h) (last_is file l i h)
    where
      same : {a b c d e a' b' c' d' e' : ℕ} → a ≡ a' → b ≡ b' → c ≡ c' → d ≡ d' → e ≡ e' → entry_by a b c d e ≡ entry_by a' b' c' d' e'
      same p q r s t = rw (p, q, r, s, t) refl

  triangle_is : (k : ℕ) → 24 * k + 24 ≤ table_place file → triangle_in (taken_from file) k ≡ triangle_at file k
  unfolding triangle_at triangle_from triangle_in
  triangle_is k h =
      let t = table_whole file l in
      let e = t.1 in
      let at : (r : ℕ) → r < 6 → coordinate_at (taken_from file) (6 * k + r) ≡ i32_at file (4 * (6 * k + r)) = λ r m. number_is (6 * k + r) (omega (arith, h, m, e)) in
      six (number_is (6 * k) (omega (arith, h, e)) ∙ ap (i32_at file) (sym (places k).0))
      (at 1 (omega arith) ∙ ap (i32_at file) (sym (places k).1))
      (at 2 (omega arith) ∙ ap (i32_at file) (sym (places k).2))
      (at 3 (omega arith) ∙ ap (i32_at file) (sym (places k).3))
      (at 4 (omega arith) ∙ ap (i32_at file) (sym (places k).4))
      (at 5 (omega arith) ∙ ap (i32_at file) (sym (places k).5))

  of_triangle : (k : ℕ) → 6 * k + 6 ≤ length (taken_from file).numbers → 24 * k + 24 ≤ table_place file
  of_triangle k h = let n = numbers-length in omega (arith, h, n)

  pub length_is : file_length (taken_from file) ≡ length file
  length_is = let t = triangles_is in let n = n_is in let f = l.filled in omega (arith, t, n, f)

  -- ---- the lists are not refused in a room that holds the file
  pub fit : NoneRetired file → (room : ℕ) → length file ≤ room → Fit (taken_from file) room
  fit none room r =
      let t = triangles_is in
      let n = n_is in
      record {
        counts = (taken_lengths file).1 ∙ sym n_is;
        sets = (taken_lengths file).2 ∙ sym n_is;
        lasts = (taken_lengths file).3 ∙ sym n_is;
        whole = let w = table_whole file l in let e = w.1 in let m = numbers-length in omega (arith, e, m);
        some_triangles = λ i h. rw (count_is file l i (omega (arith, h, n))) (l.some_triangles i (omega (arith, h, n)));
        known_set = λ i h. rw (set_is file l i (omega (arith, h, n))) (known (entry_at file i).set (none i (omega (arith, h, n))) (λ m. let k = l.known_set i (omega (arith, h, n)) in omega (arith, k, m)));
        known_last = λ i h. rw (set_is file l i (omega (arith, h, n)), last_is file l i (omega (arith, h, n))) (l.known_last i (omega (arith, h, n)));
        ids_once = λ i j k h q. l.ids_once i j k (omega (arith, h, n)) (sym (id_is file l i (omega (arith, k, h, n))) ∙ (q ∙ id_is file l j (omega (arith, h, n))));
        sum = let s = ap (λ m. 24 * sum_to (taken_from file) m) n_is ∙ all_is in omega (arith, s, t);
        in_range = λ k h z m. l.in_range k (of_triangle k h) z (subst (λ x. Memᴰ z (numbers_of x)) (triangle_is k (of_triangle k h)) m);
        some_area = λ k h q. l.some_area k (of_triangle k h) (sym (ap twice_area (triangle_is k (of_triangle k h))) ∙ q);
        at_most64 = omega (arith, n, l.at_most64);
        at_most65536 = omega (arith, length_is, l.at_most65536);
        in_room = omega (arith, length_is, r);
      }

  -- ---- with set 2 they are refused: the lists are of one length, no id comes twice, and what is said of entries is said before all else
  module _ (room : ℕ) (old : SomeRetired file) where
    its_row : Applies (taken_from file) room (bad_entry old.0)
    its_row = (omega (arith, old.1, n_is), inl (set_is file l old.0 old.1 ∙ old.2))

    -- so the first row that applies is one of an entry, for its set
    First-is : (row : Row) → First (taken_from file) room row → number_of row ≡ 14
    First-is unequal f = absurd (lengths f.applies)
      where
        lengths : Applies (taken_from file) room unequal → ⊥
        lengths (inl n) = n ((taken_lengths file).1 ∙ sym n_is)
        lengths (inr (inl n)) = n ((taken_lengths file).2 ∙ sym n_is)
        lengths (inr (inr (inl n))) = n ((taken_lengths file).3 ∙ sym n_is)
        lengths (inr (inr (inr n))) = n (table_place file / 24) (let w = table_whole file l in let e = w.1 in let m = numbers-length in omega (arith, e, m))
    First-is (bad_entry i) f = refl
    First-is (id_again i) f =
        let a = f.applies in
        let s = a.1 in
        let h : i < count_in file = let b = a.0 in omega (arith, b, n_is) in
        absurd (l.ids_once s.0 i s.1 h (sym (id_is file l s.0 (let b = s.1 in omega (arith, b, h))) ∙ (s.2 ∙ id_is file l i h)))
    First-is wrong_sum f = absurd (f.none_before (bad_entry old.0) (inl (omega arith)) its_row)
    First-is (out_of_range k) f = absurd (f.none_before (bad_entry old.0) (inl (omega arith)) its_row)
    First-is (flat k) f = absurd (f.none_before (bad_entry old.0) (inl (omega arith)) its_row)
    First-is too_many f = absurd (f.none_before (bad_entry old.0) (inl (omega arith)) its_row)
    First-is no_room f = absurd (f.none_before (bad_entry old.0) (inl (omega arith)) its_row)

    pub old_says : refusal (taken_from file) room ≡ 14
    old_says =
        let w = exactly_when (taken_from file) room in
        let r = (w.refused_by (refusal (taken_from file) room)).0 (refl, λ z. w.accepted.0 z (bad_entry old.0) its_row) in
        sym r.2 ∙ First-is r.0 r.1

  -- ---- and their bytes are the file's
  module _ (bytes : Bytes file) where
    numbers_kept : triangle_bytes (taken_from file) ≡ take (table_place file) file
    unfolding triangle_bytes
    numbers_kept =
        let w = table_whole file l in
        let e = w.1 in
        let m = numbers-length in
        let f = l.filled in
        let q : 4 * length (taken_from file).numbers ≡ table_place file = omega (arith, e, m) in
        joined_front (λ j. in_four (bits_of (coordinate_at (taken_from file) j))) 4 file (length (taken_from file).numbers)
        (λ j h. ap (λ z. in_four (bits_of z)) (number_is j (omega (arith, h, m))) ∙ number_kept j (omega (arith, h, m, e, f)))
        ∙ ap (λ n. take n file) q
      where
        number_kept : (j : ℕ) → 4 * j + 4 ≤ length file → in_four (bits_of (i32_at file (4 * j))) ≡ take 4 (drop (4 * j) file)
        number_kept j h = ap in_four (bits_kept file bytes (4 * j)) ∙ four_kept file bytes (4 * j) h

    entry_stays : (i : ℕ) → i < count_in file → entry_bytes (entry_at file i) ≡ take 12 (drop (12 * i) (drop (table_place file) file))
    unfolding entry_at entry_place
    entry_stays i h = let f = l.filled in entry_kept file bytes (table_place file + 12 * i) (omega (arith, f, h)) ∙ ap (take 12) (sym (drop-drop (12 * i) (table_place file) file))

    table_kept : table_bytes (taken_from file) ≡ take (12 * count_in file) (drop (table_place file) file)
    unfolding table_bytes
    table_kept =
        joined_front (λ i. entry_bytes (entry_of (taken_from file) i)) 12 (drop (table_place file) file) (recordings (taken_from file))
        (λ i h. ap entry_bytes (entry_is i (omega (arith, h, n_is))) ∙ entry_stays i (omega (arith, h, n_is)))
        ∙ ap (λ n. take (12 * n) (drop (table_place file) file)) n_is

    trailer_reads : in_four (table_place file) ++ in_four (count_in file) ++ in_four (stored_length file) ≡ take 12 (drop (length file - 12) file)
    unfolding table_place count_in stored_length
    trailer_reads =
        let n = l.at_least12 in
        let p : length file - 8 ≡ length file - 12 + 4 = omega (arith, n) in
        let q : length file - 4 ≡ length file - 12 + 8 = omega (arith, n) in
        ap₂ (λ a b. in_four (u32_at file (length file - 12)) ++ in_four (u32_at file a) ++ in_four (u32_at file b)) p q ∙ three_kept file bytes (length file - 12) (omega (arith, n))

    trailer_kept : trailer_bytes (taken_from file) ≡ drop (table_place file + 12 * count_in file) file
    unfolding trailer_bytes
    trailer_kept =
        let f = l.filled in
        let p : length file - 12 ≡ table_place file + 12 * count_in file = omega (arith, f) in
        ap (λ t. in_four t ++ in_four (recordings (taken_from file)) ++ in_four (file_length (taken_from file))) triangles_is
        ∙ (ap₂ (λ c n. in_four (table_place file) ++ in_four c ++ in_four n) n_is (length_is ∙ sym l.length_stored)
        ∙ (trailer_reads ∙ (ap (λ a. take 12 (drop a file)) p ∙ take_all 12 (drop (table_place file + 12 * count_in file) file) (rw (length-drop (table_place file + 12 * count_in file) file) (omega (arith, f))))))

    pub very_bytes : file_of (taken_from file) ≡ file
    unfolding file_of
    very_bytes =
        ap₂ ◌++◌ (ap₂ ◌++◌ numbers_kept table_kept ∙ sym (take-add (table_place file) (12 * count_in file) file)) trailer_kept
        ∙ take-append-drop (table_place file + 12 * count_in file) file
