-- What the reader finds in the bytes of lists that are not refused: the trailer, each entry and each number as they were given. Assumes nothing.
use Prim.Native.Nat.{ℕ, zero, suc, ◌+◌, ◌-◌, ◌*◌, ◌/◌, ◌%◌, ◌<◌, ◌≤◌}
use mathlib.Core.Path.{◌≡◌, refl, sym, ap, ap₂, subst, ◌∙◌}
use mathlib.Core.List.Memᴰ.{head as here}
use mathlib.Core.List.Memᴰ.{tail as there}
use mathlib.Core.List.{◌++◌, Memᴰ, append_assoc}
use native.Mathlib.Omega.{arith}
use lib.IntN.{ℤ, nat_abs}
use lib.ListN.{length, take, drop, length-append}
use lib.Seq.{drop_at, drop-append-add, take-length}
use Rattle.layout.specs.Bytes.{u32_at, signed, i32_at}
use Rattle.layout.specs.Parts.{triangle_of, numbers_of, table_place, count_of as count_in, stored_length, entry_from, entry_place, entry_at, triangle_from, triangle_at, part_end}
use Rattle.layout.specs.Rules.{twice_area}
use Rattle.layout.specs.Layout.{Layout}
use Rattle.layout.specs.declared.Entry.{Entry}
use Rattle.layout.proofs.Slices.{four_part, number_part, entry_part}
use Rattle.filing.specs.Given.{Given, recordings, triangles, count_at, coordinate_at, sum_of, sum_to, entry_of, triangle_in}
use Rattle.filing.specs.File.{in_four, bits_of, entry_bytes, triangle_bytes, table_bytes, trailer_bytes, file_length, file_of}
use Rattle.filing.specs.Promise.{Ids}
use Rattle.filing.proofs.Bytes.{four_back, signed_bits, bits_small, in_i32, entry_back}
use Rattle.filing.proofs.Joined.{joined_length, joined_at}
use Rattle.filing.specs.Fit.{Fit}
use Rattle.filing.proofs.Fit.{sum_up}

at_zero : (n : ℕ) → n ≡ n + 0
at_zero n = omega arith

-- the places of a triangle's numbers
pub places : (k : ℕ) → (24 * k ≡ 4 * (6 * k)) × (24 * k + 4 ≡ 4 * (6 * k + 1)) × (24 * k + 8 ≡ 4 * (6 * k + 2)) × (24 * k + 12 ≡ 4 * (6 * k + 3)) × (24 * k + 16 ≡ 4 * (6 * k + 4)) × (24 * k + 20 ≡ 4 * (6 * k + 5))
places k = (omega arith, omega arith, omega arith, omega arith, omega arith, omega arith)

pub six : {a b c d e f a' b' c' d' e' f' : ℤ} → a ≡ a' → b ≡ b' → c ≡ c' → d ≡ d' → e ≡ e' → f ≡ f' → triangle_of a b c d e f ≡ triangle_of a' b' c' d' e' f'
six p q r s t u = rw (p, q, r, s, t, u) refl

module _ (g : Given) where
  -- number r of triangle k
  one_of : (k r : ℕ) → r < 6 → Memᴰ (coordinate_at g (6 * k + r)) (numbers_of (triangle_in g k))
  unfolding triangle_in
  one_of k zero h = let q : 6 * k + 0 ≡ 6 * k = omega arith in here (ap (coordinate_at g) q)
  one_of k (suc zero) h = there (here refl)
  one_of k (suc (suc zero)) h = there (there (here refl))
  one_of k (suc (suc (suc zero))) h = there (there (there (here refl)))
  one_of k (suc (suc (suc (suc zero)))) h = there (there (there (there (here refl))))
  one_of k (suc (suc (suc (suc (suc zero))))) h = there (there (there (there (there (here refl)))))
  one_of k (suc (suc (suc (suc (suc (suc r)))))) h = absurd (omega arith)

  entry_twelve : (i : ℕ) → length (entry_bytes (entry_of g i)) ≡ 12
  unfolding entry_bytes
  entry_twelve i = refl

  pub table_length : length (table_bytes g) ≡ 12 * recordings g
  unfolding table_bytes
  table_length = joined_length (λ i. entry_bytes (entry_of g i)) 12 entry_twelve (recordings g)

  pub numbers-length : length (triangle_bytes g) ≡ 4 * length g.numbers
  unfolding triangle_bytes
  numbers-length = joined_length (λ j. in_four (bits_of (coordinate_at g j))) 4 (λ j. refl) (length g.numbers)

  pub trailer_length : length (trailer_bytes g) ≡ 12
  unfolding trailer_bytes
  trailer_length = refl

  -- the file as its front and what follows it
  behind_numbers : file_of g ≡ triangle_bytes g ++ (table_bytes g ++ trailer_bytes g)
  unfolding file_of
  behind_numbers = append_assoc (triangle_bytes g) (table_bytes g) (trailer_bytes g)

  module _ (room : ℕ) (fit : Fit g room) where
    front : length (triangle_bytes g) ≡ 24 * triangles g
    front = let w = fit.whole in numbers-length ∙ omega (arith, w)

    before : length (triangle_bytes g ++ table_bytes g) ≡ 24 * triangles g + 12 * recordings g
    before = length-append (triangle_bytes g) (table_bytes g) ∙ ap₂ ◌+◌ front table_length

    pub file_length_lem : length (file_of g) ≡ file_length g
    unfolding file_of
    file_length_lem = length-append (triangle_bytes g ++ table_bytes g) (trailer_bytes g) ∙ ap₂ ◌+◌ before trailer_length

    module _ (ids : Ids g.ids) where
      -- ---- the trailer
      trailer_at : take 12 (drop (24 * triangles g + 12 * recordings g) (file_of g)) ≡ trailer_bytes g
      unfolding file_of
      trailer_at = ap (take 12) (drop_at (triangle_bytes g ++ table_bytes g) (trailer_bytes g) _ before) ∙ (ap (λ n. take n (trailer_bytes g)) (sym trailer_length) ∙ take-length (trailer_bytes g))

      in_trailer : (x : ℕ) → x + 4 ≤ 12 → u32_at (trailer_bytes g) x ≡ u32_at (file_of g) (24 * triangles g + 12 * recordings g + x)
      in_trailer x h = ap (λ b. u32_at b x) (sym trailer_at) ∙ four_part (file_of g) (24 * triangles g + 12 * recordings g) 12 x h

      place : (x : ℕ) → x ≤ 12 → 24 * triangles g + 12 * recordings g + x ≡ length (file_of g) - (12 - x)
      place x h = let n = file_length_lem in omega (arith, n)

      stored : (v x y : ℕ) → v < 4294967296 → x + 4 ≤ 12 → y ≡ 12 - x → u32_at (trailer_bytes g) x ≡ v → u32_at (file_of g) (length (file_of g) - y) ≡ v
      stored v x y l h q e = ap (λ p. u32_at (file_of g) (length (file_of g) - p)) q ∙ (ap (u32_at (file_of g)) (sym (place x (omega (arith, h)))) ∙ (sym (in_trailer x h) ∙ e))

      pub table_is : table_place (file_of g) ≡ 24 * triangles g
      unfolding table_place trailer_bytes u32_at
      table_is = let m = fit.at_most65536 in let l : 24 * triangles g < 4294967296 = omega (arith, m) in stored (24 * triangles g) 0 12 l (omega arith) refl (four_back (24 * triangles g) l)

      pub count_is : count_in (file_of g) ≡ recordings g
      unfolding count_in trailer_bytes u32_at
      count_is = let m = fit.at_most64 in let l : recordings g < 4294967296 = omega (arith, m) in stored (recordings g) 4 8 l (omega arith) refl (four_back (recordings g) l)

      pub length_is : stored_length (file_of g) ≡ length (file_of g)
      unfolding stored_length trailer_bytes u32_at
      length_is = let m = fit.at_most65536 in let l : file_length g < 4294967296 = omega (arith, m) in stored (file_length g) 8 4 l (omega arith) refl (four_back (file_length g) l) ∙ sym file_length_lem

      -- ---- the entries
      entry_there : (i : ℕ) → i < recordings g → take 12 (drop (24 * triangles g + 12 * i) (file_of g)) ≡ entry_bytes (entry_of g i)
      unfolding table_bytes
      entry_there i h =
          ap (λ b. take 12 (drop (24 * triangles g + 12 * i) b)) behind_numbers
          ∙ (ap (λ n. take 12 (drop (n + 12 * i) (triangle_bytes g ++ (table_bytes g ++ trailer_bytes g)))) (sym front)
          ∙ (ap (take 12) (drop-append-add (triangle_bytes g) (table_bytes g ++ trailer_bytes g) (12 * i))
          ∙ joined_at (λ j. entry_bytes (entry_of g j)) 12 entry_twelve (recordings g) i (trailer_bytes g) h))

      entry_fits : (i : ℕ) → i < recordings g → (24 * sum_to g i < 4294967296) × (count_at g i < 65536)
      unfolding sum_of
      entry_fits i h =
          let up = sum_up g (recordings g) (suc i) (omega (arith, h)) in
          let s = fit.sum in
          let m = fit.at_most65536 in
          (omega (arith, up, s, m), omega (arith, up, s, m))

      entry_read : (i : ℕ) → i < recordings g → entry_from (entry_bytes (entry_of g i)) 0 ≡ entry_of g i
      unfolding entry_of
      entry_read i h = let f = entry_fits i h in entry_back (entry_of g i) (ids i) f.0 f.1

      pub entry_is : (i : ℕ) → i < recordings g → entry_at (file_of g) i ≡ entry_of g i
      unfolding entry_at entry_place
      entry_is i h =
          ap (λ t. entry_from (file_of g) (t + 12 * i)) table_is
          ∙ (ap (entry_from (file_of g)) (at_zero (24 * triangles g + 12 * i)) ∙ (sym (entry_part (file_of g) (24 * triangles g + 12 * i) 12 0 (omega arith)) ∙ (ap (λ b. entry_from b 0) (entry_there i h) ∙ entry_read i h)))

      -- ---- the numbers
      pub number_small : (j : ℕ) → j < length g.numbers → nat_abs (coordinate_at g j) ≤ 1000000
      number_small j h =
          let k = j / 6 in
          let q : 6 * k + j % 6 ≡ j = omega arith in
          subst (λ n. nat_abs (coordinate_at g n) ≤ 1000000) q (fit.in_range k (six j (length g.numbers) h fit.whole) (coordinate_at g (6 * k + j % 6)) (one_of k (j % 6) (omega arith)))
        where
          six : (j n : ℕ) → j < n → 6 * (n / 6) ≡ n → 6 * (j / 6) + 6 ≤ n
          six j n h e = omega arith

      number_there : (j : ℕ) → j < length g.numbers → take 4 (drop (4 * j) (file_of g)) ≡ in_four (bits_of (coordinate_at g j))
      unfolding triangle_bytes
      number_there j h = ap (λ b. take 4 (drop (4 * j) b)) behind_numbers ∙ joined_at (λ k. in_four (bits_of (coordinate_at g k))) 4 (λ k. refl) (length g.numbers) j (table_bytes g ++ trailer_bytes g) h

      number_read : (z : ℤ) → nat_abs z ≤ 1000000 → i32_at (in_four (bits_of z)) 0 ≡ z
      unfolding i32_at u32_at
      number_read z h = let f = in_i32 z h in ap signed (four_back (bits_of z) (bits_small z f)) ∙ signed_bits z f

      pub number_is : (j : ℕ) → j < length g.numbers → i32_at (file_of g) (4 * j) ≡ coordinate_at g j
      number_is j h = ap (i32_at (file_of g)) (at_zero (4 * j)) ∙ (sym (number_part (file_of g) (4 * j) 4 0 (omega arith)) ∙ (ap (λ b. i32_at b 0) (number_there j h) ∙ number_read (coordinate_at g j) (number_small j h)))

      pub triangle_is : (k : ℕ) → 6 * k + 6 ≤ length g.numbers → triangle_at (file_of g) k ≡ triangle_in g k
      unfolding triangle_at triangle_from triangle_in
      triangle_is k h =
          let at : (r : ℕ) → r < 6 → i32_at (file_of g) (4 * (6 * k + r)) ≡ coordinate_at g (6 * k + r) = λ r l. number_is (6 * k + r) (omega (arith, h, l)) in
          six (ap (i32_at (file_of g)) (places k).0 ∙ number_is (6 * k) (omega (arith, h)))
          (ap (i32_at (file_of g)) (places k).1 ∙ at 1 (omega arith))
          (ap (i32_at (file_of g)) (places k).2 ∙ at 2 (omega arith))
          (ap (i32_at (file_of g)) (places k).3 ∙ at 3 (omega arith))
          (ap (i32_at (file_of g)) (places k).4 ∙ at 4 (omega arith))
          (ap (i32_at (file_of g)) (places k).5 ∙ at 5 (omega arith))

      -- ---- so the file has the layout
      first_is : (i : ℕ) → (entry_of g i).first ≡ 24 * sum_to g i
      unfolding entry_of
      first_is i = refl

      end_is : (i : ℕ) → part_end (entry_of g i) ≡ 24 * sum_to g (suc i)
      unfolding entry_of sum_of
      end_is i = omega arith

      none_is : recordings g ≡ 0 → 24 * triangles g ≡ 0
      unfolding sum_of
      none_is z = let s = ap (sum_to g) (sym z) ∙ fit.sum in omega (arith, s)

      of_entry : {A : Type 0} (P : Entry → A) (i : ℕ) → i < count_in (file_of g) → P (entry_at (file_of g) i) ≡ P (entry_of g i)
      of_entry P i h = ap P (entry_is i (omega (arith, h, count_is)))

      of_triangle : (k : ℕ) → 24 * k + 24 ≤ table_place (file_of g) → 6 * k + 6 ≤ length g.numbers
      of_triangle k h = let t = table_is in let w = fit.whole in omega (arith, h, t, w)

      pub has_Layout : Layout (file_of g)
      unfolding entry_of
      has_Layout = record {
        at_least12 = omega (arith, file_length_lem);
        at_most65536 = omega (arith, file_length_lem, fit.at_most65536);
        length_stored = length_is;
        at_most64 = omega (arith, count_is, fit.at_most64);
        filled = omega (arith, table_is, count_is, file_length_lem);
        some_triangles = λ i h. rw (of_entry (λ e. e.count) i h) (fit.some_triangles i (omega (arith, h, count_is)));
        known_set = λ i h. let k = fit.known_set i (omega (arith, h, count_is)) in rw (of_entry (λ e. e.set) i h) (omega (arith, k));
        known_last = λ i h. rw (of_entry (λ e. e.set) i h, of_entry (λ e. e.last) i h) (fit.known_last i (omega (arith, h, count_is)));
        from_start = λ h. of_entry (λ e. e.first) 0 h ∙ unfold sum_of in refl;
        end_to_end = λ i h. of_entry (λ e. e.first) (i + 1) h ∙ (next i ∙ sym (of_entry part_end i (omega (arith, h)) ∙ end_is i));
        to_table = λ i q. of_entry part_end i (omega (arith, q)) ∙ (end_is i ∙ (last i q ∙ sym table_is));
        none_no_triangles = λ z. table_is ∙ none_is (sym count_is ∙ z);
        ids_once = λ i j l h q. fit.ids_once i j l (omega (arith, h, count_is)) (sym (of_entry (λ e. e.id) i (omega (arith, l, h))) ∙ (q ∙ of_entry (λ e. e.id) j h));
        in_range = λ k h z m. fit.in_range k (of_triangle k h) z (subst (λ t. Memᴰ z (numbers_of t)) (triangle_is k (of_triangle k h)) m);
        some_area = λ k h q. fit.some_area k (of_triangle k h) (sym (ap twice_area (triangle_is k (of_triangle k h))) ∙ q);
      }
        where
          next : (i : ℕ) → 24 * sum_to g (i + 1) ≡ 24 * sum_to g (suc i)
          next i = let q : i + 1 ≡ suc i = omega arith in ap (λ n. 24 * sum_to g n) q

          last : (i : ℕ) → i + 1 ≡ count_in (file_of g) → 24 * sum_to g (suc i) ≡ 24 * triangles g
          last i q = let e : suc i ≡ recordings g = omega (arith, q, count_is) in ap (λ n. 24 * sum_to g n) e ∙ ap (λ n. 24 * n) fit.sum
