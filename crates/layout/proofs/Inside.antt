-- Recordings lie end to end from 0 to the table, so each begins at a multiple of 24 and ends before the table; and a byte of a part is the file's byte that many places further on. Assumes nothing.
use Prim.Native.Nat.{ℕ, zero, suc, ◌+◌, ◌-◌, ◌*◌, ◌<◌, ◌≤◌, ◌^◌}
use mathlib.Core.Path.{◌≡◌, refl, sym, ap, ap₂, subst, ◌∙◌}
use mathlib.Core.Bool.{Bool, true, false, cond}
use mathlib.Core.List.{List, ◌++◌, Memᴰ}
use native.Mathlib.Omega.{arith}
use lib.ListN.{length, take, drop, length-drop}
use lib.Seq.{length-take-le, take-add}
use lib.Dec.{T, ltb, le→leb, lt→ltb}
use borrow.Author.Tests.{ltb-true, ltb-false, lt-ltb}
use lib.IntN.{pos, ◌-ℤ◌}
use lib.Ieee.{binary64, of_int, in_float, in_signed, to_signed}
use lib.Ieee.Back.{positive_back, negative_back}
use Rattle.layout.specs.Bytes.{signed}
use Rattle.layout.specs.Parts.{numbers_of, table_place, count_of, entry_at, part_end, end_before, triangle_from, triangle_at}
use Rattle.layout.specs.Rules.{twice_area}
use Rattle.layout.specs.Layout.{Layout}
use Rattle.layout.specs.Recordings.{bytes_of, part_of, f64_at}
use Rattle.layout.specs.Inside.{Inside, PartsInside, parts_to, PartsJoined, Unchanged}
use Rattle.layout.proofs.Returned.{is_good, there_is}
use Rattle.layout.proofs.Slices.{byte_part, number_part, triangle_part}

module _ (file : List ℕ) (l : Layout file) where
  -- an entry begins at a multiple of 24
  abbrev Whole : ℕ → Type 0
  Whole place = (t : ℕ) × (place ≡ 24 * t)

  begins : (i : ℕ) → i < count_of file → Whole (entry_at file i).first
  begins zero h = (0, l.from_start h)
  begins (suc i) h =
      let w = begins i (omega arith) in
      let q : i + 1 ≡ suc i = omega arith in
      let e = subst (λ n. (entry_at file n).first ≡ part_end (entry_at file i)) q (l.end_to_end i (omega arith)) in
      (w.0 + (entry_at file i).count, let b = w.1 in omega (arith, e, b))

  -- and ends before the table: the last one at the table, each other where the next begins, which has an end further on
  ends : (m i : ℕ) → i + m + 1 ≡ count_of file → part_end (entry_at file i) ≤ table_place file
  ends zero i h = let q = l.to_table i (omega arith) in omega (arith, q)
  ends (suc m) i h =
      let e = l.end_to_end i (omega arith) in
      let b = ends m (i + 1) (omega arith) in
      omega (arith, e, b)

  module _ (k : ℕ) (h : k < count_of file) where
    is_part : part_of file k ≡ bytes_of file (entry_at file k)
    is_part = (there_is file k (is_good file l) h).1

    before : part_end (entry_at file k) ≤ table_place file
    before = ends (count_of file - (k + 1)) k (omega arith)

    in_file_lem : part_end (entry_at file k) ≤ length file
    in_file_lem = omega (arith, before, l.filled)

    triangle : (j : ℕ) → j < (entry_at file k).count → (n : ℕ) × ((entry_at file k).first + 24 * j ≡ 24 * n) × (24 * n + 24 ≤ table_place file) × (triangle_from (part_of file k) (24 * j) ≡ triangle_at file n)
    unfolding triangle_at
    triangle j c =
        let w = begins k h in
        let p : (entry_at file k).first + 24 * j ≡ 24 * (w.0 + j) = let b = w.1 in omega (arith, b) in (
          w.0 + j,
          p,
          omega (arith, before, p),
          ap (λ part. triangle_from part (24 * j)) is_part ∙ (triangle_part file (entry_at file k).first (24 * (entry_at file k).count) (24 * j) (omega arith) ∙ ap (triangle_from file) p),
        )

    pub inside_is : Inside file k
    inside_is = record {
      before_table = before;
      in_file = in_file_lem;
      part_length = rw is_part (length-take-le (24 * (entry_at file k).count) (drop (entry_at file k).first file) (rw (length-drop (entry_at file k).first file) (omega (arith, in_file_lem))));
      of_file = triangle;
      same_byte = λ at c. rw is_part (byte_part file (entry_at file k).first (24 * (entry_at file k).count) at c);
      same_number = λ at c. rw is_part (number_part file (entry_at file k).first (24 * (entry_at file k).count) at c);
      same_float = λ at c. unfold f64_at in ap (of_int binary64) (rw is_part (number_part file (entry_at file k).first (24 * (entry_at file k).count) at c));
      in_range = λ j c z m. let t = triangle j c in l.in_range t.0 t.2 z (subst (λ x. Memᴰ z (numbers_of x)) t.3 m);
      some_area = λ j c q. let t = triangle j c in l.some_area t.0 t.2 (sym (ap twice_area t.3) ∙ q);
    }

pub parts_inside : PartsInside
parts_inside file k l h = inside_is file l k h

-- ---- the parts together
module _ (file : List ℕ) (l : Layout file) where
  pub starts : (i : ℕ) → i < count_of file → (entry_at file i).first ≡ end_before file i
  unfolding end_before
  starts zero h = l.from_start h
  starts (suc i) h = let q : i + 1 ≡ suc i = omega arith in subst (λ n. (entry_at file n).first ≡ part_end (entry_at file i)) q (l.end_to_end i (omega arith))

  up_to : (n : ℕ) → n ≤ count_of file → parts_to file n ≡ take (end_before file n) file
  unfolding parts_to end_before
  up_to zero h = refl
  up_to (suc n) h =
      let e = entry_at file n in
      let f : e.first ≡ end_before file n = starts n (omega arith) in
      ap₂ ◌++◌ (up_to n (omega arith) ∙ ap (λ m. take m file) (sym f)) (there_is file n (is_good file l) (omega arith)).1
      ∙ sym (take-add e.first (24 * e.count) file)

  pub end_at : (n : ℕ) → n ≡ count_of file → end_before file n ≡ table_place file
  unfolding end_before
  end_at zero q = sym (l.none_no_triangles (sym q))
  end_at (suc n) q = l.to_table n (omega arith)

pub parts_joined : PartsJoined
parts_joined file l = up_to file l (count_of file) (omega arith) ∙ ap (λ m. take m file) (end_at file l (count_of file) refl)

-- ---- whole numbers up to 2^53 are f64
pub unchanged : Unchanged
unfolding signed in_float
unchanged v h = go (ltb v 2147483648) refl
  where
    go : (b : Bool) → ltb v 2147483648 ≡ b → T (in_signed binary64 31 (of_int binary64 (cond b (pos v) (pos v -ℤ pos 4294967296)))) × (to_signed 31 (of_int binary64 (cond b (pos v) (pos v -ℤ pos 4294967296))) ≡ cond b (pos v) (pos v -ℤ pos 4294967296))
    go true e = let m = ltb-true v 2147483648 e in positive_back binary64 31 v (le→leb v (2 ^ 53) (omega arith)) (omega arith)
    go false e = let m = ltb-false v 2147483648 e in rw (lt-ltb v 4294967296 h) (negative_back binary64 31 (4294967296 - suc v) (lt→ltb (4294967296 - suc v) (2 ^ 53) (omega arith)) (omega arith))
