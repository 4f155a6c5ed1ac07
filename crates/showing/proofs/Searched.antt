-- The entry that has an id is found among the table's chunks as it is among the entries, and the chunks of a recording's part are its triangles. Assumes nothing.
use Prim.Native.Nat.{ℕ, zero, suc, ◌+◌, ◌*◌, ◌/◌, ◌<◌, ◌≤◌}
use mathlib.Core.Path.{◌≡◌, refl, sym, ap, ap₂, ◌∙◌}
use mathlib.Core.List.{List, ◌∷◌, map}
use mathlib.Core.Bool.{Bool, true, false, cond}
use native.Mathlib.Omega.{arith}
use lib.Dec.{eqb, ltb}
use lib.ListN.{length, take, drop, length-drop}
use borrow.Author.Tests.{lt-ltb, le-ltb}
use Rattle.std.specs.Simd.{first_chunks}
use Rattle.std.specs.List.{find}
use Rattle.std.proofs.Common.{Option, Some, None}
use Rattle.std.proofs.lemmas.List.{drop-drop, length-take-le}
use Rattle.layout.specs.declared.Entry.{Entry}
use Rattle.layout.specs.Layout.{Layout}
use Rattle.layout.specs.Parts.{table_place, count_of, entry_from, entry_at, triangle_by, triangle_from}
use Rattle.layout.specs.Bytes.{six_of, i32_at}
use Rattle.layout.specs.Recordings.{bytes_of}
use Rattle.layout.proofs.Returned.{is_good, there_is}
use Rattle.layout.proofs.Inside.{parts_inside}
use Rattle.layout.proofs.Slices.{entry_part, triangle_part}
use Rattle.footprint.specs.Contents.{entries_in, entry_in}
use Rattle.chart.specs.Recorded.{searched, number_with, triangles_from, recording_text}
use Rattle.chart.specs.Words.{triangle_text, collection_text, text_of}
use Rattle.chart.proofs.Recorded.{triangles_of_part}
use Rattle.showing.specs.Code.{texts_of}

-- ---- the entry that has an id
first_entry : (file : List ℕ) (k : ℕ) → entry_from (take 12 (drop (table_place file + 12 * k) file)) 0 ≡ entry_at file k
unfolding entry_at
first_entry file k = entry_part file (table_place file + 12 * k) 12 0 (omega arith) ∙ ap (entry_from file) (none (table_place file + 12 * k))
  where
    none : (m : ℕ) → m + 0 ≡ m
    none m = omega arith

module _ (file : List ℕ) (id : ℕ) where
  -- among the entries of these bytes
  found_in : List (List ℕ) → Option Entry
  found_in entries = find (λ (e : Entry). eqb e.id id) (map (λ bytes. entry_from bytes 0) entries)

  -- entry k, of the first so many
  below : ℕ → ℕ → Option Entry
  below many k = cond (ltb k many) (Some (entry_at file k)) None

  -- among n entries, from entry k on
  found_from : (n k : ℕ) → found_in (first_chunks 12 n (drop (table_place file + 12 * k) file)) ≡ below (k + n) (searched file id n k)
  unfolding found_in below searched
  found_from zero k = rw (le-ltb k (k + 0) (omega arith)) refl
  found_from (suc n) k =
      ap₂ (λ (e : Entry) rest. cond (eqb e.id id) (Some e) (found_in (first_chunks 12 n rest))) (first_entry file k) (drop-drop 12 (table_place file + 12 * k) file)
      ∙ go (eqb (entry_at file k).id id) (ap (λ m. found_in (first_chunks 12 n (drop m file))) (more (table_place file) k) ∙ found_from n (suc k))
    where
      more : (t k : ℕ) → t + 12 * k + 12 ≡ t + 12 * suc k
      more t k = omega arith

      go : (b : Bool) {o : Option Entry} → o ≡ below (suc k + n) (searched file id n (suc k)) → cond b (Some (entry_at file k)) o ≡ below (k + suc n) (cond b k (searched file id n (suc k)))
      go true h = sym (ap (λ (t : Bool). cond t (Some (entry_at file k)) None) (lt-ltb k (k + suc n) (omega arith)))
      go false h = h ∙ ap (λ m. below m (searched file id n (suc k))) (one k n)
        where
          one : (k n : ℕ) → suc k + n ≡ k + suc n
          one k n = omega arith

  pub entry_found : find (λ (e : Entry). eqb e.id id) (map (λ bytes. entry_from bytes 0) (entries_in file)) ≡ entry_in file (number_with file id)
  unfolding found_in below entries_in entry_in number_with
  entry_found = ap (λ m. found_in (first_chunks 12 (count_of file) (drop m file))) (none (table_place file)) ∙ (found_from (count_of file) 0 ∙ ap (λ m. below m (searched file id (count_of file) 0)) (all (count_of file)))
    where
      none : (m : ℕ) → m ≡ m + 12 * 0
      none m = omega arith

      all : (n : ℕ) → 0 + n ≡ n
      all n = omega arith

-- ---- the triangles of a part
-- the six numbers that stand in a triangle's bytes are the triangle's
by_six : (bytes : List ℕ) → triangle_by (six_of bytes) ≡ triangle_from bytes 0
unfolding six_of triangle_from i32_at
by_six bytes = refl

first_triangle : (bytes : List ℕ) (at : ℕ) → triangle_by (six_of (take 24 (drop at bytes))) ≡ triangle_from bytes at
first_triangle bytes at = by_six (take 24 (drop at bytes)) ∙ (triangle_part bytes at 24 0 (omega arith) ∙ ap (triangle_from bytes) (none at))
  where
    none : (m : ℕ) → m + 0 ≡ m
    none m = omega arith

pub texts_are : (bytes : List ℕ) (n at : ℕ) → texts_of (first_chunks 24 n (drop at bytes)) ≡ map triangle_text (triangles_from bytes at n)
unfolding triangles_from
texts_are bytes zero at = refl
texts_are bytes (suc n) at = ap₂ (λ t ts. triangle_text t ∷ ts) (first_triangle bytes at) (ap (λ rest. texts_of (first_chunks 24 n rest)) (drop-drop 24 at bytes) ∙ texts_are bytes n (at + 24))

module _ (file : List ℕ) (good : Layout file) {k : ℕ} (h : k < count_of file) where
  abbrev pub part : List ℕ
  part = bytes_of file (entry_at file k)

  part_count : length part / 24 ≡ (entry_at file k).count
  part_count =
      let l = length-drop (entry_at file k).first file in
      let i = (parts_inside file k good h).in_file in
      let n = length-take-le (24 * (entry_at file k).count) (drop (entry_at file k).first file) (omega (arith, l, i)) in
      omega (arith, n)

  pub recording_is : collection_text (texts_of (first_chunks 24 (length part / 24) part)) ≡ recording_text file k
  unfolding recording_text text_of
  recording_is =
      ap (λ ts. collection_text ts) (texts_are part (length part / 24) 0
      ∙ ap (map triangle_text) (ap (triangles_from part 0) part_count ∙ (ap (λ p. triangles_from p 0 (entry_at file k).count) (sym (there_is file k (is_good file good) h).1) ∙ sym (triangles_of_part file k good h))))

  pub some_triangles : (0 < length part / 24) × (length part / 24 ≤ 65536)
  some_triangles =
      let e = part_count in
      let s = good.some_triangles k h in
      let i = (parts_inside file k good h).in_file in
      let m = good.at_most65536 in
      (omega (arith, e, s), omega (arith, e, i, m))
