-- Two files of the same bytes but for byte 10 or byte 11 of their entries have the same trailer, the same recordings, and the same numbers before the table. Assumes nothing.
use Prim.Native.Nat.{ℕ, ◌+◌, ◌-◌, ◌*◌, ◌<◌, ◌≤◌}
use mathlib.Core.Path.{◌≡◌, refl, ap, ◌∙◌}
use mathlib.Core.List.{List}
use native.Mathlib.Omega.{arith}
use lib.ListN.{length}
use Rattle.layout.specs.Bytes.{byte_at, u16_at, u32_at, i32_at, signed}
use Rattle.layout.specs.Parts.{table_place, count_of, stored_length, entry_from, entry_place, entry_at}
use Rattle.layout.specs.Layout.{Layout}
use Rattle.alike.specs.Alike.{SameBut, AllAlikeBut}

module _ (r : ℕ) (low : 10 ≤ r) (high : r < 12) (file other : List ℕ) (l : Layout file) (s : SameBut r file other) where
  -- byte r of an entry is elsewhere
  abbrev Elsewhere : ℕ → Type 0
  Elsewhere at = (k : ℕ) → k < count_of file → at ≡ table_place file + 12 * k + r → ⊥

  stays : (at : ℕ) → at < length file → Elsewhere at → byte_at other at ≡ byte_at file at
  stays = s.same_byte

  -- numbers of two and of four bytes
  two_stay : (at : ℕ) → at + 2 ≤ length file → Elsewhere at → Elsewhere (at + 1) → u16_at other at ≡ u16_at file at
  unfolding u16_at
  two_stay at h a b = rw (stays at (omega (arith, h)) a, stays (at + 1) (omega (arith, h)) b) refl

  four_stay : (at : ℕ) → at + 4 ≤ length file → Elsewhere at → Elsewhere (at + 1) → Elsewhere (at + 2) → Elsewhere (at + 3) → u32_at other at ≡ u32_at file at
  unfolding u32_at
  four_stay at h a b c d = rw (stays at (omega (arith, h)) a, stays (at + 1) (omega (arith, h)) b, stays (at + 2) (omega (arith, h)) c, stays (at + 3) (omega (arith, h)) d) refl

  -- ---- the trailer: behind the table
  in_trailer : (x : ℕ) → 4 ≤ x → x ≤ 12 → u32_at other (length other - x) ≡ u32_at file (length file - x)
  in_trailer x lo hi =
      let f = l.filled in
      ap (λ n. u32_at other (n - x)) s.same_length
      ∙ four_stay (length file - x) (omega (arith, f, lo, hi)) (λ k h e. omega (arith, f, hi, h, e, high)) (λ k h e. omega (arith, f, hi, h, e, high)) (λ k h e. omega (arith, f, hi, h, e, high)) (λ k h e. omega (arith, f, hi, h, e, high))

  table_is : table_place other ≡ table_place file
  unfolding table_place
  table_is = in_trailer 12 (omega arith) (omega arith)

  count_is : count_of other ≡ count_of file
  unfolding count_of
  count_is = in_trailer 8 (omega arith) (omega arith)

  stored_is : stored_length other ≡ stored_length file
  unfolding stored_length
  stored_is = in_trailer 4 (omega arith) (omega arith)

  -- ---- an entry: eleven of its bytes stay
  beside : (k q : ℕ) → q < 12 → (q ≡ r → ⊥) → Elsewhere (table_place file + 12 * k + q)
  beside k q h n j g e = n (same (table_place file) k j h e)
    where
      same : (t k j : ℕ) → q < 12 → t + 12 * k + q ≡ t + 12 * j + r → q ≡ r
      same t k j h e = omega (arith, h, high, e)

  -- one of the first ten
  front : (k q : ℕ) → q < 10 → Elsewhere (table_place file + 12 * k + q)
  front k q h = beside k q (omega (arith, h)) (λ e. omega (arith, h, low, e))

  id_is : (k : ℕ) → k < count_of file → (entry_at other k).id ≡ (entry_at file k).id
  unfolding entry_at entry_from entry_place
  id_is k h =
      let f = l.filled in
      ap (λ n. u32_at other (n + 12 * k)) table_is
      ∙ four_stay (table_place file + 12 * k) (omega (arith, h, f)) (λ j g e. front k 0 (omega arith) j g (omega (arith, e))) (front k 1 (omega arith)) (front k 2 (omega arith)) (front k 3 (omega arith))

  first_is : (k : ℕ) → k < count_of file → (entry_at other k).first ≡ (entry_at file k).first
  unfolding entry_at entry_from entry_place
  first_is k h =
      let f = l.filled in
      ap (λ n. u32_at other (n + 12 * k + 4)) table_is
      ∙ four_stay (table_place file + 12 * k + 4) (omega (arith, h, f)) (front k 4 (omega arith)) (λ j g e. front k 5 (omega arith) j g (omega (arith, e))) (λ j g e. front k 6 (omega arith) j g (omega (arith, e))) (λ j g e. front k 7 (omega arith) j g (omega (arith, e)))

  counts_are : (k : ℕ) → k < count_of file → (entry_at other k).count ≡ (entry_at file k).count
  unfolding entry_at entry_from entry_place
  counts_are k h =
      let f = l.filled in
      ap (λ n. u16_at other (n + 12 * k + 8)) table_is
      ∙ two_stay (table_place file + 12 * k + 8) (omega (arith, h, f)) (front k 8 (omega arith)) (λ j g e. front k 9 (omega arith) j g (omega (arith, e)))

  other_byte_lem : (k q : ℕ) → k < count_of file → q < 12 → (q ≡ r → ⊥) → byte_at other (entry_place other k + q) ≡ byte_at file (entry_place file k + q)
  unfolding entry_place
  other_byte_lem k q h g n = let f = l.filled in ap (λ t. byte_at other (t + 12 * k + q)) table_is ∙ stays (table_place file + 12 * k + q) (omega (arith, h, f, g)) (beside k q g n)

  -- ---- numbers before the table
  number_is : (at : ℕ) → at + 4 ≤ table_place file → i32_at other at ≡ i32_at file at
  unfolding i32_at
  number_is at h =
      let f = l.filled in
      ap signed (four_stay at (omega (arith, h, f)) (λ k g e. omega (arith, h, e)) (λ k g e. omega (arith, h, e)) (λ k g e. omega (arith, h, e)) (λ k g e. omega (arith, h, e)))

pub all_alike_but : AllAlikeBut
all_alike_but r low high file other l s = record {
  alike = record { as_many = count_is r low high file other l s; id = id_is r low high file other l s; first = first_is r low high file other l s; count = counts_are r low high file other l s; number = number_is r low high file other l s };
  table = table_is r low high file other l s;
  stored = stored_is r low high file other l s;
  other_byte = other_byte_lem r low high file other l s;
}
