-- The lists that the reader got from a good file: what they have at each place, and that its numbers are those before the table. Assumes nothing.
use Prim.Native.Nat.{ℕ, zero, suc, ◌+◌, ◌*◌, ◌/◌, ◌<◌, ◌≤◌}
use mathlib.Core.Path.{◌≡◌, refl, sym, ap, ap₂, ◌∙◌}
use mathlib.Core.Logic.{⊎_elim}
use mathlib.Core.List.{List, [], ◌∷◌, ◌++◌, append_assoc, append-nil}
use native.Mathlib.Omega.{arith}
use native.Mathlib.Nat.{eq-or-lt_of_le}
use lib.IntN.{pos}
use lib.ListN.{length, get_or, length-append, get_or-append}
use lib.Seq.{get_or_at, ext_get_or}
use Rattle.layout.specs.Bytes.{i32_at}
use Rattle.layout.specs.Parts.{table_place, count_of, entry_at, end_before}
use Rattle.layout.specs.Layout.{Layout}
use Rattle.layout.specs.Recordings.{recording_of, recording_by, part_of}
use Rattle.layout.specs.declared.Recording.{Recording}
use Rattle.layout.proofs.Returned.{is_good, there_is}
use Rattle.layout.proofs.Inside.{parts_inside, starts, end_at}
use Rattle.filing.specs.Taken.{listed, numbers_in, numbers_to, taken_from}

module _ {A : Type 0} (f : ℕ → A) where
  pub listed-length : (m : ℕ) → length (listed f m) ≡ m
  unfolding listed
  listed-length zero = refl
  listed-length (suc m) = length-append (listed f m) (f m ∷ []) ∙ (ap (λ n. n + 1) (listed-length m) ∙ one m)
    where
      one : (n : ℕ) → n + 1 ≡ suc n
      one n = omega arith

  pub listed_at : (d : A) (m i : ℕ) → i < m → get_or (listed f m) i d ≡ f i
  unfolding listed
  listed_at d zero i h = absurd (omega arith)
  listed_at d (suc m) i h = ⊎_elim (last d m i) (λ l. get_or-append (listed f m) (f m ∷ []) d i (omega (arith, l, listed-length m)) ∙ listed_at d m i l) (eq-or-lt_of_le le)
    where
      le : i ≤ m
      le = omega (arith, h)

      last : (d : A) (m i : ℕ) → i ≡ m → get_or (listed f m ++ (f m ∷ [])) i d ≡ f i
      last d m i q = rw q (get_or_at (listed f m) (f m) [] d m (listed-length m))

  -- a list of as many that has them at their places
  pub listed_all : (d : A) (xs : List A) (m : ℕ) → length xs ≡ m → ((i : ℕ) → i < m → f i ≡ get_or xs i d) → listed f m ≡ xs
  listed_all d xs m n h = ext_get_or d (listed f m) xs (listed-length m ∙ sym n) (λ i l. let k : i < m = omega (arith, l, listed-length m) in listed_at d m i k ∙ h i k)

  -- and in two pieces
  pub listed_more : (a b : ℕ) → listed f (a + b) ≡ listed f a ++ listed (λ j. f (a + j)) b
  unfolding listed
  listed_more a zero = let z : a + 0 ≡ a = omega arith in ap (listed f) z ∙ sym (append-nil (listed f a))
  listed_more a (suc b) =
      let q : a + suc b ≡ suc (a + b) = omega arith in
      ap (listed f) q ∙ (ap (λ l. l ++ (f (a + b) ∷ [])) (listed_more a b) ∙ append_assoc (listed f a) (listed (λ j. f (a + j)) b) (f (a + b) ∷ []))

pub listed_as : {A : Type 0} (f h : ℕ → A) (d : A) (m : ℕ) → ((i : ℕ) → i < m → f i ≡ h i) → listed f m ≡ listed h m
listed_as f h d m e = listed_all f d (listed h m) m (listed-length h m) (λ i l. e i l ∙ sym (listed_at h d m i l))

module _ (file : List ℕ) (l : Layout file) where
  -- ---- the numbers of the parts are those before the table
  whole : (m : ℕ) → m ≤ count_of file → (t : ℕ) × (end_before file m ≡ 24 * t)
  unfolding end_before
  whole zero h = (0, refl)
  whole (suc m) h =
      let w = whole m (omega (arith, h)) in
      let s = starts file l m (omega (arith, h)) in
      let e = w.1 in
      (w.0 + (entry_at file m).count, unfold end_before in omega (arith, s, e))

  of_part : (m : ℕ) → m < count_of file → numbers_in (part_of file m) ≡ listed (λ j. i32_at file (4 * (end_before file m / 4 + j))) (6 * (entry_at file m).count)
  unfolding numbers_in
  of_part m h =
      let i = parts_inside file m l h in
      let s = starts file l m h in
      let w = whole m (omega (arith, h)) in
      let c = (entry_at file m).count in
      let n : length (part_of file m) / 4 ≡ 6 * c = let p = i.part_length in omega (arith, p) in
      ap (listed (λ j. i32_at (part_of file m) (4 * j))) n
      ∙ listed_as (λ j. i32_at (part_of file m) (4 * j)) (λ j. i32_at file (4 * (end_before file m / 4 + j))) (pos 0) (6 * c)
      (λ j k. i.same_number (4 * j) (omega (arith, k)) ∙ ap (i32_at file) (place (entry_at file m).first (end_before file m) w.0 j s w.1))
    where
      place : (a e t j : ℕ) → a ≡ e → e ≡ 24 * t → a + 4 * j ≡ 4 * (e / 4 + j)
      place a e t j p q = omega arith

  up_to : (m : ℕ) → m ≤ count_of file → numbers_to file m ≡ listed (λ j. i32_at file (4 * j)) (end_before file m / 4)
  unfolding numbers_to end_before
  up_to zero h = unfold listed in refl
  up_to (suc m) h =
      let s = starts file l m (omega (arith, h)) in
      let w = whole m (omega (arith, h)) in
      let e = w.1 in
      ap₂ ◌++◌ (up_to m (omega (arith, h))) (of_part m (omega (arith, h)))
      ∙ (sym (listed_more (λ j. i32_at file (4 * j)) (end_before file m / 4) (6 * (entry_at file m).count))
      ∙ ap (listed (λ j. i32_at file (4 * j))) (sum (entry_at file m).first (entry_at file m).count (end_before file m) w.0 s e))
    where
      sum : (a c e t : ℕ) → a ≡ e → e ≡ 24 * t → e / 4 + 6 * c ≡ (a + 24 * c) / 4
      sum a c e t p q = omega arith

  pub numbers_are : (taken_from file).numbers ≡ listed (λ j. i32_at file (4 * j)) (table_place file / 4)
  unfolding taken_from
  numbers_are = up_to (count_of file) (omega arith) ∙ ap (λ n. listed (λ j. i32_at file (4 * j)) (n / 4)) (end_at file l (count_of file) refl)

  pub table_whole : (t : ℕ) × (table_place file ≡ 24 * t)
  table_whole = let w = whole (count_of file) (omega arith) in (w.0, sym (end_at file l (count_of file) refl) ∙ w.1)

  -- ---- what the other lists have
  module _ (i : ℕ) (h : i < count_of file) where
    of_field : (field : Recording → ℕ) → get_or (listed (λ k. field (recording_of file k)) (count_of file)) i 0 ≡ field (recording_by (entry_at file i))
    of_field field = listed_at (λ k. field (recording_of file k)) 0 (count_of file) i h ∙ ap field (there_is file i (is_good file l) h).0

    pub id_is : get_or (taken_from file).ids i 0 ≡ (entry_at file i).id
    unfolding taken_from
    id_is = of_field (λ r. r.id)

    pub count_is : get_or (taken_from file).counts i 0 ≡ (entry_at file i).count
    unfolding taken_from
    count_is = of_field (λ r. r.count)

    pub set_is : get_or (taken_from file).sets i 0 ≡ (entry_at file i).set
    unfolding taken_from
    set_is = of_field (λ r. r.set)

    pub last_is : get_or (taken_from file).lasts i 0 ≡ (entry_at file i).last
    unfolding taken_from
    last_is = of_field (λ r. r.last)

pub taken_lengths : (file : List ℕ) → (length (taken_from file).ids ≡ count_of file) × (length (taken_from file).counts ≡ count_of file) × (length (taken_from file).sets ≡ count_of file) × (length (taken_from file).lasts ≡ count_of file)
unfolding taken_from
taken_lengths file = (
  listed-length (λ k. (recording_of file k).id) (count_of file),
  listed-length (λ k. (recording_of file k).count) (count_of file),
  listed-length (λ k. (recording_of file k).set) (count_of file),
  listed-length (λ k. (recording_of file k).last) (count_of file),
)
