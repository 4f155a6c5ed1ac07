-- 02, No. 2, first statement, with No. 8: the reader takes whatever was written, and finds in it what was given. Assumes nothing.
use Prim.Native.Nat.{ℕ, suc, ◌+◌, ◌*◌, ◌/◌, ◌<◌}
use mathlib.Core.Path.{◌≡◌, refl, sym, ap, ◌∙◌}
use mathlib.Core.List.{List}
use native.Mathlib.Omega.{arith}
use lib.IntN.{pos}
use lib.ListN.{length, get_or}
use Rattle.layout.specs.Bytes.{i32_at}
use Rattle.layout.specs.Parts.{table_place, count_of as count_in, entry_at}
use Rattle.layout.specs.Recordings.{recording_of, recording_by, part_of}
use Rattle.layout.specs.declared.Recording.{Recording}
use Rattle.layout.proofs.Accepted.{accepted_exactly_if}
use Rattle.layout.proofs.Returned.{is_good, there_is, no_such_lem}
use Rattle.layout.proofs.Inside.{parts_inside}
use Rattle.filing.specs.Given.{Given, given_of, recordings, count_at, coordinate_at, sum_of, sum_to, entry_of}
use Rattle.filing.specs.File.{file_of}
use Rattle.filing.specs.Taken.{listed, taken_from}
use Rattle.filing.specs.Promise.{Ids, SameRecordings}
use Rattle.filing.specs.Fit.{Fit}
use Rattle.filing.proofs.Fit.{sum_up}
use Rattle.filing.proofs.Read.{table_is, count_is, entry_is, number_is, has_Layout}
use Rattle.filing.proofs.Taken.{listed_all, numbers_are}

-- lists that are the same one by one
same_lists : (g h : Given) → g.ids ≡ h.ids → g.counts ≡ h.counts → g.sets ≡ h.sets → g.lasts ≡ h.lasts → g.numbers ≡ h.numbers → given_of g.ids g.counts g.sets g.lasts g.numbers ≡ given_of h.ids h.counts h.sets h.lasts h.numbers
same_lists g h p q r s t = rw (p, q, r, s, t) refl

module _ (g : Given) (room : ℕ) (fit : Fit g room) (ids : Ids g.ids) where
  in_file : (i : ℕ) → i < recordings g → i < count_in (file_of g)
  in_file i h = omega (arith, h, count_is g room fit ids)

  recording_is : (i : ℕ) → i < recordings g → recording_of (file_of g) i ≡ recording_by (entry_of g i)
  recording_is i h = (there_is (file_of g) i (is_good (file_of g) (has_Layout g room fit ids)) (in_file i h)).0 ∙ ap recording_by (entry_is g room fit ids i h)

  -- a field of each recording, as the list that was given
  field_is : (field : Recording → ℕ) (given : List ℕ) → length given ≡ recordings g → ((i : ℕ) → field (recording_by (entry_of g i)) ≡ get_or given i 0) → listed (λ i. field (recording_of (file_of g) i)) (count_in (file_of g)) ≡ given
  field_is field given n h = listed_all (λ i. field (recording_of (file_of g) i)) 0 given (count_in (file_of g)) (n ∙ sym (count_is g room fit ids)) (λ i l. ap field (recording_is i (omega (arith, l, count_is g room fit ids))) ∙ h i)

  numbers : (taken_from (file_of g)).numbers ≡ g.numbers
  numbers =
      let w = fit.whole in
      let t = table_is g room fit ids in
      let q : length g.numbers ≡ table_place (file_of g) / 4 = omega (arith, w, t) in
      numbers_are (file_of g) (has_Layout g room fit ids)
      ∙ listed_all (λ j. i32_at (file_of g) (4 * j)) (pos 0) g.numbers (table_place (file_of g) / 4) q (λ j l. number_is g room fit ids j (omega (arith, l, q)))

  lists : taken_from (file_of g) ≡ g
  unfolding taken_from entry_of
  lists = same_lists (taken_from (file_of g)) g
      (field_is (λ r. r.id) g.ids refl (λ i. refl))
      (field_is (λ r. r.count) g.counts fit.counts (λ i. refl))
      (field_is (λ r. r.set) g.sets fit.sets (λ i. refl))
      (field_is (λ r. r.last) g.lasts fit.lasts (λ i. refl))
      numbers

  in_numbers : (i : ℕ) → i < recordings g → (j : ℕ) → j < 6 * count_at g i → 6 * sum_to g i + j < length g.numbers
  unfolding sum_of
  in_numbers i h j k =
      let up = sum_up g (recordings g) (suc i) (omega (arith, h)) in
      let s = fit.sum in
      let w = fit.whole in
      omega (arith, k, up, s, w)

  -- a number of a part is the file's that many places behind the part's first
  number_of_part : (i : ℕ) → i < recordings g → (j : ℕ) → j < 6 * count_at g i → i32_at (part_of (file_of g) i) (4 * j) ≡ coordinate_at g (6 * sum_to g i + j)
  number_of_part i h j k =
      let e = entry_is g room fit ids i h in
      let c : (entry_at (file_of g) i).count ≡ count_at g i = ap (λ x. x.count) e ∙ unfold entry_of in refl in
      let f : (entry_at (file_of g) i).first ≡ 24 * sum_to g i = ap (λ x. x.first) e ∙ unfold entry_of in refl in
      let q : (entry_at (file_of g) i).first + 4 * j ≡ 4 * (6 * sum_to g i + j) = omega (arith, f) in
      (parts_inside (file_of g) i (has_Layout g room fit ids) (in_file i h)).same_number (4 * j) (omega (arith, k, c))
      ∙ (ap (i32_at (file_of g)) q ∙ number_is g room fit ids (6 * sum_to g i + j) (in_numbers i h j k))

  part_length_lem : (i : ℕ) → i < recordings g → length (part_of (file_of g) i) ≡ 24 * count_at g i
  unfolding entry_of
  part_length_lem i h = (parts_inside (file_of g) i (has_Layout g room fit ids) (in_file i h)).part_length ∙ ap (λ e. 24 * e.count) (entry_is g room fit ids i h)

  pub same_recordings : SameRecordings g (file_of g)
  same_recordings =
      let l = has_Layout g room fit ids in
      record {
        accepted = (accepted_exactly_if (file_of g)).1 l;
        as_many = count_is g room fit ids;
        no_more = λ i h. (no_such_lem (file_of g) i (is_good (file_of g) l) (omega (arith, h, count_is g room fit ids))).0;
        recording = recording_is;
        part_length = part_length_lem;
        part_numbers = number_of_part;
        lists = lists;
      }
