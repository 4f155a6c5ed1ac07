-- An old file and the same file with every 2 stored as 0: the bytes of sets change and no others, so both have the same recordings and triangles, and test and training recordings stay what they are. Assumes nothing.
use Prim.Native.Nat.{ℕ, ◌+◌, ◌*◌, ◌<◌, ◌≤◌}
use mathlib.Core.Logic.{◌↔◌, inl, inr}
use mathlib.Core.Path.{◌≡◌, refl, sym, ap, ap₂, subst, ◌∙◌}
use mathlib.Core.Bool.{Bool, true, false, cond}
use mathlib.Core.List.Memᴰ.{head as here}
use mathlib.Core.List.Memᴰ.{tail as there}
use mathlib.Core.List.{List, [], ◌∷◌, ◌++◌, map, Memᴰ}
use native.Mathlib.Omega.{arith}
use lib.Dec.{eqb, ltb}
use borrow.Author.Tests.{eq-eqb, ne_eqb, eqb-true, ltb-true, ltb-false}
use lib.ListN.{length, length-map, get_or-eq_default}
use lib.Seq.{ext_get_or}
use Rattle.floats.specs.Lists.{filter}
use Rattle.sets.specs.Sets.{is_test, is_training, is_retired}
use Rattle.sets.specs.Editions.{KnownLast}
use Rattle.layout.specs.declared.Entry.{Entry}
use Rattle.layout.specs.Bytes.{Bytes, byte_at, i32_at}
use Rattle.layout.specs.Parts.{numbers_of, table_place, count_of, entry_from, entry_place, entry_at, part_end, triangle_from, triangle_at}
use Rattle.layout.specs.Rules.{twice_area}
use Rattle.layout.specs.Layout.{Layout}
use Rattle.layout.specs.Recordings.{part_of}
use Rattle.layout.proofs.Inside.{parts_inside}
use Rattle.layout.proofs.Tests.{some_to, some_from}
use Rattle.filing.specs.Given.{entry_by}
use Rattle.filing.specs.Promise.{NoneRetired}
use Rattle.listing.specs.Turns.{up_to, each}
use Rattle.listing.specs.Leaks.{Leak, tests, trainings, recording_pairs, tally_for, is_leak, leak_pairs, leak_of, leaks, touching, tested, formerly, formerly_held_back}
use Rattle.alike.specs.Alike.{SameBut, AlikeBut, KeptAlike}
use Rattle.alike.proofs.Alike.{all_kept_alike}
use Rattle.alike.proofs.Bytes.{all_alike_but}
use Rattle.listing.specs.Words.{all_but_last, formerly_line, text_of, list_text}
use Rattle.moving.specs.Moved.{moved_set, set_place, has_set, moved_byte, moved, moved_entry, AllMovedOver, MovedSets, AllMovedBytes}
use Rattle.listing.proofs.Turns.{below, reached, passed, map_at, map_same_in, filter_same_in}
use Rattle.listing.proofs.Tallied.{length-up_to, up_to_at}
use Rattle.listing.proofs.Demand.{in_pairs}

-- ---- sets
-- what holds of 0 as of 2 holds of the new set as of the old
role_stays : (p : ℕ → Bool) → p 0 ≡ p 2 → (s : ℕ) → p (moved_set s) ≡ p s
role_stays p same s = go (eqb s 2) refl
  where
    go : (b : Bool) → eqb s 2 ≡ b → p (cond b 0 s) ≡ p s
    go true e = same ∙ ap p (sym (eqb-true s 2 e))
    go false e = refl

pub none_retired : (s : ℕ) → is_retired (moved_set s) ≡ false
none_retired s = go (eqb s 2) refl
  where
    go : (b : Bool) → eqb s 2 ≡ b → is_retired (cond b 0 s) ≡ false
    go true e = refl
    go false e = e

pub moved_sets : MovedSets
moved_sets = record { two = refl; others = λ s n. rw (ne_eqb s 2 n) refl }

known_stays : (s : ℕ) → s ≤ 2 → moved_set s ≤ 2
known_stays s h = go (is_retired s)
  where
    go : (b : Bool) → cond b 0 s ≤ 2
    go true = omega arith
    go false = h

-- a last byte that may stand beside a set may stand beside the new one
last_stays : (s last : ℕ) → KnownLast s last → KnownLast (moved_set s) last
last_stays s last (inl z) = inl z
last_stays s last (inr w) = inr (moved_sets.others s (λ e. let f = w.0 in omega (arith, e, f)) ∙ w.0, w.1)

-- ---- an entry by its fields
five : {a b c d e a' b' c' d' e' : ℕ} → a ≡ a' → b ≡ b' → c ≡ c' → d ≡ d' → e ≡ e' → entry_by a b c d e ≡ entry_by a' b' c' d' e'
five p q r s t = rw (p, q, r, s, t) refl

same_entry : (e f : Entry) → e.id ≡ f.id → e.first ≡ f.first → e.count ≡ f.count → e.set ≡ f.set → e.last ≡ f.last → e ≡ f
same_entry e f p q r s t = five p q r s t

-- ---- a filtered list
filter_none : {A : Type 0} (f : A → Bool) (xs : List A) → ((x : A) → Memᴰ x xs → f x ≡ false) → filter f xs ≡ []
unfolding filter
filter_none f [] h = refl
filter_none f (x ∷ xs) h = rw (h x (here refl)) (filter_none f xs (λ y m. h y (there m)))

-- ---- bytes
module _ (file : List ℕ) where
  same_length_lem : length (moved file) ≡ length file
  unfolding moved
  same_length_lem = length-map (up_to (length file)) (moved_byte file) ∙ length-up_to (length file)

  byte_is : (at : ℕ) → at < length file → byte_at (moved file) at ≡ moved_byte file at
  unfolding moved
  byte_is at h = map_at (moved_byte file) (up_to (length file)) at 0 0 (omega (arith, h, length-up_to (length file))) ∙ ap (moved_byte file) (up_to_at (length file) at 0 h)

  -- the set of a recording stands at a place exactly if the recording is one of the file's
  where_sets_stand : (at : ℕ) → (has_set file at ≡ true) ↔ ((k : ℕ) × (k < count_of file) × (at ≡ set_place file k))
  unfolding has_set
  where_sets_stand at = (
    (λ e. let w = some_to (λ k. eqb at (set_place file k)) (up_to (count_of file)) e in (w.0, below (count_of file) w.1, eqb-true at (set_place file w.0) w.2)),
    (λ w. some_from (λ k. eqb at (set_place file k)) (up_to (count_of file)) (reached (count_of file) w.0 w.1) (eq-eqb at (set_place file w.0) w.2)),
  )

  -- no set stands there
  abbrev Elsewhere : ℕ → Type 0
  Elsewhere at = (k : ℕ) → k < count_of file → at ≡ set_place file k → ⊥

  stays : (at : ℕ) → at < length file → Elsewhere at → byte_at (moved file) at ≡ byte_at file at
  unfolding moved_byte
  stays at h away = byte_is at h ∙ go (has_set file at) refl
    where
      go : (b : Bool) → has_set file at ≡ b → cond b (moved_set (byte_at file at)) (byte_at file at) ≡ byte_at file at
      go true e = let w = (where_sets_stand at).0 e in absurd (away w.0 w.1 w.2)
      go false e = refl

  set_moves : (k : ℕ) → k < count_of file → set_place file k < length file → byte_at (moved file) (set_place file k) ≡ moved_set (byte_at file (set_place file k))
  unfolding moved_byte
  set_moves k h inside = byte_is (set_place file k) inside ∙ rw ((where_sets_stand (set_place file k)).1 (k, h, refl)) refl

  -- and all of them are bytes
  are_Bytes : Bytes file → Bytes (moved file)
  are_Bytes bytes at = go (ltb at (length file)) refl
    where
      small : (b : Bool) (n : ℕ) → n < 256 → cond b 0 n < 256
      small true n h = omega arith
      small false n h = h

      either : (b : Bool) → cond b (moved_set (byte_at file at)) (byte_at file at) < 256
      either true = small (is_retired (byte_at file at)) (byte_at file at) (bytes at)
      either false = bytes at

      go : (b : Bool) → ltb at (length file) ≡ b → byte_at (moved file) at < 256
      go true e = subst (λ n. n < 256) (sym (byte_is at (ltb-true at (length file) e))) (unfold moved_byte in either (has_set file at))
      go false e = subst (λ n. n < 256) (sym (get_or-eq_default (moved file) 0 {n = at} (omega (arith, ltb-false at (length file) e, same_length_lem)))) (omega arith)

  -- without set 2 all of them stay
  as_before_lem : NoneRetired file → moved file ≡ file
  unfolding moved_byte entry_at entry_from entry_place
  as_before_lem none = ext_get_or 0 (moved file) file same_length_lem (λ at h. byte_is at (omega (arith, h, same_length_lem)) ∙ either at (has_set file at) refl)
    where
      either : (at : ℕ) (b : Bool) → has_set file at ≡ b → cond b (moved_set (byte_at file at)) (byte_at file at) ≡ byte_at file at
      either at true e =
          let w = (where_sets_stand at).0 e in
          moved_sets.others (byte_at file at) (λ z. none w.0 w.1 (ap (byte_at file) (sym w.2) ∙ z))
      either at false e = refl

pub all_moved_bytes : AllMovedBytes
all_moved_bytes file = record { same_length = same_length_lem file; set_byte = set_moves file; other_byte = stays file; bytes = are_Bytes file; as_before = as_before_lem file }

module _ (file : List ℕ) (l : Layout file) where
  -- it is the same file but for byte 10 of its entries
  same_but : SameBut 10 file (moved file)
  same_but = record { same_length = same_length_lem file; same_byte = stays file }

  common : AlikeBut 10 file (moved file)
  common = all_alike_but 10 (omega arith) (omega arith) file (moved file) l same_but

  kept : KeptAlike file (moved file)
  kept = all_kept_alike file (moved file) l common.alike

  pub table_is : table_place (moved file) ≡ table_place file
  table_is = common.table

  count_is : count_of (moved file) ≡ count_of file
  count_is = common.alike.as_many

  -- ---- an entry: of its bytes that of the set changes
  set_is : (k : ℕ) → k < count_of file → (entry_at (moved file) k).set ≡ moved_set (entry_at file k).set
  unfolding entry_at entry_from entry_place
  set_is k h = let f = l.filled in ap (λ n. byte_at (moved file) (n + 12 * k + 10)) table_is ∙ set_moves file k h (omega (arith, h, f))

  last_is : (k : ℕ) → k < count_of file → (entry_at (moved file) k).last ≡ (entry_at file k).last
  unfolding entry_at entry_from
  last_is k h = common.other_byte k 11 h (omega arith) (λ z. omega (arith, z))

  entry_is : (k : ℕ) → k < count_of file → entry_at (moved file) k ≡ moved_entry (entry_at file k)
  entry_is k h = same_entry (entry_at (moved file) k) (moved_entry (entry_at file k)) (common.alike.id k h) (common.alike.first k h) (common.alike.count k h) (set_is k h) (last_is k h)

  -- ---- numbers before the table
  pub number_stays : (at : ℕ) → at + 4 ≤ table_place file → i32_at (moved file) at ≡ i32_at file at
  number_stays = common.alike.number

  triangle_is : (k : ℕ) → 24 * k + 24 ≤ table_place file → triangle_at (moved file) k ≡ triangle_at file k
  unfolding triangle_at triangle_from
  triangle_is k h =
      rw (number_stays (24 * k) (omega (arith, h)), number_stays (24 * k + 4) (omega (arith, h)), number_stays (24 * k + 8) (omega (arith, h)), number_stays (24 * k + 12) (omega (arith, h)), number_stays (24 * k + 16) (omega (arith, h)), number_stays (24 * k + 20) (omega (arith, h))) refl

  -- ---- so it is a good file
  of_entry : {A : Type 0} (P : Entry → A) (k : ℕ) → k < count_of (moved file) → P (entry_at (moved file) k) ≡ P (moved_entry (entry_at file k))
  of_entry P k h = ap P (entry_is k (omega (arith, h, count_is)))

  good : Layout (moved file)
  good =
      let c = count_is in
      let t = table_is in
      let n = same_length_lem file in
      record {
        at_least12 = omega (arith, n, l.at_least12);
        at_most65536 = omega (arith, n, l.at_most65536);
        length_stored = common.stored ∙ (l.length_stored ∙ sym n);
        at_most64 = omega (arith, c, l.at_most64);
        filled = omega (arith, c, t, n, l.filled);
        some_triangles = λ i h. rw (of_entry (λ e. e.count) i h) (l.some_triangles i (omega (arith, h, c)));
        known_set = λ i h. rw (of_entry (λ e. e.set) i h) (known_stays (entry_at file i).set (l.known_set i (omega (arith, h, c))));
        known_last = λ i h. rw (of_entry (λ e. e.set) i h, of_entry (λ e. e.last) i h) (last_stays (entry_at file i).set (entry_at file i).last (l.known_last i (omega (arith, h, c))));
        from_start = λ h. of_entry (λ e. e.first) 0 h ∙ l.from_start (omega (arith, h, c));
        end_to_end = λ i h. of_entry (λ e. e.first) (i + 1) h ∙ (l.end_to_end i (omega (arith, h, c)) ∙ sym (of_entry part_end i (omega (arith, h))));
        to_table = λ i q. of_entry part_end i (omega (arith, q)) ∙ (l.to_table i (q ∙ c) ∙ sym t);
        none_no_triangles = λ z. t ∙ l.none_no_triangles (sym c ∙ z);
        ids_once = λ i j g h q. l.ids_once i j g (omega (arith, h, c)) (sym (of_entry (λ e. e.id) i (omega (arith, g, h))) ∙ (q ∙ of_entry (λ e. e.id) j h));
        in_range = λ k h z m. l.in_range k (omega (arith, h, t)) z (subst (λ x. Memᴰ z (numbers_of x)) (triangle_is k (omega (arith, h, t))) m);
        some_area = λ k h q. l.some_area k (omega (arith, h, t)) (sym (ap twice_area (triangle_is k (omega (arith, h, t)))) ∙ q);
      }

  part_is : (k : ℕ) → k < count_of file → part_of (moved file) k ≡ part_of file k
  part_is k h =
      let old = parts_inside file k l h in
      let new = parts_inside (moved file) k good (omega (arith, h, count_is)) in
      let e = entry_is k h in
      let count_same = ap (λ x. x.count) e in
      let first-same = ap (λ x. x.first) e in
      let long = new.part_length ∙ (ap (λ n. 24 * n) count_same ∙ sym old.part_length) in
      let before = old.before_table in
      let f = l.filled in
      ext_get_or 0 (part_of (moved file) k) (part_of file k) long (λ at g.
      let inside : at < 24 * (entry_at file k).count = omega (arith, g, new.part_length, count_same) in
      new.same_byte at (omega (arith, inside, count_same))
      ∙ (ap (λ p. byte_at (moved file) (p + at)) first-same
      ∙ (stays file ((entry_at file k).first + at) (omega (arith, inside, before, f)) (λ j q z. omega (arith, inside, before, z))
      ∙ sym (old.same_byte at inside))))

  -- ---- test and training recordings stay what they are
  those_stay : (p : ℕ → Bool) → p 0 ≡ p 2 → filter (λ k. p (entry_at (moved file) k).set) (up_to (count_of (moved file))) ≡ filter (λ k. p (entry_at file k).set) (up_to (count_of file))
  those_stay p same =
      ap (λ n. filter (λ k. p (entry_at (moved file) k).set) (up_to n)) count_is
      ∙ filter_same_in (λ k. p (entry_at (moved file) k).set) (λ k. p (entry_at file k).set) (up_to (count_of file)) (λ k m. ap (λ e. p e.set) (entry_is k (below (count_of file) m)) ∙ role_stays p same (entry_at file k).set)

  pairs_stay : recording_pairs (moved file) ≡ recording_pairs file
  unfolding recording_pairs tests trainings
  pairs_stay = ap₂ (λ ts rs. each (λ i. map (λ j. (i, j)) rs) ts) (those_stay is_test refl) (those_stay is_training refl)

  -- ---- and so does what is kept of two of them
  two_stay_so : (p : ℕ × ℕ) → Memᴰ p (recording_pairs file) → tally_for (moved file) p ≡ tally_for file p
  two_stay_so p m = let c = in_pairs file m in kept.tally p.0 p.1 c.recording c.other

  leak_stays : (p : ℕ × ℕ) → Memᴰ p (recording_pairs file) → is_leak (moved file) p ≡ is_leak file p
  leak_stays p m = let c = in_pairs file m in rw (last_is p.0 c.recording, kept.own p.0 c.recording, two_stay_so p m) refl

  leak_pairs_stay : leak_pairs (moved file) ≡ leak_pairs file
  unfolding leak_pairs
  leak_pairs_stay = ap (filter (is_leak (moved file))) pairs_stay ∙ filter_same_in (is_leak (moved file)) (is_leak file) (recording_pairs file) leak_stays

  line_stays : (p : ℕ × ℕ) → Memᴰ p (recording_pairs file) → leak_of (moved file) p ≡ leak_of file p
  unfolding leak_of
  line_stays p m = let c = in_pairs file m in three (ap (λ e. e.id) (entry_is p.0 c.recording)) (ap (λ e. e.id) (entry_is p.1 c.other)) (ap (λ t. t.overlapping) (two_stay_so p m))
    where
      leak_by : ℕ → ℕ → ℕ → Leak
      leak_by t r n = record { test = t; train = r; pairs = n }

      three : {t r n t' r' n' : ℕ} → t ≡ t' → r ≡ r' → n ≡ n' → leak_by t r n ≡ leak_by t' r' n'
      three p q r = rw (p, q, r) refl

  leaks_stay : leaks (moved file) ≡ leaks file
  unfolding leaks leak_pairs
  leaks_stay = ap (map (leak_of (moved file))) leak_pairs_stay ∙ map_same_in (leak_of (moved file)) (leak_of file) (leak_pairs file) (λ p m. line_stays p (passed (is_leak file) (recording_pairs file) m).0)

  touching_stays : touching (moved file) ≡ touching file
  touching_stays = kept.touching_same pairs_stay

  tested_stays : tested (moved file) ≡ tested file
  tested_stays = kept.tested_same pairs_stay

  none_any_more_lem : formerly_held_back (moved file) ≡ 0
  unfolding formerly_held_back formerly
  none_any_more_lem = ap length (filter_none (λ k. is_retired (entry_at (moved file) k).set) (up_to (count_of (moved file))) (λ k m. ap (λ e. is_retired e.set) (entry_is k (omega (arith, below (count_of (moved file)) m, count_is))) ∙ none_retired (entry_at file k).set))

  old_list_lem : list_text file ≡ all_but_last (leaks file) (touching file) ++ formerly_line (formerly_held_back file)
  unfolding list_text text_of
  old_list_lem = refl

  new_list_lem : list_text (moved file) ≡ all_but_last (leaks file) (touching file) ++ formerly_line 0
  unfolding list_text text_of
  new_list_lem = rw (leaks_stay, touching_stays, none_any_more_lem) refl

pub all_moved_over : AllMovedOver
all_moved_over file l = record {
  good = good file l;
  as_many = count_is file l;
  entry = entry_is file l;
  part = part_is file l;
  same_leaks = leaks_stay file l;
  same_touching = touching_stays file l;
  same_tested = tested_stays file l;
  none_any_more = none_any_more_lem file l;
  old_list = old_list_lem file l;
  new_list = new_list_lem file l;
}
