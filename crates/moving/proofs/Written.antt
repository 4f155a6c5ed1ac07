-- The lists of the new file are those of the old one with 0 for every 2, so the writer makes the new file of them. Assumes nothing.
use Prim.Native.Nat.{ℕ, ◌*◌, ◌/◌, ◌<◌}
use mathlib.Core.Path.{◌≡◌, refl, sym, ap, subst, ◌∙◌}
use mathlib.Core.List.{List, map}
use native.Mathlib.Omega.{arith}
use borrow.Author.Tests.{eqb-false}
use lib.IntN.{ℤ, pos}
use lib.ListN.{length, get_or, length-map}
use lib.Seq.{ext_get_or}
use Rattle.sets.specs.Sets.{is_retired}
use Rattle.layout.specs.declared.Entry.{Entry}
use Rattle.layout.specs.Bytes.{i32_at}
use Rattle.layout.specs.Parts.{table_place, count_of, entry_at}
use Rattle.layout.specs.Layout.{Layout}
use Rattle.layout.proofs.Accepted.{accepted_exactly_if}
use Rattle.listing.proofs.Turns.{map_at}
use Rattle.filing.specs.Given.{given_of}
use Rattle.filing.specs.Taken.{listed, taken_from}
use Rattle.filing.specs.Promise.{WritePromise, NoneRetired}
use Rattle.filing.proofs.Taken.{listed_as, numbers_are, id_is, count_is, set_is, last_is, taken_lengths}
use Rattle.filing.proofs.Returned.{very_bytes_again}
use Rattle.moving.specs.Moved.{moved_set, moved, moved_entry}
use Rattle.moving.specs.Written.{moved_lists, AllWrittenOver}
use Rattle.moving.proofs.Moved.{none_retired, number_stays, table_is, all_moved_bytes, all_moved_over}

module _ (file : List ℕ) (l : Layout file) where
  abbrev new : List ℕ
  new = moved file

  n_is : count_of new ≡ count_of file
  n_is = (all_moved_over file l).as_many

  entry_of : {A : Type 0} (P : Entry → A) (i : ℕ) → i < count_of file → P (entry_at new i) ≡ P (moved_entry (entry_at file i))
  entry_of P i h = ap P ((all_moved_over file l).entry i h)

  good : Layout new
  good = (all_moved_over file l).good

  in_new : (i : ℕ) → i < count_of file → i < count_of new
  in_new i h = omega (arith, h, n_is)

  -- ---- list by list
  -- what is not moved of an entry
  stays : (field : Entry → ℕ) (a b : List ℕ) → ((e : Entry) → field (moved_entry e) ≡ field e) → length a ≡ count_of new → length b ≡ count_of file → ((i : ℕ) → i < count_of new → get_or a i 0 ≡ field (entry_at new i)) → ((i : ℕ) → i < count_of file → get_or b i 0 ≡ field (entry_at file i)) → a ≡ b
  stays field a b same m n p q = ext_get_or 0 a b (m ∙ (n_is ∙ sym n)) (λ i h.
      let k : i < count_of file = omega (arith, h, m, n_is) in
      p i (in_new i k) ∙ (entry_of field i k ∙ (same (entry_at file i) ∙ sym (q i k))))

  ids_stay : (taken_from new).ids ≡ (taken_from file).ids
  ids_stay = stays (λ e. e.id) (taken_from new).ids (taken_from file).ids (λ e. refl) (taken_lengths new).0 (taken_lengths file).0 (id_is new good) (id_is file l)

  counts_stay : (taken_from new).counts ≡ (taken_from file).counts
  counts_stay = stays (λ e. e.count) (taken_from new).counts (taken_from file).counts (λ e. refl) (taken_lengths new).1 (taken_lengths file).1 (count_is new good) (count_is file l)

  lasts_stay : (taken_from new).lasts ≡ (taken_from file).lasts
  lasts_stay = stays (λ e. e.last) (taken_from new).lasts (taken_from file).lasts (λ e. refl) (taken_lengths new).3 (taken_lengths file).3 (last_is new good) (last_is file l)

  sets_move : (taken_from new).sets ≡ map moved_set (taken_from file).sets
  sets_move =
      let old = (taken_from file).sets in
      ext_get_or 0 (taken_from new).sets (map moved_set old) ((taken_lengths new).2 ∙ (n_is ∙ (sym (taken_lengths file).2 ∙ sym (length-map old moved_set)))) (λ i h.
      let k : i < count_of file = omega (arith, h, (taken_lengths new).2, n_is) in
      set_is new good i (in_new i k) ∙ (entry_of (λ e. e.set) i k ∙ (ap moved_set (sym (set_is file l i k)) ∙ sym (map_at moved_set old i 0 0 (omega (arith, k, (taken_lengths file).2))))))

  numbers_stay : (taken_from new).numbers ≡ (taken_from file).numbers
  numbers_stay =
      numbers_are new good
      ∙ (ap (λ t. listed (λ j. i32_at new (4 * j)) (t / 4)) (table_is file l)
      ∙ (listed_as (λ j. i32_at new (4 * j)) (λ j. i32_at file (4 * j)) (pos 0) (table_place file / 4) (λ j h. number_stays file l (4 * j) (omega (arith, h)))
      ∙ sym (numbers_are file l)))

  pub lists_move : taken_from new ≡ moved_lists (taken_from file)
  lists_move = five ids_stay counts_stay sets_move lasts_stay numbers_stay
    where
      five : {a b c d a' b' c' d' : List ℕ} {e e' : List ℤ} → a ≡ a' → b ≡ b' → c ≡ c' → d ≡ d' → e ≡ e' → given_of a b c d e ≡ given_of a' b' c' d' e'
      five p q r s t = rw (p, q, r, s, t) refl

  none_old : NoneRetired new
  none_old i h e =
      let k : i < count_of file = omega (arith, h, n_is) in
      eqb-false (entry_at new i).set 2 (entry_of (λ x. is_retired x.set) i k ∙ none_retired (entry_at file i).set) e

pub all_written_over : AllWrittenOver
all_written_over file room r after bytes a h p =
    let l = (accepted_exactly_if file).0 a in
    let m = all_moved_over file l in
    let b = all_moved_bytes file in
    let n = b.same_length in
    let w = very_bytes_again (moved file) room r after (b.bytes bytes) ((accepted_exactly_if (moved file)).1 m.good) (none_old file l) (omega (arith, n, h)) (subst (λ g. WritePromise g room r after) (sym (lists_move file l)) p) in
    (w.0, w.1 ∙ n, w.2)
