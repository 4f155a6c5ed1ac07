-- What lists are like that are not refused, fact by fact; and lists that are like that are not refused. Assumes nothing.
use Prim.Native.Nat.{ℕ, zero, suc, ◌<◌, ◌≤◌}
use mathlib.Core.Path.{◌≡◌, refl, sym}
use mathlib.Core.Logic.{◌⊎◌, inl, inr, ⊎_elim}
use native.Mathlib.Omega.{arith}
use native.Mathlib.Nat.{eq-zero-or-pos, eq-or-lt_of_le}
use lib.IntN.{nat_abs}
use lib.ListN.{length}
use Rattle.sets.specs.Editions.{KnownLast}
use Rattle.sets.proofs.Editions.{known_last_lem}
use Rattle.layout.proofs.Accepted.{same, at_most}
use Rattle.filing.specs.Given.{Given, recordings, triangles, count_at, set_at, last_at, sum_of, sum_to, entry_of}
use Rattle.filing.specs.File.{file_length}
use Rattle.filing.specs.Refusals.{Row, unequal, bad_entry, id_again, wrong_sum, out_of_range, flat, too_many, no_room, refusal}
use Rattle.filing.specs.Rows.{Applies}
use Rattle.filing.specs.Fit.{Fit, WrittenExactlyIf, EntryPlainly}
use Rattle.filing.proofs.Order.{sixes}
use Rattle.filing.proofs.Rows.{exactly_when}

-- a set that is neither 2 nor over 2
pub known : (set : ℕ) → (set ≡ 2 → ⊥) → (2 < set → ⊥) → set ≤ 1
known zero z m = omega arith
known (suc zero) z m = omega arith
known (suc (suc zero)) z m = absurd (z refl)
known (suc (suc (suc n))) z m = absurd (m (omega arith))

module _ (g : Given) (room : ℕ) where
  pub fits : refusal g room ≡ 0 → Fit g room
  unfolding entry_of
  fits h =
      let none = (exactly_when g room).accepted.0 h in record {
        counts = same _ _ (λ n. none unequal (inl n));
        sets = same _ _ (λ n. none unequal (inr (inl n)));
        lasts = same _ _ (λ n. none unequal (inr (inr (inl n))));
        whole = same _ _ (λ n. none unequal (inr (inr (inr (λ t e. n (sixes t (length g.numbers) e))))));
        some_triangles = λ i l. ⊎_elim (λ z. absurd (none (bad_entry i) (l, inr (inl z)))) (λ p. p) (eq-zero-or-pos (count_at g i));
        known_set = λ i l. known (set_at g i) (λ z. none (bad_entry i) (l, inl z)) (λ m. none (bad_entry i) (l, inr (inr (inl m))));
        known_last = λ i l. known_last_lem (set_at g i) (last_at g i) (λ n. none (bad_entry i) (l, inr (inr (inr (inl n)))));
        ids_once = λ i j l m q. none (id_again j) (m, (i, l, q));
        sum = same _ _ (none wrong_sum);
        in_range = λ k l z m. at_most (nat_abs z) 1000000 (λ n. none (out_of_range k) (l, (z, m, n)));
        some_area = λ k l q. none (flat k) (l, q);
        at_most64 = at_most (recordings g) 64 (none too_many);
        at_most65536 = at_most (file_length g) 65536 (λ l. none no_room (inr l));
        in_room = at_most (file_length g) room (λ l. none no_room (inl l));
      }

  no_row : Fit g room → (row : Row) → Applies g room row → ⊥
  unfolding entry_of
  no_row f unequal (inl n) = n f.counts
  no_row f unequal (inr (inl n)) = n f.sets
  no_row f unequal (inr (inr (inl n))) = n f.lasts
  no_row f unequal (inr (inr (inr n))) = n (triangles g) f.whole
  no_row f (bad_entry i) (h, inl c) = let a = f.known_set i h in omega arith
  no_row f (bad_entry i) (h, inr (inl c)) = let a = f.some_triangles i h in omega arith
  no_row f (bad_entry i) (h, inr (inr (inl c))) = let a = f.known_set i h in omega arith
  no_row f (bad_entry i) (h, inr (inr (inr (inl c)))) = c (f.known_last i h)
  no_row f (bad_entry i) (h, inr (inr (inr (inr c)))) = c refl
  no_row f (id_again i) (h, c) = f.ids_once c.0 i c.1 h c.2
  no_row f wrong_sum n = n f.sum
  no_row f (out_of_range k) (h, c) = let a = f.in_range k h c.0 c.1 in let b = c.2 in omega arith
  no_row f (flat k) (h, c) = f.some_area k h c
  no_row f too_many l = let a = f.at_most64 in omega arith
  no_row f no_room (inl l) = let a = f.in_room in omega arith
  no_row f no_room (inr l) = let a = f.at_most65536 in omega arith

  pub not_refused : Fit g room → refusal g room ≡ 0
  not_refused f = (exactly_when g room).accepted.1 (no_row f)

pub written_exactly_if : WrittenExactlyIf
written_exactly_if g room = (fits g room, not_refused g room)

-- the reader's other reason for 14 does not occur: every entry begins where the one before ends
pub entry_plainly : EntryPlainly
unfolding entry_of
entry_plainly g room i = (to, from)
  where
    Plainly : Type 0
    Plainly = (count_at g i ≡ 0) ⊎ (1 < set_at g i) ⊎ (KnownLast (set_at g i) (last_at g i) → ⊥)

    to : Applies g room (bad_entry i) → (i < recordings g) × Plainly
    to (h, inl c) = (h, inr (inl (omega (arith, c))))
    to (h, inr (inl c)) = (h, inl c)
    to (h, inr (inr (inl c))) = (h, inr (inl (omega (arith, c))))
    to (h, inr (inr (inr (inl c)))) = (h, inr (inr c))
    to (h, inr (inr (inr (inr c)))) = absurd (c refl)

    -- a set over 1 is 2, or over 2
    over : 1 < set_at g i → (set_at g i ≡ 2) ⊎ (2 < set_at g i)
    over c = let le : 2 ≤ set_at g i = omega (arith, c) in ⊎_elim (λ q. inl (sym q)) (λ l. inr l) (eq-or-lt_of_le le)

    from : (i < recordings g) × Plainly → Applies g room (bad_entry i)
    from (h, inl c) = (h, inr (inl c))
    from (h, inr (inl c)) = (h, ⊎_elim (λ z. inl z) (λ l. inr (inr (inl l))) (over c))
    from (h, inr (inr c)) = (h, inr (inr (inr (inl c))))

-- the sums go up to the last one
pub sum_up : (g : Given) (n i : ℕ) → i ≤ n → sum_to g i ≤ sum_to g n
unfolding sum_of
sum_up g zero i h = let z : i ≡ 0 = omega arith in rw z (omega arith)
sum_up g (suc n) i h = ⊎_elim (λ (q : i ≡ suc n). rw q (omega arith)) (λ (l : i < suc n). let w = sum_up g n i (omega (arith, l)) in omega (arith, w)) (eq-or-lt_of_le h)
