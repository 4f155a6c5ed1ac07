-- Nothing is said against a file exactly if it has the layout: where the layout holds no row of the table applies, and where no row applies each of its facts does. Assumes nothing.
use Prim.Native.Nat.{ℕ, zero, suc, ◌+◌, ◌<◌, ◌≤◌}
use mathlib.Core.Path.{◌≡◌, refl, sym, subst}
use mathlib.Core.Logic.{inl, inr, ⊎_elim}
use mathlib.Core.Bool.{Bool, true, false}
use mathlib.Core.List.{List}
use native.Mathlib.Omega.{arith}
use native.Mathlib.Nat.{eq-zero-or-pos}
use lib.Dec.{eqb, ltb}
use lib.IntN.{nat_abs}
use lib.ListN.{length}
use borrow.Author.Tests.{eqb-true, eqb-false, ltb-true, ltb-false}
use Rattle.sets.proofs.Editions.{known_last_lem}
use Rattle.layout.specs.Parts.{count_of, entry_at, end_before, part_end}
use Rattle.layout.specs.Verdict.{Row, bad_length, other_length, bad_trailer, bad_entry, id_again, wrong_end, out_of_range, flat}
use Rattle.layout.specs.Layout.{Layout, AcceptedExactlyIf}
use Rattle.layout.specs.Rows.{Applies}
use Rattle.layout.proofs.Rows.{exactly_when}

-- two numbers are the same if they cannot be others
pub same : (a b : ℕ) → ((a ≡ b → ⊥) → ⊥) → a ≡ b
same a b h = go (eqb a b) refl
  where
    go : (t : Bool) → eqb a b ≡ t → a ≡ b
    go true e = eqb-true a b e
    go false e = absurd (h (eqb-false a b e))

pub at_most : (a b : ℕ) → (b < a → ⊥) → a ≤ b
at_most a b h = go (ltb b a) refl
  where
    go : (t : Bool) → ltb b a ≡ t → a ≤ b
    go true e = absurd (h (ltb-true b a e))
    go false e = ltb-false b a e

module _ (file : List ℕ) where
  -- end to end over neighbours, so each entry begins where those before it end
  begins : Layout file → (i : ℕ) → i < count_of file → (entry_at file i).first ≡ end_before file i
  unfolding end_before
  begins l zero h = l.from_start h
  begins l (suc i) h = subst (λ n. (entry_at file n).first ≡ part_end (entry_at file i)) (omega arith) (l.end_to_end i (omega arith))

  no_row : Layout file → (row : Row) → Applies file row → ⊥
  no_row l bad_length (inl h) = let a = l.at_least12 in omega arith
  no_row l bad_length (inr h) = let a = l.at_most65536 in omega arith
  no_row l other_length h = h l.length_stored
  no_row l bad_trailer (inl h) = let a = l.at_most64 in omega arith
  no_row l bad_trailer (inr h) = h l.filled
  no_row l (bad_entry i) (h, inl c) = let a = l.some_triangles i h in omega arith
  no_row l (bad_entry i) (h, inr (inl c)) = let a = l.known_set i h in omega arith
  no_row l (bad_entry i) (h, inr (inr (inl c))) = c (l.known_last i h)
  no_row l (bad_entry i) (h, inr (inr (inr c))) = c (begins l i h)
  no_row l (id_again i) (h, c) = l.ids_once c.0 i c.1 h c.2
  no_row l wrong_end (inl c) = c.2 (l.to_table c.0 c.1)
  no_row l wrong_end (inr c) = c.1 (l.none_no_triangles c.0)
  no_row l (out_of_range k) (h, c) = let a = l.in_range k h c.0 c.1 in let b = c.2 in omega arith
  no_row l (flat k) (h, c) = l.some_area k h c

  module _ (none : (row : Row) → Applies file row → ⊥) where
    first_is : (i : ℕ) → i < count_of file → (entry_at file i).first ≡ end_before file i
    first_is i h = same _ _ (λ n. none (bad_entry i) (h, inr (inr (inr n))))

    has_Layout : Layout file
    has_Layout = record {
      at_least12 = at_most 12 (length file) (λ l. none bad_length (inl l));
      at_most65536 = at_most (length file) 65536 (λ l. none bad_length (inr l));
      length_stored = same _ _ (none other_length);
      at_most64 = at_most (count_of file) 64 (λ l. none bad_trailer (inl l));
      filled = same _ _ (λ n. none bad_trailer (inr n));
      some_triangles = λ i h. ⊎_elim (λ z. absurd (none (bad_entry i) (h, inl z))) (λ p. p) (eq-zero-or-pos (entry_at file i).count);
      known_set = λ i h. at_most (entry_at file i).set 2 (λ l. none (bad_entry i) (h, inr (inl l)));
      known_last = λ i h. known_last_lem (entry_at file i).set (entry_at file i).last (λ n. none (bad_entry i) (h, inr (inr (inl n))));
      from_start = λ h. unfold end_before in first_is 0 h;
      end_to_end = λ i h. let q : i + 1 ≡ suc i = omega arith in subst (λ n. (entry_at file n).first ≡ part_end (entry_at file i)) (sym q) (unfold end_before in first_is (suc i) (omega arith));
      to_table = λ i q. same _ _ (λ n. none wrong_end (inl (i, q, n)));
      none_no_triangles = λ z. same _ _ (λ n. none wrong_end (inr (z, n)));
      ids_once = λ i j l h q. none (id_again j) (h, (i, l, q));
      in_range = λ k h z m. at_most (nat_abs z) 1000000 (λ l. none (out_of_range k) (h, (z, m, l)));
      some_area = λ k h q. none (flat k) (h, q);
    }

pub accepted_exactly_if : AcceptedExactlyIf
accepted_exactly_if file = let w = (exactly_when file).accepted in ((λ h. has_Layout file (w.0 h)), (λ l. w.1 (no_row file l)))
