-- A row's test holds exactly if the row applies, so the cascade's number is that of the first row that applies. Assumes nothing.
use mathlib.Core.Path.{◌≡◌, refl, sym, ap, subst, ◌∙◌}
use mathlib.Core.Logic.{◌⊎◌, inl, inr, ◌↔◌}
use mathlib.Core.Bool.{Bool, true, false, not, ◌||◌, cond, false≢true, or-true}
use mathlib.Core.List.Memᴰ.{head as here}
use mathlib.Core.List.Memᴰ.{tail as there}
use mathlib.Core.List.{List, [], ◌∷◌, ◌++◌, Memᴰ}
use Prim.Native.Nat.{ℕ, zero, suc, ◌<◌}
use native.Mathlib.Omega.{arith}
use lib.Dec.{eqb, ltb}
use lib.ListN.{length, get_or, length-append, get_or-append}
use lib.Seq.{get_or-append_seam}
use lib.Ieee.{Float}
use borrow.Author.Tests.{eqb-true, eqb-false, eq-eqb, ne_eqb, ltb-true, ltb-false, lt-ltb, not-true}
use Rattle.floats.specs.Lists.{all}
use Rattle.floats.specs.Finite.{finite}
use Rattle.floats.proofs.First.{NoneOf, Leads, search_first, none_found, found}
use Rattle.floats.proofs.Lists.{fails_at, fails_all}
use Rattle.triangles.specs.Refusals.{Row, lengths, coordinates, way_to_d, d_zero, way_to_e, e_zero, way_to_parameter, way_to_pair_test, way_to_position, way_to_area, table, number_of, way_of, not_all_finite, row_test, first_of, refusal_of}
use Rattle.triangles.specs.Answers.{whole_of, refused, answered, answer_of}
use Rattle.triangles.specs.Rows.{NotFinite, Applies, rank_of, First, RefusedBy, NoRow, ExactlyWhen}

-- ---- each test against its row
finite_test : (vs : List Float) → (not_all_finite vs ≡ true) ↔ NotFinite vs
finite_test vs = ((λ h. fails_at finite vs (not-true (all finite vs) h)), (λ m. ap not (fails_all finite vs m.1 m.2)))

lengths_test : (a b : ℕ) → ((not (eqb a 12) || ltb b 12) ≡ true) ↔ ((a ≡ 12 → ⊥) ⊎ (b < 12))
lengths_test a b = (to (eqb a 12) refl, from)
  where
    to : (x : Bool) → eqb a 12 ≡ x → (not x || ltb b 12) ≡ true → (a ≡ 12 → ⊥) ⊎ (b < 12)
    to true e h = inr (ltb-true b 12 h)
    to false e h = inl (eqb-false a 12 e)

    from : (a ≡ 12 → ⊥) ⊎ (b < 12) → (not (eqb a 12) || ltb b 12) ≡ true
    from (inl h) = rw (ne_eqb a 12 h) refl
    from (inr h) = rw (lt-ltb b 12 h) (or-true (not (eqb a 12)))

pub test_Applies : (row : Row) (l room : List Float) → (row_test row l room ≡ true) ↔ Applies row l room
unfolding row_test
test_Applies lengths l room = lengths_test (length l) (length room)
test_Applies coordinates l room = unfold way_of in finite_test l
test_Applies way_to_d l room = finite_test (way_of way_to_d l)
test_Applies d_zero l room = ((λ h. h), (λ h. h))
test_Applies way_to_e l room = finite_test (way_of way_to_e l)
test_Applies e_zero l room = ((λ h. h), (λ h. h))
test_Applies way_to_parameter l room = finite_test (way_of way_to_parameter l)
test_Applies way_to_pair_test l room = finite_test (way_of way_to_pair_test l)
test_Applies way_to_position l room = finite_test (way_of way_to_position l)
test_Applies way_to_area l room = finite_test (way_of way_to_area l)

-- ---- what is found along a list of rows
module _ (l room : List Float) where
  holds : Row → Bool
  holds row = row_test row l room

  number : List Row → ℕ
  number rows = first_of rows l room

  nil : number [] ≡ 0
  unfolding number first_of
  nil = refl

  cons : (row : Row) (rows : List Row) → number (row ∷ rows) ≡ cond (holds row) (number_of row) (number rows)
  unfolding number first_of holds
  cons row rows = refl

-- ---- the table: each row stands at its place
at_rank : (row : Row) → get_or table (rank_of row) lengths ≡ row
at_rank lengths = refl
at_rank coordinates = refl
at_rank way_to_d = refl
at_rank d_zero = refl
at_rank way_to_e = refl
at_rank e_zero = refl
at_rank way_to_parameter = refl
at_rank way_to_pair_test = refl
at_rank way_to_position = refl
at_rank way_to_area = refl

rank_below : (row : Row) → rank_of row < length table
rank_below lengths = omega arith
rank_below coordinates = omega arith
rank_below way_to_d = omega arith
rank_below d_zero = omega arith
rank_below way_to_e = omega arith
rank_below e_zero = omega arith
rank_below way_to_parameter = omega arith
rank_below way_to_pair_test = omega arith
rank_below way_to_position = omega arith
rank_below way_to_area = omega arith

rank_at : (i : ℕ) → i < length table → rank_of (get_or table i lengths) ≡ i
rank_at zero h = refl
rank_at (suc zero) h = refl
rank_at (suc (suc zero)) h = refl
rank_at (suc (suc (suc zero))) h = refl
rank_at (suc (suc (suc (suc zero)))) h = refl
rank_at (suc (suc (suc (suc (suc zero))))) h = refl
rank_at (suc (suc (suc (suc (suc (suc zero)))))) h = refl
rank_at (suc (suc (suc (suc (suc (suc (suc zero))))))) h = refl
rank_at (suc (suc (suc (suc (suc (suc (suc (suc zero)))))))) h = refl
rank_at (suc (suc (suc (suc (suc (suc (suc (suc (suc zero))))))))) h = refl
rank_at (suc (suc (suc (suc (suc (suc (suc (suc (suc (suc i)))))))))) h = absurd (omega arith)

member_at : (rows : List Row) (i : ℕ) (d : Row) → i < length rows → Memᴰ (get_or rows i d) rows
member_at [] i d h = absurd (omega arith)
member_at (r ∷ rows) zero d h = here refl
member_at (r ∷ rows) (suc i) d h = there (member_at rows i d (omega arith))

in_table : (row : Row) → Memᴰ row table
in_table row = subst (λ r. Memᴰ r table) (at_rank row) (member_at table (rank_of row) lengths (rank_below row))

module _ (before : List Row) (row : Row) (after : List Row) (split : table ≡ before ++ (row ∷ after)) where
  shorter : length before < length table
  shorter = let e = ap length split ∙ length-append before (row ∷ after) in omega (arith, e)

  -- a row's place is the number of rows before it
  rank_is : rank_of row ≡ length before
  rank_is = ap rank_of (sym (get_or-append_seam before row after lengths) ∙ ap (λ r. get_or r (length before) lengths) (sym split)) ∙ rank_at (length before) shorter

  -- the rows with a lower place stand before it
  lower_before : (e : Row) → rank_of e < rank_of row → Memᴰ e before
  lower_before e h =
      let k : rank_of e < length before = subst (λ n. rank_of e < n) rank_is h in
      subst (λ r. Memᴰ r before)
      (sym (get_or-append before (row ∷ after) lengths (rank_of e) k) ∙ (ap (λ r. get_or r (rank_of e) lengths) (sym split) ∙ at_rank e))
      (member_at before (rank_of e) lengths k)

-- ---- the cascade's number and the rows
module _ (l room : List Float) where
  fails : (row : Row) → row_test row l room ≡ false → Applies row l room → ⊥
  fails row h a = false≢true (sym h ∙ (test_Applies row l room).1 a)

  First-row : (r : Leads (holds l room) table) → First r.one l room
  unfolding holds
  First-row r = record {
    applies = (test_Applies r.one l room).0 r.holding;
    none_before = λ e h. fails e (r.none e (lower_before r.before r.one r.after r.split e h));
  }

  no_row : NoneOf (holds l room) table → NoRow l room
  unfolding holds
  no_row n row a = fails row (n row (in_table row)) a

  passed : NoneOf (holds l room) table → first_of table l room ≡ 0
  unfolding number
  passed n = none_found (holds l room) number_of 0 (number l room) (nil l room) (cons l room) table n

  led : (r : Leads (holds l room) table) → first_of table l room ≡ number_of r.one
  unfolding number
  led r = found (holds l room) number_of 0 (number l room) (nil l room) (cons l room) r

  -- two rows that are both first are the same place
  one_First : (a b : Row) → First a l room → First b l room → rank_of a ≡ rank_of b
  one_First a b fa fb = go (ltb (rank_of a) (rank_of b)) (ltb (rank_of b) (rank_of a)) refl refl
    where
      go : (x y : Bool) → ltb (rank_of a) (rank_of b) ≡ x → ltb (rank_of b) (rank_of a) ≡ y → rank_of a ≡ rank_of b
      go true y p q = absurd (fb.none_before a (ltb-true _ _ p) fa.applies)
      go false true p q = absurd (fa.none_before b (ltb-true _ _ q) fb.applies)
      go false false p q = omega (arith, ltb-false (rank_of a) (rank_of b) p, ltb-false (rank_of b) (rank_of a) q)

  same_row : (a b : Row) → rank_of a ≡ rank_of b → a ≡ b
  same_row a b h = sym (at_rank a) ∙ (ap (λ i. get_or table i lengths) h ∙ at_rank b)

  pub nonzero : (row : Row) → number_of row ≡ 0 → ⊥
  nonzero lengths h = omega arith
  nonzero coordinates h = omega arith
  nonzero way_to_d h = omega arith
  nonzero d_zero h = omega arith
  nonzero way_to_e h = omega arith
  nonzero e_zero h = omega arith
  nonzero way_to_parameter h = omega arith
  nonzero way_to_pair_test h = omega arith
  nonzero way_to_position h = omega arith
  nonzero way_to_area h = omega arith

  by_row : (k : ℕ) → (k ≡ 0 → ⊥) → (refusal_of l room ≡ k) ↔ RefusedBy k l room
  unfolding refusal_of
  by_row k nz = (to (search_first (holds l room) table), from (search_first (holds l room) table))
    where
      to : NoneOf (holds l room) table ⊎ Leads (holds l room) table → first_of table l room ≡ k → RefusedBy k l room
      to (inl p) h = absurd (nz (sym h ∙ passed p))
      to (inr r) h = (r.one, First-row r, sym (led r) ∙ h)

      from : NoneOf (holds l room) table ⊎ Leads (holds l room) table → RefusedBy k l room → first_of table l room ≡ k
      from (inl p) f = absurd (no_row p f.0 f.1.applies)
      from (inr r) f = led r ∙ (ap number_of (same_row r.one f.0 (one_First r.one f.0 (First-row r) f.1)) ∙ f.2)

  pub by_none : (refusal_of l room ≡ 0) ↔ NoRow l room
  unfolding refusal_of
  by_none = (to (search_first (holds l room) table), from (search_first (holds l room) table))
    where
      to : NoneOf (holds l room) table ⊎ Leads (holds l room) table → first_of table l room ≡ 0 → NoRow l room
      to (inl p) h = no_row p
      to (inr r) h = absurd (nonzero r.one (sym (led r) ∙ h))

      from : NoneOf (holds l room) table ⊎ Leads (holds l room) table → NoRow l room → first_of table l room ≡ 0
      from (inl p) f = passed p
      from (inr r) f = absurd (f r.one (First-row r).applies)

  -- ---- the whole answer
  pub refused_is : (refusal_of l room ≡ 0 → ⊥) → whole_of l room ≡ refused (refusal_of l room) room
  unfolding whole_of
  refused_is h = rw (ne_eqb (refusal_of l room) 0 h) refl

  pub answered_is : refusal_of l room ≡ 0 → whole_of l room ≡ answered l room
  unfolding whole_of
  answered_is h = rw (eq-eqb (refusal_of l room) 0 h) refl

  pub number_is : (whole_of l room).answer.number ≡ refusal_of l room
  number_is = go (eqb (refusal_of l room) 0) refl
    where
      go : (b : Bool) → eqb (refusal_of l room) 0 ≡ b → (whole_of l room).answer.number ≡ refusal_of l room
      go true e = let h = eqb-true (refusal_of l room) 0 e in rw (answered_is h) (unfold answered answer_of in sym h)
      go false e = rw (refused_is (eqb-false (refusal_of l room) 0 e)) refl

  -- each refusal exactly when 01 says
  pub exactly_when : ExactlyWhen l room
  exactly_when = record {
    refused_by = λ k nz. let b = by_row k nz in (λ h. b.0 (sym number_is ∙ h), λ f. number_is ∙ b.1 f);
    answered = (λ h. by_none.0 (sym number_is ∙ h), λ f. number_is ∙ by_none.1 f);
    nothing_else = λ h.
        let q = refused_is (λ z. h (number_is ∙ z)) in
        record { n = rw q refl; area = rw q refl; no_vertex = rw q refl; no_corner = rw q refl; no_neighbour = rw q refl; room_is = rw q refl };
  }
