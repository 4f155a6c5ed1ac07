-- Every list of values overlaps, touches or is apart, exactly one of them: a pair that is far is apart, and of any other its answer's number, n and area tell. What is said of it is that answer's number, its kind and the area; and no second answer fits. Assumes nothing.
use mathlib.Core.Path.{◌≡◌, refl, sym, ap, subst, ◌∙◌}
use mathlib.Core.Logic.{◌⊎◌, inl, inr, ◌↔◌}
use mathlib.Core.Bool.{Bool, true, false, true≢false, false≢true}
use mathlib.Core.List.{List, [], ◌∷◌, map}
use Prim.Native.Nat.{ℕ, ◌<◌, ◌≤◌}
use native.Mathlib.Omega.{arith}
use lib.Dec.{eqb, lit<}
use borrow.Author.Tests.{eq-eqb, ne_eqb, eqb-true, eqb-false, le-ltb}
use lib.Ieee.{Float, lt, of_bits}
use lib.ListN.{length}
use Rattle.floats.specs.Finite.{finite, nought}
use Rattle.floats.specs.Lists.{count}
use Rattle.boxes.specs.Near.{Far}
use Rattle.ring.specs.Places.{Place}
use Rattle.triangles.specs.declared.Answer.{Answer}
use Rattle.triangles.specs.declared.Decision.{Decision}
use Rattle.triangles.specs.declared.Decision.TheVariants.{Refused, Overlapping, Touching, Apart}
use Rattle.triangles.specs.Pair.{ring_of}
use Rattle.triangles.specs.Positions.{position_of, ring_positions, area_of}
use Rattle.triangles.specs.Refusals.{Row, lengths, coordinates, way_to_d, d_zero, way_to_e, e_zero, way_to_parameter, way_to_pair_test, way_to_position, way_to_area, table, number_of, row_test, first_of, refusal_of}
use Rattle.triangles.specs.Answers.{answer_of, answered, whole_of}
use Rattle.triangles.specs.Rows.{Applies, RefusedBy}
use Rattle.triangles.specs.Decision.{is_above, decided, enough, answer_to, by_rules, decision_of, said, OverlapsBy, ApartBy, KindBy, OneKind, BoxesFirst, SameVertices, Decided, NoSecondDecision, NoSecondSaid, SaidDemand, SaidReturned, AnyRoom}
use Rattle.triangles.proofs.Rows.{answered_is, refused_is, exactly_when}
use Rattle.triangles.proofs.FiniteAnswer.{finite_answer}
use Rattle.triangles.proofs.Nought.{area_nought_lem}
use Rattle.triangles.proofs.Parted.{decision_by}

pub no_second_decision : NoSecondDecision
no_second_decision values r s p q = p.result_is ∙ sym q.result_is

pub no_second_said : NoSecondSaid
no_second_said values r s p q = p.result_is ∙ sym q.result_is

-- ---- what there is of an answer: refused, with zeros; no ring, and area 0.0; a ring, and an area above zero or 0.0
data AnswerIs (a : Answer) : Type 0 where
  refused_one : (a.number ≡ 0 → ⊥) → a.n ≡ 0 → a.area ≡ nought → AnswerIs a
  ringless : a.number ≡ 0 → a.n ≡ 0 → a.area ≡ nought → AnswerIs a
  area_above : a.number ≡ 0 → (a.n ≡ 0 → ⊥) → is_above a.area ≡ true → AnswerIs a
  area_nought : a.number ≡ 0 → (a.n ≡ 0 → ⊥) → a.area ≡ nought → AnswerIs a

not_nought : is_above nought ≡ false
unfolding lt of_bits
not_nought = refl

-- the decision of each
module _ (a : Answer) where
  of_refused : (a.number ≡ 0 → ⊥) → decided a ≡ Refused a.number
  unfolding decided
  of_refused h = rw (ne_eqb a.number 0 h) refl

  of_ringless : a.number ≡ 0 → a.n ≡ 0 → decided a ≡ Apart
  unfolding decided
  of_ringless z n = rw (z, n) refl

  of_area : a.number ≡ 0 → (a.n ≡ 0 → ⊥) → is_above a.area ≡ true → decided a ≡ Overlapping a.area
  unfolding decided
  of_area z n h = rw (eq-eqb a.number 0 z, ne_eqb a.n 0 n, h) refl

  of_none : a.number ≡ 0 → (a.n ≡ 0 → ⊥) → a.area ≡ nought → decided a ≡ Touching
  unfolding decided
  of_none z n h = rw (eq-eqb a.number 0 z, ne_eqb a.n 0 n, ap is_above h ∙ not_nought) refl

  -- which kind
  not_overlapping : a.number ≡ 0 → (a.n ≡ 0) ⊎ (a.area ≡ nought) → OverlapsBy a → ⊥
  not_overlapping z h (inl k) = k z
  not_overlapping z (inl n) (inr k) = k.0 n
  not_overlapping z (inr e) (inr k) = false≢true (sym (ap is_above e ∙ not_nought) ∙ k.1)

-- ---- of any list of values
-- without a ring the area is 0.0
no_ring : (l : List Float) (r : List Place) → length r ≡ 0 → (area_of (map (position_of l) r)).value ≡ nought
unfolding area_of
no_ring l [] h = refl
no_ring l (p ∷ r) h = absurd (omega (arith, h))

module _ (l : List Float) where
  of_answer : finite (answer_of l).area ≡ true → AnswerIs (answer_of l)
  unfolding answer_of ring_positions
  of_answer f = go (eqb (length (ring_of l)) 0) refl (is_above (area_of (ring_positions l)).value) refl
    where
      go : (b : Bool) → eqb (length (ring_of l)) 0 ≡ b → (c : Bool) → is_above (area_of (ring_positions l)).value ≡ c → AnswerIs (answer_of l)
      go true e c h = let n = eqb-true (length (ring_of l)) 0 e in ringless refl n (no_ring l (ring_of l) n)
      go false e true h = area_above refl (eqb-false (length (ring_of l)) 0 e) h
      go false e false h = area_nought refl (eqb-false (length (ring_of l)) 0 e) (area_nought_lem (ring_positions l) f h)

  answer_is : AnswerIs (answer_to l)
  answer_is = go (eqb (refusal_of l enough) 0) refl
    where
      go : (b : Bool) → eqb (refusal_of l enough) 0 ≡ b → AnswerIs (answer_to l)
      go true e = let q = answered_is l enough (eqb-true (refusal_of l enough) 0 e) in
          subst AnswerIs (sym (ap (λ w. w.answer) q)) (unfold answered in of_answer (subst (λ w. finite w.answer.area ≡ true) q (finite_answer l enough (ap (λ w. w.answer.number) q ∙ (unfold answered answer_of in refl))).area))
      go false e = let h = eqb-false (refusal_of l enough) 0 e in
          subst AnswerIs (sym (ap (λ w. w.answer) (refused_is l enough h))) (refused_one h refl refl)

  abbrev a : Answer
  a = answer_to l

  -- ---- which kind
  far_kind : Far l → KindBy l Apart
  far_kind far = record {
    overlapping = (λ p. absurd (false≢true p), λ p. absurd (p.0 far));
    touching = (λ p. absurd (false≢true p), λ p. absurd (p.0 far));
    apart = (λ p. inl far, λ p. refl);
    one = unfold count in refl;
  }

  module _ (no : Far l → ⊥) where
    not_apart : (ApartBy a → ⊥) → Far l ⊎ ApartBy a → ⊥
    not_apart h (inl far) = no far
    not_apart h (inr p) = h p

    kind_by : AnswerIs a → KindBy l (decided a)
    kind_by (refused_one h n e) = rw (of_refused a h) (record {
      overlapping = (λ p. (no, inl h), λ p. refl);
      touching = (λ p. absurd (false≢true p), λ p. absurd (h p.1.0));
      apart = (λ p. absurd (false≢true p), λ p. absurd (not_apart (λ q. h q.0) p));
      one = unfold count in refl;
    })
    kind_by (ringless z n e) = rw (of_ringless a z n) (record {
      overlapping = (λ p. absurd (false≢true p), λ p. absurd (not_overlapping a z (inl n) p.1));
      touching = (λ p. absurd (false≢true p), λ p. absurd (p.1.1 n));
      apart = (λ p. inr (z, n), λ p. refl);
      one = unfold count in refl;
    })
    kind_by (area_above z n h) = rw (of_area a z n h) (record {
      overlapping = (λ p. (no, inr (n, h)), λ p. refl);
      touching = (λ p. absurd (false≢true p), λ p. absurd (true≢false (sym h ∙ (ap is_above p.1.2 ∙ not_nought))));
      apart = (λ p. absurd (false≢true p), λ p. absurd (not_apart (λ q. n q.1) p));
      one = unfold count in refl;
    })
    kind_by (area_nought z n e) = rw (of_none a z n e) (record {
      overlapping = (λ p. absurd (false≢true p), λ p. absurd (not_overlapping a z (inr e) p.1));
      touching = (λ p. (no, (z, n, e)), λ p. refl);
      apart = (λ p. absurd (false≢true p), λ p. absurd (not_apart (λ q. n q.1) p));
      one = unfold count in refl;
    })

  kind_of : KindBy l (decision_of l)
  unfolding by_rules
  kind_of = elim (decision_by l) [
    | inl h ↦ subst (KindBy l) (sym h.1) (far_kind h.0)
    | inr h ↦ subst (KindBy l) (sym h.1) (kind_by h.0 answer_is)
  ]

pub one_kind : OneKind
one_kind values = kind_of values

-- ---- what boxes change
pub boxes_first : BoxesFirst
boxes_first l = record {
  far = λ far. elim (decision_by l) [
    | inl h ↦ h.1
    | inr h ↦ absurd (h.0 far)
  ];
  near = λ no. elim (decision_by l) [
    | inl h ↦ absurd (no h.0)
    | inr h ↦ h.1
  ];
  differs = λ no. elim (decision_by l) [
    | inl h ↦ h.0
    | inr h ↦ absurd (no h.1)
  ];
}

pub same_vertices : SameVertices
same_vertices values = (refl, refl)

-- ---- what is said
module _ (l : List Float) where
  -- the rows with the numbers 1 and 2 do not apply to a pair that is far
  row_not_far : (k : ℕ) → (k ≡ 1) ⊎ (k ≡ 2) → RefusedBy k l enough → Far l → ⊥
  row_not_far k h r far = go r.0 r.1.applies r.2
    where
      small : (n : ℕ) → n ≡ k → 2 < n → ⊥
      small n e b = elim h [
        | inl z ↦ omega (arith, e, b, z)
        | inr z ↦ omega (arith, e, b, z)
      ]

      short : (length l ≡ 12 → ⊥) ⊎ (length enough < 12) → ⊥
      short (inl n) = n far.given.twelve
      short (inr n) = omega (arith, n)

      go : (row : Row) → Applies row l enough → number_of row ≡ k → ⊥
      go lengths n e = short n
      go coordinates n e = false≢true (sym n.2 ∙ far.given.all_finite n.0 n.1)
      go way_to_d n e = small 4 e (lit< tt)
      go d_zero n e = small 3 e (lit< tt)
      go way_to_e n e = small 4 e (lit< tt)
      go e_zero n e = small 5 e (lit< tt)
      go way_to_parameter n e = small 4 e (lit< tt)
      go way_to_pair_test n e = small 4 e (lit< tt)
      go way_to_position n e = small 4 e (lit< tt)
      go way_to_area n e = small 4 e (lit< tt)

  some : (k : ℕ) → (k ≡ 1) ⊎ (k ≡ 2) → k ≡ 0 → ⊥
  some k (inl e) z = omega (arith, e, z)
  some k (inr e) z = omega (arith, e, z)

  far_said : Far l → SaidDemand l (said Apart)
  far_said far = record {
    far = λ p. (refl, refl, refl);
    refused_by = λ k h. (λ p. absurd (h (sym p)), λ p. absurd (p.0 far));
    number = λ no. absurd (no far);
    area = λ no. absurd (no far);
    before_boxes = λ k h. (λ p. absurd (some k h (sym p)), λ p. absurd (row_not_far k h p far));
    overlapping = (λ p. absurd (omega (arith, p)), λ p. absurd (p.0 far));
    touching = (λ p. absurd (omega (arith, p)), λ p. absurd (p.0 far));
    apart = (λ p. inl far, λ p. (refl, refl));
    kinds = omega arith;
    zeros = λ p. absurd (p refl);
  }

  module _ (no : Far l → ⊥) where
    by_row : {n : ℕ} → n ≡ (a l).number → (k : ℕ) → (k ≡ 0 → ⊥) → (n ≡ k) ↔ RefusedBy k l enough
    by_row e k h = let w = (exactly_when l enough).refused_by k h in (λ p. w.0 (sym e ∙ p), λ p. e ∙ w.1 p)

    refused_by_lem : {n : ℕ} → n ≡ (a l).number → (k : ℕ) → (k ≡ 0 → ⊥) → (n ≡ k) ↔ ((Far l → ⊥) × RefusedBy k l enough)
    refused_by_lem e k h = let w = by_row e k h in (λ p. (no, w.0 p), λ p. w.1 p.1)

    early_by : {n : ℕ} → n ≡ (a l).number → (k : ℕ) → (k ≡ 1) ⊎ (k ≡ 2) → (n ≡ k) ↔ RefusedBy k l enough
    early_by e k h = by_row e k (some k h)

    said_by : AnswerIs (a l) → SaidDemand l (said (decided (a l)))
    said_by (refused_one h n e) = rw (of_refused (a l) h) (record {
      far = λ p. absurd (no p);
      refused_by = refused_by_lem refl;
      number = λ p. refl;
      area = λ p. sym e;
      before_boxes = early_by refl;
      overlapping = (λ p. absurd (omega (arith, p)), λ p. absurd (p.1 n));
      touching = (λ p. absurd (omega (arith, p)), λ p. absurd (h p.1.0));
      apart = (λ p. absurd (h p.0), λ p. absurd (not_apart l no (λ q. h q.0) p));
      kinds = omega arith;
      zeros = λ p. (refl, refl);
    })
    said_by (ringless z n e) = rw (of_ringless (a l) z n) (record {
      far = λ p. absurd (no p);
      refused_by = refused_by_lem (sym z);
      number = λ p. sym z;
      area = λ p. sym e;
      before_boxes = early_by (sym z);
      overlapping = (λ p. absurd (omega (arith, p)), λ p. absurd (p.1 n));
      touching = (λ p. absurd (omega (arith, p)), λ p. absurd (p.1.1 n));
      apart = (λ p. inr (z, n), λ p. (refl, refl));
      kinds = omega arith;
      zeros = λ p. absurd (p refl);
    })
    said_by (area_above z n h) = rw (of_area (a l) z n h) (record {
      far = λ p. absurd (no p);
      refused_by = refused_by_lem (sym z);
      number = λ p. sym z;
      area = λ p. refl;
      before_boxes = early_by (sym z);
      overlapping = (λ p. (no, n, h), λ p. refl);
      touching = (λ p. absurd (omega (arith, p)), λ p. absurd (true≢false (sym h ∙ (ap is_above p.1.2 ∙ not_nought))));
      apart = (λ p. let k = p.1 in absurd (omega (arith, k)), λ p. absurd (not_apart l no (λ q. n q.1) p));
      kinds = omega arith;
      zeros = λ p. absurd (p refl);
    })
    said_by (area_nought z n e) = rw (of_none (a l) z n e) (record {
      far = λ p. absurd (no p);
      refused_by = refused_by_lem (sym z);
      number = λ p. sym z;
      area = λ p. sym e;
      before_boxes = early_by (sym z);
      overlapping = (λ p. absurd (omega (arith, p)), λ p. absurd (true≢false (sym p.2 ∙ (ap is_above e ∙ not_nought))));
      touching = (λ p. (no, (z, n, e)), λ p. refl);
      apart = (λ p. let k = p.1 in absurd (omega (arith, k)), λ p. absurd (not_apart l no (λ q. n q.1) p));
      kinds = omega arith;
      zeros = λ p. absurd (p refl);
    })

  said_of : SaidDemand l (said (decision_of l))
  unfolding by_rules
  said_of = elim (decision_by l) [
    | inl h ↦ subst (λ d. SaidDemand l (said d)) (sym h.1) (far_said h.0)
    | inr h ↦ subst (λ d. SaidDemand l (said d)) (sym h.1) (said_by h.0 (answer_is l))
  ]

pub said_returned : SaidReturned
said_returned values result p = subst (SaidDemand values) (sym p.result_is) (said_of values)

-- the definition's decision keeps the promise
pub Decided-as : (l : List Float) {r : Decision} → r ≡ decision_of l → Decided l r
Decided-as l e = record { result_is = e; says = subst (λ d. SaidDemand l (said d)) (sym e) (said_of l) }

-- ---- the room
module _ (l room : List Float) (long : 12 ≤ length room) where
  row_same : (row : Row) → row_test row l room ≡ row_test row l enough
  unfolding row_test
  row_same lengths = rw (le-ltb (length room) 12 long) refl
  row_same coordinates = refl
  row_same way_to_d = refl
  row_same d_zero = refl
  row_same way_to_e = refl
  row_same e_zero = refl
  row_same way_to_parameter = refl
  row_same way_to_pair_test = refl
  row_same way_to_position = refl
  row_same way_to_area = refl

  first_same : (rows : List Row) → first_of rows l room ≡ first_of rows l enough
  unfolding first_of
  first_same [] = refl
  first_same (row ∷ rows) = rw (row_same row, first_same rows) refl

  refusal_same : refusal_of l room ≡ refusal_of l enough
  unfolding refusal_of
  refusal_same = first_same table

  answer_same : (whole_of l room).answer ≡ answer_to l
  answer_same = go (eqb (refusal_of l enough) 0) refl
    where
      go : (b : Bool) → eqb (refusal_of l enough) 0 ≡ b → (whole_of l room).answer ≡ (whole_of l enough).answer
      go true e = let z = eqb-true (refusal_of l enough) 0 e in rw (answered_is l room (refusal_same ∙ z), answered_is l enough z) (unfold answered in refl)
      go false e = let h = eqb-false (refusal_of l enough) 0 e in rw (refused_is l room (λ z. h (sym refusal_same ∙ z)), refused_is l enough h, refusal_same) refl

pub any_room : AnyRoom
any_room = answer_same
