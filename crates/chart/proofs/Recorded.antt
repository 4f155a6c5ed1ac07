-- The recording that has an id is found exactly if there is one, and of a good file it is the only one; its triangles are those of its part. Assumes nothing.
use Prim.Native.Nat.{ℕ, zero, suc, ◌+◌, ◌*◌, ◌<◌, ◌≤◌}
use mathlib.Core.Path.{◌≡◌, refl, sym, ap, ap₂, ◌∙◌}
use mathlib.Core.Bool.{Bool, true, false, cond}
use mathlib.Core.List.{List, ◌∷◌}
use native.Mathlib.Omega.{arith}
use lib.Dec.{eqb, ltb}
use borrow.Author.Tests.{eqb-true, eqb-false, ltb-true, ltb-false}
use Rattle.layout.specs.Bytes.{i32_at}
use Rattle.layout.specs.Parts.{triangle_of, count_of, entry_at, triangle_from}
use Rattle.layout.specs.Layout.{Layout}
use Rattle.layout.specs.Recordings.{part_of}
use Rattle.layout.proofs.Inside.{parts_inside}
use Rattle.chart.specs.Recorded.{triangles_from, searched, number_with, triangles_in, Has, Numbered, IdsNumbered, TrianglesOfPart}

module _ (file : List ℕ) (id : ℕ) where
  -- of a search among n entries, from entry k on, that ended at entry m: it is one of them or the one behind them; it has the id if it is one of them; and none before it has
  record Ended (n k m : ℕ) : Type 0 where
    from : k ≤ m
    to : m ≤ k + n
    has : m < k + n → (entry_at file m).id ≡ id
    none_before : (j : ℕ) → k ≤ j → j < m → (entry_at file j).id ≡ id → ⊥

  ended : (n k : ℕ) → Ended n k (searched file id n k)
  unfolding searched
  ended zero k = record { from = omega arith; to = omega arith; has = λ h. absurd (omega (arith, h)); none_before = λ j a b. absurd (omega (arith, a, b)) }
  ended (suc n) k = go (eqb (entry_at file k).id id) refl (ended n (suc k))
    where
      go : (b : Bool) → eqb (entry_at file k).id id ≡ b → Ended n (suc k) (searched file id n (suc k)) → Ended (suc n) k (cond b k (searched file id n (suc k)))
      go true e later = record { from = omega arith; to = omega arith; has = λ h. eqb-true (entry_at file k).id id e; none_before = λ j a b. absurd (omega (arith, a, b)) }
      go false e later = record {
        from = let a = later.from in omega (arith, a);
        to = let a = later.to in omega (arith, a);
        has = λ h. later.has (omega (arith, h));
        none_before = λ j a b same. at j a b same (ltb k j) refl;
      }
        where
          at : (j : ℕ) → k ≤ j → j < searched file id n (suc k) → (entry_at file j).id ≡ id → (b : Bool) → ltb k j ≡ b → ⊥
          at j a b same true l = later.none_before j (let h = ltb-true k j l in omega (arith, h)) b same
          at j a b same false l = let h = ltb-false k j l in eqb-false (entry_at file k).id id e (ap (λ i. (entry_at file i).id) (equal k j a h) ∙ same)
            where
              equal : (k j : ℕ) → k ≤ j → j ≤ k → k ≡ j
              equal k j a b = omega (arith, a, b)

  whole : Ended (count_of file) 0 (number_with file id)
  unfolding number_with
  whole = ended (count_of file) 0

  Has-it : number_with file id < count_of file → Has file id (number_with file id)
  Has-it h = record { in_table = h; same_id = whole.has (omega (arith, h)) }

  -- a recording that has the id is not before the one that was found
  not_before : (k : ℕ) → Has file id k → number_with file id ≤ k
  not_before k h = go (ltb k (number_with file id)) refl
    where
      go : (b : Bool) → ltb k (number_with file id) ≡ b → number_with file id ≤ k
      go true e = absurd (whole.none_before k (omega arith) (ltb-true k (number_with file id) e) h.same_id)
      go false e = ltb-false k (number_with file id) e

  only_one : Layout file → (k : ℕ) → Has file id k → k ≡ number_with file id
  only_one good k h = go (ltb (number_with file id) k) refl
    where
      equal : (k m : ℕ) → m ≤ k → k ≤ m → k ≡ m
      equal k m a b = omega (arith, a, b)

      go : (b : Bool) → ltb (number_with file id) k ≡ b → k ≡ number_with file id
      go true e =
          let l = ltb-true (number_with file id) k e in
          let i = h.in_table in
          absurd (good.ids_once (number_with file id) k l i (whole.has (omega (arith, l, i)) ∙ sym h.same_id))
      go false e = equal k (number_with file id) (not_before k h) (ltb-false (number_with file id) k e)

  pub numbered : Numbered file id
  numbered = record {
    there = (λ h. (number_with file id, Has-it h), λ p. let a = not_before p.0 p.1 in let b = p.1.in_table in omega (arith, a, b));
    has = Has-it;
    not_there = λ h. let a = whole.to in omega (arith, a, h);
    only = only_one;
  }

pub ids_numbered : IdsNumbered
ids_numbered = numbered

-- ---- triangles of a part
six_same : {a a' b b' c c' d d' e e' f f' : _} → a ≡ a' → b ≡ b' → c ≡ c' → d ≡ d' → e ≡ e' → f ≡ f' → triangle_of a b c d e f ≡ triangle_of a' b' c' d' e' f'
six_same a b c d e f = rw (a, b, c, d, e, f) refl

module _ (file part : List ℕ) (first size : ℕ) (same : (at : ℕ) → at + 4 ≤ size → i32_at part at ≡ i32_at file (first + at)) where
  number_same : (at k m : ℕ) → at + k + 4 ≤ size → m ≡ first + at → i32_at file (m + k) ≡ i32_at part (at + k)
  number_same at k m h e = sym (same (at + k) h ∙ ap (i32_at file) (sum at k m e))
    where
      sum : (at k m : ℕ) → m ≡ first + at → first + (at + k) ≡ m + k
      sum at k m e = omega (arith, e)

  triangle_same : (at m : ℕ) → at + 24 ≤ size → m ≡ first + at → triangle_from file m ≡ triangle_from part at
  unfolding triangle_from
  triangle_same at m h e =
      six_same
      (sym (same at (omega (arith, h)) ∙ ap (i32_at file) (sym e)))
      (number_same at 4 m (omega (arith, h)) e)
      (number_same at 8 m (omega (arith, h)) e)
      (number_same at 12 m (omega (arith, h)) e)
      (number_same at 16 m (omega (arith, h)) e)
      (number_same at 20 m (omega (arith, h)) e)

  triangles_same : (n at m : ℕ) → at + 24 * n ≤ size → m ≡ first + at → triangles_from file m n ≡ triangles_from part at n
  unfolding triangles_from
  triangles_same zero at m h e = refl
  triangles_same (suc n) at m h e = ap₂ (λ t ts. t ∷ ts) (triangle_same at m (omega (arith, h)) e) (triangles_same n (at + 24) (m + 24) (omega (arith, h)) (omega (arith, e)))

pub triangles_of_part : TrianglesOfPart
unfolding triangles_in
triangles_of_part file k good h =
    let e = entry_at file k in
    triangles_same file (part_of file k) e.first (24 * e.count) (parts_inside file k good h).same_number e.count 0 e.first (omega arith) (omega arith)
