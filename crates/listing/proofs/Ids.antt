-- Of a good file ids stand for recordings: what holds of the recordings of a line holds of the ids in it; and all recordings take part. Assumes nothing.
use Prim.Native.Nat.{ℕ, ◌<◌}
use mathlib.Core.Path.{◌≡◌, refl, sym, ap, ap₂, subst, ◌∙◌}
use mathlib.Core.Logic.{◌⊎◌, inl, inr, ◌↔◌}
use mathlib.Core.Bool.{Bool, true, false}
use mathlib.Core.List.{List, Memᴰ}
use native.Mathlib.Omega.{arith}
use lib.Dec.{ltb}
use borrow.Author.Tests.{ltb-true, ltb-false}
use lib.ListN.{length, get_or}
use Rattle.layout.specs.Parts.{count_of, entry_at}
use Rattle.layout.specs.Layout.{Layout}
use Rattle.sets.specs.Sets.{is_test, is_training}
use Rattle.sets.proofs.Sets.{all_roles}
use Rattle.listing.specs.Leaks.{Leak, tests, trainings, tally_for, leak_pairs, leak_of, leaks}
use Rattle.listing.specs.Demand.{Leaking, line_for, no_leak, LinesById, AllTakePart}
use Rattle.listing.proofs.Turns.{unmapped, member_at, mapped}
use Rattle.listing.proofs.Demand.{in_tests, in_trainings, a_test, a_training, also_by_first_lem, demand2}

module _ (file : List ℕ) (good : Layout file) where
  same_id : (i j : ℕ) → i < count_of file → j < count_of file → (entry_at file i).id ≡ (entry_at file j).id → i ≡ j
  same_id i j h g e = go (ltb i j) refl (ltb j i) refl
    where
      go : (b : Bool) → ltb i j ≡ b → (c : Bool) → ltb j i ≡ c → i ≡ j
      go true p c q = absurd (good.ids_once i j (ltb-true i j p) g e)
      go false p true q = absurd (good.ids_once j i (ltb-true j i q) h (sym e))
      go false p false q = omega (arith, ltb-false i j p, ltb-false j i q)

  -- a line's two recordings
  of_line : {l : Leak} → Memᴰ l (leaks file) → (p : ℕ × ℕ) × Memᴰ p (leak_pairs file) × (l ≡ leak_of file p)
  unfolding leaks
  of_line m = unmapped (leak_of file) (leak_pairs file) m

  leaks_at : (p : ℕ × ℕ) → Memᴰ p (leak_pairs file) → Leaking file p.0 p.1
  leaks_at p m = ((demand2 file).exactly_if p.0 p.1).0 m

  test_of : (p : ℕ × ℕ) → (leak_of file p).test ≡ (entry_at file p.0).id
  unfolding leak_of
  test_of p = refl

  train_of : (p : ℕ × ℕ) → (leak_of file p).train ≡ (entry_at file p.1).id
  unfolding leak_of
  train_of p = refl

  pairs_of : (p : ℕ × ℕ) → (leak_of file p).pairs ≡ (tally_for file p).overlapping
  unfolding leak_of
  pairs_of p = refl

  -- a recording's set is one that a file may have
  one_of_two_lem : (k : ℕ) → k < count_of file → Memᴰ k (tests file) ⊎ Memᴰ k (trainings file)
  one_of_two_lem k h = go ((all_roles (entry_at file k).set).one_of_two (good.known_set k h))
    where
      go : (is_test (entry_at file k).set ≡ true) ⊎ (is_training (entry_at file k).set ≡ true) → Memᴰ k (tests file) ⊎ Memᴰ k (trainings file)
      go (inl e) = inl (a_test file k h ((all_roles (entry_at file k).set).test.0 e))
      go (inr e) = inr (a_training file k h ((all_roles (entry_at file k).set).training.0 e))

  not_both_lem : (k : ℕ) → Memᴰ k (tests file) → Memᴰ k (trainings file) → ⊥
  not_both_lem k m n = let r = all_roles (entry_at file k).set in r.not_both (r.test.1 (in_tests file m).1) (r.training.1 (in_trainings file n).1)

  once : (k l : ℕ) → k < length (leaks file) → l < length (leaks file) → (get_or (leaks file) k no_leak).test ≡ (get_or (leaks file) l no_leak).test → (get_or (leaks file) k no_leak).train ≡ (get_or (leaks file) l no_leak).train → k ≡ l
  once k l h g e f =
      let d = demand2 file in
      let m = subst (λ n. k < n) d.as_many h in
      let n = subst (λ n. l < n) d.as_many g in
      let p = line_for file k in
      let q = line_for file l in
      let u = leaks_at p (member_at (leak_pairs file) (0, 0) k m) in
      let v = leaks_at q (member_at (leak_pairs file) (0, 0) l n) in
      let first = same_id p.0 q.0 u.compared.recording v.compared.recording (sym (test_of p) ∙ (ap (λ l. l.test) (sym (d.line k m)) ∙ (e ∙ (ap (λ l. l.test) (d.line l n) ∙ test_of q)))) in
      let second = same_id p.1 q.1 u.compared.other v.compared.other (sym (train_of p) ∙ (ap (λ l. l.train) (sym (d.line k m)) ∙ (f ∙ (ap (λ l. l.train) (d.line l n) ∙ train_of q)))) in
      d.once k l m n (ap₂ (λ i j. (i, j)) first second)

  some_pair : {p : ℕ × ℕ} → Memᴰ p (leak_pairs file) → 0 < (tally_for file p).overlapping
  some_pair {p} m = ltb-true 0 (tally_for file p).overlapping (also_by_first_lem file p m)

  some : (l : Leak) → Memᴰ l (leaks file) → 0 < l.pairs
  some l m = let r = of_line m in subst (λ n. 0 < n) (sym (ap (λ l. l.pairs) r.2 ∙ pairs_of r.0)) (some_pair r.1)

  exactly_if_lem : (t r : ℕ) → ((l : Leak) × Memᴰ l (leaks file) × (l.test ≡ t) × (l.train ≡ r)) ↔ ((i : ℕ) × (j : ℕ) × Leaking file i j × ((entry_at file i).id ≡ t) × ((entry_at file j).id ≡ r))
  unfolding leaks
  exactly_if_lem t r = (
    λ m. let q = of_line m.1 in let p = q.0 in
        (p.0, p.1, leaks_at p q.1, sym (test_of p) ∙ (ap (λ l. l.test) (sym q.2) ∙ m.2), sym (train_of p) ∙ (ap (λ l. l.train) (sym q.2) ∙ m.3)),
    λ m. let p : ℕ × ℕ = (m.0, m.1) in
        (leak_of file p, mapped (leak_of file) (leak_pairs file) (((demand2 file).exactly_if m.0 m.1).1 m.2), test_of p ∙ m.3, train_of p ∙ m.4),
  )

pub all_take_part : AllTakePart
all_take_part file good k h = record { one_of_two = one_of_two_lem file good k h; not_both = not_both_lem file good k }

pub lines_by_id : LinesById
lines_by_id file good = record { once = once file good; exactly_if = exactly_if_lem file good; some = some file good }
