-- Demand 2 of the list: a line for exactly the recordings that leak by the edition of the test recording, in table order, each once, with how many of their triangle pairs overlap; exactly those that only touch are counted, each once, and exactly the recordings that are stored with set 2; and exactly the triangle pairs whose boxes share a point are counted as tested, each once. Assumes nothing.
use Prim.Native.Nat.{ℕ, zero, suc, ◌+◌, ◌<◌}
use mathlib.Core.Path.{◌≡◌, refl, sym, ap, subst, ◌∙◌}
use mathlib.Core.Logic.{◌⊎◌, inl, inr, ◌↔◌}
use mathlib.Core.Bool.{Bool, true, false, ◌&&◌, ◌||◌, cond, false≢true}
use mathlib.Core.List.{List, map, Memᴰ}
use native.Mathlib.Omega.{arith}
use lib.Dec.{eqb, ltb}
use borrow.Author.Tests.{ltb-true, lt-ltb, eqb-true, eqb-false, eq-eqb}
use lib.ListN.{length, get_or, length-map}
use lib.Ieee.{binary64, mul, lt}
use Rattle.floats.specs.Lists.{count, filter}
use Rattle.triangles.specs.declared.Decision.{Decision}
use Rattle.triangles.specs.declared.Decision.TheVariants.{Refused, Overlapping, Touching, Apart}
use Rattle.triangles.specs.Decision.{overlaps, touches, is_refused}
use Rattle.triangles.specs.Pair.{e_of_u}
use Rattle.layout.proofs.Tests.{some_to, some_from}
use Rattle.layout.specs.Parts.{count_of, entry_at}
use Rattle.listing.specs.Turns.{up_to, each, folded}
use Rattle.sets.specs.Sets.{is_test, is_training, is_retired, TrainingSet}
use Rattle.sets.proofs.Sets.{all_roles}
use Rattle.listing.specs.Pairs.{place_in, coordinates_at, values_at, decision_at, near_at, triangle_pairs, decisions, e_at, sizes_of, own_area, leak_by_first, hundred, leak_by_second}
use Rattle.listing.specs.Leaks.{tests, trainings, recording_pairs, tally_for, own_for, is_leak, leak_pairs, leak_of, leaks, is_touching, touching_pairs, touching, all_pairs, is_tested, tested_pairs, tested, formerly, formerly_held_back}
use Rattle.listing.specs.Demand.{RefusedPair, sum_of_areas, Compared, SomePair, FirstLeak, SecondLeak, Leaking, OnlyTouching, Tested, InTableOrder, AllDecided, line_for, tested_for, no_leak, DemandTwo}
use Rattle.listing.proofs.Turns.{below, reached, kept, passed, mapped, unmapped, in_each, of_each, Sorted, sorted_filter, Sorted-map, Sorted-each, Sorted-up_to, Sorted-at, Sorted-once, map_at, map_same, filter-count, count-each}
use Rattle.listing.proofs.Editions.{second_above, second_refused, second_first, by_first, by_second}
use Rattle.listing.proofs.Tallied.{count_map, tally_overlapping, tally_touching, tally_tested, tally_area, tally_refused, counted_one, one_counted, pair_in, pair_of, decision_in, decision_of_lem, how_many_lem, in_turn_lem}

-- what is not none is some
positive : (n : ℕ) → (n ≡ 0 → ⊥) → 0 < n
positive zero h = absurd (h refl)
positive (suc n) h = omega arith

-- ---- table order of pairs
pub not_before : (x y : ℕ × ℕ) → InTableOrder x y → x ≡ y → ⊥
not_before x y (inl h) e = let z = ap (λ t. t.0) e in omega (arith, h, z)
not_before x y (inr h) e = let z = ap (λ t. t.1) e in let g = h.1 in omega (arith, g, z)

-- each of these with each of those, all in order
pub Sorted-product : (xs ys : List ℕ) → Sorted ◌<◌ xs → Sorted ◌<◌ ys → Sorted InTableOrder (each (λ i. map (λ j. (i, j)) ys) xs)
Sorted-product xs ys sx sy = Sorted-each ◌<◌ InTableOrder (λ i. map (λ j. (i, j)) ys) xs sx (λ i. Sorted-map ◌<◌ InTableOrder (λ j. (i, j)) ys (λ x y h. inr (refl, h)) sy) across
  where
    across : (x y : ℕ) → x < y → (p q : ℕ × ℕ) → Memᴰ p (map (λ j. (x, j)) ys) → Memᴰ q (map (λ j. (y, j)) ys) → InTableOrder p q
    across x y h p q m n =
        let r = unmapped (λ j. (x, j)) ys m in
        let s = unmapped (λ j. (y, j)) ys n in
        inl (subst (λ k. k < q.0) (sym (ap (λ t. t.0) r.2)) (subst (λ k. x < k) (sym (ap (λ t. t.0) s.2)) h))

module _ (file : List ℕ) where
  -- ---- the pairs of recordings
  abbrev test_at : ℕ → Bool
  test_at i = is_test (entry_at file i).set

  abbrev training_at : ℕ → Bool
  training_at j = is_training (entry_at file j).set

  abbrev with : ℕ → List (ℕ × ℕ)
  with i = map (λ j. (i, j)) (trainings file)

  -- ---- the order
  Sorted-tests : Sorted ◌<◌ (tests file)
  unfolding tests
  Sorted-tests = sorted_filter ◌<◌ test_at (up_to (count_of file)) (Sorted-up_to (count_of file))

  Sorted-trainings : Sorted ◌<◌ (trainings file)
  unfolding trainings
  Sorted-trainings = sorted_filter ◌<◌ training_at (up_to (count_of file)) (Sorted-up_to (count_of file))

  pub Sorted-pairs : Sorted InTableOrder (recording_pairs file)
  unfolding recording_pairs
  Sorted-pairs = Sorted-product (tests file) (trainings file) Sorted-tests Sorted-trainings

  -- those of them that pass a test are in order too, so none is there twice
  module _ (p : ℕ × ℕ → Bool) where
    abbrev those : List (ℕ × ℕ)
    those = filter p (recording_pairs file)

    Sorted-those : Sorted InTableOrder those
    Sorted-those = sorted_filter InTableOrder p (recording_pairs file) Sorted-pairs

    in_order_lem : (k l : ℕ) → k < l → l < length those → InTableOrder (get_or those k (0, 0)) (get_or those l (0, 0))
    in_order_lem = Sorted-at InTableOrder those (0, 0) Sorted-those

    once : (k l : ℕ) → k < length those → l < length those → get_or those k (0, 0) ≡ get_or those l (0, 0) → k ≡ l
    once = Sorted-once InTableOrder those (0, 0) not_before Sorted-those

  -- ---- which pairs there are
  pub in_tests : {i : ℕ} → Memᴰ i (tests file) → (i < count_of file) × ((entry_at file i).set ≡ 1)
  unfolding tests
  in_tests {i} m = let r = passed test_at (up_to (count_of file)) m in (below (count_of file) r.0, (all_roles (entry_at file i).set).test.0 r.1)

  pub in_trainings : {j : ℕ} → Memᴰ j (trainings file) → (j < count_of file) × TrainingSet (entry_at file j).set
  unfolding trainings
  in_trainings {j} m = let r = passed training_at (up_to (count_of file)) m in (below (count_of file) r.0, (all_roles (entry_at file j).set).training.0 r.1)

  pub a_test : (i : ℕ) → i < count_of file → (entry_at file i).set ≡ 1 → Memᴰ i (tests file)
  unfolding tests
  a_test i h e = kept test_at (up_to (count_of file)) (reached (count_of file) i h) ((all_roles (entry_at file i).set).test.1 e)

  pub a_training : (j : ℕ) → j < count_of file → TrainingSet (entry_at file j).set → Memᴰ j (trainings file)
  unfolding trainings
  a_training j h e = kept training_at (up_to (count_of file)) (reached (count_of file) j h) ((all_roles (entry_at file j).set).training.1 e)

  pub in_pairs : {p : ℕ × ℕ} → Memᴰ p (recording_pairs file) → Compared file p.0 p.1
  unfolding recording_pairs
  in_pairs m =
      let r = of_each with (tests file) m in
      let s = unmapped (λ j. (r.0, j)) (trainings file) r.2 in
      let t = in_tests (subst (λ q. Memᴰ q.0 (tests file)) (sym s.2) r.1) in
      let u = in_trainings (subst (λ q. Memᴰ q.1 (trainings file)) (sym s.2) s.1) in
      record { recording = t.0; test = t.1; other = u.0; training = u.1 }

  pub a_pair : (i j : ℕ) → Compared file i j → Memᴰ (i, j) (recording_pairs file)
  unfolding recording_pairs
  a_pair i j c = in_each with (tests file) (a_test i c.recording c.test) (mapped (λ j. (i, j)) (trainings file) (a_training j c.other c.training))

  -- ---- what is counted of two recordings
  pub counted : (i j : ℕ) → (tally_for file (i, j)).overlapping ≡ count overlaps (decisions file (entry_at file i) (entry_at file j))
  unfolding tally_for
  counted i j = tally_overlapping file (entry_at file i) (entry_at file j)

  pub counted_touching : (i j : ℕ) → (tally_for file (i, j)).touching ≡ count touches (decisions file (entry_at file i) (entry_at file j))
  unfolding tally_for
  counted_touching i j = tally_touching file (entry_at file i) (entry_at file j)

  -- some are counted exactly if there is such a pair
  module _ (p : Decision → Bool) (i j : ℕ) {n : ℕ} (e : n ≡ count p (decisions file (entry_at file i) (entry_at file j))) where
    abbrev Such : Type 0
    Such = SomePair file i j (λ a b. p (decision_at file (entry_at file i) (entry_at file j) a b) ≡ true)

    there_is : 0 < n → Such
    there_is h =
        let c = one_counted p (decisions file (entry_at file i) (entry_at file j)) (subst (λ n. 0 < n) e h) in
        let d = decision_of_lem file (entry_at file i) (entry_at file j) c.1 in
        (d.0, d.1, d.2, d.3, ap p (sym d.4) ∙ c.2)

    some_counted : Such → 0 < n
    some_counted q =
        let d = decision_in file (entry_at file i) (entry_at file j) q.0 q.1 q.2 q.3 in
        subst (λ n. 0 < n) (sym e) (counted_one p (decisions file (entry_at file i) (entry_at file j)) d q.4)

  -- ---- the sum of the areas, what is refused, and the own area
  summed : (i j : ℕ) → (tally_for file (i, j)).area ≡ sum_of_areas file i j
  unfolding tally_for sum_of_areas
  summed i j = tally_area file (entry_at file i) (entry_at file j)

  refused_one_lem : (i j : ℕ) → ((tally_for file (i, j)).refused ≡ true) ↔ SomePair file i j (RefusedPair file i j)
  unfolding tally_for
  refused_one_lem i j = (to, from)
    where
      is : (d : Decision) → is_refused d ≡ true → (k : ℕ) × (d ≡ Refused k)
      is (Refused k) h = (k, refl)
      is (Overlapping a) h = absurd (false≢true h)
      is Touching h = absurd (false≢true h)
      is Apart h = absurd (false≢true h)

      to : (tally_for file (i, j)).refused ≡ true → SomePair file i j (RefusedPair file i j)
      to h =
          let o = some_to is_refused (decisions file (entry_at file i) (entry_at file j)) (sym (tally_refused file (entry_at file i) (entry_at file j)) ∙ h) in
          let d = decision_of_lem file (entry_at file i) (entry_at file j) o.1 in
          let k = is o.0 o.2 in
          (d.0, d.1, d.2, d.3, (k.0, sym d.4 ∙ k.1))

      from : SomePair file i j (RefusedPair file i j) → (tally_for file (i, j)).refused ≡ true
      from q =
          tally_refused file (entry_at file i) (entry_at file j)
          ∙ some_from is_refused (decisions file (entry_at file i) (entry_at file j)) (decision_in file (entry_at file i) (entry_at file j) q.0 q.1 q.2 q.3) (ap is_refused q.4.1)

  same_e_lem : (i j a b : ℕ) → e_at file (place_in (entry_at file i) a) ≡ (e_of_u (values_at file (entry_at file i) (entry_at file j) a b)).value
  unfolding e_at e_of_u values_at coordinates_at
  same_e_lem i j a b = refl

  -- ---- a line exactly if they leak
  pub any_leaks : (i j : ℕ) → leak_by_first (tally_for file (i, j)) ≡ true → FirstLeak file i j
  any_leaks i j h = there_is overlaps i j (counted i j) (ltb-true 0 (tally_for file (i, j)).overlapping h)

  pub leaks_any : (i j : ℕ) → FirstLeak file i j → leak_by_first (tally_for file (i, j)) ≡ true
  leaks_any i j h = lt-ltb 0 (tally_for file (i, j)).overlapping (some_counted overlaps i j (counted i j) h)

  leaking : (i j : ℕ) → Memᴰ (i, j) (leak_pairs file) → Leaking file i j
  unfolding leak_pairs
  leaking i j m =
      let r = passed (is_leak file) (recording_pairs file) m in
      let last = (entry_at file i).last in
      let t = tally_for file (i, j) in
      record {
        compared = in_pairs r.0;
        first = λ n. any_leaks i j (sym (by_first last (own_for file i) t n) ∙ r.1);
        second = λ e. more t.refused refl (sym (by_second last (own_for file i) t e) ∙ r.1);
      }
    where
      more : (b : Bool) → (tally_for file (i, j)).refused ≡ b → (b || lt (own_for file i) (mul binary64 hundred (tally_for file (i, j)).area)) ≡ true → SecondLeak file i j
      more true e h = inr ((refused_one_lem i j).0 e)
      more false e h = inl (subst (λ s. lt (own_for file i) (mul binary64 hundred s) ≡ true) (summed i j) h)

  by_either : (i j : ℕ) → Leaking file i j → is_leak file (i, j) ≡ true
  by_either i j h = go (eqb (entry_at file i).last 1) refl
    where
      more : SecondLeak file i j → leak_by_second (own_for file i) (tally_for file (i, j)) ≡ true
      more (inl a) = second_above (own_for file i) (tally_for file (i, j)) (subst (λ s. lt (own_for file i) (mul binary64 hundred s) ≡ true) (sym (summed i j)) a)
      more (inr p) = second_refused (own_for file i) (tally_for file (i, j)) ((refused_one_lem i j).1 p)

      go : (b : Bool) → eqb (entry_at file i).last 1 ≡ b → is_leak file (i, j) ≡ true
      go true e = let q = eqb-true (entry_at file i).last 1 e in by_second (entry_at file i).last (own_for file i) (tally_for file (i, j)) q ∙ more (h.second q)
      go false e =
          let n = eqb-false (entry_at file i).last 1 e in
          by_first (entry_at file i).last (own_for file i) (tally_for file (i, j)) n ∙ leaks_any i j (h.first n)

  stands : (i j : ℕ) → Leaking file i j → Memᴰ (i, j) (leak_pairs file)
  unfolding leak_pairs
  stands i j h = kept (is_leak file) (recording_pairs file) (a_pair i j h.compared) (by_either i j h)

  -- by either edition a leak is one by edition 1
  always_first : (p : ℕ × ℕ) → is_leak file p ≡ true → leak_by_first (tally_for file p) ≡ true
  unfolding tally_for own_for
  always_first p h = go (eqb (entry_at file p.0).last 1) h
    where
      go : (b : Bool) → cond b (leak_by_second (own_for file p.0) (tally_for file p)) (leak_by_first (tally_for file p)) ≡ true → leak_by_first (tally_for file p) ≡ true
      go true h = second_first file (entry_at file p.0) (entry_at file p.0) (entry_at file p.1) h
      go false h = h

  pub also_by_first_lem : (p : ℕ × ℕ) → Memᴰ p (leak_pairs file) → leak_by_first (tally_for file p) ≡ true
  unfolding leak_pairs
  also_by_first_lem p m = always_first p (passed (is_leak file) (recording_pairs file) m).1

  -- ---- counted as touching exactly if they only touch
  both : (a b : Bool) → (a && b) ≡ true → (a ≡ true) × (b ≡ true)
  both true b h = (refl, h)
  both false b h = (h, absurd (false≢true h))

  only_touching : (i j : ℕ) → Memᴰ (i, j) (touching_pairs file) → OnlyTouching file i j
  unfolding touching_pairs
  only_touching i j m =
      let r = passed (is_touching file) (recording_pairs file) m in
      let s = both (eqb (tally_for file (i, j)).overlapping 0) (ltb 0 (tally_for file (i, j)).touching) r.1 in
      let none = eqb-true (tally_for file (i, j)).overlapping 0 s.0 in
      record {
        compared = in_pairs r.0;
        pair = there_is touches i j (counted_touching i j) (ltb-true 0 (tally_for file (i, j)).touching s.1);
        no_other = λ q. let h = some_counted overlaps i j (counted i j) q in omega (arith, h, none);
      }

  is_counted : (i j : ℕ) → OnlyTouching file i j → Memᴰ (i, j) (touching_pairs file)
  unfolding touching_pairs
  is_counted i j h =
      let none = no_overlap (eqb (tally_for file (i, j)).overlapping 0) refl in
      kept (is_touching file) (recording_pairs file) (a_pair i j h.compared)
      (rw (eq-eqb (tally_for file (i, j)).overlapping 0 none) (lt-ltb 0 (tally_for file (i, j)).touching (some_counted touches i j (counted_touching i j) h.pair)))
    where
      no_overlap : (b : Bool) → eqb (tally_for file (i, j)).overlapping 0 ≡ b → (tally_for file (i, j)).overlapping ≡ 0
      no_overlap true e = eqb-true (tally_for file (i, j)).overlapping 0 e
      no_overlap false e = absurd (h.no_other (there_is overlaps i j (counted i j) (positive (tally_for file (i, j)).overlapping (eqb-false (tally_for file (i, j)).overlapping 0 e))))

  -- ---- the lines
  pub as_many_lem : length (leaks file) ≡ length (leak_pairs file)
  unfolding leaks
  as_many_lem = length-map (leak_pairs file) (leak_of file)

  line : (k : ℕ) → k < length (leak_pairs file) → get_or (leaks file) k no_leak ≡ leak_of file (line_for file k)
  unfolding leaks
  line k h = map_at (leak_of file) (leak_pairs file) k no_leak (0, 0) h

  named : (i j : ℕ) → ((leak_of file (i, j)).test ≡ (entry_at file i).id) × ((leak_of file (i, j)).train ≡ (entry_at file j).id) × ((leak_of file (i, j)).pairs ≡ (tally_for file (i, j)).overlapping)
  unfolding leak_of
  named i j = (refl, refl, refl)

  -- ---- the recordings that were formerly held back
  abbrev retired_at : ℕ → Bool
  retired_at k = is_retired (entry_at file k).set

  formerly_exactly : (k : ℕ) → Memᴰ k (formerly file) ↔ ((k < count_of file) × ((entry_at file k).set ≡ 2))
  unfolding formerly
  formerly_exactly k = (
    λ m. let r = passed retired_at (up_to (count_of file)) m in (below (count_of file) r.0, (all_roles (entry_at file k).set).retired.0 r.1),
    λ h. kept retired_at (up_to (count_of file)) (reached (count_of file) k h.0) ((all_roles (entry_at file k).set).retired.1 h.1),
  )

  formerly_once_lem : (k l : ℕ) → k < length (formerly file) → l < length (formerly file) → get_or (formerly file) k 0 ≡ get_or (formerly file) l 0 → k ≡ l
  unfolding formerly
  formerly_once_lem = Sorted-once ◌<◌ (formerly file) 0 (λ x y h e. omega (arith, h, e)) (sorted_filter ◌<◌ retired_at (up_to (count_of file)) (Sorted-up_to (count_of file)))

  all_decided : (i j : ℕ) → AllDecided file i j
  all_decided i j = record { how_many = how_many_lem file (entry_at file i) (entry_at file j); in_turn = in_turn_lem file (entry_at file i) (entry_at file j) }

  -- ---- the triangle pairs that are given to the triangle rules
  abbrev near : ℕ × ℕ → ℕ × ℕ → Bool
  near p q = near_at file (entry_at file p.0) (entry_at file p.1) q.0 q.1

  abbrev of_two : ℕ × ℕ → List (ℕ × ℕ)
  of_two p = triangle_pairs (entry_at file p.0) (entry_at file p.1)

  abbrev in_two : ℕ × ℕ → List ((ℕ × ℕ) × (ℕ × ℕ))
  in_two p = map (λ q. (p, q)) (of_two p)

  Tested-exactly : (i j a b : ℕ) → Memᴰ ((i, j), (a, b)) (tested_pairs file) ↔ Tested file i j a b
  unfolding tested_pairs all_pairs near_at
  Tested-exactly i j a b = (to, from)
    where
      to : Memᴰ ((i, j), (a, b)) (tested_pairs file) → Tested file i j a b
      to m =
          let r = passed (is_tested file) (all_pairs file) m in
          let s = of_each in_two (recording_pairs file) r.0 in
          let t = unmapped (λ q. (s.0, q)) (of_two s.0) s.2 in
          let two = subst (λ p. Memᴰ p (recording_pairs file)) (sym (ap (λ x. x.0) t.2)) s.1 in
          let inside = pair_of (entry_at file i) (entry_at file j) (subst (λ x. Memᴰ x.1 (of_two x.0)) (sym t.2) t.1) in
          record { compared = in_pairs two; in_test = inside.0; in_training = inside.1; near = r.1 }

      from : Tested file i j a b → Memᴰ ((i, j), (a, b)) (tested_pairs file)
      from h =
          kept (is_tested file) (all_pairs file)
          (in_each in_two (recording_pairs file) (a_pair i j h.compared) (mapped (λ q. ((i, j), q)) (of_two (i, j)) (pair_in (entry_at file i) (entry_at file j) a b h.in_test h.in_training)))
          h.near

  -- by their recordings, and then by their triangles
  abbrev InTurn : (ℕ × ℕ) × (ℕ × ℕ) → (ℕ × ℕ) × (ℕ × ℕ) → Type 0
  InTurn x y = InTableOrder x.0 y.0 ⊎ ((x.0 ≡ y.0) × InTableOrder x.1 y.1)

  Sorted-tested : Sorted InTurn (tested_pairs file)
  unfolding tested_pairs all_pairs
  Sorted-tested = sorted_filter InTurn (is_tested file) (all_pairs file) (Sorted-each InTableOrder InTurn in_two (recording_pairs file) Sorted-pairs own across)
    where
      own : (p : ℕ × ℕ) → Sorted InTurn (in_two p)
      own p = Sorted-map InTableOrder InTurn (λ q. (p, q)) (of_two p) (λ x y h. inr (refl, h)) (unfold triangle_pairs in Sorted-product (up_to (entry_at file p.0).count) (up_to (entry_at file p.1).count) (Sorted-up_to (entry_at file p.0).count) (Sorted-up_to (entry_at file p.1).count))

      across : (x y : ℕ × ℕ) → InTableOrder x y → (u v : (ℕ × ℕ) × (ℕ × ℕ)) → Memᴰ u (in_two x) → Memᴰ v (in_two y) → InTurn u v
      across x y h u v m n =
          let r = unmapped (λ q. (x, q)) (of_two x) m in
          let s = unmapped (λ q. (y, q)) (of_two y) n in
          inl (subst (λ p. InTableOrder p v.0) (sym (ap (λ t. t.0) r.2)) (subst (λ p. InTableOrder x p) (sym (ap (λ t. t.0) s.2)) h))

  not_InTurn : (x y : (ℕ × ℕ) × (ℕ × ℕ)) → InTurn x y → x ≡ y → ⊥
  not_InTurn x y (inl h) e = not_before x.0 y.0 h (ap (λ t. t.0) e)
  not_InTurn x y (inr h) e = not_before x.1 y.1 h.1 (ap (λ t. t.1) e)

  tested_once_lem : (k l : ℕ) → k < length (tested_pairs file) → l < length (tested_pairs file) → tested_for file k ≡ tested_for file l → k ≡ l
  tested_once_lem = Sorted-once InTurn (tested_pairs file) ((0, 0), (0, 0)) not_InTurn Sorted-tested

  -- counted over the walk, two recordings after two recordings
  tested_of_two : (p : ℕ × ℕ) → count (is_tested file) (in_two p) ≡ (tally_for file p).tested
  unfolding tally_for
  tested_of_two p = count_map (is_tested file) (λ q. (p, q)) (of_two p) ∙ sym (tally_tested file (entry_at file p.0) (entry_at file p.1))

  pub tested_walked_lem : tested file ≡ folded ◌+◌ 0 (map (λ p. (tally_for file p).tested) (recording_pairs file))
  unfolding tested tested_pairs all_pairs
  tested_walked_lem = filter-count (is_tested file) (all_pairs file) ∙ (count-each (is_tested file) in_two (recording_pairs file) ∙ ap (folded ◌+◌ 0) (map_same (λ p. count (is_tested file) (in_two p)) (λ p. (tally_for file p).tested) tested_of_two (recording_pairs file)))

pub demand2 : DemandTwo
demand2 file = record {
  exactly_if = λ i j. (leaking file i j, stands file i j);
  in_order = unfold leak_pairs in in_order_lem file (is_leak file);
  once = unfold leak_pairs in once file (is_leak file);
  as_many = as_many_lem file;
  line = line file;
  named = named file;
  counted = counted file;
  decided = all_decided file;
  summed = summed file;
  refused_one = refused_one_lem file;
  own = λ i. unfold own_for own_area sizes_of in refl;
  same_e = same_e_lem file;
  some_overlap = λ i j h. any_leaks file i j (always_first file (i, j) (by_either file i j h));
  also_by_first = λ i j. also_by_first_lem file (i, j);
  touching_exactly_if = λ i j. (only_touching file i j, is_counted file i j);
  touching_in_order = unfold touching_pairs in in_order_lem file (is_touching file);
  touching_once = unfold touching_pairs in once file (is_touching file);
  touching_counted = unfold touching in refl;
  tested_exactly_if = Tested-exactly file;
  tested_once = tested_once_lem file;
  tested_counted = unfold tested in refl;
  tested_walked = tested_walked_lem file;
  formerly_exactly_if = formerly_exactly file;
  formerly_once = formerly_once_lem file;
  formerly_counted = unfold formerly_held_back in refl;
}
