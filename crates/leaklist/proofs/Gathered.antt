-- What is gathered is what there is by the rules: counts from the table are counts from the file, and pair by pair, row by row, all leaks come in table order, all that only touch are counted, and so are all triangle pairs that were tested. Assumes nothing.
use Prim.Native.Nat.{ℕ, zero, suc, ◌+◌, ◌*◌, ◌/◌, ◌<◌, ◌≤◌}
use mathlib.Core.Path.{◌≡◌, refl, sym, ap, ap₂, subst, ◌∙◌}
use mathlib.Core.Bool.{Bool, true, false, cond}
use mathlib.Core.List.Memᴰ.{head as here}
use mathlib.Core.List.Memᴰ.{tail as there}
use mathlib.Core.List.{List, [], ◌∷◌, ◌++◌, map, append_assoc, append-nil, Memᴰ}
use native.Mathlib.Omega.{arith}
use native.Mathlib.Numerals.{add-one}
use lib.ListN.{length}
use lib.Ieee.{Float, binary64, add, mul}
use Rattle.floats.specs.Lists.{filter, count, once}
use Rattle.floats.proofs.Lists.{filter-append, count-append}
use Rattle.floats.specs.Finite.{finite, nought}
use Rattle.floats.proofs.Lists.{so, os, all_at}
use Rattle.shapes.specs.declared.Shape.{Shape}
use Rattle.shapes.specs.Shapes.{Made, six_of, twelve}
use Rattle.boxes.specs.declared.Box.{Box}
use Rattle.boxes.specs.Boxes.{share_point}
use Rattle.boxed.specs.Tables.{box_among, around_from}
use Rattle.centimetres.proofs.Pair.{values, values-finite}
use Rattle.layout.specs.declared.Entry.{Entry}
use Rattle.layout.specs.Bytes.{byte_at}
use Rattle.layout.specs.Parts.{numbers_of, table_place, count_of, entry_from, entry_place, entry_at, triangle_from, triangle_at, triangles_of}
use Rattle.layout.specs.Layout.{Layout}
use Rattle.layout.specs.Recordings.{f64_at}
use Rattle.layout.specs.Verdict.{verdict}
use Rattle.layout.specs.Inside.{Inside}
use Rattle.layout.proofs.Inside.{parts_inside}
use Rattle.layout.proofs.Returned.{has_Layout, is_good}
use Rattle.listing.specs.declared.Tally.{Tally}
use Rattle.listing.specs.Turns.{up_to, each, folded}
use Rattle.sets.specs.Sets.{is_test, is_training, is_retired}
use Rattle.sets.specs.Editions.{is_second}
use Rattle.triangles.specs.Positions.{half}
use Rattle.listing.specs.Pairs.{place_in, coordinates_at, values_at, triangle_pairs, none_yet, tallied, tally_of, absolute, e_at, sizes_of, own_area, leak_by_first, leak_by_second, leak, only_touch}
use Rattle.listing.specs.Leaks.{Leak, tests, trainings, recording_pairs, tally_for, own_for, is_leak, leak_pairs, leak_of, leaks, is_touching, touching_pairs, touching, formerly, formerly_held_back}
use Rattle.listing.proofs.Turns.{below, map-append, map-map, map_same_in, each_append, filter-count, sum_from}
use Rattle.listing.proofs.Editions.{own_not_below, no_leak}
use Rattle.listing.proofs.Demand.{tested_walked_lem}
use Rattle.leaklist.specs.Code.{shape_from, Prepared, Framed, Owned, AllReady, values_in, row_in, tally_in, size_in, sum_in, own_in, asked_in, area_for, Gathering, Found, nothing, together, leak_on, found_on, found_for, item_of, row_to, test_of, list_to, formerly_to, found_by_rules}
use Rattle.footprint.specs.declared.Footprint.{Footprint}
use Rattle.footprint.specs.Contents.{contents}
use Rattle.leaklist.proofs.Counted.{ready_from, tally_far}

-- ---- the recording's triangles by number
module _ (file : List ℕ) (good : Layout file) (i : ℕ) (there-is : i < count_of file) where
  abbrev e : Entry
  e = entry_at file i

  abbrev inside : Inside file i
  inside = parts_inside file i good there-is

  -- its first triangle, by number
  pub first_is : e.first ≡ 24 * (e.first / 24)
  first_is = let o = inside.of_file 0 (good.some_triangles i there-is) in let n = o.0 in let h : e.first + 24 * 0 ≡ 24 * n = o.1 in omega (arith, h)

  pub in_table : e.first / 24 + e.count ≤ triangles_of file
  unfolding triangles_of
  in_table = let b = inside.before_table in let f = first_is in omega (arith, b, f)

  pub place_is : (a : ℕ) → 24 * (e.first / 24 + a) ≡ place_in e a
  place_is a = let f = first_is in omega (arith, f)

-- a good file has at most 2,730 triangles
pub few_triangles : (file : List ℕ) → Layout file → triangles_of file ≤ 2730
unfolding triangles_of
few_triangles file good = let f = good.filled in let m = good.at_most65536 in omega (arith, f, m)

-- ---- prepared shapes are made and have finite coordinates, and the pairs of them are those of the file
Made-from : (file : List ℕ) (at : ℕ) → Made (shape_from file at)
unfolding shape_from
Made-from file at = refl

twelve_from : (file : List ℕ) (p q : ℕ) → twelve (shape_from file p) (shape_from file q) ≡ coordinates_at file p ++ coordinates_at file q
unfolding shape_from coordinates_at
twelve_from file p q = refl

finite_from : (file : List ℕ) → Layout file → (k : ℕ) → k < triangles_of file → (v : Float) → Memᴰ v (six_of (shape_from file (24 * k))) → finite v ≡ true
unfolding shape_from f64_at triangle_at triangle_from
finite_from file good k h v m = so (all_at finite (values (numbers_of (triangle_at file k))) {x = v} (os (values-finite (numbers_of (triangle_at file k)) (good.in_range k fits))) m)
  where
    fits : 24 * k + 24 ≤ table_place file
    fits = let l : k < table_place file / 24 = (unfold triangles_of in h) in omega (arith, l)

-- what is prepared for a good file is ready
pub ready : (file : List ℕ) (table : List Shape) (bounds : List Box) → Layout file → length table ≡ triangles_of file → Prepared file (length table) table → Framed table (length table) bounds → AllReady table bounds
ready file table bounds good size prepared framed k l =
    let h : k < triangles_of file = omega (arith, l, size) in
    record {
      made = subst Made (sym (prepared k l)) (Made-from file (24 * k));
      all_finite = subst (λ s. (v : Float) → Memᴰ v (six_of s) → finite v ≡ true) (sym (prepared k l)) (finite_from file good k h);
      framed = framed k l;
    }

-- and all of it
pub gathering : (file : List ℕ) (table : List Shape) (bounds own : List Box) → Layout file → length table ≡ triangles_of file → length own ≡ count_of file → Prepared file (length table) table → Framed table (length table) bounds → Owned file bounds (length own) own → Gathering file table bounds own
gathering file table bounds own good size recordings prepared framed owned = record {
  good = is_good file good;
  size = size;
  recordings = recordings;
  prepared = subst (λ n. Prepared file n table) size prepared;
  framed = subst (λ n. Framed table n bounds) size framed;
  owned = subst (λ n. Owned file bounds n own) recordings owned;
}

module _ (file : List ℕ) (table : List Shape) (bounds own : List Box) (g : Gathering file table bounds own) where
  pub good-Layout : Layout file
  good-Layout = has_Layout file g.good

  all_ready : AllReady table bounds
  all_ready = let s = g.size in ready file table bounds good-Layout s (λ c l. g.prepared c (omega (arith, l, s))) (λ c l. g.framed c (omega (arith, l, s)))

  values_are : (p q : ℕ) → p < triangles_of file → q < triangles_of file → values_in table p q ≡ coordinates_at file (24 * p) ++ coordinates_at file (24 * q)
  values_are p q h k = ap₂ twelve (g.prepared p h) (g.prepared q k) ∙ twelve_from file (24 * p) (24 * q)

each_same : {A B : Type 0} (f h : A → List B) (xs : List A) → ((x : A) → Memᴰ x xs → f x ≡ h x) → each f xs ≡ each h xs
unfolding each
each_same f h [] same = refl
each_same f h (x ∷ xs) same = ap₂ ◌++◌ (same x (here refl)) (each_same f h xs (λ y m. same y (there m)))

map_each : {A B C : Type 0} (g : B → C) (f : A → List B) (xs : List A) → map g (each f xs) ≡ each (λ x. map g (f x)) xs
unfolding each
map_each g f [] = refl
map_each g f (x ∷ xs) = map-append g (f x) (each f xs) ∙ ap (λ r. map g (f x) ++ r) (map_each g f xs)

module _ (file : List ℕ) (table : List Shape) (bounds own : List Box) (g : Gathering file table bounds own) (i j : ℕ) (hi : i < count_of file) (hj : j < count_of file) where
  abbrev test : Entry
  test = entry_at file i

  abbrev train : Entry
  train = entry_at file j

  pair_is : (a b : ℕ) → a < test.count → b < train.count → values_in table (test.first / 24 + a) (train.first / 24 + b) ≡ values_at file test train a b
  unfolding values_at
  pair_is a b h k =
      let p = in_table file (good-Layout file table bounds own g) i hi in
      let q = in_table file (good-Layout file table bounds own g) j hj in
      values_are file table bounds own g (test.first / 24 + a) (train.first / 24 + b) (omega (arith, p, h)) (omega (arith, q, k))
      ∙ ap₂ (λ x y. coordinates_at file x ++ coordinates_at file y) (place_is file (good-Layout file table bounds own g) i hi a) (place_is file (good-Layout file table bounds own g) j hj b)

  abbrev values_of : ℕ × ℕ → List Float
  values_of p = values_at file test train p.0 p.1

  row_is : (a : ℕ) → a < test.count → row_in table (test.first / 24 + a) (train.first / 24) train.count ≡ map values_of (map (λ b. (a, b)) (up_to train.count))
  unfolding row_in
  row_is a h =
      map_same_in (λ b. values_in table (test.first / 24 + a) (train.first / 24 + b)) (values_at file test train a) (up_to train.count) (λ b m. pair_is a b h (below train.count m))
      ∙ sym (map-map values_of (λ b. (a, b)) (up_to train.count))

  -- what is counted from the table is what is counted from the file
  pub count_is : tally_in table (test.first / 24) test.count (train.first / 24) train.count ≡ tally_for file (i, j)
  unfolding tally_in tally_for tally_of triangle_pairs
  count_is =
      ap (folded tallied none_yet)
      (each_same (λ a. row_in table (test.first / 24 + a) (train.first / 24) train.count) (λ a. map values_of (map (λ b. (a, b)) (up_to train.count))) (up_to test.count) (λ a m. row_is a (below test.count m))
      ∙ sym (map_each values_of (λ a. map (λ b. (a, b)) (up_to train.count)) (up_to test.count)))

  -- where the own boxes of two recordings share no point, nothing is counted
  pub far_none : share_point (box_among own i) (box_among own j) ≡ false → tally_for file (i, j) ≡ none_yet
  far_none h =
      let p = in_table file (good-Layout file table bounds own g) i hi in
      let s = g.size in
      let q = in_table file (good-Layout file table bounds own g) j hj in
      sym count_is
      ∙ tally_far table bounds (test.first / 24) test.count (train.first / 24) train.count (ready_from (test.first / 24) test.count (all_ready file table bounds own g) (omega (arith, p, s))) (ready_from (train.first / 24) train.count (all_ready file table bounds own g) (omega (arith, q, s)))
      (sym (ap₂ share_point (g.owned i hi) (g.owned j hj)) ∙ h)

-- ---- the own area of a recording, from the table
cross_is : (file : List ℕ) (at : ℕ) → (shape_from file at).cross ≡ e_at file at
unfolding shape_from e_at
cross_is file at = refl

module _ (file : List ℕ) (table : List Shape) (bounds own : List Box) (g : Gathering file table bounds own) (i : ℕ) (hi : i < count_of file) where
  size_is : (a : ℕ) → a < (entry_at file i).count → size_in table ((entry_at file i).first / 24 + a) ≡ absolute (e_at file (place_in (entry_at file i) a))
  size_is a h =
      let p = in_table file (good-Layout file table bounds own g) i hi in
      ap absolute (ap (λ s. s.cross) (g.prepared ((entry_at file i).first / 24 + a) (omega (arith, p, h))) ∙ (cross_is file (24 * ((entry_at file i).first / 24 + a)) ∙ ap (e_at file) (place_is file (good-Layout file table bounds own g) i hi a)))

  area_is : own_in table ((entry_at file i).first / 24) (entry_at file i).count ≡ own_for file i
  unfolding sum_in own_for own_area sizes_of
  area_is = ap (λ ss. mul binary64 half (folded (add binary64) nought ss)) (map_same_in (λ a. size_in table ((entry_at file i).first / 24 + a)) (λ a. absolute (e_at file (place_in (entry_at file i) a))) (up_to (entry_at file i).count) (λ a m. size_is a (below (entry_at file i).count m)))

  -- as the code comes to it: the entry as it was read
  pub area_fits : {e : Entry} → e ≡ entry_at file i → e.first / 24 + e.count ≤ length table
  area_fits p = let a = in_table file (good-Layout file table bounds own g) i hi in let s = g.size in rw p (omega (arith, a, s))

  pub area_by : {e : Entry} {r : Float} → e ≡ entry_at file i → r ≡ asked_in table e → r ≡ area_for file i
  unfolding area_for
  area_by p h = h ∙ (ap (asked_in table) p ∙ ap (λ s. cond (is_second (entry_at file i).last) s nought) area_is)

-- an area that is not asked for changes nothing
asked_same : (last : ℕ) (own : Float) (t : Tally) → leak last (cond (is_second last) own nought) t ≡ leak last own t
asked_same last own t = go (is_second last)
  where
    go : (b : Bool) → cond b (leak_by_second (cond b own nought) t) (leak_by_first t) ≡ cond b (leak_by_second own t) (leak_by_first t)
    go true = refl
    go false = refl

-- ---- as the code comes to it: two entries as they were read
module _ (file : List ℕ) (table : List Shape) (bounds own : List Box) (g : Gathering file table bounds own) (i j : ℕ) (hi : i < count_of file) (hj : j < count_of file) where
  pub tally_fits : {e f : Entry} {whole : Box} → e ≡ entry_at file i → f ≡ entry_at file j → whole ≡ box_among own j →
      (e.first / 24 + e.count ≤ length table) × (f.first / 24 + f.count ≤ length table) × (whole ≡ around_from (box_among bounds) (f.first / 24) f.count)
  tally_fits p q w =
      let a = in_table file (good-Layout file table bounds own g) i hi in
      let b = in_table file (good-Layout file table bounds own g) j hj in
      let s = g.size in
      rw (p, q) (omega (arith, a, s), omega (arith, b, s), w ∙ g.owned j hj)

  pub count_by : {e f : Entry} {t : Tally} → e ≡ entry_at file i → f ≡ entry_at file j → t ≡ tally_in table (e.first / 24) e.count (f.first / 24) f.count → t ≡ tally_for file (i, j)
  count_by p q h = h ∙ (ap₂ (λ e f. tally_in table (e.first / 24) e.count (f.first / 24) f.count) p q ∙ count_is file table bounds own g i j hi hj)

-- ---- an entry as it is read
pub entry_is : (file : List ℕ) (i at : ℕ) {r : Entry} → at ≡ table_place file → r ≡ entry_from file (at + 12 * i) → r ≡ entry_at file i
unfolding entry_at entry_place
entry_is file i at h p = p ∙ ap (λ t. entry_from file (t + 12 * i)) h

-- ---- one after the other
abbrev found_by : List Leak → ℕ → ℕ → Found
found_by ls t k = record { leaks = ls; touching = t; tested = k }

found_same : {ls ms : List Leak} {t u k l : ℕ} → ls ≡ ms → t ≡ u → k ≡ l → found_by ls t k ≡ found_by ms u l
found_same p q r = rw (p, q, r) refl

assoc : (a b c : Found) → together (together a b) c ≡ together a (together b c)
assoc a b c = found_same (append_assoc a.leaks b.leaks c.leaks) (omega arith) (omega arith)

none_behind : (a : Found) → together a nothing ≡ a
none_behind a = found_same (append-nil a.leaks) (omega arith) (omega arith)

none_before : (a : Found) → together nothing a ≡ a
none_before a = found_same refl (omega arith) (omega arith)

-- ---- pair by pair
module _ (file : List ℕ) (i j : ℕ) where
  -- whether it is with a training recording, as the code asks
  in_item : {f : Entry} {b x : Bool} → f ≡ entry_at file j → b ≡ is_training f.set → b ≡ x → item_of file i j ≡ cond x (found_for file (i, j)) nothing
  unfolding item_of
  in_item hf hb z = ap (λ y. cond y (found_for file (i, j)) nothing) (ap (λ f. is_training f.set) (sym hf) ∙ (sym hb ∙ z))

  pub no_item : {f : Entry} {b : Bool} → f ≡ entry_at file j → b ≡ is_training f.set → b ≡ false → nothing ≡ item_of file i j
  no_item hf hb z = sym (in_item hf hb z)

  -- what is found by the area that is asked for is what is found by the own area
  found_same_by : found_on (entry_at file i) (area_for file i) (entry_at file j).id (tally_for file (i, j)) ≡ found_for file (i, j)
  unfolding found_for area_for
  found_same_by = ap (λ b. found_by (cond b (record { test = (entry_at file i).id; train = (entry_at file j).id; pairs = (tally_for file (i, j)).overlapping } ∷ []) []) (once (only_touch (tally_for file (i, j)))) (tally_for file (i, j)).tested) (asked_same (entry_at file i).last (own_for file i) (tally_for file (i, j)))

  pub an_item : {e f : Entry} {area : Float} {b : Bool} {t : Tally} → e ≡ entry_at file i → area ≡ area_for file i → f ≡ entry_at file j → b ≡ is_training f.set → b ≡ true → t ≡ tally_for file (i, j) → found_on e area f.id t ≡ item_of file i j
  an_item he ha hf hb z ht = rw (he, ha, hf, ht) (found_same_by ∙ sym (in_item refl (hb ∙ ap (λ f. is_training f.set) hf) z))

  -- how many of its triangle pairs were given to the triangle rules
  pub item_tested : {f : Entry} {b : Bool} {t : Tally} → f ≡ entry_at file j → b ≡ is_training f.set → b ≡ true → t ≡ tally_for file (i, j) → t.tested ≡ (item_of file i j).tested
  unfolding found_for
  item_tested hf hb z ht = ap (λ x. x.tested) ht ∙ ap (λ x. x.tested) (sym (in_item hf hb z))

  -- nothing, where nothing is counted of the two
  pub empty_item : tally_for file (i, j) ≡ none_yet → nothing ≡ item_of file i j
  unfolding item_of found_for
  empty_item h = rw h (go (is_training (entry_at file j).set))
    where
      none : leak (entry_at file i).last (own_for file i) none_yet ≡ false
      none = by (is_second (entry_at file i).last)
        where
          by : (b : Bool) → cond b (leak_by_second (own_for file i) none_yet) (leak_by_first none_yet) ≡ false
          by true = no_leak (own_for file i) none_yet (unfold own_for in own_not_below file (entry_at file i)) refl refl
          by false = refl

      go : (b : Bool) → nothing ≡ cond b (found_on (entry_at file i) (own_for file i) (entry_at file j).id none_yet) nothing
      go true = sym (ap (λ l. found_by (cond l (record { test = (entry_at file i).id; train = (entry_at file j).id; pairs = 0 } ∷ []) []) 0 0) none)
      go false = refl

-- a leak added, and one more that only touches, if they do, and the pairs that were tested
pub pair_added : (before : Found) (e : Entry) (own : Float) (id : ℕ) (t : Tally) {ls : List Leak} {more n k : ℕ} → ls ≡ before.leaks ++ leak_on e own id t → more ≡ once (only_touch t) → n ≡ before.touching + more → k ≡ before.tested + t.tested → found_by ls n k ≡ together before (found_on e own id t)
pair_added before e own id t p q r u = found_same p (r ∙ ap (λ k. before.touching + k) q) u

-- what is gathered in several steps
pub with_nothing : (a : Found) {item : Found} → nothing ≡ item → a ≡ together a item
with_nothing a h = sym (none_behind a) ∙ ap (together a) h

pub row_none : (file : List ℕ) (i : ℕ) (a : Found) → a ≡ together a (row_to file i 0)
unfolding row_to
row_none file i a = sym (none_behind a)

pub row_turn : (file : List ℕ) (i j : ℕ) (a : Found) {b c : Found} → b ≡ together a (row_to file i j) → c ≡ together b (item_of file i j) → c ≡ together a (row_to file i (j + 1))
row_turn file i j a p q = q ∙ (ap (λ x. together x (item_of file i j)) p ∙ (assoc a (row_to file i j) (item_of file i j) ∙ ap (together a) (last ∙ ap (row_to file i) (sym (add-one j)))))
  where
    last : together (row_to file i j) (item_of file i j) ≡ row_to file i (suc j)
    last = unfold row_to in refl

-- whether there is a row, as the code asks
pub row_if : (file : List ℕ) (i : ℕ) {e : Entry} {b x : Bool} → e ≡ entry_at file i → b ≡ is_test e.set → b ≡ x → test_of file i ≡ cond x (row_to file i (count_of file)) nothing
unfolding test_of
row_if file i h hb z = ap (λ y. cond y (row_to file i (count_of file)) nothing) (ap (λ e. is_test e.set) (sym h) ∙ (sym hb ∙ z))

pub list_none : (file : List ℕ) → nothing ≡ list_to file 0
unfolding list_to
list_none file = refl

pub list_turn : (file : List ℕ) (i : ℕ) {b c : Found} → b ≡ list_to file i → c ≡ together b (test_of file i) → c ≡ list_to file (i + 1)
list_turn file i p q = q ∙ (ap (λ x. together x (test_of file i)) p ∙ (last ∙ ap (list_to file) (sym (add-one i))))
  where
    last : together (list_to file i) (test_of file i) ≡ list_to file (suc i)
    last = unfold list_to in refl

-- ---- and all of it is what there is by the rules
module _ (file : List ℕ) where
  -- of these pairs of recordings
  over : List (ℕ × ℕ) → Found
  over [] = nothing
  over (p ∷ ps) = together (found_for file p) (over ps)

  over-append : (ps qs : List (ℕ × ℕ)) → over (ps ++ qs) ≡ together (over ps) (over qs)
  unfolding over
  over-append [] qs = sym (none_before (over qs))
  over-append (p ∷ ps) qs = ap (together (found_for file p)) (over-append ps qs) ∙ sym (assoc (found_for file p) (over ps) (over qs))

  -- how many triangle pairs of these were tested
  abbrev tested_in : List (ℕ × ℕ) → ℕ
  tested_in ps = folded ◌+◌ 0 (map (λ p. (tally_for file p).tested) ps)

  -- the leaks among them, those that only touch, and that number
  over_is : (ps : List (ℕ × ℕ)) → over ps ≡ found_by (map (leak_of file) (filter (is_leak file) ps)) (length (filter (is_touching file) ps)) (tested_in ps)
  unfolding over filter
  over_is [] = unfold folded in refl
  over_is (p ∷ ps) = ap (together (found_for file p)) (over_is ps) ∙ (unfold found_for leak_of in go (is_leak file p) (is_touching file p))
    where
      more : (tally_for file p).tested + tested_in ps ≡ tested_in (p ∷ ps)
      more = from_none (tally_for file p).tested (tested_in ps) ∙ (sym (sum_from (0 + (tally_for file p).tested) (map (λ p. (tally_for file p).tested) ps)) ∙ (unfold folded in refl))
        where
          from_none : (n k : ℕ) → n + k ≡ 0 + n + k
          from_none n k = omega arith

      go : (b c : Bool) →
          together (found_by (cond b (record { test = (entry_at file p.0).id; train = (entry_at file p.1).id; pairs = (tally_for file p).overlapping } ∷ []) []) (once c) (tally_for file p).tested) (found_by (map (leak_of file) (filter (is_leak file) ps)) (length (filter (is_touching file) ps)) (tested_in ps))
          ≡ found_by (map (leak_of file) (cond b (p ∷ filter (is_leak file) ps) (filter (is_leak file) ps))) (length (cond c (p ∷ filter (is_touching file) ps) (filter (is_touching file) ps))) (tested_in (p ∷ ps))
      go true true = unfold leak_of in found_same refl (omega arith) more
      go true false = unfold leak_of in found_same refl (omega arith) more
      go false true = found_same refl (omega arith) more
      go false false = found_same refl (omega arith) more

  abbrev training_at : ℕ → Bool
  training_at j = is_training (entry_at file j).set

  abbrev test_at : ℕ → Bool
  test_at i = is_test (entry_at file i).set

  -- recording i with these
  abbrev pairs_with : ℕ → List ℕ → List (ℕ × ℕ)
  pairs_with i js = map (λ j. (i, j)) js

  one_item : (i j : ℕ) → over (pairs_with i (filter training_at (j ∷ []))) ≡ item_of file i j
  unfolding over item_of filter
  one_item i j = go (training_at j)
    where
      go : (b : Bool) → over (pairs_with i (cond b (j ∷ []) [])) ≡ cond b (found_for file (i, j)) nothing
      go true = none_behind (found_for file (i, j))
      go false = refl

  row_all : (i n : ℕ) → over (pairs_with i (filter training_at (up_to n))) ≡ row_to file i n
  unfolding up_to row_to
  row_all i zero = unfold over filter in refl
  row_all i (suc n) =
      ap (λ js. over (pairs_with i js)) (filter-append training_at (up_to n) (n ∷ []))
      ∙ (ap over (map-append (λ j. (i, j)) (filter training_at (up_to n)) (filter training_at (n ∷ [])))
      ∙ (over-append (pairs_with i (filter training_at (up_to n))) (pairs_with i (filter training_at (n ∷ []))) ∙ ap₂ together (row_all i n) (one_item i n)))

  -- test recordings with all training recordings
  abbrev rows : List ℕ → List (ℕ × ℕ)
  rows is = each (λ i. pairs_with i (filter training_at (up_to (count_of file)))) is

  one_test : (i : ℕ) → over (rows (filter test_at (i ∷ []))) ≡ test_of file i
  unfolding filter each test_of
  one_test i = go (test_at i)
    where
      go : (b : Bool) → over (rows (cond b (i ∷ []) [])) ≡ cond b (row_to file i (count_of file)) nothing
      go true = ap over (append-nil (pairs_with i (filter training_at (up_to (count_of file))))) ∙ row_all i (count_of file)
      go false = unfold over in refl

  list_all : (n : ℕ) → over (rows (filter test_at (up_to n))) ≡ list_to file n
  unfolding up_to list_to
  list_all zero = unfold filter each over in refl
  list_all (suc n) =
      ap (λ is. over (rows is)) (filter-append test_at (up_to n) (n ∷ []))
      ∙ (ap over (each_append (λ i. pairs_with i (filter training_at (up_to (count_of file)))) (filter test_at (up_to n)) (filter test_at (n ∷ [])))
      ∙ (over-append (rows (filter test_at (up_to n))) (rows (filter test_at (n ∷ []))) ∙ ap₂ together (list_all n) (one_test n)))

  by_walk : list_to file (count_of file) ≡ found_by (leaks file) (touching file) (tested_in (recording_pairs file))
  unfolding leaks leak_pairs touching touching_pairs recording_pairs tests trainings
  by_walk = sym (list_all (count_of file)) ∙ over_is (recording_pairs file)

  pub gathered : list_to file (count_of file) ≡ found_by_rules file
  gathered = by_walk ∙ found_same refl refl (sym (tested_walked_lem file))

-- ---- recording by recording, how many were formerly held back
pub formerly_none : (file : List ℕ) → 0 ≡ formerly_to file 0
unfolding formerly_to up_to count
formerly_none file = refl

-- an entry's set as it is read
pub set_is : (file : List ℕ) (k at : ℕ) {set : ℕ} → at ≡ table_place file → set ≡ byte_at file (at + 12 * k + 10) → set ≡ (entry_at file k).set
unfolding entry_at entry_from entry_place
set_is file k at h p = p ∙ ap (λ t. byte_at file (t + 12 * k + 10)) h

pub formerly_turn : (file : List ℕ) (k : ℕ) {b : Bool} {sum one : ℕ} → sum ≡ formerly_to file k → b ≡ is_retired (entry_at file k).set → one ≡ once b → sum + one ≡ formerly_to file (k + 1)
unfolding formerly_to up_to count
formerly_turn file k p r s = ap₂ ◌+◌ p (s ∙ ap once r) ∙ (sym (count-append (λ j. is_retired (entry_at file j).set) (up_to k) (k ∷ [])) ∙ ap (formerly_to file) (sym (add-one k)))

pub formerly_all : (file : List ℕ) → formerly_to file (count_of file) ≡ formerly_held_back file
unfolding formerly_to formerly_held_back formerly
formerly_all file = sym (filter-count (λ k. is_retired (entry_at file k).set) (up_to (count_of file)))

-- ---- a good file's bytes, where its table begins and how many recordings it has, as they are read
pub few_in : (f : Footprint) {at : ℕ} → at ≡ table_place (contents f) → at / 24 ≤ 2730
unfolding triangles_of
few_in f p = let few : table_place (contents f) / 24 ≤ 2730 = few_triangles (contents f) (has_Layout (contents f) f.good) in omega (arith, p, few)

pub record Opened (bytes : List ℕ) (at count : ℕ) : Type 0 where
  pub good : Layout bytes
  pub place : at ≡ table_place bytes
  pub in_file : at ≤ 65536
  pub all : at / 24 ≡ triangles_of bytes
  pub few : at / 24 ≤ 2730
  pub recordings : count ≡ count_of bytes

pub opened : (f : Footprint) (bytes : List ℕ) {at count : ℕ} → bytes ≡ contents f → at ≡ table_place (contents f) → count ≡ count_of (contents f) → Opened bytes at count
unfolding triangles_of
opened f bytes {at} e p n =
    let good : Layout bytes = has_Layout bytes (ap (λ b. (verdict b).number) e ∙ f.good) in
    let place : at ≡ table_place bytes = p ∙ ap table_place (sym e) in
    let all : at / 24 ≡ triangles_of bytes = ap (λ t. t / 24) place in
    let few = few_triangles bytes good in
    record {
      good = good;
      place = place;
      in_file = omega (arith, good.filled, good.at_most65536, place);
      all = all;
      few = omega (arith, all, few);
      recordings = n ∙ ap count_of (sym e);
    }
