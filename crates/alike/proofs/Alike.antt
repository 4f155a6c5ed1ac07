-- What is kept of two recordings turns on their triangles, and so does an own area: not on sets, and not on last bytes. Assumes nothing.
use Prim.Native.Nat.{ℕ, ◌+◌, ◌*◌, ◌<◌, ◌≤◌}
use mathlib.Core.Path.{◌≡◌, refl, sym, ap, ap₂, ◌∙◌}
use mathlib.Core.List.{List, ◌++◌, map, Memᴰ}
use native.Mathlib.Omega.{arith}
use lib.ListN.{length}
use lib.Ieee.{binary64, add, mul}
use Rattle.floats.specs.Finite.{nought}
use Rattle.floats.specs.Lists.{filter}
use Rattle.triangles.specs.Positions.{half}
use Rattle.layout.specs.Parts.{table_place, count_of, entry_at}
use Rattle.layout.specs.Layout.{Layout}
use Rattle.layout.specs.Recordings.{f64_at}
use Rattle.layout.proofs.Inside.{parts_inside}
use Rattle.listing.specs.Turns.{up_to, each, folded}
use Rattle.listing.specs.Pairs.{place_in, coordinates_at, values_at, triangle_pairs, tallied, none_yet, tally_of, absolute, e_at, sizes_of, own_area, only_touch}
use Rattle.listing.specs.Leaks.{recording_pairs, tally_for, own_for, is_touching, touching_pairs, touching, tested}
use Rattle.listing.proofs.Turns.{below, map_same_in, filter_same_in}
use Rattle.listing.proofs.Tallied.{pair_of}
use Rattle.listing.proofs.Demand.{in_pairs, tested_walked_lem}
use Rattle.alike.specs.Alike.{Alike, AllKeptAlike}

module _ (file other : List ℕ) (l : Layout file) (s : Alike file other) where
  -- ---- a triangle's coordinates, and its e
  f64_same : (at : ℕ) → at + 4 ≤ table_place file → f64_at other at ≡ f64_at file at
  unfolding f64_at
  f64_same at h = rw (s.number at h) refl

  coordinates_same : (at : ℕ) → at + 24 ≤ table_place file → coordinates_at other at ≡ coordinates_at file at
  unfolding coordinates_at
  coordinates_same at h =
      rw (f64_same at (omega (arith, h)), f64_same (at + 4) (omega (arith, h)), f64_same (at + 8) (omega (arith, h)), f64_same (at + 12) (omega (arith, h)), f64_same (at + 16) (omega (arith, h)), f64_same (at + 20) (omega (arith, h))) refl

  e_same : (at : ℕ) → at + 24 ≤ table_place file → e_at other at ≡ e_at file at
  unfolding e_at
  e_same at h =
      rw (f64_same at (omega (arith, h)), f64_same (at + 4) (omega (arith, h)), f64_same (at + 8) (omega (arith, h)), f64_same (at + 12) (omega (arith, h)), f64_same (at + 16) (omega (arith, h)), f64_same (at + 20) (omega (arith, h))) refl

  -- ---- a triangle of a recording
  place_same : (i a : ℕ) → i < count_of file → place_in (entry_at other i) a ≡ place_in (entry_at file i) a
  place_same i a h = ap (λ f. f + 24 * a) (s.first i h)

  inside : (i a : ℕ) → i < count_of file → a < (entry_at file i).count → place_in (entry_at file i) a + 24 ≤ table_place file
  inside i a h k = let p = (parts_inside file i l h).before_table in omega (arith, p, k)

  values_same : (i j a b : ℕ) → i < count_of file → j < count_of file → a < (entry_at file i).count → b < (entry_at file j).count → values_at other (entry_at other i) (entry_at other j) a b ≡ values_at file (entry_at file i) (entry_at file j) a b
  unfolding values_at
  values_same i j a b hi hj ha hb =
      ap₂ (λ p q. coordinates_at other p ++ coordinates_at other q) (place_same i a hi) (place_same j b hj)
      ∙ ap₂ ◌++◌ (coordinates_same (place_in (entry_at file i) a) (inside i a hi ha)) (coordinates_same (place_in (entry_at file j) b) (inside j b hj hb))

  pairs_same : (i j : ℕ) → i < count_of file → j < count_of file → triangle_pairs (entry_at other i) (entry_at other j) ≡ triangle_pairs (entry_at file i) (entry_at file j)
  unfolding triangle_pairs
  pairs_same i j hi hj = ap₂ (λ m n. each (λ a. map (λ b. (a, b)) (up_to n)) (up_to m)) (s.count i hi) (s.count j hj)

  -- ---- what is kept of two recordings
  tally_same : (i j : ℕ) → i < count_of file → j < count_of file → tally_for other (i, j) ≡ tally_for file (i, j)
  unfolding tally_for tally_of
  tally_same i j hi hj =
      let e = entry_at file i in
      let f = entry_at file j in
      ap (λ ps. folded tallied none_yet (map (λ p. values_at other (entry_at other i) (entry_at other j) p.0 p.1) ps)) (pairs_same i j hi hj)
      ∙ ap (folded tallied none_yet) (map_same_in (λ p. values_at other (entry_at other i) (entry_at other j) p.0 p.1) (λ p. values_at file e f p.0 p.1) (triangle_pairs e f) (λ p m. let r = pair_of e f m in values_same i j p.0 p.1 hi hj r.0 r.1))

  own_same : (i : ℕ) → i < count_of file → own_for other i ≡ own_for file i
  unfolding own_for own_area sizes_of
  own_same i h =
      ap (λ n. mul binary64 half (folded (add binary64) nought (map (λ a. absolute (e_at other (place_in (entry_at other i) a))) (up_to n)))) (s.count i h)
      ∙ ap (λ ss. mul binary64 half (folded (add binary64) nought ss)) (map_same_in (λ a. absolute (e_at other (place_in (entry_at other i) a))) (λ a. absolute (e_at file (place_in (entry_at file i) a))) (up_to (entry_at file i).count) (λ a m. ap absolute (ap (e_at other) (place_same i a h) ∙ e_same (place_in (entry_at file i) a) (inside i a h (below (entry_at file i).count m)))))

  -- ---- and over all pairs of a test and a training recording
  of_pair : (p : ℕ × ℕ) → Memᴰ p (recording_pairs file) → tally_for other p ≡ tally_for file p
  of_pair p m = let c = in_pairs file m in tally_same p.0 p.1 c.recording c.other

  touching_same_lem : recording_pairs other ≡ recording_pairs file → touching other ≡ touching file
  unfolding touching touching_pairs
  touching_same_lem q = ap length (ap (filter (is_touching other)) q ∙ filter_same_in (is_touching other) (is_touching file) (recording_pairs file) (λ p m. ap only_touch (of_pair p m)))

  tested_same_lem : recording_pairs other ≡ recording_pairs file → tested other ≡ tested file
  tested_same_lem q =
      tested_walked_lem other
      ∙ (ap (λ ps. folded ◌+◌ 0 (map (λ p. (tally_for other p).tested) ps)) q
      ∙ (ap (folded ◌+◌ 0) (map_same_in (λ p. (tally_for other p).tested) (λ p. (tally_for file p).tested) (recording_pairs file) (λ p m. ap (λ t. t.tested) (of_pair p m)))
      ∙ sym (tested_walked_lem file)))

pub all_kept_alike : AllKeptAlike
all_kept_alike file other l s = record { tally = tally_same file other l s; own = own_same file other l s; touching_same = touching_same_lem file other l s; tested_same = tested_same_lem file other l s }
