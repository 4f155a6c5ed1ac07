-- 01, "The leak list", with 02, No. 1, No. 3 and No. 8: the triangle pairs of a test and a training recording in order, their decisions, and what is kept of them: how many overlap, how many touch and how many are given to the triangle rules, whether one is refused, and the sum of their areas; the test recording's own area; and what that makes of the two recordings, by either edition of the rule. Definitions only.
use Rattle.std.specs.Prelude.{ℕ, ◌+◌, ◌*◌, Bool, false, ◌&&◌, ◌||◌, cond, eqb, ltb, Float}
use mathlib.Core.List.{List, [], ◌∷◌, ◌++◌, map}
use Rattle.std.specs.Float.Ieee.{binary64, add, mul, neg, lt, of_bits}
use Rattle.floats.specs.Lists.{once}
use Rattle.floats.specs.Finite.{nought}
use Rattle.floats.specs.Way.{f64, given_point}
use Rattle.lines.specs.Parameters.{e_of}
use Rattle.triangles.specs.declared.Decision.{Decision}
use Rattle.boxes.specs.Near.{is_near}
use Rattle.triangles.specs.Positions.{half}
use Rattle.triangles.specs.Decision.{decision_of, overlaps, touches, is_refused, with_area}
use Rattle.sets.specs.Editions.{is_second}
use Rattle.layout.specs.declared.Entry.{Entry}
use Rattle.layout.specs.Recordings.{f64_at}
use Rattle.listing.specs.declared.Tally.{Tally}
use Rattle.listing.specs.Turns.{up_to, each, folded}

-- where triangle a of a recording stands
abbrev pub place_in : Entry → ℕ → ℕ
place_in e a = e.first + 24 * a

-- all pairs of their triangles: test triangles as they are stored, and with each of them the training triangles as they are stored
unfoldable pub triangle_pairs : Entry → Entry → List (ℕ × ℕ)
unfolding up_to each
triangle_pairs test train = each (λ a. map (λ b. (a, b)) (up_to train.count)) (up_to test.count)

module _ (file : List ℕ) where
  -- the coordinates of the triangle at a place
  unfoldable pub coordinates_at : ℕ → List Float
  unfolding f64_at
  coordinates_at at = f64_at file at ∷ f64_at file (at + 4) ∷ f64_at file (at + 8) ∷ f64_at file (at + 12) ∷ f64_at file (at + 16) ∷ f64_at file (at + 20) ∷ []

  -- the twelve values of a pair: the test triangle a is U, the training triangle b is V
  unfoldable pub values_at : Entry → Entry → ℕ → ℕ → List Float
  unfolding coordinates_at
  values_at test train a b = coordinates_at (place_in test a) ++ coordinates_at (place_in train b)

  -- what is decided of it, and whether its boxes share a point
  unfoldable pub decision_at : Entry → Entry → ℕ → ℕ → Decision
  unfolding values_at decision_of
  decision_at test train a b = decision_of (values_at test train a b)

  unfoldable pub near_at : Entry → Entry → ℕ → ℕ → Bool
  unfolding values_at is_near
  near_at test train a b = is_near (values_at test train a b)

  unfoldable pub decisions : Entry → Entry → List Decision
  unfolding decision_at triangle_pairs
  decisions test train = map (λ p. decision_at test train p.0 p.1) (triangle_pairs test train)

-- ---- what is kept of two recordings
-- nothing counted yet, none refused, and a sum of 0.0; and one more pair: what is decided of it, whether it is given to the triangle rules, whether it is refused, and its area, if it has one, added to the sum
abbrev pub none_yet : Tally
none_yet = record { overlapping = 0; touching = 0; tested = 0; refused = false; area = nought }

abbrev pub tallied : Tally → List Float → Tally
tallied t values =
    let d = decision_of values in
    record { overlapping = t.overlapping + once (overlaps d); touching = t.touching + once (touches d); tested = t.tested + once (is_near values); refused = t.refused || is_refused d; area = with_area t.area d }

-- all of them, in their order
unfoldable pub tally_of : List ℕ → Entry → Entry → Tally
unfolding triangle_pairs values_at folded decision_of is_near
tally_of file test train = folded tallied none_yet (map (λ p. values_at file test train p.0 p.1) (triangle_pairs test train))

-- ---- the own area of a test recording
-- a value without its sign: its negation if it is below zero, else itself
abbrev pub absolute : Float → Float
absolute e = cond (lt e nought) (neg e) e

module _ (file : List ℕ) where
  -- e of the triangle at a place
  unfoldable pub e_at : ℕ → Float
  unfolding f64_at
  e_at at = (e_of f64 (given_point (f64_at file at) (f64_at file (at + 4))) (given_point (f64_at file (at + 8)) (f64_at file (at + 12))) (given_point (f64_at file (at + 16)) (f64_at file (at + 20)))).value

  -- the absolute e of its triangles, as they are stored
  unfoldable pub sizes_of : Entry → List Float
  unfolding e_at up_to
  sizes_of r = map (λ a. absolute (e_at (place_in r a))) (up_to r.count)

  -- half their sum, added in this order from 0.0, each operation rounded once
  unfoldable pub own_area : Entry → Float
  unfolding sizes_of folded
  own_area r = mul binary64 half (folded (add binary64) nought (sizes_of r))

-- ---- the rule
-- edition 1: two recordings leak if one of their triangle pairs overlaps
abbrev pub leak_by_first : Tally → Bool
leak_by_first t = ltb 0 t.overlapping

-- 100.0
abbrev pub hundred : Float
hundred = of_bits binary64 0x4059_0000_0000_0000

-- edition 2: if 100 times the sum of the areas is above the test recording's own area, or if a pair is refused, whatever the sum is
abbrev pub leak_by_second : Float → Tally → Bool
leak_by_second own t = t.refused || lt own (mul binary64 hundred t.area)

-- by the edition that the test recording's last byte names, with its own area
abbrev pub leak : ℕ → Float → Tally → Bool
leak last own t = cond (is_second last) (leak_by_second own t) (leak_by_first t)

-- by either edition they only touch if one touches and none overlaps
abbrev pub only_touch : Tally → Bool
only_touch t = eqb t.overlapping 0 && ltb 0 t.touching
