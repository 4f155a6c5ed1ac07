-- The steps of the writer: prepared triangles and boxes, counts and own areas from them, leaks recording by recording. That they come to the list of the rules is the writer's promise. Definitions only.
use Prim.Native.Nat.{ℕ, zero, suc, ◌+◌, ◌*◌, ◌/◌, ◌<◌}
use Rattle.std.specs.Prelude.{◌≡◌, true, ◌||◌, eqb, length, get_or, take, Float}
use Rattle.std.proofs.Math.Bool.{cond}
use mathlib.Core.List.{List, [], ◌∷◌, ◌++◌, map, Memᴰ}
use Rattle.std.specs.Float.{nan, binary64}
use Rattle.std.specs.Float.Ieee.{add, mul}
use Rattle.floats.specs.Finite.{finite, nought}
use Rattle.floats.specs.declared.Position.{Position}
use Rattle.triangles.specs.declared.Decision.{Decision}
use Rattle.triangles.specs.Positions.{half}
use Rattle.triangles.specs.Decision.{overlaps, touches, is_refused, with_area}
use Rattle.shapes.specs.declared.Shape.{Shape}
use Rattle.shapes.specs.Shapes.{shape_of, Made, six_of, twelve}
use Rattle.boxes.specs.declared.Box.{Box}
use Rattle.boxes.specs.Boxes.{box_of}
use Rattle.boxed.specs.Tables.{box_among, around_from}
use Rattle.layout.specs.declared.Entry.{Entry}
use Rattle.layout.specs.Parts.{count_of, entry_at, triangles_of}
use Rattle.layout.specs.Recordings.{f64_at}
use Rattle.layout.specs.Verdict.{number_at, verdict}
use Rattle.floats.specs.Lists.{once, count}
use Rattle.sets.specs.Sets.{is_test, is_training, is_retired}
use Rattle.sets.specs.Editions.{is_second}
use Rattle.listing.specs.declared.Tally.{Tally}
use Rattle.listing.specs.declared.Counts.{Counts}
use Rattle.listing.specs.Turns.{up_to, each, folded}
use Rattle.listing.specs.Pairs.{tallied, none_yet, absolute, leak, only_touch}
use Rattle.listing.specs.Leaks.{Leak, tally_for, own_for, leaks, touching, tested}
use Rattle.listing.specs.Words.{list_text, refused_line}
use Rattle.listing.specs.Listing.{list_of}
use Rattle.writing.specs.Triples.{leak_of}

-- ---- a prepared triangle in the table, and the same from the file
abbrev pub nowhere : Position
nowhere = record { x = nan; y = nan }

-- beyond the end of the table, where nothing is read
abbrev pub no_shape : Shape
no_shape = record { v0 = nowhere; v1 = nowhere; v2 = nowhere; a = nowhere; b = nowhere; cross = nan }

abbrev pub shape_in : List Shape → ℕ → Shape
shape_in table k = get_or table k no_shape

unfoldable pub shape_from : List ℕ → ℕ → Shape
shape_from file at = shape_of (f64_at file at) (f64_at file (at + 4)) (f64_at file (at + 8)) (f64_at file (at + 12)) (f64_at file (at + 16)) (f64_at file (at + 20))

-- the first n triangles of the file stand in the table
abbrev pub Prepared : List ℕ → ℕ → List Shape → Type 0
Prepared file n table = (k : ℕ) → k < n → shape_in table k ≡ shape_from file (24 * k)

-- ---- boxes: of the triangles of the table, in an array of their own, and of the recordings, in a third
abbrev pub box_of_shape : Shape → Box
box_of_shape s = box_of s.v0.x s.v0.y s.v1.x s.v1.y s.v2.x s.v2.y

-- the boxes of the first n triangles
abbrev pub Framed : List Shape → ℕ → List Box → Type 0
Framed table n bounds = (k : ℕ) → k < n → box_among bounds k ≡ box_of_shape (shape_in table k)

-- the own boxes of the first n recordings, each around the boxes of its triangles
abbrev pub Owned : List ℕ → List Box → ℕ → List Box → Type 0
Owned file bounds n own = (k : ℕ) → k < n → box_among own k ≡ around_from (box_among bounds) ((entry_at file k).first / 24) (entry_at file k).count

-- triangle k is as it is prepared, has finite coordinates, and its box is in its place
pub record ReadyAt (table : List Shape) (bounds : List Box) (k : ℕ) : Type 0 where
  pub made : Made (shape_in table k)
  pub all_finite : (v : Float) → Memᴰ v (six_of (shape_in table k)) → finite v ≡ true
  pub framed : box_among bounds k ≡ box_of_shape (shape_in table k)

-- every triangle of the table is
abbrev pub AllReady : List Shape → List Box → Type 0
AllReady table bounds = (k : ℕ) → k < length table → ReadyAt table bounds k

-- n triangles from j on are
abbrev pub ReadyFrom : List Shape → List Box → ℕ → ℕ → Type 0
ReadyFrom table bounds j n = (b : ℕ) → b < n → ReadyAt table bounds (j + b)

-- ---- counts from the table: m test triangles from i on, n training triangles from j on
abbrev pub values_in : List Shape → ℕ → ℕ → List Float
values_in table i j = twelve (shape_in table i) (shape_in table j)

unfoldable pub row_in : List Shape → ℕ → ℕ → ℕ → List (List Float)
row_in table i j n = map (λ b. values_in table i (j + b)) (up_to n)

-- one more pair that was given to the triangle rules, by what they decide
abbrev pub tallied_near : Tally → Decision → Tally
tallied_near t d = record { overlapping = t.overlapping + once (overlaps d); touching = t.touching + once (touches d); tested = t.tested + 1; refused = t.refused || is_refused d; area = with_area t.area d }

unfoldable pub tally_in : List Shape → ℕ → ℕ → ℕ → ℕ → Tally
unfolding row_in
tally_in table i m j n = folded tallied none_yet (each (λ a. row_in table (i + a) j n) (up_to m))

-- ---- the own area of n triangles from i on, from their crosses in the table
abbrev pub size_in : List Shape → ℕ → Float
size_in table k = absolute (shape_in table k).cross

unfoldable pub sum_in : List Shape → ℕ → ℕ → Float
sum_in table i n = folded (add binary64) nought (map (λ a. size_in table (i + a)) (up_to n))

abbrev pub own_in : List Shape → ℕ → ℕ → Float
own_in table i n = mul binary64 half (sum_in table i n)

-- of a recording, where its edition asks for it; else 0.0, which nothing asks for
abbrev pub asked_in : List Shape → Entry → Float
asked_in table e = cond (is_second e.last) (own_in table (e.first / 24) e.count) nought

-- the same of recording i by the rules
unfoldable pub area_for : List ℕ → ℕ → Float
unfolding own_for
area_for file i = cond (is_second (entry_at file i).last) (own_for file i) nought

-- ---- what the gathering of leaks goes by: a good file, all of its triangles prepared, the box of each, and the own box of each recording
pub record Gathering (file : List ℕ) (table : List Shape) (bounds own : List Box) : Type 0 where
  pub good : (verdict file).number ≡ 0
  pub size : length table ≡ triangles_of file
  pub recordings : length own ≡ count_of file
  pub prepared : Prepared file (triangles_of file) table
  pub framed : Framed table (triangles_of file) bounds
  pub owned : Owned file bounds (count_of file) own

-- ---- the first k triples as leaks
abbrev pub leaks_of : List (List ℕ) → ℕ → List Leak
leaks_of triples k = map leak_of (take k triples)

-- ---- what is found: leaks, how many pairs of recordings only touch, and how many triangle pairs were given to the triangle rules
pub record Found : Type 0 where
  pub leaks : List Leak
  pub touching : ℕ
  pub tested : ℕ

-- as the code holds it: so many triples, and two counts
abbrev pub found_in : List (List ℕ) → Counts → Found
found_in triples c = record { leaks = leaks_of triples c.leaks; touching = c.touching; tested = c.tested }

abbrev pub nothing : Found
nothing = record { leaks = []; touching = 0; tested = 0 }

-- the one, and then the other
abbrev pub together : Found → Found → Found
together a b = record { leaks = a.leaks ++ b.leaks; touching = a.touching + b.touching; tested = a.tested + b.tested }

-- of a test recording with this own area and a training recording with this id, of which this is kept: the leak, if they leak
abbrev pub leak_on : Entry → Float → ℕ → Tally → List Leak
leak_on e own train t = cond (leak e.last own t) (record { test = e.id; train = train; pairs = t.overlapping } ∷ []) []

-- and what is found
abbrev pub found_on : Entry → Float → ℕ → Tally → Found
found_on e own train t = record { leaks = leak_on e own train t; touching = once (only_touch t); tested = t.tested }

module _ (file : List ℕ) where
  -- of a test and a training recording
  unfoldable pub found_for : ℕ × ℕ → Found
  unfolding tally_for own_for
  found_for p = found_on (entry_at file p.0) (own_for file p.0) (entry_at file p.1).id (tally_for file p)

  -- of the recordings i, a test recording, and j, if that is a training recording
  unfoldable pub item_of : ℕ → ℕ → Found
  unfolding found_for
  item_of i j = cond (is_training (entry_at file j).set) (found_for (i, j)) nothing

  -- of i and the first n recordings
  unfoldable pub row_to : ℕ → ℕ → Found
  unfolding item_of
  row_to i zero = nothing
  row_to i (suc n) = together (row_to i n) (item_of i n)

  -- of recording i, if it is a test recording, and all
  unfoldable pub test_of : ℕ → Found
  unfolding row_to
  test_of i = cond (is_test (entry_at file i).set) (row_to i (count_of file)) nothing

  -- of the first n recordings and all
  unfoldable pub list_to : ℕ → Found
  unfolding test_of
  list_to zero = nothing
  list_to (suc n) = together (list_to n) (test_of n)

  -- recording i, with its entry, and its own area where that is asked for
  abbrev pub IsTestIn : ℕ → Entry → Float → Type 0
  IsTestIn i e area = (i < count_of file) × (e ≡ entry_at file i) × (area ≡ area_for file i)

  -- how many of the first n recordings were formerly held back
  unfoldable pub formerly_to : ℕ → ℕ
  formerly_to n = count (λ k. is_retired (entry_at file k).set) (up_to n)

  -- of the whole file, by the rules
  abbrev pub found_by_rules : Found
  found_by_rules = record { leaks = leaks file; touching = touching file; tested = tested file }

-- ---- what is told of a file where the room is this one: the list, or how it is refused
unfoldable pub told_of : List ℕ → List ℕ → List ℕ
told_of file room = let r = (list_of file room).result in cond (eqb r.number 0) (list_text file) (refused_line (number_at r.number r.place))
