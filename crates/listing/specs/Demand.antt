-- Demand 2 of the leak list, in the words of 02, No. 1, No. 3, No. 7 and No. 8: which lines there are, in which order, what stands in them, what the two closing lines count, and how many triangle pairs are given to the triangle rules, in facts about the file's recordings and triangles. Statements only.
use Rattle.std.specs.Prelude.{ℕ, ◌+◌, ◌*◌, ◌<◌, ◌≡◌, ◌⊎◌, ◌↔◌, true, false, length, get_or, pos, Float}
use mathlib.Core.List.{List, [], ◌∷◌, map, Memᴰ}
use Rattle.std.specs.Float.{binary64}
use Rattle.std.specs.Float.Ieee.{add, mul, lt, of_int}
use Rattle.floats.specs.Lists.{count}
use Rattle.floats.specs.Finite.{nought}
use Rattle.triangles.specs.declared.Decision.{Decision}
use Rattle.triangles.specs.declared.Decision.TheVariants.{Refused, Overlapping, Touching, Apart}
use Rattle.triangles.specs.Pair.{e_of_u}
use Rattle.triangles.specs.Positions.{half}
use Rattle.floats.specs.declared.Position.{Position}
use Rattle.boxes.specs.Shared.{box_around, In}
use Rattle.boxes.specs.Near.{corners_of_u, corners_of_v, is_near, Far}
use Rattle.triangles.specs.Decision.{overlaps, touches, by_rules, decision_of}
use Rattle.centimetres.specs.Centimetres.{twelve_values}
use Rattle.layout.specs.Recordings.{part_of}
use Rattle.layout.specs.Parts.{count_of, entry_at, triangle_from}
use Rattle.layout.specs.Layout.{Layout}
use Rattle.listing.specs.Turns.{up_to, each, folded}
use Rattle.listing.specs.declared.Tally.{Tally}
use Rattle.listing.specs.Pairs.{place_in, values_at, decision_at, decisions, tallied, absolute, e_at, hundred, leak_by_first}
use Rattle.sets.specs.Sets.{TrainingSet}
use Rattle.listing.specs.Leaks.{Leak, tests, trainings, recording_pairs, tally_for, own_for, leak_pairs, leak_of, leaks, touching_pairs, touching, tested_pairs, tested, formerly, formerly_held_back}

-- the triangles a of recording i, as U, and b of recording j, as V, overlap; or touch
abbrev pub Overlap : List ℕ → ℕ → ℕ → ℕ → ℕ → Type 0
Overlap file i j a b = overlaps (decision_at file (entry_at file i) (entry_at file j) a b) ≡ true

abbrev pub Touch : List ℕ → ℕ → ℕ → ℕ → ℕ → Type 0
Touch file i j a b = touches (decision_at file (entry_at file i) (entry_at file j) a b) ≡ true

-- or they are refused
abbrev pub RefusedPair : List ℕ → ℕ → ℕ → ℕ → ℕ → Type 0
RefusedPair file i j a b = (k : ℕ) × (decision_at file (entry_at file i) (entry_at file j) a b ≡ Refused k)

-- the area that is decided of a pair, if it has one: a refused pair has none
abbrev pub area_in : Decision → List Float
area_in (Refused k) = []
area_in (Overlapping a) = a ∷ []
area_in Touching = []
area_in Apart = []

-- the areas of the overlapping triangle pairs of recordings i and j, added in the order in which the pairs are decided, from 0.0
unfoldable pub sum_of_areas : List ℕ → ℕ → ℕ → Float
unfolding folded each decisions entry_at
sum_of_areas file i j = folded (add binary64) nought (each area_in (decisions file (entry_at file i) (entry_at file j)))

-- i is a test recording of the table and j a training recording, which is stored with set 0 or, where it was held back once, with set 2
pub record Compared (file : List ℕ) (i j : ℕ) : Type 0 where
  pub recording : i < count_of file
  pub test : (entry_at file i).set ≡ 1
  pub other : j < count_of file
  pub training : TrainingSet (entry_at file j).set

-- a triangle of recording i and one of recording j of which something holds
abbrev pub SomePair : List ℕ → ℕ → ℕ → (ℕ → ℕ → Type 0) → Type 0
SomePair file i j Holds = (a : ℕ) × (b : ℕ) × (a < (entry_at file i).count) × (b < (entry_at file j).count) × Holds a b

-- the factor of the comparison is the f64 of the whole number 100
abbrev pub AHundred : Type 0
AHundred = hundred ≡ of_int binary64 (pos 100)

-- they leak by edition 1: at least one of their triangle pairs overlaps
abbrev pub FirstLeak : List ℕ → ℕ → ℕ → Type 0
FirstLeak file i j = SomePair file i j (Overlap file i j)

-- they leak by edition 2: 100 times the sum of the areas is above the own area of the test recording, or a triangle pair is refused
abbrev pub SecondLeak : List ℕ → ℕ → ℕ → Type 0
SecondLeak file i j = (lt (own_for file i) (mul binary64 hundred (sum_of_areas file i j)) ≡ true) ⊎ SomePair file i j (RefusedPair file i j)

-- they leak: by edition 2 where the test recording's last byte is 1, else by edition 1
pub record Leaking (file : List ℕ) (i j : ℕ) : Type 0 where
  pub compared : Compared file i j
  pub first : ((entry_at file i).last ≡ 1 → ⊥) → FirstLeak file i j
  pub second : (entry_at file i).last ≡ 1 → SecondLeak file i j

-- they only touch: one of their triangle pairs touches and none overlaps
pub record OnlyTouching (file : List ℕ) (i j : ℕ) : Type 0 where
  pub compared : Compared file i j
  pub pair : SomePair file i j (Touch file i j)
  pub no_other : SomePair file i j (Overlap file i j) → ⊥

-- the triangles a of recording i, a test recording, and b of recording j, a training recording, have boxes that share a point
pub record Tested (file : List ℕ) (i j a b : ℕ) : Type 0 where
  pub compared : Compared file i j
  pub in_test : a < (entry_at file i).count
  pub in_training : b < (entry_at file j).count
  pub near : is_near (values_at file (entry_at file i) (entry_at file j) a b) ≡ true

-- table order: of test recordings, and of training recordings within a test recording
abbrev pub InTableOrder : ℕ × ℕ → ℕ × ℕ → Type 0
InTableOrder p q = (p.0 < q.0) ⊎ ((p.0 ≡ q.0) × (p.1 < q.1))

-- every triangle pair of two recordings is decided, once: test triangles in stored order, with each the training triangles in stored order
pub record AllDecided (file : List ℕ) (i j : ℕ) : Type 0 where
  pub how_many : length (decisions file (entry_at file i) (entry_at file j)) ≡ (entry_at file i).count * (entry_at file j).count
  pub in_turn : (a b : ℕ) → a < (entry_at file i).count → b < (entry_at file j).count → get_or (decisions file (entry_at file i) (entry_at file j)) (a * (entry_at file j).count + b) Apart ≡ decision_at file (entry_at file i) (entry_at file j) a b

-- line k of the list, by its pair of recordings; beyond the end, that of none
abbrev pub line_for : List ℕ → ℕ → ℕ × ℕ
line_for file k = get_or (leak_pairs file) k (0, 0)

-- and of those that only touch
abbrev pub touching_for : List ℕ → ℕ → ℕ × ℕ
touching_for file k = get_or (touching_pairs file) k (0, 0)

-- and of the triangle pairs that are given to the triangle rules
abbrev pub tested_for : List ℕ → ℕ → (ℕ × ℕ) × (ℕ × ℕ)
tested_for file k = get_or (tested_pairs file) k ((0, 0), (0, 0))

abbrev pub no_leak : Leak
no_leak = record { test = 0; train = 0; pairs = 0 }

pub record ListDemand2 (file : List ℕ) : Type 0 where
  -- a line stands there for two recordings if and only if they leak by the test recording's edition, and for no other two
  pub exactly_if : (i j : ℕ) → Memᴰ (i, j) (leak_pairs file) ↔ Leaking file i j
  -- the lines are in table order; so no two are for the same two recordings
  pub in_order : (k l : ℕ) → k < l → l < length (leak_pairs file) → InTableOrder (line_for file k) (line_for file l)
  pub once : (k l : ℕ) → k < length (leak_pairs file) → l < length (leak_pairs file) → line_for file k ≡ line_for file l → k ≡ l
  -- a line has the ids of its two recordings and N, and N is how many of their triangle pairs overlap
  pub as_many : length (leaks file) ≡ length (leak_pairs file)
  pub line : (k : ℕ) → k < length (leak_pairs file) → get_or (leaks file) k no_leak ≡ leak_of file (line_for file k)
  pub named : (i j : ℕ) → ((leak_of file (i, j)).test ≡ (entry_at file i).id) × ((leak_of file (i, j)).train ≡ (entry_at file j).id) × ((leak_of file (i, j)).pairs ≡ (tally_for file (i, j)).overlapping)
  pub counted : (i j : ℕ) → (tally_for file (i, j)).overlapping ≡ count overlaps (decisions file (entry_at file i) (entry_at file j))
  pub decided : (i j : ℕ) → AllDecided file i j
  -- what is kept beside N: the sum of the areas, and whether a pair is refused
  pub summed : (i j : ℕ) → (tally_for file (i, j)).area ≡ sum_of_areas file i j
  pub refused_one : (i j : ℕ) → ((tally_for file (i, j)).refused ≡ true) ↔ SomePair file i j (RefusedPair file i j)
  -- the own area of a recording: half the sum, from 0.0 in stored order, of the absolute e of its triangles; and that is the e of the triangle rules, with whatever V
  pub own : (i : ℕ) → own_for file i ≡ mul binary64 half (folded (add binary64) nought (map (λ a. absolute (e_at file (place_in (entry_at file i) a))) (up_to (entry_at file i).count)))
  pub same_e : (i j a b : ℕ) → e_at file (place_in (entry_at file i) a) ≡ (e_of_u (values_at file (entry_at file i) (entry_at file j) a b)).value
  -- by either edition a triangle pair of theirs overlaps: so a leak is one by edition 1 as well
  pub some_overlap : (i j : ℕ) → Leaking file i j → FirstLeak file i j
  pub also_by_first : (i j : ℕ) → Memᴰ (i, j) (leak_pairs file) → leak_by_first (tally_for file (i, j)) ≡ true
  -- the number behind `touching` is how many pairs there are of a test and a training recording that only touch: the pairs counted are those and no other, and each is counted once
  pub touching_exactly_if : (i j : ℕ) → Memᴰ (i, j) (touching_pairs file) ↔ OnlyTouching file i j
  pub touching_in_order : (k l : ℕ) → k < l → l < length (touching_pairs file) → InTableOrder (touching_for file k) (touching_for file l)
  pub touching_once : (k l : ℕ) → k < length (touching_pairs file) → l < length (touching_pairs file) → touching_for file k ≡ touching_for file l → k ≡ l
  pub touching_counted : touching file ≡ length (touching_pairs file)
  -- the number of pairs given to the triangle rules is how many triangle pairs of a test and a training recording have boxes that share a point: the pairs counted are those and no other, and each is counted once
  pub tested_exactly_if : (i j a b : ℕ) → Memᴰ ((i, j), (a, b)) (tested_pairs file) ↔ Tested file i j a b
  pub tested_once : (k l : ℕ) → k < length (tested_pairs file) → l < length (tested_pairs file) → tested_for file k ≡ tested_for file l → k ≡ l
  pub tested_counted : tested file ≡ length (tested_pairs file)
  -- and it is what is counted over the walk, pair of recordings by pair of recordings
  pub tested_walked : tested file ≡ folded ◌+◌ 0 (map (λ p. (tally_for file p).tested) (recording_pairs file))
  -- the last number is how many recordings are stored with set 2, whether they meet a test recording or not: those are counted and no other, and each is counted once
  pub formerly_exactly_if : (k : ℕ) → Memᴰ k (formerly file) ↔ ((k < count_of file) × ((entry_at file k).set ≡ 2))
  pub formerly_once : (k l : ℕ) → k < length (formerly file) → l < length (formerly file) → get_or (formerly file) k 0 ≡ get_or (formerly file) l 0 → k ≡ l
  pub formerly_counted : formerly_held_back file ≡ length (formerly file)

abbrev pub DemandTwo : Type 0
DemandTwo = (file : List ℕ) → ListDemand2 file

-- every recording of a good file is a test or a training recording, and none is both: all take part
pub record TakesPart (file : List ℕ) (k : ℕ) : Type 0 where
  pub one_of_two : Memᴰ k (tests file) ⊎ Memᴰ k (trainings file)
  pub not_both : Memᴰ k (tests file) → Memᴰ k (trainings file) → ⊥

abbrev pub AllTakePart : Type 0
AllTakePart = (file : List ℕ) → Layout file → (k : ℕ) → k < count_of file → TakesPart file k

-- of a good file ids stand for recordings, so the same can be said of what is read in the list
pub record ByIds (file : List ℕ) : Type 0 where
  -- no two lines name the same two ids
  pub once : (k l : ℕ) → k < length (leaks file) → l < length (leaks file) → (get_or (leaks file) k no_leak).test ≡ (get_or (leaks file) l no_leak).test → (get_or (leaks file) k no_leak).train ≡ (get_or (leaks file) l no_leak).train → k ≡ l
  -- a line names two ids if and only if they are those of two recordings that leak
  pub exactly_if : (t r : ℕ) → ((l : Leak) × Memᴰ l (leaks file) × (l.test ≡ t) × (l.train ≡ r)) ↔ ((i : ℕ) × (j : ℕ) × Leaking file i j × ((entry_at file i).id ≡ t) × ((entry_at file j).id ≡ r))
  -- every line has an N of at least one
  pub some : (l : Leak) → Memᴰ l (leaks file) → 0 < l.pairs

abbrev pub LinesById : Type 0
LinesById = (file : List ℕ) → Layout file → ByIds file

-- what is decided of two triangles of a good file is decided of triangle a of the part of recording i, as U, and of triangle b of that of recording j, as V, each whole number as f64
abbrev pub DecidedOfParts : Type 0
DecidedOfParts = (file : List ℕ) → Layout file → (i j a b : ℕ) → i < count_of file → j < count_of file → a < (entry_at file i).count → b < (entry_at file j).count → decision_at file (entry_at file i) (entry_at file j) a b ≡ decision_of (twelve_values (triangle_from (part_of file i) (24 * a)) (triangle_from (part_of file j) (24 * b)))

-- from an accepted file no triangle pair is refused
abbrev pub NoneRefused : Type 0
NoneRefused = (file : List ℕ) → Layout file → (i j a b : ℕ) → i < count_of file → j < count_of file → a < (entry_at file i).count → b < (entry_at file j).count → (k : ℕ) → decision_at file (entry_at file i) (entry_at file j) a b ≡ Refused k → ⊥

-- the values of which this is decided and by which pairs are counted are those of the parts too
abbrev pub ValuesOfParts : Type 0
ValuesOfParts = (file : List ℕ) → Layout file → (i j a b : ℕ) → i < count_of file → j < count_of file → a < (entry_at file i).count → b < (entry_at file j).count → values_at file (entry_at file i) (entry_at file j) a b ≡ twelve_values (triangle_from (part_of file i) (24 * a)) (triangle_from (part_of file j) (24 * b))

-- of two triangles, by their values:
pub record PairByBoxes (values : List Float) : Type 0 where
  -- their boxes share a point exactly if some point is in both, and then the pair is decided by the triangle rules
  pub shared : (is_near values ≡ true) ↔ ((p : Position) × In (box_around (corners_of_u values)) p × In (box_around (corners_of_v values)) p)
  pub ruled : is_near values ≡ true → decision_of values ≡ by_rules values
  -- they share none exactly if the pair is far, and then it is apart and adds nothing to any count
  pub far : (is_near values ≡ false) ↔ Far values
  pub apart : is_near values ≡ false → decision_of values ≡ Apart
  pub adds : is_near values ≡ false → (t : Tally) → tallied t values ≡ t

-- so of any two triangles of an accepted file
abbrev pub FarApart : Type 0
FarApart = (file : List ℕ) → Layout file → (i j a b : ℕ) → i < count_of file → j < count_of file → a < (entry_at file i).count → b < (entry_at file j).count → PairByBoxes (values_at file (entry_at file i) (entry_at file j) a b)
