-- 02, No. 1: a pair that is refused overlaps. No pair of triangles of good footprint files is: their numbers are whole centimetres, in range, and each triangle has an area.
-- Definitions and statements.
use Rattle.std.specs.Prelude.{ℕ, ◌*◌, ◌<◌, ◌≤◌, ◌≡◌, length, ℤ, pos, nat_abs, Float}
use mathlib.Core.List.{List, ◌++◌, map, Memᴰ}
use Rattle.std.specs.Float.{binary64}
use Rattle.std.specs.Float.Ieee.{of_int}
use Rattle.layout.specs.Parts.{Triangle, numbers_of, count_of, entry_at, triangle_from}
use Rattle.layout.specs.Rules.{twice_area, triangle_rule}
use Rattle.layout.specs.Layout.{Layout}
use Rattle.layout.specs.Recordings.{part_of}
use Rattle.triangles.specs.declared.Decision.TheVariants.{Refused}
use Rattle.triangles.specs.Refusals.{refusal_of}
use Rattle.triangles.specs.Decision.{decision_of}

-- each of these numbers is −1,000,000 to 1,000,000
abbrev pub InRange : List ℤ → Type 0
InRange zs = (z : ℤ) → Memᴰ z zs → nat_abs z ≤ 1000000

-- a triangle in whole centimetres that can stand in a file: in range, and with an area
pub record Centimetres (t : Triangle) : Type 0 where
  pub in_range : InRange (numbers_of t)
  pub some_area : twice_area t ≡ pos 0 → ⊥

-- the twelve values of a pair, U first, each whole number as f64
abbrev pub twelve_values : Triangle → Triangle → List Float
twelve_values u v = map (of_int binary64) (numbers_of u ++ numbers_of v)

-- no row of the refusal table applies to such a pair, whatever room of twelve or more is lent
abbrev pub NeverRefused : Type 0
NeverRefused = (u v : Triangle) → Centimetres u → Centimetres v → (room : List Float) → 12 ≤ length room → refusal_of (twelve_values u v) room ≡ 0

-- so its decision is not a refusal, of whatever number
abbrev pub AlwaysDecided : Type 0
AlwaysDecided = (u v : Triangle) → Centimetres u → Centimetres v → (k : ℕ) → decision_of (twelve_values u v) ≡ Refused k → ⊥

-- ---- which triangles are such
-- one that neither 17 nor 18 is said of
abbrev pub ByTheRule : Type 0
ByTheRule = (t : Triangle) → triangle_rule t ≡ 0 → Centimetres t

-- triangle j of recording k of a good file
abbrev pub InGoodFiles : Type 0
InGoodFiles = (file : List ℕ) (k j : ℕ) → Layout file → k < count_of file → j < (entry_at file k).count → Centimetres (triangle_from (part_of file k) (24 * j))
