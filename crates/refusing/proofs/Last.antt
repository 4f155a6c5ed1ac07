-- Of a file that would be longer than a file may be 19 is said, whatever the room: so with over 2,730 triangles its length need not be computed. Assumes nothing.
use Prim.Native.Nat.{ℕ, ◌+◌, ◌*◌, ◌<◌, ◌≤◌}
use mathlib.Core.Path.{◌≡◌, refl}
use mathlib.Core.Bool.{◌||◌, or-true}
use lib.Dec.{ltb}
use borrow.Author.Tests.{lt-ltb, le-ltb}
use Rattle.filing.specs.Refusals.{number_if, or_else}

module _ (recordings triangles room : ℕ) where
  abbrev size : ℕ
  size = 24 * triangles + 12 * recordings + 12

  abbrev last : ℕ
  last = or_else (number_if (ltb 64 recordings) 13) (number_if (ltb room size || ltb 65536 size) 19)

  pub long : recordings ≤ 64 → 65536 < size → 19 ≡ last
  long few h = rw (le-ltb 64 recordings few, lt-ltb 65536 size h, or-true (ltb room size)) refl
