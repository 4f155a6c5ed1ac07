-- Points and polygons in the pieces in which the code puts them: how long they are, and that behind each piece there is room for the rest. Assumes nothing.
use Prim.Native.Nat.{ℕ, ◌+◌, ◌-◌, ◌*◌, ◌<◌, ◌≤◌}
use mathlib.Core.Path.{◌≡◌, refl, sym, ap}
use mathlib.Core.Bool.{Bool, true, false}
use mathlib.Core.List.{List, ◌∷◌, ◌++◌}
use native.Mathlib.Omega.{arith}
use lib.Dec.{leb}
use borrow.Author.Tests.{leb-true, leb-false, le-leb, lt-leb}
use lib.ListN.{length, get_or, length-append}
use lib.IntN.{ℤ}
use Rattle.floats.specs.Numbers.{Point}
use Rattle.text.specs.Room.{Measured}
use Rattle.layout.specs.Bytes.{signed}
use Rattle.chart.specs.Numbers.{metres}
use Rattle.chart.specs.Words.{polygon_word, polygon_end, comma, point_text, polygon_text, triangle_text}
use Rattle.layout.specs.Parts.{triangle_by}
use Rattle.polygons.specs.Code.{point_of}
use Rattle.polygons.proofs.Numbers.{number_most}

-- ---- points
pub point_length : (x y : ℕ) {m n : ℕ} → Measured (metres (signed x)) m → Measured (metres (signed y)) n → Measured (point_text (point_of x y)) (m + n + 1)
unfolding point_text
point_length x y {m} {n} h k = let a = length-append (metres (signed x)) (32 ∷ metres (signed y)) in omega (arith, a, h, k)

-- ---- polygons
-- a vertex by the place of its x among the six numbers
abbrev vertex : List ℕ → ℕ → Point ℤ
vertex six k = point_of (get_or six k 0) (get_or six (k + 1) 0)

module _ (six : List ℕ) where
  abbrev pub first : List ℕ
  first = point_text (vertex six 0)

  abbrev pub second : List ℕ
  second = comma ++ point_text (vertex six 2)

  abbrev pub third : List ℕ
  third = comma ++ point_text (vertex six 4)

  abbrev pub fourth : List ℕ
  fourth = comma ++ point_text (vertex six 0)

  polygon_is : polygon_word ++ (first ++ (second ++ (third ++ (fourth ++ polygon_end)))) ≡ triangle_text (triangle_by six)
  unfolding triangle_text polygon_text
  polygon_is = refl

  pub polygon_length : {l m n : ℕ} → Measured (point_text (vertex six 0)) l → Measured (point_text (vertex six 2)) m → Measured (point_text (vertex six 4)) n → Measured (triangle_text (triangle_by six)) (18 + 2 * l + m + n)
  polygon_length {l} {m} {n} h k j =
      let e = ap length polygon_is in
      let a = length-append first (second ++ (third ++ (fourth ++ polygon_end))) in
      let b = length-append (point_text (vertex six 2)) (third ++ (fourth ++ polygon_end)) in
      let c = length-append (point_text (vertex six 4)) (fourth ++ polygon_end) in
      let d = length-append (point_text (vertex six 0)) polygon_end in
      omega (arith, e, a, b, c, d, h, k, j)

-- ---- no polygon is longer than 118 bytes, whatever 32 bits its numbers have
pub at_most : (six : List ℕ) → ((k : ℕ) → get_or six k 0 < 4294967296) → length (triangle_text (triangle_by six)) ≤ 118
at_most six f =
    let n = polygon_length six refl refl refl in
    let p = point_most 0 in
    let q = point_most 2 in
    let r = point_most 4 in
    omega (arith, n, p, q, r)
  where
    point_most : (k : ℕ) → length (point_text (vertex six k)) ≤ 25
    point_most k =
        let n = point_length (get_or six k 0) (get_or six (k + 1) 0) refl refl in
        omega (arith, n, number_most (get_or six k 0) (f k), number_most (get_or six (k + 1) 0) (f (k + 1)))

-- what is measured against the room that is left is measured against the room
pub left_is : (at most : ℕ) (text : List ℕ) {l : ℕ} → Measured text l → at ≤ most → leb l (most - at) ≡ leb (at + length text) most
left_is at most text {l} m h = go (leb l (most - at)) refl
  where
    go : (b : Bool) → leb l (most - at) ≡ b → b ≡ leb (at + length text) most
    go true e = let g = leb-true l (most - at) e in sym (le-leb (at + length text) most (omega (arith, g, m, h)))
    go false e = let g = leb-false l (most - at) e in sym (lt-leb (at + length text) most (omega (arith, g, m, h)))
