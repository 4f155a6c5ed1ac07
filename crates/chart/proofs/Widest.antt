-- No number of a good file has more than nine bytes, and nine only −1,000,000 has. A triangle that has an area has another number, so that its text has 92 bytes at most. Assumes nothing.
use Prim.Native.Nat.{ℕ, zero, suc, ◌+◌, ◌*◌, ◌/◌, ◌<◌, ◌≤◌}
use mathlib.Core.Path.{◌≡◌, refl, sym, ap, subst}
use mathlib.Core.Logic.{◌⊎◌, inl, inr, ⊎_elim}
use mathlib.Core.Bool.{Bool, true, false}
use mathlib.Core.List.Memᴰ.{head as here}
use mathlib.Core.List.Memᴰ.{tail as there}
use mathlib.Core.List.{List, [], ◌∷◌, ◌++◌, map, Memᴰ}
use native.Mathlib.Omega.{arith}
use lib.Dec.{ltb}
use borrow.Author.Tests.{ltb-true, ltb-false}
use lib.IntN.{ℤ, pos, negsuc, nat_abs, ◌-ℤ◌, ◌*ℤ◌, zero-*ℤ, *ℤ-zero}
use lib.ListN.{length, length-append}
use Rattle.layout.specs.Parts.{Triangle, numbers_of, entry_at, triangle_from}
use Rattle.layout.specs.Rules.{twice_area}
use Rattle.layout.specs.Recordings.{part_of}
use Rattle.layout.proofs.Inside.{parts_inside}
use Rattle.text.specs.Decimal.{decimal}
use Rattle.text.proofs.Laws.{width_most}
use Rattle.chart.specs.Numbers.{size_text, metres}
use Rattle.chart.specs.Words.{point_text, polygon_text, others, members, collection_text, triangle_text, text_of}
use Rattle.chart.specs.Recorded.{triangles_from, recording_text}
use Rattle.chart.specs.Enough.{AlwaysEnough}
use Rattle.chart.proofs.Recorded.{triangles_of_part}

-- ---- numbers
size_length : (n : ℕ) → length (size_text n) ≡ length (decimal (n / 100)) + 3
unfolding size_text
size_length n = length-append (decimal (n / 100)) _

abbrev widest : ℤ
widest = negsuc 999999

-- a number in range has at most nine bytes, and eight if it is not the widest
nine_at_most : (z : ℤ) → nat_abs z ≤ 1000000 → length (metres z) ≤ 9
unfolding metres
nine_at_most (pos n) h = let a = size_length n in let b = width_most 4 (n / 100) (omega (arith, h)) in omega (arith, a, b)
nine_at_most (negsuc n) h = let a = size_length (suc n) in let b = width_most 4 (suc n / 100) (omega (arith, h)) in omega (arith, a, b)

widest_only : (z : ℤ) → nat_abs z ≤ 1000000 → 9 ≤ length (metres z) → z ≡ widest
unfolding metres
widest_only (pos n) h w = let a = size_length n in let b = width_most 4 (n / 100) (omega (arith, h)) in absurd (omega (arith, a, b, w))
widest_only (negsuc n) h w = go (ltb (suc n) 1000000) refl
  where
    go : (b : Bool) → ltb (suc n) 1000000 ≡ b → negsuc n ≡ widest
    go true e = let l = ltb-true (suc n) 1000000 e in let a = size_length (suc n) in let b = width_most 3 (suc n / 100) (omega (arith, l)) in absurd (omega (arith, a, b, w))
    go false e = let l = ltb-false (suc n) 1000000 e in ap negsuc (same n l h)
      where
        same : (n : ℕ) → 1000000 ≤ suc n → suc n ≤ 1000000 → n ≡ 999999
        same n a b = omega (arith, a, b)

-- ---- triangles
-- with three equal x, or three equal y, there is no area
area_with : (a b c d : ℤ) → (a ≡ pos 0) × (d ≡ pos 0) → a *ℤ c -ℤ b *ℤ d ≡ pos 0
area_with a b c d z = rw (z.0, z.1, zero-*ℤ c, *ℤ-zero b) refl

flat_x : (t : Triangle) → t.v0.x ≡ widest → t.v1.x ≡ widest → t.v2.x ≡ widest → twice_area t ≡ pos 0
unfolding twice_area
flat_x t a b c = area_with (t.v1.x -ℤ t.v0.x) (t.v1.y -ℤ t.v0.y) (t.v2.y -ℤ t.v0.y) (t.v2.x -ℤ t.v0.x) (rw (a, b) refl, rw (a, c) refl)

area_with_y : (a b c d : ℤ) → (b ≡ pos 0) × (c ≡ pos 0) → a *ℤ c -ℤ b *ℤ d ≡ pos 0
area_with_y a b c d z = rw (z.0, z.1, zero-*ℤ d, *ℤ-zero a) refl

flat_y : (t : Triangle) → t.v0.y ≡ widest → t.v1.y ≡ widest → t.v2.y ≡ widest → twice_area t ≡ pos 0
unfolding twice_area
flat_y t a b c = area_with_y (t.v1.x -ℤ t.v0.x) (t.v1.y -ℤ t.v0.y) (t.v2.y -ℤ t.v0.y) (t.v2.x -ℤ t.v0.x) (rw (a, b) refl, rw (a, c) refl)

-- of six widths, the first two taken twice, that are nine at most and in all over 70, all of x are nine, or all of y
all_nine : (a b c d e f : ℕ) → a ≤ 9 → b ≤ 9 → c ≤ 9 → d ≤ 9 → e ≤ 9 → f ≤ 9 → 70 < 2 * (a + b) + c + d + e + f → ((9 ≤ a) × (9 ≤ c) × (9 ≤ e)) ⊎ ((9 ≤ b) × (9 ≤ d) × (9 ≤ f))
all_nine a b c d e f ha hb hc hd he hf h = go (ltb (c + e) 18) refl
  where
    go : (k : Bool) → ltb (c + e) 18 ≡ k → ((9 ≤ a) × (9 ≤ c) × (9 ≤ e)) ⊎ ((9 ≤ b) × (9 ≤ d) × (9 ≤ f))
    go true l = let s = ltb-true (c + e) 18 l in inr (omega (arith, ha, hb, hc, hd, he, hf, h), omega (arith, ha, hb, hc, hd, he, hf, h, s), omega (arith, ha, hb, hc, hd, he, hf, h, s))
    go false l = let s = ltb-false (c + e) 18 l in inl (omega (arith, ha, hb, hc, hd, he, hf, h), omega (arith, hc, he, s), omega (arith, hc, he, s))

module _ (t : Triangle) where
  -- 22 bytes beside eight numbers
  triangle_length : length (triangle_text t) ≡ 22 + 2 * (length (metres t.v0.x) + length (metres t.v0.y)) + length (metres t.v1.x) + length (metres t.v1.y) + length (metres t.v2.x) + length (metres t.v2.y)
  unfolding triangle_text polygon_text point_text
  triangle_length = simp length-append (omega arith)

  module _ (in_range : (z : ℤ) → Memᴰ z (numbers_of t) → nat_abs z ≤ 1000000) (some_area : twice_area t ≡ pos 0 → ⊥) where
    x0 : nat_abs t.v0.x ≤ 1000000
    x0 = in_range _ (here refl)

    y0 : nat_abs t.v0.y ≤ 1000000
    y0 = in_range _ (there (here refl))

    x1 : nat_abs t.v1.x ≤ 1000000
    x1 = in_range _ (there (there (here refl)))

    y1 : nat_abs t.v1.y ≤ 1000000
    y1 = in_range _ (there (there (there (here refl))))

    x2 : nat_abs t.v2.x ≤ 1000000
    x2 = in_range _ (there (there (there (there (here refl)))))

    y2 : nat_abs t.v2.y ≤ 1000000
    y2 = in_range _ (there (there (there (there (there (here refl))))))

    too_wide : 92 < length (triangle_text t) → ⊥
    too_wide h =
        ⊎_elim
        (λ w. some_area (flat_x t (widest_only t.v0.x x0 w.0) (widest_only t.v1.x x1 w.1) (widest_only t.v2.x x2 w.2)))
        (λ w. some_area (flat_y t (widest_only t.v0.y y0 w.0) (widest_only t.v1.y y1 w.1) (widest_only t.v2.y y2 w.2)))
        (all_nine (length (metres t.v0.x)) (length (metres t.v0.y)) (length (metres t.v1.x)) (length (metres t.v1.y)) (length (metres t.v2.x)) (length (metres t.v2.y))
        (nine_at_most t.v0.x x0) (nine_at_most t.v0.y y0) (nine_at_most t.v1.x x1) (nine_at_most t.v1.y y1) (nine_at_most t.v2.x x2) (nine_at_most t.v2.y y2)
        (let n = triangle_length in omega (arith, n, h)))

    triangle_most : length (triangle_text t) ≤ 92
    triangle_most = go (ltb 92 (length (triangle_text t))) refl
      where
        go : (k : Bool) → ltb 92 (length (triangle_text t)) ≡ k → length (triangle_text t) ≤ 92
        go true l = absurd (too_wide (ltb-true _ _ l))
        go false l = ltb-false _ _ l

-- ---- recordings
module _ (bytes : List ℕ) (count : ℕ) (each : (j : ℕ) → j < count → length (triangle_text (triangle_from bytes (24 * j))) ≤ 92) where
  others_most : (n j : ℕ) → j + n ≤ count → length (others (map triangle_text (triangles_from bytes (24 * j) n))) ≤ 94 * n
  unfolding others triangles_from
  others_most zero j h = omega arith
  others_most (suc n) j h =
      let a = each j (omega (arith, h)) in
      let b = length-append (triangle_text (triangle_from bytes (24 * j))) (others (map triangle_text (triangles_from bytes (24 * j + 24) n))) in
      let c = subst (λ at. length (others (map triangle_text (triangles_from bytes at n))) ≤ 94 * n) (next j) (others_most n (suc j) (omega (arith, h))) in
      omega (arith, a, b, c)
    where
      next : (j : ℕ) → 24 * suc j ≡ 24 * j + 24
      next j = omega arith

  all_most : (n : ℕ) → n ≤ count → 0 < n → length (text_of (triangles_from bytes 0 n)) ≤ 94 * n + 19
  unfolding text_of collection_text members triangles_from
  all_most zero h p = absurd (omega (arith, p))
  all_most (suc n) h p =
      let a = each 0 (omega (arith, h)) in
      let b = length-append (triangle_text (triangle_from bytes 0) ++ others (map triangle_text (triangles_from bytes (0 + 24) n))) (41 ∷ []) in
      let c = length-append (triangle_text (triangle_from bytes 0)) (others (map triangle_text (triangles_from bytes (0 + 24) n))) in
      let d = others_most n 1 (omega (arith, h)) in
      omega (arith, a, b, c, d)

pub always_enough : AlwaysEnough
unfolding recording_text
always_enough file k good h =
    let e = entry_at file k in
    let i = parts_inside file k good h in
    let some = good.some_triangles k h in
    let all = subst (λ ts. length (text_of ts) ≤ 94 * e.count + 19) (sym (triangles_of_part file k good h))
    (all_most (part_of file k) e.count (λ j l. triangle_most (triangle_from (part_of file k) (24 * j)) (i.in_range j l) (i.some_area j l)) e.count (omega arith) some) in
    let end = i.before_table in
    let filled = good.filled in
    let most = good.at_most65536 in
    record { by_count = all; always = omega (arith, all, end, filled, most, h) }
