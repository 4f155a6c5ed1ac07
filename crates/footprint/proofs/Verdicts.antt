-- The reader's three stages make the verdict. Assumes nothing.
use Prim.Native.Nat.{ℕ, ◌+◌, ◌-◌, ◌*◌, ◌/◌, ◌<◌, ◌≤◌}
use mathlib.Core.Path.{◌≡◌, sym, ◌∙◌, refl, ap}
use mathlib.Core.List.{List, [], ◌++◌, append-nil}
use native.Mathlib.Omega.{arith}
use native.Mathlib.Nat.{add-zero}
use lib.ListN.{length, take, drop, get_or}
use Rattle.std.specs.Simd.{first_chunks}
use Rattle.std.proofs.lemmas.List.{length-take-le}
use Rattle.floats.specs.Turns.{in_turn}
use Rattle.layout.specs.Bytes.{six_of, i32_at}
use Rattle.layout.specs.Parts.{table_place, triangle_by, triangle_from, triangle_at, triangles_of}
use Rattle.layout.specs.Rules.{triangle_rule}
use Rattle.layout.specs.Verdict.{out_of_range, flat, first_of, verdict}
use Rattle.layout.specs.Stages.{trailer_rows, table_rows, triangle_rows, triangle_number}
use Rattle.layout.specs.declared.Verdict.{Verdict}
use Rattle.layout.proofs.Slices.{triangle_part}
use Rattle.footprint.proofs.Chunks.{chunk_is, part_of_front}
use Rattle.layout.proofs.Stages.{refused, passed, by_stages_lem}

-- ---- the stages
module _ (file : List ℕ) {v : Verdict} (a : v ≡ first_of file (trailer_rows file)) where
  pub by_trailer : (v.number ≡ 0 → ⊥) → v ≡ verdict file
  by_trailer n = sym (by_stages_lem file ∙ rw (sym a) (refused v _ n))

  module _ (z : v.number ≡ 0) {w : Verdict} (b : w ≡ first_of file (table_rows file)) where
    pub by_table : (w.number ≡ 0 → ⊥) → w ≡ verdict file
    by_table n = sym (by_stages_lem file ∙ rw (sym a, sym b) (passed v _ z ∙ refused w _ n))

    pub by_triangles : w.number ≡ 0 → {u : Verdict} → u ≡ first_of file (triangle_rows file) → u ≡ verdict file
    by_triangles y c = c ∙ sym (by_stages_lem file ∙ rw (sym a, sym b) (passed v _ z ∙ passed w _ y))

-- ---- the triangles from the first on
pub from_start : (file : List ℕ) {table : ℕ} → table ≡ table_place file → first_of file (triangle_rows file) ≡ first_of file (in_turn out_of_range flat (table / 24 - 0) 0 ++ [])
unfolding triangles_of
from_start file {table} h = let q : table / 24 - 0 ≡ table_place file / 24 = omega arith in rw (q, append-nil (in_turn out_of_range flat (table_place file / 24) 0)) refl

-- a triangle is read where it was cut out, with what stands behind it or without
pub triangle_cut : (file : List ℕ) (k m : ℕ) → 24 ≤ m → {n : ℕ} → n ≡ triangle_rule (triangle_from (take m (drop (24 * k) file)) 0) → n ≡ triangle_number file k
unfolding triangle_at
triangle_cut file k m whole h = h ∙ ap triangle_rule (triangle_part file (24 * k) m 0 whole ∙ ap (triangle_from file) (add-zero (24 * k)))

-- a triangle's six numbers are read in its 24 bytes
pub triangle_in_array : (file : List ℕ) (k : ℕ) {bytes six : List ℕ} {n : ℕ} → bytes ≡ take 24 (drop (24 * k) file) → six ≡ six_of bytes → n ≡ triangle_rule (triangle_by six) → n ≡ triangle_number file k
triangle_in_array file k {bytes} {six} e s h = triangle_cut file k 24 (omega arith) (h ∙ (ap (λ xs. triangle_rule (triangle_by xs)) s ∙ (ap (λ xs. triangle_rule (triangle_by (six_of xs))) e ∙ ap triangle_rule (by_six (take 24 (drop (24 * k) file))))))
  where
    by_six : (xs : List ℕ) → triangle_by (six_of xs) ≡ triangle_from xs 0
    by_six xs = unfold six_of triangle_from i32_at in refl

-- the arrays before the table, as the code has them
count_of_arrays : (file : List ℕ) (table count : ℕ) → table + 12 * count + 12 ≡ length file → length (take table file) / 24 ≡ table / 24
count_of_arrays file table count h = ap (λ n. n / 24) (length-take-le table file (omega (arith, h)))

pub count_is : (file : List ℕ) (table count k : ℕ) {n : ℕ} → table + 12 * count + 12 ≡ length file → k < n → n ≡ length (take table file) / 24 → k < table / 24
count_is file table count k h l e = let q = count_of_arrays file table count h in omega (arith, l, e, q)

pub count_over : (file : List ℕ) (table count k : ℕ) {n : ℕ} → table + 12 * count + 12 ≡ length file → n ≤ k → n ≡ length (take table file) / 24 → table / 24 ≤ k
count_over file table count k h l e = let q = count_of_arrays file table count h in omega (arith, l, e, q)

pub array_is : (file : List ℕ) (table count k : ℕ) {arrays : List (List ℕ)} → table + 12 * count + 12 ≡ length file → arrays ≡ first_chunks 24 (length (take table file) / 24) (take table file) → (d : List ℕ) → k < table / 24 → get_or arrays k d ≡ take 24 (drop (24 * k) file)
array_is file table count k f e d h = let q = count_of_arrays file table count f in ap (λ xs. get_or xs k d) e ∙ (chunk_is 24 (length (take table file) / 24) k (take table file) d (omega (arith, h, q)) ∙ part_of_front 24 (24 * k) table file (omega (arith, h)))
