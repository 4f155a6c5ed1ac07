-- What the trailer of a file that is not refused says. Assumes nothing.
use Prim.Native.Nat.{ℕ, ◌≤◌, ◌+◌, ◌-◌, ◌*◌, ◌/◌}
use mathlib.Core.Path.{◌≡◌, refl, ap, ◌∙◌}
use mathlib.Core.List.{List}
use native.Mathlib.Omega.{arith}
use lib.ListN.{length, take, drop}
use Rattle.std.specs.Simd.{first_chunks}
use Rattle.std.proofs.lemmas.List.{length-take-le}
use Rattle.std.proofs.Common.{length-drop}
use Rattle.layout.specs.Parts.{table_place, count_of, triangles_of}
use Rattle.layout.specs.Verdict.{verdict}
use Rattle.layout.proofs.Returned.{has_Layout}
use Rattle.footprint.specs.Fits.{Fits}
use Rattle.footprint.specs.Contents.{entries_in, triangles_in}
use Rattle.footprint.proofs.Chunks.{take_chunks}

pub fits : (file : List ℕ) → (verdict file).number ≡ 0 → Fits file (table_place file) (count_of file)
fits file z = let l = has_Layout file z in record { is_table = refl; is_count = refl; at_most65536 = l.at_most65536; at_most64 = l.at_most64; filled = l.filled }

module _ (file : List ℕ) {table : ℕ} (at_table : table ≡ table_place file) where
  -- the table ends twelve bytes before the end, so its entries are the first arrays of what stands from it on
  pub entries_are : {count : ℕ} {xs : List ℕ} {arrays : List (List ℕ)} → count ≡ count_of file → table + 12 * count + 12 ≡ length file → xs ≡ drop table file → arrays ≡ first_chunks 12 (length xs / 12) xs → take count arrays ≡ entries_in file
  unfolding entries_in
  entries_are {count} {xs} {arrays} n filled e a =
      let l : length xs ≡ length file - table = ap length e ∙ length-drop table file in
      let h : count ≤ length xs / 12 = omega (arith, l, filled) in
      ap (take count) a ∙ (take_chunks 12 (length xs / 12) count xs h ∙ rw (e, n, at_table) refl)

  pub triangles_are : {xs : List ℕ} {arrays : List (List ℕ)} → table ≤ length file → xs ≡ take table file → arrays ≡ first_chunks 24 (length xs / 24) xs → arrays ≡ triangles_in file
  unfolding triangles_in triangles_of
  triangles_are {xs} h e a =
      let l : length xs ≡ table = ap length e ∙ length-take-le table file h in
      a ∙ (ap (λ n. first_chunks 24 (n / 24) xs) l ∙ rw (e, at_table) refl)
