-- In a room of 65,536 bytes what is told of any bytes is what the program writes, the list or the line of a refusal, and it fits. Assumes nothing.
use Prim.Native.Nat.{ℕ, ◌<◌, ◌≤◌}
use mathlib.Core.Path.{◌≡◌, refl, sym, ap, ◌∙◌}
use mathlib.Core.Logic.{inl, inr}
use mathlib.Core.Bool.{Bool, true, false}
use mathlib.Core.List.{List}
use native.Mathlib.Omega.{arith}
use lib.Dec.{eqb, ltb}
use borrow.Author.Tests.{eqb-true, eqb-false, ne_eqb, ltb-true, ltb-false}
use lib.ListN.{length}
use Rattle.layout.specs.declared.Verdict.{Verdict}
use Rattle.layout.specs.Verdict.{Row, bad_length, place_of, number_at, verdict}
use Rattle.layout.specs.Rows.{Earlier, First}
use Rattle.layout.specs.Recordings.{recording_of, part_of}
use Rattle.layout.specs.Promise.{FileDemand1}
use Rattle.layout.proofs.Returned.{returned_one, number_range, is_good, has_Layout}
use Rattle.listing.specs.Words.{list_text, refused_line}
use Rattle.layout.specs.Bytes.{Bytes}
use Rattle.listing.proofs.Returned.{by_file_lem, by_list_lem, outputs}
use Rattle.listing.proofs.Enough.{ten_digits, always_enough}
use Rattle.leaklist.specs.Code.{told_of}
use Rattle.leaklist.specs.Whole.{ToldWhole, AlwaysToldWhole}
use Rattle.wording.proofs.Lines.{refused_length}

-- ---- the place of a refusal: in a file of at most 65,536 bytes it lies in the file, and a longer one is refused at 0
module _ (file : List ℕ) where
  -- demand 1 of files, of this file
  abbrev demand : FileDemand1 file 0 (verdict file) (recording_of file 0) (part_of file 0)
  demand = returned_one file 0 (verdict file) (recording_of file 0) (part_of file 0) refl refl refl

  -- of a longer file the first row applies, and no row is before it
  too_long : 65536 < length file → First file bad_length
  too_long h = record { applies = inr h; none_before = λ row b a. none row b }
    where
      none : (row : Row) → Earlier row bad_length → ⊥
      none row (inl l) = omega (arith, l)
      none row (inr l) = let t = l.1 in omega (arith, t)

  -- so it is refused at 0, whatever its bytes are
  pub over_length : 65536 < length file → verdict file ≡ number_at 11 0
  unfolding place_of
  over_length h = (demand.refused_by bad_length).1 (too_long h)

  -- and any place is at most 65,536
  place_most : (verdict file).place ≤ 65536
  place_most = go (ltb 65536 (length file)) refl
    where
      go : (b : Bool) → ltb 65536 (length file) ≡ b → (verdict file).place ≤ 65536
      go true e = let z = ap (λ (v : Verdict). v.place) (over_length (ltb-true 65536 (length file) e)) in omega (arith, z)
      go false e = let p = demand.in_file in let l = ltb-false 65536 (length file) e in omega (arith, p, l)

  -- ---- the line of a refusal: thirteen bytes and two numbers
  refusal_most : ((verdict file).number ≡ 0 → ⊥) → length (refused_line (verdict file)) ≤ 65536
  refusal_most h =
      let n = (number_range file h).1 in
      let p = place_most in
      let l = refused_length (verdict file).number (verdict file).place in
      let a = ten_digits (verdict file).number (omega (arith, n)) in
      let b = ten_digits (verdict file).place (omega (arith, p)) in
      omega (arith, l, a, b)

  -- ---- what is told
  module _ (room : List ℕ) where
    -- the list of a good file, if there is room for it
    told_good : (verdict file).number ≡ 0 → length (list_text file) ≤ length room → told_of file room ≡ list_text file
    unfolding told_of
    told_good z h = rw (by_list_lem file room z h) refl

    -- the line of a refused file
    told_refused : ((verdict file).number ≡ 0 → ⊥) → told_of file room ≡ refused_line (verdict file)
    unfolding told_of
    told_refused h = rw (by_file_lem file room h, ne_eqb (verdict file).number 0 h) refl

    -- and both are what the program writes, and fit
    of_good : Bytes file → 65536 ≤ length room → (verdict file).number ≡ 0 → ToldWhole file room
    of_good bytes large z =
        let most = always_enough file bytes (has_Layout file z) in
        let output = (outputs file).good (has_Layout file z) in
        record { whole = told_good z (omega (arith, most, large)) ∙ sym output; fits = rw output (omega (arith, most, large)) }

    of_refused : 65536 ≤ length room → ((verdict file).number ≡ 0 → ⊥) → ToldWhole file room
    of_refused large h =
        let most = refusal_most h in
        let output = (outputs file).refused (λ l. h (is_good file l)) in
        record { whole = told_refused h ∙ sym output; fits = rw output (omega (arith, most, large)) }

pub told_whole : AlwaysToldWhole
told_whole file room bytes large = go (eqb (verdict file).number 0) refl
  where
    go : (b : Bool) → eqb (verdict file).number 0 ≡ b → ToldWhole file room
    go true e = of_good file room bytes large (eqb-true (verdict file).number 0 e)
    go false e = of_refused file room large (eqb-false (verdict file).number 0 e)
