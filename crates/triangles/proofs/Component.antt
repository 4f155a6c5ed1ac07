-- A component of a crossing, P + t·(Q − P): every value on its way is finite exactly if it is itself and so is t's denominator. What its ends and parameters are. Assumes nothing.
use mathlib.Core.Path.{◌≡◌, refl, sym, ap, ◌∙◌}
use mathlib.Core.Bool.{Bool, true, false, ◌&&◌, cond}
use mathlib.Core.List.{List, [], ◌++◌}
use Prim.Native.Nat.{ℕ, ◌<◌}
use lib.Dec.{T, eqb}
use lib.Ieee.{Float}
use lib.Ieee.Fits.{and_l, and_r}
use lib.ListN.{get_or}
use Rattle.floats.specs.Lists.{all}
use Rattle.floats.specs.Finite.{finite}
use Rattle.floats.specs.Way.{Way, step, ◌⊕◌, ◌⊖◌, ◌⊗◌, fine}
use Rattle.floats.proofs.Lists.{so, os, all_append}
use Rattle.floats.proofs.Told.{fine-step, add_operands, mul_operands}
use Rattle.lines.specs.Lines.{end_table}
use Rattle.lines.specs.Parameters.{parameter}
use Rattle.lines.proofs.Tables.{small, entry_below}
use Rattle.triangles.specs.Pair.{carried_by}
use Rattle.triangles.specs.Positions.{fraction}

-- ---- one operation's way
fine_op : (a b : Way) (v : Float) → fine (step v (a.way ++ b.way)) ≡ ((fine a && fine b) && finite v)
fine_op a b v = fine-step v (a.way ++ b.way) ∙ ap (λ t. t && finite v) (all_append finite a.way b.way)

-- fine is what follows from fine parts and a finite result, and says so of both
fine_of : (a b : Way) (v : Float) → fine a ≡ true → fine b ≡ true → finite v ≡ true → fine (step v (a.way ++ b.way)) ≡ true
fine_of a b v ha hb hv = fine_op a b v ∙ rw (ha, hb, hv) refl

module _ (a b : Way) (v : Float) (h : fine (step v (a.way ++ b.way)) ≡ true) where
  parts : T ((fine a && fine b) && finite v)
  parts = os (sym (fine_op a b v) ∙ h)

  first_part : fine a ≡ true
  first_part = so (and_l (fine a) (fine b) (and_l (fine a && fine b) (finite v) parts))

  second_part : fine b ≡ true
  second_part = so (and_r (fine a) (fine b) (and_l (fine a && fine b) (finite v) parts))

  result : finite v ≡ true
  result = so (and_r (fine a && fine b) (finite v) parts)

-- ---- a component of a crossing: P + t·(Q − P), of fine P, Q and parameters
module _ (a_p a_q P Q : Way) (fp : fine a_p ≡ true) (fq : fine a_q ≡ true) (f_p : fine P ≡ true) (f_q : fine Q ≡ true) where
  abbrev t : Way
  t = fraction a_p a_q

  pub component_fine : finite (a_p ⊖ a_q).value ≡ true → finite (P ⊕ (t ⊗ (Q ⊖ P))).value ≡ true → fine (P ⊕ (t ⊗ (Q ⊖ P))) ≡ true
  component_fine m h =
      let s = add_operands P.value (t ⊗ (Q ⊖ P)).value h in
      let p = mul_operands t.value (Q ⊖ P).value s.1 in
      let ft = fine_of a_p (a_p ⊖ a_q) t.value fp (fine_of a_p a_q (a_p ⊖ a_q).value fp fq m) p.0 in
      fine_of P (t ⊗ (Q ⊖ P)) _ f_p (fine_of t (Q ⊖ P) _ ft (fine_of Q P _ f_q f_p p.1) s.1) h

  pub denominator_fine : fine (P ⊕ (t ⊗ (Q ⊖ P))) ≡ true → finite (a_p ⊖ a_q).value ≡ true
  denominator_fine h =
      let ft = first_part t (Q ⊖ P) _ (second_part P (t ⊗ (Q ⊖ P)) _ h) in
      result a_p a_q _ (second_part a_p (a_p ⊖ a_q) _ ft)

-- ---- a parameter as it is carried: its way was judged before
pub fine_carried : (l : List Float) (i a : ℕ) → fine (parameter (carried_by l i) a) ≡ true
unfolding all
fine_carried l i a = go (eqb a 0) (eqb a 1)
  where
    go : (x y : Bool) → fine (cond x (carried_by l i).x (cond y (carried_by l i).y (carried_by l i).w)) ≡ true
    go true y = refl
    go false true = refl
    go false false = refl

-- ---- the ends of an edge are vertices
small_ends : T (small 2 end_table)
unfolding small all
small_ends = tt

pub end_below : (e i : ℕ) → ◌<◌ (get_or (get_or end_table e []) i 0) 3
end_below e i = entry_below 2 end_table e i small_ends
