-- A place's number decoded: below 6 it is a position of the input, above it a crossing. Assumes nothing.
use mathlib.Core.Path.{◌≡◌, refl, sym, ap, ◌∙◌}
use mathlib.Core.Bool.{Bool, true, false, cond}
use mathlib.Core.List.{List}
use Prim.Native.Nat.{ℕ, zero, suc, ◌+◌, ◌-◌, ◌/◌, ◌%◌, ◌<◌, ◌≤◌}
use native.Mathlib.Omega.{arith}
use lib.Dec.{ltb}
use Rattle.std.specs.Prelude.{None, Some}
use lib.Ieee.{Float}
use borrow.Author.Tests.{lt-ltb, le-ltb, ltb-true, ltb-false}
use Rattle.lines.specs.Lines.{sign, signs_at, start}
use Rattle.lines.specs.declared.Params.{Params}
use Rattle.lines.specs.Parameters.{signs_of}
use Rattle.ring.specs.Places.{vertex, corner, crossing}
use Rattle.walk.specs.Code.{place_of_code}
use Rattle.triangles.specs.declared.Kind.TheVariants.{Vertex, Reference}
use Rattle.routine.specs.declared.spots.Spot.{Spot}
use Rattle.routine.specs.declared.spots.Meeting.{Meeting}
use Rattle.routine.specs.Code.{position_at, standing, kind_in, params_at, meeting_in, crossed, spot_of, signs_from}

module _ (l : List Float) (ps : List Params) (ss : List (List Bool)) (k : ℕ) where
  decoded_position : k < 6 → standing (kind_in k) (position_at l k) ≡ spot_of l ps ss (place_of_code k)
  unfolding spot_of
  decoded_position h = go (ltb k 3) refl
    where
      go : (b : Bool) → ltb k 3 ≡ b →
          standing (cond b (Vertex k) (Reference (k - 3))) (position_at l k) ≡ spot_of l ps ss (cond b (vertex k) (cond (ltb k 6) (corner (k - 3)) (crossing ((k - 6) / 3) ((k - 6) % 3))))
      go true e = refl
      go false e =
          let n : k ≡ 3 + (k - 3) = omega (arith, ltb-false k 3 e) in
          ap (λ i. standing (Reference (k - 3)) (position_at l i)) n ∙ ap (λ b. spot_of l ps ss (cond b (corner (k - 3)) (crossing ((k - 6) / 3) ((k - 6) % 3)))) (sym (lt-ltb k 6 h))

  abbrev here : Meeting
  here = record { edge = (k - 6) / 3; line = (k - 6) % 3 }

  crossing_is : 6 ≤ k → crossing here.edge here.line ≡ place_of_code k
  crossing_is h = rw (le-ltb k 3 (omega (arith, h)), le-ltb k 6 h) refl

  decoded_crossing : 6 ≤ k → crossed l ps here (signs_at ss (start here.edge) here.line) ≡ spot_of l ps ss (place_of_code k)
  unfolding spot_of crossed
  decoded_crossing h = ap (spot_of l ps ss) (crossing_is h)

  -- as the code comes to it
  pub at_position : {s : Spot} → None ≡ meeting_in k → s ≡ standing (kind_in k) (position_at l k) → s ≡ spot_of l ps ss (place_of_code k)
  at_position {s} h e = go (ltb k 6) refl h
    where
      go : (b : Bool) → ltb k 6 ≡ b → None ≡ cond b None (Some here) → s ≡ spot_of l ps ss (place_of_code k)
      go true t h = e ∙ decoded_position (ltb-true k 6 t)
      go false t h = cc

  pub at_crossing : {m : Meeting} {plus : Bool} {s : Spot} → Some m ≡ meeting_in k → plus ≡ signs_at ss (start m.edge) m.line → s ≡ crossed l ps m plus → s ≡ spot_of l ps ss (place_of_code k)
  at_crossing {m} {plus} {s} h hp e = go (ltb k 6) refl h
    where
      go : (b : Bool) → ltb k 6 ≡ b → Some m ≡ cond b None (Some here) → s ≡ spot_of l ps ss (place_of_code k)
      go true t h = cc
      go false t h = let is : m ≡ here = cc in e ∙ (ap (crossed l ps m) hp ∙ (ap (λ m. crossed l ps m (signs_at ss (start m.edge) m.line)) is ∙ decoded_crossing (ltb-false k 6 t)))

-- the sign of a vertex's own parameters
pub sign_from : (ps : List Params) (i a : ℕ) → i < 3 → sign (signs_of (params_at ps i)) a ≡ signs_at (signs_from ps) i a
sign_from ps zero a h = refl
sign_from ps (suc zero) a h = refl
sign_from ps (suc (suc zero)) a h = refl
sign_from ps (suc (suc (suc i))) a h = absurd (omega (arith, h))
