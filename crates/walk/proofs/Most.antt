-- The code's ring has six places at most, whatever signs and orders it is given: where six are held no more is put down. Assumes nothing.
use mathlib.Core.Path.{◌≡◌, refl}
use mathlib.Core.Bool.{Bool, true, false, not, ◌&&◌, cond}
use mathlib.Core.List.{List}
use Prim.Native.Nat.{ℕ, ◌+◌, ◌*◌, ◌≤◌}
use native.Mathlib.Omega.{arith}
use lib.Dec.{eqb, ltb}
use lib.Ieee.Fits.{and_r}
use lib.ListN.{set}
use borrow.Author.Tests.{ltb-true}
use Rattle.floats.proofs.Lists.{so, os}
use Rattle.walk.specs.declared.Walk.{Walk}
use Rattle.std.specs.Prelude.{Option, None, Some}
use Rattle.walk.specs.Code.{coded, left_by, first_by, begun, pushed, line_of_digit, cornered, is_by, gap, entered, closed, entering, leaving, along_edge, closing, walk_of, flags_and_ring}

record Fits (w : Walk) : Type 0 where
  most : w.n ≤ 6

either : (b : Bool) {x y : Walk} → Fits x → Fits y → Fits (cond b x y)
either true hx hy = hx
either false hx hy = hy

pushed-Fits : (w : Walk) (test : Bool) (k : ℕ) → Fits w → Fits (pushed w test k)
unfolding pushed
pushed-Fits w test k h = go (test && ltb w.n 6) refl
  where
    go : (b : Bool) → (test && ltb w.n 6) ≡ b → Fits (cond b (record { places = set w.places w.n (coded k); n = w.n + 1; left = w.left; first = w.first }) w)
    go true e = record { most = omega (arith, ltb-true w.n 6 (so (and_r test (ltb w.n 6) (os e)))) }
    go false e = h

-- a note changes no number
first_fits : {w : Walk} (a : ℕ) → Fits w → Fits (first_by w a)
first_fits a h = record { most = h.most }

left_Fits : {w : Walk} (a : Option ℕ) → Fits w → Fits (left_by w a)
left_Fits a h = record { most = h.most }

cornered-Fits : (w : Walk) (k a : ℕ) → Fits w → Fits (cornered w k a)
unfolding cornered
cornered-Fits w k a h = pushed-Fits _ _ 5 (pushed-Fits _ _ 4 (pushed-Fits _ _ 3 (pushed-Fits _ _ 5 (pushed-Fits _ _ 4 (pushed-Fits w _ 3 h)))))

gap-Fits : (w : Walk) (k a : ℕ) (by : Option ℕ) → Fits w → Fits (gap w k a by)
unfolding gap
gap-Fits w k a by h = either (not (eqb k 0) && not (is_by by a)) (cornered-Fits w k a h) h

entered-Fits : (w : Walk) (k e a : ℕ) (left : Option ℕ) → Fits w → Fits (entered w k e a left)
unfolding entered
entered-Fits w k e a None h = first_fits a (pushed-Fits w true (6 + 3 * e + a) h)
entered-Fits w k e a (Some left) h = left_Fits None (pushed-Fits _ true (6 + 3 * e + a) (gap-Fits w k left (Some a) h))

entering-Fits : (w : Walk) (k e m : ℕ) → Fits w → Fits (entering w k e m)
unfolding entering
entering-Fits w k e m h = either (eqb m 0) h (entered-Fits w k e (line_of_digit m) w.left h)

leaving-Fits : (w : Walk) (e m : ℕ) → Fits w → Fits (leaving w e m)
unfolding leaving
leaving-Fits w e m h = either (eqb m 0) h (left_Fits (Some (line_of_digit m)) (pushed-Fits w true (6 + 3 * e + line_of_digit m) h))

along_Fits : (w : Walk) (k e : ℕ) (is_in : Bool) (s on : ℕ) → Fits w → Fits (along_edge w k e is_in s on)
unfolding along_edge
along_Fits w k e is_in s on h =
    let more = pushed-Fits w is_in e h in
    either (eqb on 0) more (leaving-Fits _ e _ (entering-Fits _ k e _ more))

closed-Fits : (w : Walk) (k : ℕ) (left : Option ℕ) → Fits w → Fits (closed w k left)
unfolding closed
closed-Fits w k None h = h
closed-Fits w k (Some left) h = gap-Fits w k left w.first h

closing-Fits : (w : Walk) (k : ℕ) → Fits w → Fits (closing w k)
unfolding closing
closing-Fits w k h =
    let all = eqb k 7 in
    either (eqb w.n 0) (pushed-Fits _ all 5 (pushed-Fits _ all 4 (pushed-Fits w all 3 h)))
    (closed-Fits w k w.left h)

walk_Fits : (ss : List (List Bool)) (in_v : List Bool) (on k : ℕ) → Fits (walk_of ss in_v on k)
unfolding walk_of begun
walk_Fits ss in_v on k = closing-Fits _ k (along_Fits _ k 2 _ _ _ (along_Fits _ k 1 _ _ _ (along_Fits begun k 0 _ _ _ (record { most = omega arith }))))

pub six_at_most : (ss : List (List Bool)) (entry : ℕ) (os : List ℕ) → (flags_and_ring ss entry os).n ≤ 6
unfolding flags_and_ring
six_at_most ss entry os = (walk_Fits ss _ _ _).most
