-- The computed test over all walks: the ring's size, each place as often as it was found, neighbours on a common edge, and how the gap is
-- filled. Assumes nothing.
use mathlib.Core.Bool.{Bool, true, ◌&&◌, ◌||◌, cond, beq}
use mathlib.Core.List.{List, [], ◌∷◌, ◌++◌}
use Prim.Native.Nat.{ℕ, suc}
use lib.Dec.{T, eqb, leb, ltb}
use lib.ListN.{length}
use Rattle.floats.specs.Lists.{all, any, filter, count, once}
use Rattle.lines.specs.Lines.{three, signs_at}
use Rattle.order.specs.Order.{order_at}
use Rattle.ring.specs.Places.{Place, same_place, fifteen, on_line, of_v, lies, sides}
use Rattle.ring.specs.Flags.{corner_in, neighbour, found}
use Rattle.ring.specs.Ring.{Met, inside, leave, enter, entered, met, ring}
use Rattle.ring.proofs.Walks.{Test, all_walks}

unfoldable pub joined : Place → Place → Bool
unfolding any lies
joined p q = any (λ s. lies s p && lies s q) sides

unfoldable pub linked : Place → List Place → Place → Bool
unfolding joined
linked p [] z = joined p z
linked p (q ∷ r) z = joined p q && linked q r z

unfoldable pub is_closed : List Place → Bool
unfolding linked
is_closed [] = true
is_closed (p ∷ r) = linked p r p

unfoldable pub is_size : ℕ → Bool
is_size n = eqb n 0 || (leb 3 n && leb n 6)

-- each of the fifteen places as often as it was found
unfoldable pub exact : (Place → Bool) → List Place → Bool
unfolding all count same_place
exact is_found r = all (λ p. eqb (count (same_place p) r) (once (is_found p))) fifteen

unfoldable pub within : List Place → Bool
unfolding all any same_place
within r = all (λ p. any (same_place p) fifteen) r

-- each neighbour flag by the ring's places
unfoldable pub by_places : (ℕ → Bool) → List Place → Bool
unfolding all any lies
by_places flag r = all (λ a. beq (flag a) (any (lies (of_v a)) r)) three

unfoldable pub sound : Test
unfolding is_size is_closed exact within by_places ring found neighbour
sound ss os =
    let r = ring (signs_at ss) (order_at os) in
    is_size (length r) && (is_closed r && (exact (found (signs_at ss) (order_at os)) r && (within r && by_places (neighbour (signs_at ss) (order_at os)) r)))

pub all_sound : T (all_walks sound)
unfolding all_walks sound
all_sound = tt

-- ---- how a gap is filled, so that 01's wording is never ambiguous
-- V is left by line a and next entered by line b: where the lines differ, V has one or two corners in U, and of two just one lies on a.
-- Whenever V is left, it is entered again
filled : List ℕ → ℕ → ℕ → Bool
unfolding filter
filled cs a b = eqb a b || (eqb (length cs) 1 || (eqb (length cs) 2 && eqb (length (filter (on_line a) cs)) 1))

gaps : List ℕ → List Met → List Met → Bool
unfolding filled entered
gaps cs again [] = true
gaps cs again (inside i ∷ m) = gaps cs again m
gaps cs again (leave e a ∷ m) = ltb (entered 3 (m ++ again)) 3 && (filled cs a (entered a (m ++ again)) && gaps cs again m)
gaps cs again (enter e a ∷ m) = gaps cs again m

-- how many gaps lie between two different lines
turns : List Met → List Met → ℕ
unfolding entered
turns again [] = 0
turns again (inside i ∷ m) = turns again m
turns again (leave e a ∷ m) = let r = turns again m in cond (eqb a (entered a (m ++ again))) r (suc r)
turns again (enter e a ∷ m) = turns again m

unfoldable pub plain : Test
unfolding gaps turns all filter corner_in met
plain ss os =
    let u = signs_at ss in
    let o = order_at os in
    let cs = filter (corner_in u o) three in
    let m = met u o in
    leb (turns m m) 1 && gaps cs m m

pub all_plain : T (all_walks plain)
unfolding all_walks plain
all_plain = tt
