-- Demand 3 of every walk, in any numbers: the lines' part by the laws over any number of lines, the ring's by the computed test. Assumes nothing.
use mathlib.Core.Path.{◌≡◌, refl}
use mathlib.Core.Logic.{inl, inr}
use mathlib.Core.Bool.{Bool, ◌&&◌, beq}
use mathlib.Core.List.{List, [], ◌∷◌, Memᴰ}
use Prim.Native.Nat.{ℕ}
use lib.Dec.{T, eqb, leb, ltb, eqb→eq, leb→le}
use lib.Ieee.Fits.{and_l, and_r}
use lib.ListN.{length}
use Rattle.floats.specs.Lists.{any, count, once}
use Rattle.floats.specs.Numbers.{Numbers}
use Rattle.floats.proofs.Lists.{so, all_at, any_member, or_cases, same_bool}
use Rattle.lines.specs.Lines.{three, signs_at, start, finish}
use Rattle.lines.specs.Parameters.{Parameters, signs}
use Rattle.lines.specs.Round.{MeetsOnce}
use Rattle.lines.proofs.Corner.{agrees}
use Rattle.order.specs.PairTest.{signs_of_u, outcomes_on}
use Rattle.order.specs.Order.{ordering_on, orders_of, order_at}
use Rattle.order.proofs.Every.{seven, eight, in_seven, in_eight}
use Rattle.order.proofs.Edge.{order_meets}
use Rattle.ring.specs.Places.{Place, vertex, corner, crossing, same_place, fifteen, Side, of_v, lies, sides}
use Rattle.ring.specs.Flags.{neighbour, found}
use Rattle.ring.specs.Ring.{ring}
use Rattle.ring.specs.Demand.{NoneOrThreeToSix, Holds, Joined, Linked, Closed, Sound}
use Rattle.ring.proofs.Walks.{every_walk}
use Rattle.ring.proofs.Sweep.{joined, linked, is_closed, is_size, exact, within, by_places, sound, all_sound}

-- ---- the tests as statements
pub same_place_lem : (p q : Place) → T (same_place p q) → p ≡ q
unfolding same_place
same_place_lem (vertex i) (vertex j) t = rw (eqb→eq i j t) refl
same_place_lem (vertex i) (corner l) t = absurd t
same_place_lem (vertex i) (crossing f b) t = absurd t
same_place_lem (corner k) (vertex j) t = absurd t
same_place_lem (corner k) (corner l) t = rw (eqb→eq k l t) refl
same_place_lem (corner k) (crossing f b) t = absurd t
same_place_lem (crossing e a) (vertex j) t = absurd t
same_place_lem (crossing e a) (corner l) t = absurd t
same_place_lem (crossing e a) (crossing f b) t = rw (eqb→eq e f (and_l (eqb e f) (eqb a b) t), eqb→eq a b (and_r (eqb e f) (eqb a b) t)) refl

size_is : (n : ℕ) → T (is_size n) → NoneOrThreeToSix n
unfolding is_size
size_is n t = elim (or_cases (eqb n 0) (leb 3 n && leb n 6) t) [
  | inl h ↦ inl (eqb→eq n 0 h)
  | inr h ↦ inr (leb→le 3 n (and_l (leb 3 n) (leb n 6) h), leb→le n 6 (and_r (leb 3 n) (leb n 6) h))
]

-- a side that both lie on, among these
common : (p q : Place) (ss : List Side) → T (any (λ s. lies s p && lies s q) ss) → (s : Side) × Memᴰ s ss × T (lies s p && lies s q)
unfolding any
common p q [] t = absurd t
common p q (s ∷ ss) t = elim (or_cases (lies s p && lies s q) (any (λ s. lies s p && lies s q) ss) t) [
  | inl h ↦ (s, Memᴰ.head refl, h)
  | inr h ↦ let r = common p q ss h in (r.0, Memᴰ.tail r.1, r.2)
]

joined_are : (p q : Place) → T (joined p q) → Joined p q
unfolding joined
joined_are p q t =
    let r = common p q sides t in
    record {
      side = r.0;
      is_side = r.1;
      first = so (and_l (lies r.0 p) (lies r.0 q) r.2);
      second = so (and_r (lies r.0 p) (lies r.0 q) r.2);
    }

linked_are : (p : Place) (r : List Place) (z : Place) → T (linked p r z) → Linked p r z
unfolding linked Linked
linked_are p [] z t = joined_are p z t
linked_are p (q ∷ r) z t = (joined_are p q (and_l (joined p q) (linked q r z) t), linked_are q r z (and_r (joined p q) (linked q r z) t))

closed_is : (r : List Place) → T (is_closed r) → Closed r
unfolding is_closed Closed
closed_is [] t = tt
closed_is (p ∷ r) t = linked_are p r p t

Holds-is : (is_found : Place → Bool) (r : List Place) → T (exact is_found r) → T (within r) → Holds is_found r
unfolding exact within
Holds-is is_found r e w = record {
  exactly = λ p m. eqb→eq (count (same_place p) r) (once (is_found p)) (all_at (λ p. eqb (count (same_place p) r) (once (is_found p))) fifteen e m);
  nothing_else = λ p m. any_member same_place same_place_lem p fifteen (all_at (λ p. any (same_place p) fifteen) r w m);
}

flag_is : (flag : ℕ → Bool) (r : List Place) → T (by_places flag r) → (a : ℕ) → Memᴰ a three → flag a ≡ any (lies (of_v a)) r
unfolding by_places
flag_is flag r t a m = same_bool (flag a) (any (lies (of_v a)) r) (all_at (λ a. beq (flag a) (any (lies (of_v a)) r)) three t m)

-- ---- any signs that a vertex can have, any outcomes
module _ (p q r : List Bool) (mp : Memᴰ p seven) (mq : Memᴰ q seven) (mr : Memᴰ r seven) (ts : ℕ → List Bool) (mt : (e : ℕ) → Memᴰ (ts e) eight) where
  abbrev ss : List (List Bool)
  ss = p ∷ q ∷ r ∷ []

  abbrev u : ℕ → ℕ → Bool
  u = signs_at ss

  abbrev o : ℕ → List ℕ
  o = order_at (orders_of ss ts)

  meets : MeetsOnce u o
  unfolding orders_of ordering_on
  meets = record {
    edge0 = order_meets (ts 0) (ltb (finish 0) (start 0)) p q (mt 0) mp mq;
    edge1 = order_meets (ts 1) (ltb (finish 1) (start 1)) q r (mt 1) mq mr;
    edge2 = order_meets (ts 2) (ltb (finish 2) (start 2)) r p (mt 2) mr mp;
  }

  pub Sound-walk : Sound u o
  unfolding sound
  Sound-walk =
      let t = every_walk sound all_sound p q r mp mq mr ts mt in
      let F = by_places (neighbour u o) (ring u o) in
      let W = within (ring u o) in
      let E = exact (found u o) (ring u o) in
      let C = is_closed (ring u o) in
      let S = is_size (length (ring u o)) in
      let t4 = and_r S (C && (E && (W && F))) t in
      let t3 = and_r C (E && (W && F)) t4 in
      let t2 = and_r E (W && F) t3 in
      record {
        meets_once = meets;
        agrees = agrees u o meets;
        size = size_is (length (ring u o)) (and_l S (C && (E && (W && F))) t);
        holds = Holds-is (found u o) (ring u o) (and_l E (W && F) t3) (and_l W F t2);
        joined = closed_is (ring u o) (and_l C (E && (W && F)) t4);
        flagged = λ a m. flag_is (neighbour u o) (ring u o) (and_r W F t2) a m;
      }

-- in any numbers, whatever the parameters of U's three vertices
pub demand3 : (K : Numbers) (ps : ℕ → Parameters K.N) → Sound (signs_at (signs_of_u K ps)) (order_at (orders_of (signs_of_u K ps) (outcomes_on K ps)))
unfolding signs_of_u signs outcomes_on
demand3 K ps =
    Sound-walk (signs K (ps 0)) (signs K (ps 1)) (signs K (ps 2)) (in_seven _ _ _) (in_seven _ _ _) (in_seven _ _ _)
    (outcomes_on K ps) (λ e. in_eight _ _ _)
