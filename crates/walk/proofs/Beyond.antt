-- Where all of U lies on the minus side of one of V's lines there is no ring, no flag is set, and no pair test is computed: two computed
-- tests. So the code may stop there. And a place is told by its number. Assumes nothing.
use mathlib.Core.Path.{◌≡◌, refl, subst}
use mathlib.Core.Bool.{Bool, true, false, not, ◌&&◌, ◌||◌, beq}
use mathlib.Core.List.{List, [], ◌∷◌, Memᴰ}
use Prim.Native.Nat.{ℕ}
use native.Mathlib.Omega.{arith}
use lib.Dec.{T, eqb, eqb→eq}
use lib.Ieee.Fits.{and_l, and_r}
use lib.ListN.{length}
use Rattle.floats.specs.Lists.{all}
use Rattle.floats.proofs.Lists.{all_at, same_bool, same_list, same_list_lem}
use Rattle.lines.specs.Lines.{three, signs_at}
use Rattle.order.specs.Order.{ordering_on, orders_of, order_at}
use Rattle.order.proofs.Every.{seven, eight}
use Rattle.ring.specs.Places.{Place, same_place, fifteen}
use Rattle.ring.specs.Flags.{vertices_in, corners_in, neighbours}
use Rattle.ring.specs.Ring.{ring}
use Rattle.walk.specs.Code.{code_of, place_of_code, beyond_a_line}
use Rattle.ring.proofs.Walks.{all_walks, walks_from, in_all_orders, every_walk}
use Rattle.ring.proofs.Demand.{same_place_lem}

-- ---- no ring and no flag
abbrev none : List Bool
none = false ∷ false ∷ false ∷ []

pub record Nothing (ss : List (List Bool)) (os : List (List ℕ)) : Type 0 where
  pub no_ring : ring (signs_at ss) (order_at os) ≡ []
  pub no_vertex : vertices_in (signs_at ss) (order_at os) ≡ none
  pub no_corner : corners_in (signs_at ss) (order_at os) ≡ none
  pub no_neighbour : neighbours (signs_at ss) (order_at os) ≡ none

module _ (ss : List (List Bool)) (os : List (List ℕ)) where
  abbrev B1 : Bool
  B1 = eqb (length (ring (signs_at ss) (order_at os))) 0

  abbrev B2 : Bool
  B2 = same_list beq (vertices_in (signs_at ss) (order_at os)) none

  abbrev B3 : Bool
  B3 = same_list beq (corners_in (signs_at ss) (order_at os)) none

  abbrev B4 : Bool
  B4 = same_list beq (neighbours (signs_at ss) (order_at os)) none

  unfoldable nothing : Bool
  unfolding same_list ring vertices_in corners_in neighbours
  nothing = not (beyond_a_line ss) || (B1 && (B2 && (B3 && B4)))

  empty : (ps : List Place) → length ps ≡ 0 → ps ≡ []
  empty [] h = refl
  empty (p ∷ ps) h = absurd (omega (arith, h))

  from_test : beyond_a_line ss ≡ true → T nothing → Nothing ss os
  unfolding nothing
  from_test h t =
      let t1 : T (B1 && (B2 && (B3 && B4))) = subst (λ b. T (not b || (B1 && (B2 && (B3 && B4))))) h t in
      let t2 = and_r B1 (B2 && (B3 && B4)) t1 in
      let t3 = and_r B2 (B3 && B4) t2 in
      record {
        no_ring = empty (ring (signs_at ss) (order_at os)) (eqb→eq _ 0 (and_l B1 (B2 && (B3 && B4)) t1));
        no_vertex = same_list_lem beq same_bool _ none (and_l B2 (B3 && B4) t2);
        no_corner = same_list_lem beq same_bool _ none (and_l B3 B4 t3);
        no_neighbour = same_list_lem beq same_bool _ none (and_r B3 B4 t3);
      }

all_nothing : T (all_walks nothing)
unfolding all seven all_walks walks_from in_all_orders nothing
all_nothing = tt

-- ---- no pair test
-- of an edge whose pair tests have the outcomes t
unfoldable untested : List Bool → List Bool → List Bool → List Bool → Bool
unfolding all ordering_on
untested t p q r = not (beyond_a_line (p ∷ q ∷ r ∷ [])) || all (λ e. eqb (length (ordering_on (p ∷ q ∷ r ∷ []) (λ _. t) e).tests) 0) three

all-untested : T (all (λ t. all (λ p. all (λ q. all (untested t p q) seven) seven) seven) eight)
unfolding all seven eight untested
all-untested = tt

no_tests : (ts : List (ℕ × ℕ)) → length ts ≡ 0 → ts ≡ []
no_tests [] h = refl
no_tests (t ∷ ts) h = absurd (omega (arith, h))

-- ---- of every walk
module _ (p q r : List Bool) (mp : Memᴰ p seven) (mq : Memᴰ q seven) (mr : Memᴰ r seven) (ts : ℕ → List Bool) (mt : (e : ℕ) → Memᴰ (ts e) eight) (h : beyond_a_line (p ∷ q ∷ r ∷ []) ≡ true) where
  abbrev ss : List (List Bool)
  ss = p ∷ q ∷ r ∷ []

  pub nothing_beyond : Nothing ss (orders_of ss ts)
  nothing_beyond = from_test ss (orders_of ss ts) h (every_walk nothing all_nothing p q r mp mq mr ts mt)

  pub untested_beyond : (e : ℕ) → Memᴰ e three → (ordering_on ss ts e).tests ≡ []
  unfolding untested ordering_on
  untested_beyond e me =
      no_tests (ordering_on ss ts e).tests (eqb→eq _ 0
      (all_at (λ f. eqb (length (ordering_on ss (λ _. ts e) f).tests) 0) three
      (subst (λ b. T (not b || all (λ f. eqb (length (ordering_on ss (λ _. ts e) f).tests) 0) three)) h
      (all_at (untested (ts e) p q) seven
      (all_at (λ q. all (untested (ts e) p q) seven) seven
      (all_at (λ p. all (λ q. all (untested (ts e) p q) seven) seven) seven
      (all_at (λ t. all (λ p. all (λ q. all (untested t p q) seven) seven) seven) eight all-untested (mt e)) mp) mq) mr)) me))

-- ---- numbers of places
all_decoded : T (all (λ p. same_place (place_of_code (code_of p)) p) fifteen)
unfolding all same_place
all_decoded = tt

-- each of the fifteen places is told by its number
pub decoded : (p : Place) → Memᴰ p fifteen → place_of_code (code_of p) ≡ p
decoded p m = same_place_lem _ p (all_at (λ p. same_place (place_of_code (code_of p)) p) fifteen all_decoded m)
