-- The code's flags and ring are those of the rules, for every walk: one computed test. Assumes nothing.
use mathlib.Core.Path.{◌≡◌}
use mathlib.Core.Bool.{Bool, ◌&&◌, beq}
use mathlib.Core.List.{List, [], ◌∷◌, map, Memᴰ}
use Prim.Native.Nat.{ℕ}
use lib.Dec.{T, eqb, eqb→eq}
use lib.Ieee.Fits.{and_l, and_r}
use lib.ListN.{length}
use Rattle.floats.specs.Lists.{all}
use Rattle.floats.proofs.Lists.{same_bool, same_list, same_list_lem}
use Rattle.lines.specs.Lines.{signs_at}
use Rattle.order.specs.Order.{orders_of, order_at}
use Rattle.order.proofs.Every.{seven, eight}
use Rattle.table.specs.Table.{entry_for}
use Rattle.walk.specs.declared.Ring.{Ring}
use Rattle.ring.specs.Flags.{vertices_in, corners_in, neighbours}
use Rattle.ring.specs.Ring.{ring}
use Rattle.walk.specs.Code.{code_of, codes_of, befores, flags_and_ring, lower_signs, edges_tell, inside_of, neighbours_of, walk_of, begun, along_edge, closing, closed, entering, entered, gap, leaving, cornered, pushed, line_of_digit, is_on_line}
use Rattle.ring.proofs.Walks.{all_walks, walks_from, in_all_orders, every_walk}

same_bools : List Bool → List Bool → Bool
same_bools = same_list beq

same_bools_lem : (x y : List Bool) → T (same_bools x y) → x ≡ y
unfolding same_bools
same_bools_lem = same_list_lem beq same_bool

-- the code's ring r is that of the signs ss and the orders os
pub record IsRing (ss : List (List Bool)) (os : List (List ℕ)) (r : Ring) : Type 0 where
  pub codes : codes_of r ≡ map code_of (ring (signs_at ss) (order_at os))
  pub counted : r.n ≡ length (ring (signs_at ss) (order_at os))
  pub vertices : r.u_in_v ≡ vertices_in (signs_at ss) (order_at os)
  pub corners : r.v_in_u ≡ corners_in (signs_at ss) (order_at os)
  pub neighbouring : r.neighbour ≡ neighbours (signs_at ss) (order_at os)

module _ (ss : List (List Bool)) (os : List (List ℕ)) where
  abbrev r : Ring
  r = flags_and_ring ss (entry_for ss) (befores os)

  abbrev B1 : Bool
  B1 = same_list eqb (codes_of r) (map code_of (ring (signs_at ss) (order_at os)))

  abbrev B2 : Bool
  B2 = eqb r.n (length (ring (signs_at ss) (order_at os)))

  abbrev B3 : Bool
  B3 = same_bools r.u_in_v (vertices_in (signs_at ss) (order_at os))

  abbrev B4 : Bool
  B4 = same_bools r.v_in_u (corners_in (signs_at ss) (order_at os))

  abbrev B5 : Bool
  B5 = same_bools r.neighbour (neighbours (signs_at ss) (order_at os))

  unfoldable agrees : Bool
  unfolding same_bools same_list flags_and_ring entry_for lower_signs edges_tell inside_of neighbours_of walk_of begun along_edge closing closed entering entered gap leaving cornered pushed line_of_digit is_on_line befores ring vertices_in corners_in neighbours
  agrees = B1 && (B2 && (B3 && (B4 && B5)))

  from_test : T agrees → IsRing ss os r
  unfolding agrees
  from_test t =
      let t2 = and_r B1 (B2 && (B3 && (B4 && B5))) t in
      let t3 = and_r B2 (B3 && (B4 && B5)) t2 in
      let t4 = and_r B3 (B4 && B5) t3 in
      record {
        codes = same_list_lem eqb eqb→eq _ _ (and_l B1 (B2 && (B3 && (B4 && B5))) t);
        counted = eqb→eq _ _ (and_l B2 (B3 && (B4 && B5)) t2);
        vertices = same_bools_lem _ _ (and_l B3 (B4 && B5) t3);
        corners = same_bools_lem _ _ (and_l B4 B5 t4);
        neighbouring = same_bools_lem _ _ (and_r B4 B5 t4);
      }

all_agree : T (all_walks agrees)
unfolding all seven all_walks walks_from in_all_orders agrees
all_agree = tt

pub is_ring : (p q r : List Bool) → Memᴰ p seven → Memᴰ q seven → Memᴰ r seven → (ts : ℕ → List Bool) → ((e : ℕ) → Memᴰ (ts e) eight) →
    (let ss = p ∷ q ∷ r ∷ [] in IsRing ss (orders_of ss ts) (flags_and_ring ss (entry_for ss) (befores (orders_of ss ts))))
is_ring p q r mp mq mr ts mt = from_test (p ∷ q ∷ r ∷ []) (orders_of (p ∷ q ∷ r ∷ []) ts) (every_walk agrees all_agree p q r mp mq mr ts mt)
