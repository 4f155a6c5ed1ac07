-- The corners worked by hand are told so: a computed test over each part of them, and what it says of each. Assumes nothing.
use mathlib.Core.Path.{◌≡◌, refl}
use mathlib.Core.Bool.{Bool, ◌&&◌}
use mathlib.Core.Logic.{⊎_elim}
use mathlib.Core.List.Memᴰ
use mathlib.Core.List.{map, Memᴰ}
use lib.Dec.{T, eqb, eqb→eq}
use lib.ListN.{get_or}
use lib.Ieee.{add, sub, mul, div, neg, lt, le, eq, of_int, of_bits}
use lib.Ieee.Fits.{and_l, and_r}
use Rattle.floats.specs.Lists.{all}
use Rattle.floats.proofs.Lists.{all_at, same_list, same_list_lem}
use Rattle.floats.proofs.Same.{same_float, same_float_lem}
use Rattle.corners.specs.declared.Told.{Told}
use Rattle.corners.specs.Corners.{told_at}
use Rattle.worked.specs.Corners.{Case, Shown, refused_by, places, inside, across, odd, judged, cases}

-- field by field, from the last
module _ (a b : Told) where
  same_y : Bool
  unfolding same_float
  same_y = same_float a.y b.y

  same_x : Bool
  unfolding same_y same_float
  same_x = same_float a.x b.x && same_y

  same_t : Bool
  unfolding same_x same_float
  same_t = same_float a.t b.t && same_x

  same_line : Bool
  unfolding same_t
  same_line = eqb a.line b.line && same_t

  same_edge : Bool
  unfolding same_line
  same_edge = eqb a.edge b.edge && same_line

  same_which : Bool
  unfolding same_edge
  same_which = eqb a.which b.which && same_edge

  same_kind : Bool
  unfolding same_which
  same_kind = eqb a.kind b.kind && same_which

  same_told : Bool
  unfolding same_kind
  same_told = eqb a.number b.number && same_kind

  joined : a.number ≡ b.number → a.kind ≡ b.kind → a.which ≡ b.which → a.edge ≡ b.edge → a.line ≡ b.line → a.t ≡ b.t → a.x ≡ b.x → a.y ≡ b.y → a ≡ b
  joined h0 h1 h2 h3 h4 h5 h6 h7 = rw (h0, h1, h2, h3, h4, h5, h6, h7) refl

  same_told_lem : T same_told → a ≡ b
  unfolding same_told same_kind same_which same_edge same_line same_t same_x same_y
  same_told_lem t =
      let t1 = and_r (eqb a.number b.number) same_kind t in
      let t2 = and_r (eqb a.kind b.kind) same_which t1 in
      let t3 = and_r (eqb a.which b.which) same_edge t2 in
      let t4 = and_r (eqb a.edge b.edge) same_line t3 in
      let t5 = and_r (eqb a.line b.line) same_t t4 in
      let t6 = and_r (same_float a.t b.t) same_x t5 in
      joined (eqb→eq a.number b.number (and_l (eqb a.number b.number) same_kind t)) (eqb→eq a.kind b.kind (and_l (eqb a.kind b.kind) same_which t1))
      (eqb→eq a.which b.which (and_l (eqb a.which b.which) same_edge t2)) (eqb→eq a.edge b.edge (and_l (eqb a.edge b.edge) same_line t3))
      (eqb→eq a.line b.line (and_l (eqb a.line b.line) same_t t4)) (same_float_lem a.t b.t (and_l (same_float a.t b.t) same_x t5))
      (same_float_lem a.x b.x (and_l (same_float a.x b.x) same_y t6)) (same_float_lem a.y b.y (and_r (same_float a.x b.x) same_y t6))

right : Case → Bool
unfolding same_told same_list told_at
right c = same_list same_told (map (told_at c.values) places) (map (λ k. get_or c.corners k (refused_by c.otherwise)) places)

inside-right : T (all right inside)
unfolding all right add sub mul div neg lt le eq of_int of_bits
inside-right = tt

across-right : T (all right across)
unfolding all right add sub mul div neg lt le eq of_int of_bits
across-right = tt

odd-right : T (all right odd)
unfolding all right add sub mul div neg lt le eq of_int of_bits
odd-right = tt

judged-right : T (all right judged)
unfolding all right add sub mul div neg lt le eq of_int of_bits
judged-right = tt

shown : (c : Case) → T (right c) → Shown c
unfolding right
shown c t = record { told = same_list_lem same_told same_told_lem _ _ t }

pub worked_corners : (c : Case) → Memᴰ c cases → Shown c
worked_corners c m =
    ⊎_elim (λ r. shown c (all_at right inside inside-right r))
    (λ r. ⊎_elim (λ q. shown c (all_at right across across-right q)) (λ q. ⊎_elim (λ s. shown c (all_at right odd odd-right s)) (λ s. shown c (all_at right judged judged-right s)) (Memᴰ.append_cases odd q)) (Memᴰ.append_cases across r)) (Memᴰ.append_cases inside m)
