-- From an accepted file no triangle pair is refused: its triangles are whole centimetres in range, each with an area. So its boxes share no point exactly if it is far, and then it is apart. Assumes nothing.
use Prim.Native.Nat.{ℕ, ◌+◌, ◌*◌, ◌<◌, ◌≤◌}
use mathlib.Core.Path.{◌≡◌, sym, refl, ap, ap₂, subst, ◌∙◌}
use mathlib.Core.Logic.{⊎_elim}
use mathlib.Core.Bool.{Bool, false, or-false}
use mathlib.Core.List.Memᴰ
use mathlib.Core.List.{List, ◌++◌, map}
use native.Mathlib.Omega.{arith}
use lib.Ieee.{Float, binary64, of_int}
use Rattle.floats.specs.Finite.{finite}
use Rattle.floats.proofs.Lists.{so, os, all_at}
use Rattle.boxes.specs.Near.{is_near, TwelveFinite}
use Rattle.boxes.proofs.Pairs.{boxes_tell}
use Rattle.triangles.specs.declared.Decision.TheVariants.{Apart}
use Rattle.triangles.specs.Decision.{decision_of}
use Rattle.triangles.proofs.Decided.{boxes_first}
use Rattle.layout.specs.Bytes.{i32_at}
use Rattle.layout.specs.Parts.{Triangle, numbers_of, count_of, entry_at, triangle_from}
use Rattle.layout.specs.Layout.{Layout}
use Rattle.layout.specs.Recordings.{part_of, f64_at}
use Rattle.layout.proofs.Inside.{parts_inside}
use Rattle.centimetres.specs.Centimetres.{Centimetres, twelve_values}
use Rattle.centimetres.proofs.Pair.{values, values-finite}
use Rattle.centimetres.proofs.Never.{always_decided}
use Rattle.centimetres.proofs.Passed.{in_good_files}
use Rattle.listing.specs.declared.Tally.{Tally}
use Rattle.listing.specs.Pairs.{place_in, coordinates_at, values_at, decision_at}
use Rattle.listing.specs.Demand.{DecidedOfParts, NoneRefused, ValuesOfParts, PairByBoxes, FarApart}
use Rattle.listing.proofs.Turns.{map-append}

module _ (file : List ℕ) (good : Layout file) where
  -- triangle a of recording i, in its part
  abbrev tri : ℕ → ℕ → Triangle
  tri i a = triangle_from (part_of file i) (24 * a)

  -- a number of it, in the part and in the file
  number : (i a c : ℕ) → i < count_of file → a < (entry_at file i).count → c ≤ 20 → of_int binary64 (i32_at (part_of file i) (24 * a + c)) ≡ f64_at file (place_in (entry_at file i) a + c)
  unfolding f64_at
  number i a c h k l = ap (of_int binary64) ((parts_inside file i good h).same_number (24 * a + c) (omega (arith, k, l)) ∙ ap (i32_at file) (shift (entry_at file i).first a c))
    where
      shift : (f a c : ℕ) → f + (24 * a + c) ≡ f + 24 * a + c
      shift f a c = omega arith

  first : (i a : ℕ) → i < count_of file → a < (entry_at file i).count → of_int binary64 (i32_at (part_of file i) (24 * a)) ≡ f64_at file (place_in (entry_at file i) a)
  unfolding f64_at
  first i a h k = ap (of_int binary64) ((parts_inside file i good h).same_number (24 * a) (omega (arith, k)))

  numbers : (i a : ℕ) → i < count_of file → a < (entry_at file i).count → map (of_int binary64) (numbers_of (tri i a)) ≡ coordinates_at file (place_in (entry_at file i) a)
  unfolding triangle_from coordinates_at
  numbers i a h k =
      rw (first i a h k, number i a 4 h k (omega arith), number i a 8 h k (omega arith), number i a 12 h k (omega arith), number i a 16 h k (omega arith), number i a 20 h k (omega arith)) refl

  -- the twelve values of a pair, in the parts and in the file
  pub values_are : (i j a b : ℕ) → i < count_of file → j < count_of file → a < (entry_at file i).count → b < (entry_at file j).count → twelve_values (tri i a) (tri j b) ≡ values_at file (entry_at file i) (entry_at file j) a b
  unfolding values_at
  values_are i j a b hi hj ha hb = map-append (of_int binary64) (numbers_of (tri i a)) (numbers_of (tri j b)) ∙ ap₂ ◌++◌ (numbers i a hi ha) (numbers j b hj hb)

pub decided_of_parts : DecidedOfParts
unfolding decision_at
decided_of_parts file good i j a b hi hj ha hb = sym (ap decision_of (values_are file good i j a b hi hj ha hb))

pub none_refused : NoneRefused
none_refused file good i j a b hi hj ha hb k e =
    always_decided (tri file good i a) (tri file good j b) (in_good_files file i a good hi ha) (in_good_files file j b good hj hb) k (sym (decided_of_parts file good i j a b hi hj ha hb) ∙ e)

-- ---- far pairs
-- twelve values, each finite
pub all_given : (u v : Triangle) → Centimetres u → Centimetres v → TwelveFinite (twelve_values u v)
all_given u v hu hv =
    let zs = numbers_of u ++ numbers_of v in
    let fine = values-finite zs (λ z m. ⊎_elim (hu.in_range z) (hv.in_range z) (Memᴰ.append_cases (numbers_of u) m)) in
    record { twelve = refl; all_finite = λ x m. so (all_at finite (values zs) (os fine) m) }

-- what boxes tell of them
pub by_boxes : (values : List Float) → TwelveFinite values → PairByBoxes values
by_boxes values g =
    let tell = boxes_tell values g in
    let apart : is_near values ≡ false → decision_of values ≡ Apart = λ e. (boxes_first values).far (tell.far.0 e) in
    record {
      shared = tell.point;
      ruled = λ e. (boxes_first values).near (tell.near.0 e);
      far = tell.far;
      apart = apart;
      adds = λ e t. rw (apart e, e) (tally_same (omega arith) (omega arith) (omega arith) (or-false t.refused));
    }
  where
    tally_same : {a b c d e f : ℕ} {g h : Bool} {s : Float} → a ≡ d → b ≡ e → c ≡ f → g ≡ h → ◌≡◌ {A = Tally} (record { overlapping = a; touching = b; tested = c; refused = g; area = s }) (record { overlapping = d; touching = e; tested = f; refused = h; area = s })
    tally_same p q r o = rw (p, q, r, o) refl

pub far_apart : FarApart
far_apart file good i j a b hi hj ha hb =
    by_boxes (values_at file (entry_at file i) (entry_at file j) a b)
    (subst TwelveFinite (values_are file good i j a b hi hj ha hb) (all_given (tri file good i a) (tri file good j b) (in_good_files file i a good hi ha) (in_good_files file j b good hj hb)))

pub values_of_parts : ValuesOfParts
values_of_parts file good i j a b hi hj ha hb = sym (values_are file good i j a b hi hj ha hb)
