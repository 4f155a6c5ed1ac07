-- A leak by edition 2 is one by edition 1: an own area is never below zero, and without an overlapping pair the sum of the areas is 0.0 and no pair is refused. Assumes nothing.
use Prim.Native.Nat.{ℕ}
use mathlib.Core.Path.{◌≡◌, refl, sym, ap, ap₂, ◌∙◌}
use mathlib.Core.Bool.{Bool, true, false, ◌||◌, or-true, true≢false}
use mathlib.Core.List.{List, [], ◌∷◌, map}
use native.Mathlib.Omega.{arith}
use lib.Dec.{ltb}
use borrow.Author.Tests.{ltb-false, eq-eqb, ne_eqb}
use lib.Ieee.{Float, binary64, add, mul, lt, round, of_int, of_bits}
use Rattle.floats.specs.Finite.{nought}
use Rattle.floats.proofs.Sums.{is_plus, product_plus}
use Rattle.floats.proofs.Plus.{not_below, turned_not_below, sum_plus}
use Rattle.triangles.specs.Positions.{half}
use Rattle.layout.specs.declared.Entry.{Entry}
use Rattle.listing.specs.declared.Tally.{Tally}
use Rattle.listing.specs.Turns.{up_to, folded}
use Rattle.listing.specs.Pairs.{place_in, decisions, absolute, e_at, sizes_of, own_area, tally_of, leak_by_first, hundred, leak_by_second, leak}
use Rattle.listing.specs.Demand.{AHundred}
use Rattle.listing.proofs.Tallied.{tally_overlapping, tally_area, tally_refused, none_added}

-- ---- edition 2, by the sum and by what is refused
pub second_above : (own : Float) (t : Tally) → lt own (mul binary64 hundred t.area) ≡ true → leak_by_second own t ≡ true
second_above own t a = ap (λ b. t.refused || b) a ∙ or-true t.refused

pub second_refused : (own : Float) (t : Tally) → t.refused ≡ true → leak_by_second own t ≡ true
second_refused own t r = ap (λ b. b || lt own (mul binary64 hundred t.area)) r

second_else : (own : Float) (t : Tally) → t.refused ≡ false → lt own (mul binary64 hundred t.area) ≡ false → leak_by_second own t ≡ false
second_else own t r a = ap₂ ◌||◌ r a

-- ---- an own area is not below zero
sizes_plus : (of : ℕ → Float) (s : Float) (ns : List ℕ) → is_plus s ≡ true → is_plus (folded (add binary64) s (map (λ a. absolute (of a)) ns)) ≡ true
unfolding folded
sizes_plus of s [] h = h
sizes_plus of s (n ∷ ns) h = sizes_plus of (add binary64 s (absolute (of n))) ns (sum_plus s (absolute (of n)) h (turned_not_below (of n)))

pub own_not_below : (file : List ℕ) (r : Entry) → lt (own_area file r) nought ≡ false
unfolding own_area sizes_of
own_not_below file r = not_below (mul binary64 half total) (product_plus half total half_plus (sizes_plus (λ a. e_at file (place_in r a)) nought (up_to r.count) nought_plus))
  where
    total : Float
    total = folded (add binary64) nought (map (λ a. absolute (e_at file (place_in r a))) (up_to r.count))

    half_plus : is_plus half ≡ true
    half_plus = unfold of_bits in refl

    nought_plus : is_plus nought ≡ true
    nought_plus = unfold of_bits in refl

pub a_hundred : AHundred
unfolding of_int round of_bits
a_hundred = refl

hundred_noughts : mul binary64 hundred nought ≡ nought
unfolding mul round of_bits
hundred_noughts = refl

none_summed : folded (add binary64) nought [] ≡ nought
unfolding folded
none_summed = refl

-- ---- so nothing leaks without an overlapping pair
pub no_leak : (own : Float) (t : Tally) → lt own nought ≡ false → t.refused ≡ false → t.area ≡ nought → leak_by_second own t ≡ false
no_leak own t h r a = second_else own t r (ap (λ s. lt own (mul binary64 hundred s)) a ∙ (ap (lt own) hundred_noughts ∙ h))

module _ (file : List ℕ) (r e f : Entry) where
  -- what is not counted as overlapping adds no area and is not refused
  nothing_kept : (tally_of file e f).overlapping ≡ 0 → leak_by_second (own_area file r) (tally_of file e f) ≡ false
  nothing_kept z =
      let n = none_added (decisions file e f) (sym (tally_overlapping file e f) ∙ z) in
      no_leak (own_area file r) (tally_of file e f) (own_not_below file r) (tally_refused file e f ∙ n.1) (tally_area file e f ∙ (ap (folded (add binary64) nought) n.0 ∙ none_summed))

  pub second_first : leak_by_second (own_area file r) (tally_of file e f) ≡ true → leak_by_first (tally_of file e f) ≡ true
  second_first h = go (ltb 0 (tally_of file e f).overlapping) refl
    where
      go : (b : Bool) → ltb 0 (tally_of file e f).overlapping ≡ b → b ≡ true
      go true q = refl
      go false q = absurd (true≢false (sym h ∙ nothing_kept (let l = ltb-false 0 (tally_of file e f).overlapping q in omega (arith, l))))

-- ---- the rule, by the last byte
pub by_first : (last : ℕ) (own : Float) (t : Tally) → (last ≡ 1 → ⊥) → leak last own t ≡ leak_by_first t
by_first last own t n = rw (ne_eqb last 1 n) refl

pub by_second : (last : ℕ) (own : Float) (t : Tally) → last ≡ 1 → leak last own t ≡ leak_by_second own t
by_second last own t e = rw (eq-eqb last 1 e) refl
