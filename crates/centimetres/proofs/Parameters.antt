-- The parameters of points in whole centimetres are exact, and a vertex has on each line the sign of its whole number. Assumes nothing.
use Prim.Native.Nat.{ℕ, zero, suc, ◌<◌}
use mathlib.Core.Path.{◌≡◌, refl, sym, subst}
use mathlib.Core.Bool.{Bool, true, false, not, ◌||◌, cond, true≢false, false≢true}
use native.Mathlib.Omega.{arith}
use lib.Dec.{eqb, lit≤}
use lib.IntN.{ℤ, pos, negsuc, neg_ℤ, ◌-ℤ◌}
use Rattle.floats.specs.Lists.{any}
use Rattle.floats.specs.Numbers.{Point, cross_from}
use Rattle.floats.specs.Way.{Way, ◌⊖◌, negated, f64}
use Rattle.floats.specs.Whole.{whole, is_not_negative, is_negative}
use Rattle.lines.specs.Lines.{sign}
use Rattle.lines.specs.Parameters.{Parameters, parameter, parameters_by, signs, last_unseen, carried, values_of}
use Rattle.centimetres.proofs.Zero.{le_exact, lt_exact}
use Rattle.centimetres.proofs.Ways.{Whole, Whole-minus, Whole-times, Whole-turned, Whole-more, Whole-given}

-- a point of whole centimetres in range
pub record WholePoint (p : Point Way) (z : Point ℤ) : Type 0 where
  pub x : Whole 1000000 p.x z.x
  pub y : Whole 1000000 p.y z.y

-- differences stay within 2·10^6, products within 4·10^12
pub cross_whole : {a b c : Point Way} {A B C : Point ℤ} → WholePoint a A → WholePoint b B → WholePoint c C → Whole 8000000000000 (cross_from f64 a b c) (cross_from whole A B C)
cross_whole a b c =
    Whole-minus
    (Whole-times (Whole-minus b.x a.x (lit≤ tt)) (Whole-minus c.y a.y (lit≤ tt)) (lit≤ tt))
    (Whole-times (Whole-minus b.y a.y (lit≤ tt)) (Whole-minus c.x a.x (lit≤ tt)) (lit≤ tt))
    (lit≤ tt)

-- w is within three times that
pub record WholeParameters (p : Parameters Way) (z : Parameters ℤ) : Type 0 where
  pub x : Whole 24000000000000 p.x z.x
  pub y : Whole 24000000000000 p.y z.y
  pub w : Whole 24000000000000 p.w z.w

-- the parameters by d, x and y, before these are turned
abbrev turned_by : Bool → Way → Way → Way → Parameters Way
turned_by b d x y =
    let turned : Way → Way = λ v. cond b (negated v) v in
    record { x = turned x; y = turned y; w = (turned d ⊖ turned x) ⊖ turned y }

abbrev turned_by_z : Bool → ℤ → ℤ → ℤ → Parameters ℤ
turned_by_z b d x y =
    let turned : ℤ → ℤ = λ v. cond b (neg_ℤ v) v in
    record { x = turned x; y = turned y; w = (turned d -ℤ turned x) -ℤ turned y }

turned_Whole : {d x y : Way} {D X Y : ℤ} (b : Bool) → Whole 8000000000000 d D → Whole 8000000000000 x X → Whole 8000000000000 y Y → WholeParameters (turned_by b d x y) (turned_by_z b D X Y)
turned_Whole b d x y = record {
  x = Whole-more (Whole-turned b x) (lit≤ tt);
  y = Whole-more (Whole-turned b y) (lit≤ tt);
  w = Whole-minus (Whole-minus (Whole-turned b d) (Whole-turned b x) (lit≤ tt)) (Whole-turned b y) (lit≤ tt);
}

pub parameters_whole : {d : Way} {D : ℤ} {v0 v1 v2 u : Point Way} {Z0 Z1 Z2 Z : Point ℤ} → Whole 8000000000000 d D → WholePoint v0 Z0 → WholePoint v1 Z1 → WholePoint v2 Z2 → WholePoint u Z
    → WholeParameters (parameters_by f64 d v0 v1 v2 u) (parameters_by whole D Z0 Z1 Z2 Z)
parameters_whole {d} {D} {v0} {v1} {v2} {u} {Z0} {Z1} {Z2} {Z} hd h0 h1 h2 h =
    subst (λ b. WholeParameters (turned_by b d (cross_from f64 v0 u v2) (cross_from f64 v0 v1 u)) (parameters_by whole D Z0 Z1 Z2 Z))
    (sym (lt_exact hd.exact)) (turned_Whole (is_negative D) hd (cross_whole h0 h h2) (cross_whole h0 h1 h))

-- carried on without their way
pub carried_whole : {p : Parameters Way} {z : Parameters ℤ} → WholeParameters p z → WholeParameters (carried (values_of p)) z
carried_whole h = record { x = Whole-given h.x.exact h.x.small; y = Whole-given h.y.exact h.y.small; w = Whole-given h.w.exact h.w.small }

pub parameter-Whole : {p : Parameters Way} {z : Parameters ℤ} → WholeParameters p z → (a : ℕ) → Whole 24000000000000 (parameter p a) (parameter z a)
parameter-Whole {p} {z} h a = go (eqb a 0) (eqb a 1)
  where
    go : (s t : Bool) → Whole 24000000000000 (cond s p.x (cond t p.y p.w)) (cond s z.x (cond t z.y z.w))
    go true t = h.x
    go false true = h.y
    go false false = h.w

-- ---- signs
-- where x and y are minus, w is plus without being looked at: what d leaves of them is more than zero
abbrev pub Unseen : Parameters ℤ → Type 0
Unseen z = is_not_negative z.x ≡ false → is_not_negative z.y ≡ false → is_not_negative z.w ≡ true

left_over : (d x y : ℤ) → is_not_negative d ≡ true → is_not_negative x ≡ false → is_not_negative y ≡ false → is_not_negative ((d -ℤ x) -ℤ y) ≡ true
left_over (pos d) (negsuc x) (negsuc y) p q r = refl
left_over (pos d) (negsuc x) (pos y) p q r = absurd (true≢false r)
left_over (pos d) (pos x) y p q r = absurd (true≢false q)
left_over (negsuc d) x y p q r = absurd (false≢true p)

turned_plus : (d : ℤ) → is_not_negative (cond (is_negative d) (neg_ℤ d) d) ≡ true
turned_plus (pos n) = refl
turned_plus (negsuc n) = refl

pub unseen : (D : ℤ) (Z0 Z1 Z2 Z : Point ℤ) → Unseen (parameters_by whole D Z0 Z1 Z2 Z)
unseen D Z0 Z1 Z2 Z p q =
    let z = parameters_by whole D Z0 Z1 Z2 Z in
    left_over (cond (is_negative D) (neg_ℤ D) D) z.x z.y (turned_plus D) p q

pub sign_whole : {p : Parameters Way} {z : Parameters ℤ} → WholeParameters p z → Unseen z → (a : ℕ) → a < 3 → sign (signs f64 p) a ≡ is_not_negative (parameter z a)
unfolding signs last_unseen any
sign_whole h n zero l = le_exact h.x.exact
sign_whole h n (suc zero) l = le_exact h.y.exact
sign_whole {p} {z} h n (suc (suc zero)) l = rw (le_exact h.x.exact, le_exact h.y.exact, le_exact h.w.exact) (go (is_not_negative z.x) (is_not_negative z.y) (is_not_negative z.w) n)
  where
    go : (x y w : Bool) → (x ≡ false → y ≡ false → w ≡ true) → (not (x || (y || false)) || w) ≡ w
    go true y w h = refl
    go false true w h = refl
    go false false w h = sym (h refl refl)
sign_whole h n (suc (suc (suc a))) l = absurd (omega arith)
