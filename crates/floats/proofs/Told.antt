-- Of all operations only a quotient can hide an infinity or a NaN behind a finite result. So a value made of sums, differences, products and negations alone is
-- finite exactly if every value on its way is: its last value tells. Assumes nothing.
use mathlib.Core.Path.{◌≡◌, refl, sym, ap, ap₂, ◌∙◌}
use mathlib.Core.Bool.{Bool, true, false, ◌&&◌, cond, and-true, and-false, and_self, false≢true}
use mathlib.Core.List.{List, [], ◌∷◌, ◌++◌}
use lib.Dec.{eqb}
use lib.Ieee.{Float, nan, inf, fin, binary64, add, sub, mul, div, neg, unlike, of_bits}
use Rattle.floats.specs.Lists.{all}
use Rattle.floats.specs.Finite.{finite}
use Rattle.floats.specs.Numbers.{Point, cross, cross_from}
use Rattle.floats.specs.Way.{Way, given, step, ◌⊕◌, ◌⊖◌, ◌⊗◌, ◌⊘◌, negated, fine, f64, given_point}
use Rattle.floats.proofs.Lists.{all_append}

-- the result of an operation is fine exactly if all before it is finite and it is itself
pub fine-step : (v : Float) (before : List Float) → fine (step v before) ≡ (all finite before && finite v)
unfolding all
fine-step v before = all_append finite before (v ∷ []) ∙ ap (λ b. all finite before && b) (and-true (finite v))

-- the value tells: it is finite exactly if every value on its way is
abbrev pub Told : Way → Type 0
Told a = fine a ≡ finite a.value

-- the value tells at least where it is finite, as that of a given one does
abbrev pub Kept : Way → Type 0
Kept a = finite a.value ≡ true → fine a ≡ true

pub given-Kept : (v : Float) → Kept (given v)
unfolding all
given-Kept v h = refl

pub Told-Kept : (a : Way) → Told a → Kept a
Told-Kept a t h = t ∙ h

-- ---- one operation: finite only where both operands are
Both : Float → Float → Float → Type 0
Both x y r = finite r ≡ true → (finite x ≡ true) × (finite y ≡ true)

both : (x y : Float) (r : Float) → (finite x && finite y && finite r) ≡ finite r → Both x y r
unfolding Both
both x y r e h = go (finite x) (finite y) (finite r) e h
  where
    go : (a b c : Bool) → (a && b && c) ≡ c → c ≡ true → (a ≡ true) × (b ≡ true)
    go true true c e h = (refl, refl)
    go true false c e h = (refl, e ∙ h)
    go false b c e h = (e ∙ h, absurd (false≢true (e ∙ h)))

never : (b s : Bool) → false ≡ finite (cond b nan (inf s))
never true s = refl
never false s = refl

add_both : (x y : Float) → (finite x && finite y && finite (add binary64 x y)) ≡ finite (add binary64 x y)
unfolding add
add_both nan y = refl
add_both (inf s) nan = refl
add_both (inf true) (inf true) = refl
add_both (inf true) (inf false) = refl
add_both (inf false) (inf true) = refl
add_both (inf false) (inf false) = refl
add_both (inf s) (fin t n d) = refl
add_both (fin s m e) nan = refl
add_both (fin s m e) (inf t) = refl
add_both (fin s m e) (fin t n d) = refl

pub neg-finite : (x : Float) → finite (neg x) ≡ finite x
unfolding neg
neg-finite nan = refl
neg-finite (inf s) = refl
neg-finite (fin s m e) = refl

sub_both : (x y : Float) → (finite x && finite y && finite (sub binary64 x y)) ≡ finite (sub binary64 x y)
unfolding sub
sub_both x y = ap (λ b. finite x && b && finite (add binary64 x (neg y))) (sym (neg-finite y)) ∙ add_both x (neg y)

mul_both : (x y : Float) → (finite x && finite y && finite (mul binary64 x y)) ≡ finite (mul binary64 x y)
unfolding mul
mul_both nan y = refl
mul_both (inf s) nan = refl
mul_both (inf s) (inf t) = refl
mul_both (inf s) (fin t n d) = never (eqb n 0) (unlike s t)
mul_both (fin s m e) nan = refl
mul_both (fin s m e) (inf t) = never (eqb m 0) (unlike s t)
mul_both (fin s m e) (fin t n d) = refl

-- so a finite sum, difference or product has finite operands
pub add_operands : (x y : Float) → finite (add binary64 x y) ≡ true → (finite x ≡ true) × (finite y ≡ true)
unfolding Both
add_operands x y = both x y (add binary64 x y) (add_both x y)

pub sub_operands : (x y : Float) → finite (sub binary64 x y) ≡ true → (finite x ≡ true) × (finite y ≡ true)
unfolding Both
sub_operands x y = both x y (sub binary64 x y) (sub_both x y)

pub mul_operands : (x y : Float) → finite (mul binary64 x y) ≡ true → (finite x ≡ true) × (finite y ≡ true)
unfolding Both
mul_operands x y = both x y (mul binary64 x y) (mul_both x y)

pub turned_operand : (b : Bool) (a : Way) → finite (cond b (negated a) a).value ≡ true → finite a.value ≡ true
turned_operand true a h = sym (neg-finite a.value) ∙ h
turned_operand false a h = h

-- ---- a result that is finite only where its operands are tells
tells : (a b : Way) (v : Float) → Kept a → Kept b → Both a.value b.value v → Told (step v (a.way ++ b.way))
unfolding Both
tells a b v ka kb h =
    fine-step v (a.way ++ b.way)
    ∙ (ap (λ t. t && finite v) (all_append finite a.way b.way)
    ∙ go (fine a) (fine b) (finite v) refl)
  where
    go : (x y z : Bool) → finite v ≡ z → (fine a && fine b && z) ≡ z
    go x y true e = let r = h e in rw (ka r.0, kb r.1) refl
    go x y false e = and-false (fine a && fine b)

pub told_add : (a b : Way) → Kept a → Kept b → Told (a ⊕ b)
told_add a b ka kb = tells a b (add binary64 a.value b.value) ka kb (both _ _ _ (add_both a.value b.value))

pub Told-sub : (a b : Way) → Kept a → Kept b → Told (a ⊖ b)
Told-sub a b ka kb = tells a b (sub binary64 a.value b.value) ka kb (both _ _ _ (sub_both a.value b.value))

pub Told-mul : (a b : Way) → Kept a → Kept b → Told (a ⊗ b)
Told-mul a b ka kb = tells a b (mul binary64 a.value b.value) ka kb (both _ _ _ (mul_both a.value b.value))

Told-negated : (a : Way) → Told a → Told (negated a)
Told-negated a t =
    fine-step (neg a.value) a.way
    ∙ (ap (λ b. b && finite (neg a.value)) (t ∙ sym (neg-finite a.value)) ∙ and_self (finite (neg a.value)))

-- negated where the test holds
pub Told-flip : (b : Bool) (a : Way) → Told a → Told (cond b (negated a) a)
Told-flip true a t = Told-negated a t
Told-flip false a t = t

pub Kept-flip : (b : Bool) (a : Way) → Kept a → Kept (cond b (negated a) a)
Kept-flip true a k h = fine-step (neg a.value) a.way ∙ ap₂ ◌&&◌ (k (sym (neg-finite a.value) ∙ h)) h
Kept-flip false a k h = k h

-- ---- the formulas
pub Told-cross : (p q r s : Way) → Kept p → Kept q → Kept r → Kept s → Told (cross f64 p q r s)
Told-cross p q r s kp kq kr ks =
    Told-sub (p ⊗ s) (q ⊗ r) (Told-Kept (p ⊗ s) (Told-mul p s kp ks)) (Told-Kept (q ⊗ r) (Told-mul q r kq kr))

pub Kept-sub : (a b : Way) → Kept a → Kept b → Kept (a ⊖ b)
Kept-sub a b ka kb = Told-Kept (a ⊖ b) (Told-sub a b ka kb)

-- a point whose two components tell where they are finite, as a given one's do
abbrev pub KeptPoint : Point Way → Type 0
KeptPoint p = Kept p.x × Kept p.y

pub given_point_lem : (x y : Float) → KeptPoint (given_point x y)
given_point_lem x y = (given-Kept x, given-Kept y)

pub Told-cross_from : (a b c : Point Way) → KeptPoint a → KeptPoint b → KeptPoint c → Told (cross_from f64 a b c)
Told-cross_from a b c ka kb kc =
    Told-cross (b.x ⊖ a.x) (b.y ⊖ a.y) (c.x ⊖ a.x) (c.y ⊖ a.y)
    (Kept-sub _ _ kb.0 ka.0) (Kept-sub _ _ kb.1 ka.1) (Kept-sub _ _ kc.0 ka.0) (Kept-sub _ _ kc.1 ka.1)

-- a finite cross of differences was taken of finite points
abbrev pub FinitePoint : Point Way → Type 0
FinitePoint p = (finite p.x.value ≡ true) × (finite p.y.value ≡ true)

pub cross_from_operands : (a b c : Point Way) → finite (cross_from f64 a b c).value ≡ true → FinitePoint a × FinitePoint b × FinitePoint c
cross_from_operands a b c h =
    let products = sub_operands ((b.x ⊖ a.x) ⊗ (c.y ⊖ a.y)).value ((b.y ⊖ a.y) ⊗ (c.x ⊖ a.x)).value h in
    let p = mul_operands (b.x ⊖ a.x).value (c.y ⊖ a.y).value products.0 in
    let q = mul_operands (b.y ⊖ a.y).value (c.x ⊖ a.x).value products.1 in
    let bx = sub_operands b.x.value a.x.value p.0 in
    let cy = sub_operands c.y.value a.y.value p.1 in
    let by = sub_operands b.y.value a.y.value q.0 in
    let cx = sub_operands c.x.value a.x.value q.1 in
    ((bx.1, by.1), (bx.0, by.0), (cx.0, cy.0))

-- ---- a quotient hides what is on its way: 1 divided by the sum of the two largest values is a finite zero, and not fine
abbrev largest : Float
largest = of_bits binary64 0x7fef_ffff_ffff_ffff

pub hidden : (finite (given largest ⊘ (given largest ⊕ given largest)).value ≡ true) × (fine (given largest ⊘ (given largest ⊕ given largest)) ≡ false)
unfolding all add div of_bits
hidden = (refl, refl)
