-- Each parameter is finite exactly if every value on its way is, so that code may look at the three results alone. Assumes nothing.
use mathlib.Core.Path.{◌≡◌}
use mathlib.Core.Bool.{true, cond}
use Rattle.floats.specs.Finite.{finite}
use Rattle.floats.specs.Numbers.{Point, cross_from}
use Rattle.floats.specs.Way.{Way, ◌⊖◌, negated, f64}
use Rattle.floats.proofs.Told.{Told, KeptPoint, Told-Kept, Told-sub, Told-flip, Told-cross_from, sub_operands, turned_operand}
use Rattle.lines.specs.Parameters.{Parameters, parameters_by}

pub record ToldParameters (p : Parameters Way) : Type 0 where
  pub x : Told p.x
  pub y : Told p.y
  pub w : Told p.w

pub Told-parameters : (d : Way) (v0 v1 v2 u : Point Way) → Told d → KeptPoint v0 → KeptPoint v1 → KeptPoint v2 → KeptPoint u → ToldParameters (parameters_by f64 d v0 v1 v2 u)
Told-parameters d v0 v1 v2 u td k0 k1 k2 k =
    let below = f64.is_below_zero d in
    let turned : Way → Way = λ v. cond below (negated v) v in
    let x = turned (cross_from f64 v0 u v2) in
    let y = turned (cross_from f64 v0 v1 u) in
    let tx : Told x = Told-flip below (cross_from f64 v0 u v2) (Told-cross_from v0 u v2 k0 k k2) in
    let ty : Told y = Told-flip below (cross_from f64 v0 v1 u) (Told-cross_from v0 v1 u k0 k1 k) in
    let dx : Told (turned d ⊖ x) = Told-sub (turned d) x (Told-Kept (turned d) (Told-flip below d td)) (Told-Kept x tx) in
    record { x = tx; y = ty; w = Told-sub (turned d ⊖ x) y (Told-Kept (turned d ⊖ x) dx) (Told-Kept y ty) }

-- d, x and y stand on the way to w, so a finite w says that they are finite
pub w_operands : (d : Way) (v0 v1 v2 u : Point Way) →
    (let p = parameters_by f64 d v0 v1 v2 u in finite p.w.value ≡ true → (finite d.value ≡ true) × (finite p.x.value ≡ true) × (finite p.y.value ≡ true))
w_operands d v0 v1 v2 u h =
    let p = parameters_by f64 d v0 v1 v2 u in
    let turned = cond (f64.is_below_zero d) (negated d) d in
    let w = sub_operands (turned ⊖ p.x).value p.y.value h in
    let dx = sub_operands turned.value p.x.value w.0 in
    (turned_operand (f64.is_below_zero d) d dx.0, dx.1, w.1)
