-- The table of prepared triangles: each that is put there stays. Assumes nothing.
use Prim.Native.Nat.{ℕ, ◌+◌, ◌*◌, ◌<◌}
use mathlib.Core.Path.{◌≡◌, refl, ap, ◌∙◌}
use mathlib.Core.List.{List}
use native.Mathlib.Omega.{arith}
use lib.ListN.{length, set}
use lib.Seq.{get_or-set_same, get_or-set_other}
use Rattle.std.proofs.Common.{below_more}
use Rattle.floats.specs.declared.Position.{Position}
use Rattle.shapes.specs.declared.Shape.{Shape}
use Rattle.shapes.specs.Shapes.{shape_of}
use Rattle.layout.specs.Recordings.{f64_at}
use Rattle.leaklist.specs.Code.{no_shape, shape_in, shape_from, Prepared}

-- one more triangle of the file
pub Prepared-turn : (file : List ℕ) (table : List Shape) (n : ℕ) (s : Shape) → n < length table → Prepared file n table → s ≡ shape_from file (24 * n) → Prepared file (n + 1) (set table n s)
Prepared-turn file table n s room before e =
    below_more (λ k. shape_in (set table n s) k ≡ shape_from file (24 * k)) n
    (λ k h. get_or-set_other table n k s no_shape (λ q. omega (arith, h, q)) ∙ before k h)
    (get_or-set_same table n s no_shape room ∙ e)

-- as the code comes to it
abbrev At : List ℕ → ℕ → Position → Type 0
At file at p = (p.x ≡ f64_at file at) × (p.y ≡ f64_at file (at + 4))

pub shape_read : (file : List ℕ) (at : ℕ) {a b c : Position} {s : Shape} → At file at a → At file (at + 8) b → At file (at + 16) c → s ≡ shape_of a.x a.y b.x b.y c.x c.y → s ≡ shape_from file at
unfolding shape_from
shape_read file at {a} {b} {c} p q r h =
    let eight : at + 8 + 4 ≡ at + 12 = omega arith in
    let sixteen : at + 16 + 4 ≡ at + 20 = omega arith in
    h ∙ rw (p.0, p.1, q.0, q.1 ∙ ap (f64_at file) eight, r.0, r.1 ∙ ap (f64_at file) sixteen) refl
