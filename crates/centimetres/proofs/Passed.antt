-- A triangle that passes the rule of one triangle, and each triangle of a good file, is in range and has an area. Assumes nothing.
use Prim.Native.Nat.{ℕ, ◌<◌}
use mathlib.Core.Path.{◌≡◌, refl, sym, ◌∙◌}
use mathlib.Core.Bool.{Bool, true, false, cond, false≢true}
use lib.IntN.{nat_abs}
use native.Mathlib.Omega.{arith}
use native.Mathlib.Nat.{lt_of_not-le, le_of_suc-le-suc}
use Rattle.layout.specs.Rules.{is_out_of_range, is_flat, triangle_rule}
use Rattle.layout.proofs.Tests.{range_test, Flat-test}
use Rattle.layout.proofs.Inside.{parts_inside}
use Rattle.centimetres.specs.Centimetres.{ByTheRule, InGoodFiles}

-- neither number is said
neither : (out flat : Bool) → ◌≡◌ {A = ℕ} (cond out 17 (cond flat 18 0)) 0 → (out ≡ false) × (flat ≡ false)
neither true flat h = absurd (omega arith)
neither false true h = absurd (omega arith)
neither false false h = (refl, refl)

pub by_the_rule : ByTheRule
unfolding triangle_rule
by_the_rule t h =
    let n = neither (is_out_of_range t) (is_flat t) h in
    record {
      in_range = λ z m. le_of_suc-le-suc (lt_of_not-le (λ (far : 1000000 < nat_abs z). false≢true (sym n.0 ∙ (range_test t).1 (z, m, far))));
      some_area = λ e. false≢true (sym n.1 ∙ (Flat-test t).1 e);
    }

pub in_good_files : InGoodFiles
in_good_files file k j l b c = let p = parts_inside file k l b in record { in_range = p.in_range j c; some_area = p.some_area j c }
