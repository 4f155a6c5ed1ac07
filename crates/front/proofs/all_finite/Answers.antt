-- Each step of the fold tests one more value.
use mathlib.Core.Path.{◌≡◌, refl, sym, ap₂, ◌∙◌}
use mathlib.Core.Bool.{Bool, true, ◌&&◌, and-true}
use mathlib.Core.List.{List, [], ◌∷◌, ◌++◌}
use lib.Ieee.{Float}
use borrow.Author.Rules.{rules}
use Rattle.std.proofs.lemmas.Fn.{fold_over, fronts}
use Rattle.std.proofs.lemmas.Iterator.{YieldsList-from_slice}
use Rattle.floats.specs.Lists.{all}
use Rattle.floats.specs.Finite.{finite}
use Rattle.floats.proofs.Lists.{all_append}
use Rattle.front.proofs.all_finite.Goals as goal

one_tested : (l : List Float) (x : Float) {so_far : Bool} → so_far ≡ all finite l → (so_far && finite x) ≡ all finite (l ++ (x ∷ []))
unfolding all
one_tested l x e = ap₂ ◌&&◌ e (sym (and-true (finite x))) ∙ sym (all_append finite l (x ∷ []))

none_tested : true ≡ all finite []
unfolding all
none_tested = refl

pub returns : goal.returns
returns c =
    let l = c.args.values.now in
    fold_over fronts (λ y. y.now) _ (λ ys a. a ≡ all finite ys) _
    (λ ys a x b f' e k. let h : (b ≡ (a && finite x.now)) × (f' ≡ record {}) = search rules in (h.0 ∙ one_tested ys x.now e, h.1))
    _ l _ _ (YieldsList-from_slice l cc).runs none_tested c.fold.ensures.ran
