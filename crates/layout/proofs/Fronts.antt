-- What is answered of a file turns on its first 65,537 bytes: a longer one is refused whatever its bytes are. Assumes nothing.
use Prim.Native.Nat.{ℕ, ◌<◌}
use mathlib.Core.Path.{◌≡◌, refl, sym, ap, ◌∙◌}
use mathlib.Core.Bool.{Bool, true, false}
use mathlib.Core.List.{List}
use native.Mathlib.Omega.{arith}
use lib.Dec.{ltb}
use lib.ListN.{length, take, length-take}
use lib.Seq.{take_all}
use borrow.Author.Tests.{ltb-true, ltb-false}
use Rattle.layout.specs.declared.Verdict.{Verdict}
use Rattle.layout.specs.Verdict.{number_at}
use Rattle.layout.specs.Recordings.{unless_refused}
use Rattle.layout.specs.Promise.{FirstBytes}
use Rattle.layout.proofs.Returned.{file_first_lem}
use Rattle.layout.proofs.Worked.{too_long_lem}

over_length : (A : Type 0) (refused_by : Verdict → A) (answer : A) (file : List ℕ) → 65536 < length file → unless_refused file refused_by answer ≡ refused_by (number_at 11 0)
over_length A refused_by answer file h =
    let v = too_long_lem file h in
    file_first_lem A file refused_by answer (λ z. let n = ap (λ (w : Verdict). w.number) v in omega (arith, z, n)) ∙ ap refused_by v

pub first_bytes : FirstBytes
first_bytes A refused_by answer most enough file = go (ltb 65536 (length file)) refl
  where
    go : (b : Bool) → ltb 65536 (length file) ≡ b → unless_refused (take most file) refused_by (answer (take most file)) ≡ unless_refused file refused_by (answer file)
    go true e =
        let h = ltb-true 65536 (length file) e in
        let l = length-take most file in
        over_length A refused_by (answer (take most file)) (take most file) (omega (arith, enough, h, l)) ∙ sym (over_length A refused_by (answer file) file h)
    go false e = let h = ltb-false 65536 (length file) e in ap (λ f. unless_refused f refused_by (answer f)) (take_all most file (omega (arith, enough, h)))
