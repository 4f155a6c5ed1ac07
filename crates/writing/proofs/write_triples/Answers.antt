-- What was put whole is answered; where nothing was put it is refused.
use mathlib.Core.Path.{◌≡◌, refl, ap, sym, ◌∙◌}
use mathlib.Core.Bool.{false≢true}
use mathlib.Core.List.{map}
use native.Mathlib.Omega.{arith}
use lib.ListN.{take}
use lib.Seq.{length-take-le}
use Rattle.std.specs.Prelude.{min}
use Rattle.writing.specs.Triples.{leak_of, held, beside_in}
use Rattle.writing.proofs.Lines.{how_many}
use Rattle.writing.proofs.Written.{written_not, written_all}
use Rattle.writing.proofs.write_triples.Goals as goal

pub returns-in_default : goal.returns-in_default
returns-in_default c = let g = c.args in
    let n : c.min-n.result ≡ held g.found.now g.c.leaks = c.min-n.ensures ∙ ap (min g.c.leaks) c.min.ensures in
    let put = rw n at c.in_default.ensures in
    written_not (map leak_of (take (held g.found.now g.c.leaks) g.found.now)) (beside_in g.c g.formerly) g.room.now put.placed (λ h. false≢true (put.fits.1 h)) c.no_list.ensures

pub returns : goal.returns
returns c = let g = c.args in
    let n : c.min-n.result ≡ held g.found.now g.c.leaks = c.min-n.ensures ∙ ap (min g.c.leaks) c.min.ensures in
    let put = rw n at c.in-Some.ensures in
    written_all (map leak_of (take (held g.found.now g.c.leaks) g.found.now)) (beside_in g.c g.formerly) g.room.now put.placed (put.fits.0 refl) (n ∙ (sym (length-take-le (held g.found.now g.c.leaks) g.found.now (omega arith)) ∙ how_many (take (held g.found.now g.c.leaks) g.found.now)))
