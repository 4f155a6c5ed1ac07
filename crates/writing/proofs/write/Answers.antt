-- The triples are those of the numbers.
use mathlib.Core.Path.{subst}
use Rattle.writing.specs.Triples.{beside_in, WrittenAs}
use Rattle.writing.proofs.Chunks.{chunks_held}
use Rattle.writing.proofs.write.Goals as goal

pub returns : goal.returns
returns c = let g = c.args in
    let e = rw c.as_chunks.ensures.front at c.write_triples.ensures in
    subst (λ ls. WrittenAs ls (beside_in g.c g.formerly) g.room.now c.write_triples.result c.write_triples.new.room) (chunks_held g.found.now g.c.leaks) e
