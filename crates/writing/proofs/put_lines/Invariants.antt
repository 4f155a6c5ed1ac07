-- Each turn puts one more line behind those before.
use lib.ListN.{take}
use Rattle.text.specs.Room.{Put}
use Rattle.writing.proofs.Lines.{lines}
use Rattle.writing.proofs.put_lines.Given as goal

abbrev pub invariant-loop-test : goal.invariant-loop-test
invariant-loop-test l = Put l.initial.room l.at (lines (take l.test-index l.triples)) l.room l.next
