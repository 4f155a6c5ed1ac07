-- Each turn puts the own box of one more recording.
use lib.ListN.{length}
use mathlib.Core.Path.{◌≡◌}
use Rattle.leaklist.specs.Code.{Owned}
use Rattle.leaklist.proofs.framed.frame_own.Given as goal

abbrev pub invariant-loop-k : goal.invariant-loop-k
invariant-loop-k l = (length l.own ≡ length l.initial.own) × Owned l.file l.bounds l.k l.own
