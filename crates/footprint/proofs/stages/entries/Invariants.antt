-- Before each turn the entries that are left say what all say, and `end` is where those before end.
use Prim.Native.Nat.{◌≤◌, ◌*◌, ◌-◌}
use mathlib.Core.Path.{◌≡◌}
use mathlib.Core.List.{[], ◌∷◌, ◌++◌}
use Rattle.floats.specs.Turns.{in_turn}
use Rattle.layout.specs.Parts.{end_before}
use Rattle.layout.specs.Verdict.{bad_entry, id_again, wrong_end, first_of}
use Rattle.layout.specs.Stages.{table_rows}
use Rattle.footprint.proofs.stages.entries.Given as goal

abbrev pub invariant-loop-i : goal.invariant-loop-i
invariant-loop-i l = record {
  left : first_of l.file (table_rows l.file) ≡ first_of l.file (in_turn bad_entry id_again (l.table.count - l.i) l.i ++ (wrong_end ∷ []));
  ends : l.end ≡ end_before l.file l.i;
  small : l.end ≤ 1572840 * l.i;
}
