use Rattle.std.proofs.Common.{◌≡◌, Bool, ◌&&◌, List, IsTrue, drop}
use Rattle.std.specs.Prelude.{◌||◌}
use Rattle.cond_formula.specs.Features.{has}
use Rattle.cond_formula.specs.Conditions.{condition_of, value}
use Rattle.conditional.specs.Entries.{seen, entries_of, first}
use Rattle.type_tables.specs.Forms.{file_name_form}
use Rattle.name_declarations.specs.Conflicts.{conflicting}
use Rattle.name_declarations.proofs.conflicts.where_conflicting.Given as goal

abbrev pub invariant-loop-meaning : goal.invariant-loop-meaning
invariant-loop-meaning g l = record {
  kept : g.O.Oracle.admits l.oracle ≡ g.O.Oracle.admits l.fn.oracle;
  so_far : (n : List Bool) → IsTrue (value (has n) (g.O.Oracle.admits l.fn.oracle))
      → (value (has n) (condition_of l.refused) || (value (has n) (condition_of l.left) && conflicting (g.C.Conflict.conflicts l.conflict n) (first (seen (has n) (entries_of file_name_form (drop l.meaning-index l.meanings))))))
      ≡ (value (has n) (condition_of l.when) && conflicting (g.C.Conflict.conflicts l.conflict n) (first (seen (has n) (entries_of file_name_form l.meanings))));
}
