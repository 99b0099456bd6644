use Rattle.std.proofs.Common.{◌≡◌, Bool, IsTrue, List, ◌||◌, ◌&&◌, drop}
use Rattle.cond_formula.specs.Features.{has}
use Rattle.cond_formula.specs.Conditions.{condition_of, conditions_of, value, all_true, any_true}
use Rattle.refuted_parts.proofs.parts.+refuted.Given as goal

abbrev pub invariant-any_of-loop-part : goal.invariant-any_of-loop-part
invariant-any_of-loop-part g l = record {
  kept : g.O.Oracle.admits l.oracle ≡ g.O.Oracle.admits l.fn.oracle;
  so_far : (c : List Bool) → IsTrue (value (has c) (g.O.Oracle.admits l.fn.oracle))
      → (value (has c) (condition_of l.some) || any_true (has c) (conditions_of (drop l.part-index l.parts))) ≡ any_true (has c) (conditions_of l.parts);
}

abbrev pub invariant-all_of-loop-part : goal.invariant-all_of-loop-part
invariant-all_of-loop-part g l = record {
  kept : g.O.Oracle.admits l.oracle ≡ g.O.Oracle.admits l.fn.oracle;
  so_far : (c : List Bool) → IsTrue (value (has c) (g.O.Oracle.admits l.fn.oracle))
      → (value (has c) (condition_of l.all) && all_true (has c) (conditions_of (drop l.part-index l.parts))) ≡ all_true (has c) (conditions_of l.parts);
}
