use Rattle.std.proofs.Common.{◌≡◌, Bool, List, IsTrue}
use Rattle.cond_formula.specs.Features.{has}
use Rattle.cond_formula.specs.Conditions.{condition_of, value}
use Rattle.choice_settling.specs.Steps.{stood}
use Rattle.choice_parser.specs.Units.{Progress}
use Rattle.choice_parser.proofs.parser.read_tokens.Given as goal

abbrev pub invariant-loop-i : goal.invariant-loop-i
invariant-loop-i g l = record {
  kept : g.O.Oracle.admits l.oracle ≡ g.O.Oracle.admits l.fn.oracle;
  progress :
      (c : List Bool) → IsTrue (value (has c) (g.O.Oracle.admits l.fn.oracle))
      → Progress (has c) l.tokens l.i (value (has c) (condition_of l.refused)) (stood l.state l.items.items (has c));
}
