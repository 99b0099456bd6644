use Rattle.std.proofs.Common.{List, ◌++◌, drop}
use Rattle.std.specs.List.{AllZip}
use Rattle.choice_trees.specs.declared.trees.Forest.{Forest}
use Rattle.changed_forests.specs.Numbered.{IsNumbered}
use Rattle.project_analysis.proofs.analysis.all_numbered.Given as goal

-- with those that are left, they are numbered
abbrev pub invariant-loop-forest : goal.invariant-loop-forest
invariant-loop-forest l = (rest : List Forest) → AllZip IsNumbered (drop l.forest-index l.forests) rest → AllZip IsNumbered l.forests (l.all.items ++ rest)
