use Rattle.std.proofs.Common.{List, ◌++◌, drop}
use Rattle.std.specs.List.{AllZip}
use Rattle.choice_trees.specs.declared.trees.Forest.{Forest}
use Rattle.changed_forests.specs.Renamed.{IsRenamed}
use Rattle.class_captures.proofs.renamed.renamed_forests.Given as goal

-- with the new name for the forests behind, these are those of all
abbrev pub invariant-loop-forest : goal.invariant-loop-forest
invariant-loop-forest l =
    (rest : List Forest) → AllZip (IsRenamed l.class l.new) (drop l.forest-index l.forests) rest → AllZip (IsRenamed l.class l.new) l.forests (l.all.items ++ rest)
