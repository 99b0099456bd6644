use Rattle.std.proofs.Common.{◌*◌, map, drop}
use Rattle.c_text.specs.Token.{plain_token}
use Rattle.c_types.specs.Types.{plain_type}
use Rattle.c_tree.specs.Trees.{plain_trees}
use Rattle.core_meaning.specs.Plain.{plain_arguments}
use Rattle.core_meaning.specs.Expressions.{judged_arguments}
use Rattle.plain_scope.specs.PlainScope.{plain_scope, uses_of}
use Rattle.plain_expressions.specs.Continuing.{Continues}
use Rattle.plain_expressions.proofs.expressions.+judge.Given as goal

abbrev pub invariant-arguments-loop-i : goal.invariant-arguments-loop-i
invariant-arguments-loop-i l =
    Continues
    (judged_arguments (plain_scope l.scope) (map plain_type l.types) (plain_trees l.parts) (plain_token l.bracket))
    (judged_arguments (plain_scope l.scope) (map plain_type (drop l.i l.types)) (plain_trees (drop (2 * l.i) l.parts)) (plain_token l.bracket))
    (plain_arguments l.given.items)
    (uses_of l.initial.used)
    (uses_of l.used)
