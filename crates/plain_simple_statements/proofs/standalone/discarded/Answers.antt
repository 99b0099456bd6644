use Rattle.std.proofs.Common.{sym, ◌∙◌}
use Rattle.c_tree.specs.Trees.{plain_tree}
use Rattle.core_meaning.specs.Statements.{nothing_to_do}
use Rattle.plain_scope.specs.PlainScope.{plain_scope}
use Rattle.plain_simple_statements.specs.Laws.{discarded_answers, discarded_judges}
use Rattle.plain_simple_statements.proofs.standalone.discarded.Goals as goal

pub returns-then-is_gone : goal.returns-then-is_gone
returns-then-is_gone c =
    discarded_answers (plain_scope c.args.scope.now) (plain_tree c.args.tree.now) nothing_to_do c.args.used.now c.nothing_done.result (sym c.is_gone.ensures ∙ c.if-is_gone.true) c.nothing_done.ensures

pub returns-else-is_gone : goal.returns-else-is_gone
returns-else-is_gone c =
    discarded_judges (plain_scope c.args.scope.now) (plain_tree c.args.tree.now) nothing_to_do c.args.used.now c.unused_value.new.used c.unused_value.result (sym c.is_gone.ensures ∙ c.if-is_gone.false) c.unused_value.ensures
