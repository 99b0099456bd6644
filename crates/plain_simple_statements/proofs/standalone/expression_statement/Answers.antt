use Rattle.std.proofs.Common.{sym, ◌∙◌}
use Rattle.c_tree.specs.Trees.{plain_tree}
use Rattle.plain_scope.specs.PlainScope.{plain_scope}
use Rattle.plain_simple_statements.specs.Laws.{statement_answers, statement_judges}
use Rattle.plain_simple_statements.proofs.standalone.expression_statement.Goals as goal

pub returns-then-is_gone : goal.returns-then-is_gone
returns-then-is_gone c =
    statement_answers (plain_scope c.args.scope.now) (plain_tree c.args.tree.now) c.args.used.now c.null_statement.result (sym c.is_gone.ensures ∙ c.if-is_gone.true) c.null_statement.ensures

pub returns-else-is_gone : goal.returns-else-is_gone
returns-else-is_gone c =
    statement_judges (plain_scope c.args.scope.now) (plain_tree c.args.tree.now) c.args.used.now c.evaluated.new.used c.evaluated.result (sym c.is_gone.ensures ∙ c.if-is_gone.false) c.evaluated.ensures
