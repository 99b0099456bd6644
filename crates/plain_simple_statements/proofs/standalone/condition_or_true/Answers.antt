use Rattle.std.proofs.Common.{sym, ◌∙◌}
use Rattle.c_text.specs.Token.{plain_token}
use Rattle.c_tree.specs.Trees.{plain_tree}
use Rattle.plain_scope.specs.PlainScope.{plain_scope}
use Rattle.plain_simple_statements.specs.Laws.{condition_answers, condition_judges}
use Rattle.plain_simple_statements.proofs.standalone.condition_or_true.Goals as goal

pub returns-then-is_gone : goal.returns-then-is_gone
returns-then-is_gone c =
    condition_answers (plain_scope c.args.scope.now) (plain_tree c.args.tree.now) (plain_token c.args.behind.now) c.args.used.now c.always.result (sym c.is_gone.ensures ∙ c.if-is_gone.true) c.always.ensures

pub returns-else-is_gone : goal.returns-else-is_gone
returns-else-is_gone c =
    condition_judges (plain_scope c.args.scope.now) (plain_tree c.args.tree.now) (plain_token c.args.behind.now) c.args.used.now c.condition.new.used c.condition.result (sym c.is_gone.ensures ∙ c.if-is_gone.false) c.condition.ensures
