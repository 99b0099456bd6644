use Rattle.std.proofs.Common.{sym, ◌∙◌}
use Rattle.c_text.specs.Token.{plain_token}
use Rattle.c_types.specs.Types.{plain_type}
use Rattle.c_tree.specs.Trees.{plain_tree}
use Rattle.plain_scope.specs.PlainScope.{plain_scope}
use Rattle.plain_simple_statements.specs.Laws.{nothing_answers, void_refused, value_judges}
use Rattle.plain_simple_statements.proofs.standalone.returned.Goals as goal

pub returns-then-is_gone : goal.returns-then-is_gone
returns-then-is_gone c =
    nothing_answers (plain_scope c.args.scope.now) (plain_type c.args.returns.now) (plain_token c.args.word.now) (plain_tree c.args.tree.now) c.args.used.now c.nothing_returned.result (sym c.is_gone.ensures ∙ c.if-is_gone.true) c.nothing_returned.ensures

pub returns-then-is_void : goal.returns-then-is_void
returns-then-is_void c =
    void_refused (plain_scope c.args.scope.now) (plain_type c.args.returns.now) (plain_token c.args.word.now) (plain_tree c.args.tree.now) c.refused.result (sym c.is_gone.ensures ∙ c.if-is_gone.false) (sym c.is_void.ensures ∙ c.if-is_void.true) c.refused.ensures

pub returns-else-is_void : goal.returns-else-is_void
returns-else-is_void c =
    value_judges (plain_scope c.args.scope.now) (plain_type c.args.returns.now) (plain_token c.args.word.now) (plain_tree c.args.tree.now) c.args.used.now c.returned_value.new.used c.returned_value.result (sym c.is_gone.ensures ∙ c.if-is_gone.false) (sym c.is_void.ensures ∙ c.if-is_void.false) c.returned_value.ensures
