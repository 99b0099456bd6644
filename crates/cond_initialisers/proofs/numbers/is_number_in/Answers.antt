use Rattle.std.proofs.Common.{[], ◌∙◌}
use Rattle.std.specs.Prelude.{◌≡◌}
use Rattle.std.proofs.lemmas.Result.{IfOk-weaker}
use Rattle.c_tree.specs.Trees.{plain_tree}
use Rattle.core_meaning.specs.Checking as judging
use Rattle.core_meaning.specs.Typing as typing
use Rattle.core_meaning.specs.Expressions.{valued}
use Rattle.operand_types.specs.OperandTypes.{scope_with}
use Rattle.plain_operands.specs.PlainOperands.{plain_typed}
use Rattle.plain_scope.specs.PlainScope.{plain_scope}
use Rattle.plain_scope.specs.Judgements.{Judges}
use Rattle.plain_scope.specs.declared.entities.Used.{Used}
use Rattle.cond_initialisers.specs.Constants.{is_number, has_number}
use Rattle.cond_initialisers.proofs.Anywhere.{numbers_need_no_names}
use Rattle.cond_initialisers.proofs.numbers.is_number_in.Goals as goal

pub returns : goal.returns
returns c =
    IfOk-weaker c.is_number.result
    (λ b. (j : judging.Checked typing.Typed) (before after : Used) → Judges j plain_typed before after c.valued.result → b ≡ is_number j)
    (λ b. b ≡ has_number (plain_tree c.args.tree.now))
    (λ b h.
    h (valued (plain_scope c.args.scope.now) (plain_tree c.args.tree.now)) c.new-used.result c.valued.new.used c.valued.ensures
    ∙ numbers_need_no_names (plain_scope c.args.scope.now) (scope_with []) (plain_tree c.args.tree.now))
    c.is_number.ensures
