use Rattle.std.proofs.Common.{ℕ, sym, ap}
use Rattle.c_text.specs.Token.{PlainToken, plain_token}
use Rattle.c_tree.specs.Trees.{plain_tree}
use Rattle.core_meaning.specs.declared.refusals.TypeKind.TheVariants.{BadConstant}
use Rattle.core_meaning.specs.Checking.{found_or}
use Rattle.core_meaning.specs.Expressions.{valued, first_token}
use Rattle.plain_scope.specs.PlainScope.{plain_scope}
use Rattle.plain_operands.specs.PlainOperands.{plain_typed}
use Rattle.plain_expressions.specs.Constants.{count_in}
use Rattle.plain_expressions.proofs.Answering.{answers_last}
use Rattle.plain_expressions.proofs.constancy.count.Goals as goal

pub returns : goal.returns
returns c =
    let scope = plain_scope c.args.scope.now in
    let tree = plain_tree c.args.tree.now in
    let x = plain_typed c.in_ok-x.x in
    answers_last (valued scope tree) (λ y. found_or (count_in y) BadConstant (first_token tree (plain_token c.args.behind.now))) (found_or (count_in x) BadConstant (plain_token c.first_token.result.now)) (λ (n : ℕ). n) x c.args.used.now c.valued.new.used c.counted.result c.in_ok-x.ensures
    (ap (λ (first : PlainToken). found_or (count_in x) BadConstant first) (sym c.first_token.ensures)) c.counted.ensures
