use Rattle.std.proofs.Common.{rules}
use Rattle.c_text.specs.Token.{plain_token}
use Rattle.plain_scope.specs.PlainScope.{plain_scope}
use Rattle.plain_operands.specs.PlainOperands.{plain_operand}
use Rattle.plain_operands.proofs.OperatorFacts.{prefixed_loads}
use Rattle.plain_operands.proofs.prefixes.prefixed.Goals as goal

pub returns-else-eq : goal.returns-else-eq
returns-else-eq c =
    let loads = prefixed_loads (plain_scope c.args.scope.now) (plain_token c.args.sign.now) (plain_operand c.args.operand) (search rules) in
    rw loads c.on_loaded.ensures
