use Rattle.c_text.specs.Token.{plain_token}
use Rattle.c_types.specs.Types.{plain_type}
use Rattle.core_meaning.specs.Plain.{plain_place}
use Rattle.plain_scope.specs.PlainScope.{plain_scope}
use Rattle.plain_operands.specs.PlainOperands.{plain_operand, plain_typed}
use Rattle.plain_operands.specs.Operators.{update_by}
use Rattle.plain_operands.proofs.OperatorFacts.{stepped_updates}
use Rattle.plain_operands.proofs.assignments.stepped.Goals as goal

pub returns : goal.returns
returns c =
    let left = c.in_ok-left.left in
    let steps = stepped_updates (plain_scope c.args.scope.now) (update_by c.args.after) (plain_token c.args.sign.now) (plain_operand c.args.operand) (plain_place left.place.value) (plain_type left.ty.value) (plain_typed c.in_ok-by.by) c.in_ok-left.ensures.judged c.in_ok-left.ensures.typed c.in_ok-by.ensures in
    rw steps c.updated.ensures
