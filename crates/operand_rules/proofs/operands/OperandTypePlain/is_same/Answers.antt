use Rattle.std.proofs.Common.{rules, ◌≡◌, IsTrue, true}
use Rattle.c_types.specs.Types.{plain_type}
use Rattle.core_meaning.specs.Typing.{same_type}
use Rattle.operand_rules.specs.PlainOperandTypes.{plain_category}
use Rattle.plain_scope.proofs.SameTypes.{same_is}
use Rattle.operand_rules.proofs.SameOperands.{same_operands}
use Rattle.operand_rules.proofs.operands.OperandTypePlain.is_same.Goals as goal

pub returns : goal.returns
returns c = λ same.
    let types : same_type (plain_type c.args.self.now.ty) (plain_type c.args.other.now.ty) ≡ true = search rules in
    let category : IsTrue c.is_same_category.result = search rules in
    same_operands (plain_type c.args.self.now.ty) (plain_type c.args.other.now.ty) (plain_category c.args.self.now.category) (plain_category c.args.other.now.category)
    c.args.self.now.is_null c.args.other.now.is_null c.args.self.now.has_complete_struct c.args.other.now.has_complete_struct
    (same_is (plain_type c.args.self.now.ty) (plain_type c.args.other.now.ty) types) (c.is_same_category.ensures category) (c.has_same_flags.ensures.null same) (c.has_same_flags.ensures.complete same)
