use Rattle.std.proofs.Common.{rules}
use Rattle.c_text.specs.Token.{plain_token}
use Rattle.c_types.specs.Tags.{plain_member}
use Rattle.core_meaning.specs.declared.refusals.TypeKind.TheVariants.{NoMember}
use Rattle.core_meaning.specs.Plain.{plain_place}
use Rattle.plain_scope.specs.PlainScope.{plain_struct}
use Rattle.plain_operands.specs.PlainOperands.{plain_operand}
use Rattle.plain_scope.specs.JudgementLaws.{refuses_is}
use Rattle.plain_operands.proofs.MemberFacts.{member_binds, member_missing}
use Rattle.plain_operands.proofs.members.member_in.Goals as goal

pub returns-in_default : goal.returns-in_default
returns-in_default c =
    let missing = member_missing (plain_token c.args.sign.now) (plain_token c.args.name.now) (plain_place c.args.base.place.value) c.args.base.free c.args.struct_number (plain_struct c.args.found.now) (search rules) (search rules) in
    refuses_is _ NoMember (plain_token c.args.name.now) c.refused.result missing c.refused.ensures

pub returns : goal.returns
returns c =
    member_binds (plain_token c.args.sign.now) (plain_token c.args.name.now) (plain_place c.args.base.place.value) c.args.base.free c.args.struct_number (plain_struct c.args.found.now) c.in-Some.number.now (plain_member c.in-Some-member.member.now) (plain_operand c.in_ok-x.x) (search rules) (search rules) (search rules) (search rules)
