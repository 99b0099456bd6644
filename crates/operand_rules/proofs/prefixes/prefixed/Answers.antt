use Rattle.std.proofs.Common.{ap, sym, ◌∙◌}
use Rattle.c_text.specs.Token.{plain_token}
use Rattle.operand_types.specs.Operators.{prefixed_type}
use Rattle.operand_rules.specs.PlainOperandTypes.{plain_operand_type}
use Rattle.operand_rules.specs.Rules.{prefixed_rule}
use Rattle.operand_rules.proofs.Answering.{answers}
use Rattle.operand_rules.proofs.PrefixRules.{prefixes}
use Rattle.operand_rules.proofs.prefixes.prefixed.Goals as goal

pub returns : goal.returns
returns c =
    answers _ (prefixed_rule c.as_slice.result.now (plain_operand_type c.args.o.now)) (prefixed_type (plain_token c.args.sign.now) (plain_operand_type c.args.o.now))
    (prefixes (plain_token c.args.sign.now) (plain_operand_type c.args.o.now) ∙ ap (λ text. prefixed_rule text (plain_operand_type c.args.o.now)) (sym c.as_slice.ensures.value)) c.prefixed_by_rule.ensures
