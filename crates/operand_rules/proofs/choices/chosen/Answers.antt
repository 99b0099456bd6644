use Rattle.operand_types.specs.Operators.{chosen_type}
use Rattle.operand_rules.specs.PlainOperandTypes.{plain_operand_type}
use Rattle.operand_rules.specs.Rules.{chosen_rule, IsNumberIfNull}
use Rattle.operand_rules.proofs.Answering.{answers_if}
use Rattle.operand_rules.proofs.CombinationRules.{chooses}
use Rattle.operand_rules.proofs.choices.chosen.Goals as goal

pub returns-clause-chosen : goal.returns-clause-chosen
returns-clause-chosen c =
    answers_if (IsNumberIfNull (plain_operand_type c.args.o.now)) _ (chosen_rule (plain_operand_type c.args.o.now) (plain_operand_type c.args.p.now)) (λ question. chosen_type question (plain_operand_type c.args.o.now) (plain_operand_type c.args.p.now)) (λ number question. chooses question (plain_operand_type c.args.o.now) (plain_operand_type c.args.p.now) number) c.chosen_by_rule.ensures
