use Rattle.std.proofs.Common.{false, refl, subst}
use Rattle.conditional.specs.Judgements.{Shows}
use Rattle.operand_rules.specs.PlainOperandTypes.{plain_operand_type, reason}
use Rattle.expression_types.specs.Reading.{no_outcome}
use Rattle.cond_nodes.proofs.Arms.{always}
use Rattle.cond_nodes.proofs.operands.refused_everywhere.Goals as goal

pub returns : goal.returns
returns c = λ on.
    subst (λ b. Shows plain_operand_type reason on b no_outcome c.place.new.self) (always on) ((c.in_ok-place.ensures on).shows false no_outcome (c.nothing-all.ensures on no_outcome) (λ t. refl))
