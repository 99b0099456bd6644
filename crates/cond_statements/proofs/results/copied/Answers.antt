use Rattle.std.proofs.Common.{true, false, subst}
use Rattle.conditional.specs.Judgements.{Shows}
use Rattle.operand_rules.specs.PlainOperandTypes.{plain_operand_type, reason}
use Rattle.cond_nodes.proofs.Arms.{always_under}
use Rattle.cond_statements.proofs.results.copied.Goals as goal

pub returns : goal.returns
returns c = λ on x shown.
    subst (λ b. Shows plain_operand_type reason on b x c.place_under.new.self) (always_under on) ((c.in_ok-place_under.ensures on).shows false true x (c.nothing-all.ensures on x) (λ t. shown))
