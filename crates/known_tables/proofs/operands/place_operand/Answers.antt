use Rattle.std.proofs.Common.{subst}
use Rattle.std.proofs.lemmas.Result.{on_ok_weaker}
use Rattle.cond_formula.specs.Conditions.{condition_of}
use Rattle.conditional.specs.Entries.{alternatives, Places}
use Rattle.operand_rules.specs.PlainOperandTypes.{plain_operand_type}
use Rattle.known_tables.proofs.operands.place_operand.Goals as goal

pub returns : goal.returns
returns c =
    on_ok_weaker c.place.result (λ places on.
    subst (λ o. Places on (condition_of c.args.when) o (alternatives plain_operand_type c.args.all.now) (alternatives plain_operand_type c.place.new.self)) c.in_ok-operand.ensures (places on)) c.place.ensures
