use Rattle.std.proofs.Common.{ap, ◌∙◌}
use Rattle.std.proofs.lemmas.Result.{IfOk-weaker}
use Rattle.conditional.specs.Entries.{entries_of, some_holds}
use Rattle.operand_rules.specs.PlainOperandTypes.{reason}
use Rattle.cond_initialisers.proofs.Seen.{failed}
use Rattle.cond_initialisers.proofs.typed_expressions.where_failed.Goals as goal

pub returns : goal.returns
returns c = IfOk-weaker c.when_some_hold.result _ _ (λ f holds on t shows.
    holds on ∙ (ap (λ l. some_holds on (entries_of reason l)) c.deref.ensures.value ∙ failed on t c.args.tests.now shows)) c.when_some_hold.ensures
