use Rattle.std.proofs.Common.{ℕ, refl, ap, ◌∙◌}
use Rattle.std.specs.Prelude.{is_some}
use Rattle.std.proofs.lemmas.Result.{IfOk-weaker}
use Rattle.cond_formula.specs.Features.{has}
use Rattle.conditional.specs.Entries.{entries_of, listed, some_holds}
use Rattle.operand_rules.specs.PlainOperandTypes.{reason}
use Rattle.cond_initialisers.specs.Rows.{row, rows, numbers}
use Rattle.cond_initialisers.proofs.Seen.{some_seen, all_there, by_rows, matched_rows}
use Rattle.cond_initialisers.proofs.pairs.where_some_pair.Goals as goal

pub returns-clause-same : goal.returns-clause-same
returns-clause-same g c = IfOk-weaker c.when_some_hold.result _ _ (λ f holds n admitted.
    holds (has n)
    ∙ (ap (λ l. some_holds (has n) (entries_of reason l)) c.deref.ensures.value
    ∙ (some_seen (has n) (listed reason c.in_ok-refusals.refusals)
    ∙ (ap is_some (c.in_ok-refusals.ensures.matched n by_rows (rows (has n) c.args.entries.now) (numbers (has n) c.args.parts.now) admitted
    (record { pair = λ p q refusals is. is; first_longer = refl; second_longer = refl })
    (all_there (has n) (row (has n)) c.args.entries.now) (all_there (has n) (λ (m : ℕ). m) c.args.parts.now))
    ∙ matched_rows (rows (has n) c.args.entries.now) (numbers (has n) c.args.parts.now))))) c.when_some_hold.ensures
