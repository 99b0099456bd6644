use Rattle.std.proofs.Common.{ap, ◌∙◌}
use Rattle.std.proofs.lemmas.Result.{IfOk-weaker}
use Rattle.cond_formula.specs.Features.{has}
use Rattle.cond_initialisers.specs.Rows.{row, rows, numbers}
use Rattle.cond_initialisers.proofs.Numbered.{pairs_repeated, few_in_pairs}
use Rattle.cond_initialisers.proofs.lists.where_some_of.Goals as goal

pub returns-then-entries-count-clause-same : goal.returns-then-entries-count-clause-same
returns-then-entries-count-clause-same g c = IfOk-weaker c.where_some_row.result _ _ (λ f holds n ty each admitted seen.
    holds (has n) ∙ few_in_pairs (has n) (row (has n)) c.args.entries.now ty each c.args.count c.if-entries-count.true seen) c.where_some_row.ensures

pub returns-in_ok-parts-clause-same : goal.returns-in_ok-parts-clause-same
returns-in_ok-parts-clause-same g c = IfOk-weaker c.where_some_pair.result _ _ (λ f holds n ty each admitted seen.
    holds n admitted ∙ pairs_repeated ty each c.args.count (rows (has n) c.args.entries.now) (numbers (has n) c.deref.result.now) seen
    (ap (numbers (has n)) c.deref.ensures.value ∙ c.in_ok-parts.ensures (has n))) c.where_some_pair.ensures.same
