use Rattle.std.proofs.Common.{List, ap, ◌∙◌}
use Rattle.std.specs.List.{list_any}
use Rattle.cond_formula.specs.Features.{has}
use Rattle.cond_formula.specs.Conditions.{value}
use Rattle.conditional.specs.Entries.{seen}
use Rattle.declarator_lists.specs.Entries.{entries_at}
use Rattle.declarator_lists.specs.declared.items.ListEntry.{ListEntry}
use Rattle.cond_types.proofs.questions.where_some.Goals as goal

pub returns-clause-some : goal.returns-clause-some
returns-clause-some g c = λ n kind admitted no_statement.
    c.in_ok-f.ensures.some n (ap (value (has n)) c.in_ok-all.ensures.kept ∙ admitted)
    ∙ (ap (λ (xs : List ListEntry). list_any (g.Q.Question.asks c.args.question.now (has n)) (seen (has n) (entries_at (has n) xs))) c.deref.ensures.value
    ∙ ap (list_any (g.Q.Question.asks c.args.question.now (has n))) (c.in_ok-all.ensures.seen n kind admitted no_statement))
