use Rattle.std.proofs.Common.{◌||◌, refl, ap, ◌∙◌}
use Rattle.std.specs.List.{list_any}
use Rattle.cond_formula.specs.Features.{has}
use Rattle.cond_formula.specs.Conditions.{condition_of, value}
use Rattle.conditional.specs.Entries.{seen}
use Rattle.declarator_lists.specs.Entries.{entry_at, entries_at}
use Rattle.cond_types.proofs.BigObjects.{next_so, none_so}
use Rattle.cond_types.proofs.questions.where_some_entry.Goals as goal

pub loop-entry-init : goal.loop-entry-init
loop-entry-init g c = record {
  kept = refl;
  so_far = λ n admitted.
      ap (λ b. b || list_any (g.Q.Question.asks c.args.question.now (has n)) (seen (has n) (entries_at (has n) c.args.all.now))) (c.in_ok-so_far.ensures (has n));
}

pub loop-entry-preserved : goal.loop-entry-preserved
loop-entry-preserved g c = record {
  kept = c.in_ok-so_far-2.ensures.kept ∙ c.loop-entry.invariant.kept;
  so_far = λ n admitted.
      next_so (g.Q.Question.asks c.args.question.now (has n)) (has n) (entry_at (has n)) c.args.all.now c.entry-item.result c.loop-entry.entry-index
      (value (has n) (condition_of c.loop-entry.so_far)) (value (has n) (condition_of c.in_ok-so_far-2.so_far)) c.loop-entry-test.true c.entry-item.is
      (c.in_ok-so_far-2.ensures.more n (ap (value (has n)) c.loop-entry.invariant.kept ∙ admitted))
      (c.loop-entry.invariant.so_far n admitted);
}

pub returns-clause-some : goal.returns-clause-some
returns-clause-some g c = λ n admitted.
    none_so (g.Q.Question.asks c.args.question.now (has n)) (has n) (entry_at (has n)) c.args.all.now c.loop-entry.entry-index
    (value (has n) (condition_of c.loop-entry.so_far)) c.loop-entry-test.false (c.loop-entry.invariant.so_far n admitted)
