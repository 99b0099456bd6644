use Rattle.std.proofs.Common.{◌++◌, refl, ap, ◌∙◌}
use Rattle.cond_formula.specs.Features.{has}
use Rattle.cond_formula.specs.Conditions.{condition_of, value}
use Rattle.conditional.specs.Entries.{seen, under}
use Rattle.choice_expansions.specs.Expansions.{expanded}
use Rattle.declarator_lists.specs.Entries.{entries_at}
use Rattle.cond_parameters.specs.Readings.{parameters_among}
use Rattle.cond_parameters.proofs.Pushed.{one_entry, all_entries}
use Rattle.cond_parameters.proofs.trees.push_entries.Goals as goal

pub loop-entry-init : goal.loop-entry-init
loop-entry-init g c = record {
  kept = refl;
  added = λ n admitted.
      ap (λ list. seen (has n) (expanded list) ++ under (value (has n) (condition_of c.args.when.now)) (parameters_among (seen (has n) (entries_at (has n) c.args.entries.now)))) c.new-all.ensures.items;
}

pub loop-entry-preserved : goal.loop-entry-preserved
loop-entry-preserved g c = record {
  kept = c.in_ok-push_entry.ensures.kept ∙ c.loop-entry.invariant.kept;
  added = λ n admitted.
      one_entry (has n) (value (has n) (condition_of c.args.when.now)) c.args.entries.now c.loop-entry.entry-index c.entry-item.result
      (seen (has n) (expanded c.loop-entry.all.items)) (seen (has n) (expanded c.push_entry.new.all.items))
      c.loop-entry-test.true c.entry-item.is (c.in_ok-push_entry.ensures.adds n (ap (value (has n)) c.loop-entry.invariant.kept ∙ admitted)) (c.loop-entry.invariant.added n admitted);
}

pub returns-clause-adds : goal.returns-clause-adds
returns-clause-adds g c = λ n admitted.
    all_entries (has n) (value (has n) (condition_of c.args.when.now)) c.args.entries.now c.loop-entry.entry-index (seen (has n) (expanded c.loop-entry.all.items))
    c.loop-entry-test.false (c.loop-entry.invariant.added n admitted)
