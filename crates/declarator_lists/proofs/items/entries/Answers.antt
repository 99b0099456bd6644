use Rattle.std.proofs.Common.{◌++◌, refl, ap, ◌∙◌}
use Rattle.cond_formula.specs.Features.{has}
use Rattle.cond_formula.specs.Conditions.{value}
use Rattle.conditional.specs.Entries.{seen}
use Rattle.choice_trees.specs.ChoiceTrees.{plain_choices, parts_at}
use Rattle.declarator_lists.specs.Lists.{trees_of}
use Rattle.declarator_lists.specs.Entries.{entries_at}
use Rattle.declarator_lists.proofs.Parts.{one_part, no_part}
use Rattle.declarator_lists.proofs.items.entries.Goals as goal

pub loop-choice-init : goal.loop-choice-init
loop-choice-init g c = record {
  kept = refl;
  listed = λ n kind admitted no_statement.
      ap (λ list. seen (has n) (entries_at (has n) list) ++ trees_of (parts_at (has n) kind 0 (plain_choices c.args.list.now))) c.in_ok-all.ensures.items;
}

pub loop-choice-preserved : goal.loop-choice-preserved
loop-choice-preserved g c = record {
  kept = c.in_ok-push_choice.ensures.kept ∙ c.loop-choice.invariant.kept;
  listed = λ n kind admitted no_statement.
      one_part (has n) kind no_statement c.args.list.now c.loop-choice.choice-index c.choice-item.result
      (seen (has n) (entries_at (has n) c.loop-choice.all.items)) (seen (has n) (entries_at (has n) c.push_choice.new.all.items))
      c.loop-choice-test.true c.choice-item.is
      (c.in_ok-push_choice.ensures.adds n (ap (value (has n)) c.loop-choice.invariant.kept ∙ admitted))
      (c.loop-choice.invariant.listed n kind admitted no_statement);
}

pub returns-clause-seen : goal.returns-clause-seen
returns-clause-seen g c = λ n kind admitted no_statement.
    no_part (has n) kind no_statement c.args.list.now c.loop-choice.choice-index (seen (has n) (entries_at (has n) c.loop-choice.all.items)) c.loop-choice-test.false
    (c.loop-choice.invariant.listed n kind admitted no_statement)
