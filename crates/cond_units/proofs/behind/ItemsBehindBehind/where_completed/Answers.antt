use Rattle.std.proofs.Common.{Bool, ◌||◌, ap, ◌∙◌}
use Rattle.cond_formula.specs.Features.{has}
use Rattle.cond_formula.specs.Conditions.{condition_of, value}
use Rattle.conditional.specs.Entries.{seen}
use Rattle.c_tree.specs.Trees.{trees}
use Rattle.core_meaning.specs.UnitNames.{is_completed_in}
use Rattle.declarator_lists.specs.Entries.{entries_at}
use Rattle.cond_units.proofs.Completing.{one_item, no_item}
use Rattle.cond_units.proofs.behind.ItemsBehindBehind.where_completed.Goals as goal

pub loop-entry-init : goal.loop-entry-init
loop-entry-init c = record {
  so_far = λ on. ap (λ (b : Bool). b || is_completed_in c.args.tag.now (trees (seen on (entries_at on c.args.self.now.items.now)))) (c.in_ok-found.ensures on);
}

pub loop-entry-preserved : goal.loop-entry-preserved
loop-entry-preserved c = record {
  so_far = λ on.
      one_item c.args.tag.now on c.args.self.now.items.now c.loop-entry.entry-index c.entry-item.result (value on (condition_of c.loop-entry.found)) _
      c.loop-entry-test.true c.entry-item.is
      (c.in_ok-found-2.ensures on ∙ ap (λ (b : Bool). value on (condition_of c.loop-entry.found) || b) (c.in_ok-here.ensures on))
      (c.loop-entry.invariant.so_far on);
}

pub returns : goal.returns
returns c = λ n.
    no_item c.args.tag.now (has n) c.args.self.now.items.now c.loop-entry.entry-index (value (has n) (condition_of c.loop-entry.found)) c.loop-entry-test.false
    (c.loop-entry.invariant.so_far (has n))
