use Rattle.std.proofs.Common.{map, ap, ap₂, ◌∙◌, [], ◌∷◌, ◌++◌}
use Rattle.cond_formula.specs.Conditions.{value}
use Rattle.conditional.specs.Entries.{seen, under}
use Rattle.choice_expansions.specs.Expansions.{plain_expansion, expanded}
use Rattle.declarator_lists.proofs.Pushing.{pushed, one_given, all_given}
use Rattle.cond_units.specs.Names.{storage_in, said_at, said}
use Rattle.cond_units.proofs.storages.said_storages.Goals as goal

pub loop-expansion-init : goal.loop-expansion-init
loop-expansion-init c = record {
  listed = λ on. ap (λ list. seen on (said list) ++ map storage_in (seen on (expanded c.args.expansions.now))) c.in_ok-all.ensures.items;
}

pub loop-expansion-preserved : goal.loop-expansion-preserved
loop-expansion-preserved c = record {
  listed = λ on.
      one_given on plain_expansion storage_in c.args.expansions.now [] (seen on (said c.loop-expansion.all.items)) (seen on (said c.push.new.self.items))
      c.loop-expansion.expansion-index c.expansion-item.result c.loop-expansion-test.true c.expansion-item.is
      (pushed on said_at (record { when = c.in_ok-when.when; storage = c.storage_in_tree-storage.result }) c.loop-expansion.all.items c.push.new.self.items c.in_ok-push.ensures.items
      ∙ ap₂ (λ when what. seen on (said c.loop-expansion.all.items) ++ under (value on when) (what ∷ [])) c.in_ok-when.ensures c.storage_in_tree-storage.ensures)
      (c.loop-expansion.invariant.listed on);
}

pub returns : goal.returns
returns c = λ on.
    all_given on plain_expansion storage_in c.args.expansions.now [] (seen on (said c.loop-expansion.all.items)) c.loop-expansion.expansion-index c.loop-expansion-test.false
    (c.loop-expansion.invariant.listed on)
