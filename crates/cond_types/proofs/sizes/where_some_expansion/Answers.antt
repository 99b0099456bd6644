use Rattle.std.proofs.Common.{◌||◌, ap}
use Rattle.std.specs.List.{list_any}
use Rattle.cond_formula.specs.Conditions.{condition_of, value}
use Rattle.conditional.specs.Entries.{seen}
use Rattle.choice_expansions.specs.Expansions.{plain_expansion, expanded}
use Rattle.type_tables.specs.Seen.{seen_tables}
use Rattle.cond_types.specs.Sizes.{is_big_declarator}
use Rattle.cond_types.proofs.BigObjects.{next_so, none_so}
use Rattle.cond_types.proofs.sizes.where_some_expansion.Goals as goal

pub loop-expansion-init : goal.loop-expansion-init
loop-expansion-init c = record {
  so_far = λ on. ap (λ b. b || list_any (is_big_declarator (seen_tables on c.args.tables.now)) (seen on (expanded c.args.all.now))) (c.in_ok-so_far.ensures on);
}

pub loop-expansion-preserved : goal.loop-expansion-preserved
loop-expansion-preserved c = record {
  so_far = λ on.
      next_so (is_big_declarator (seen_tables on c.args.tables.now)) on plain_expansion c.args.all.now c.expansion-item.result c.loop-expansion.expansion-index
      (value on (condition_of c.loop-expansion.so_far)) (value on (condition_of c.in_ok-so_far-2.so_far)) c.loop-expansion-test.true c.expansion-item.is
      (c.in_ok-so_far-2.ensures on) (c.loop-expansion.invariant.so_far on);
}

pub returns : goal.returns
returns c = λ on.
    none_so (is_big_declarator (seen_tables on c.args.tables.now)) on plain_expansion c.args.all.now c.loop-expansion.expansion-index
    (value on (condition_of c.loop-expansion.so_far)) c.loop-expansion-test.false (c.loop-expansion.invariant.so_far on)
