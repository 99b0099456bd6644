use Rattle.std.proofs.Common.{refl, ap, ◌∙◌, subst}
use Rattle.std.specs.Prelude.{option_map}
use Rattle.cond_formula.specs.Features.{has}
use Rattle.cond_formula.specs.Conditions.{condition_of, value}
use Rattle.conditional.specs.Entries.{seen}
use Rattle.c_tree.specs.Trees.{plain_tree}
use Rattle.choice_trees.specs.ChoiceTrees.{plain_item, item_at}
use Rattle.choice_expansions.specs.Expansions.{plain_expansion, expanded}
use Rattle.core_meaning.specs.Declarations.{one_local}
use Rattle.type_tables.specs.Seen.{seen_tables}
use Rattle.type_tables.proofs.LocalsAlone.{nothing_changed, locals_again}
use Rattle.cond_locals.specs.Declaring.{IsInitialiser, Declares}
use Rattle.conditional_steps.specs.Here.{Unchanged}
use Rattle.conditional_steps.proofs.Alternatives.{unchanged, unchanged_beside, Alternates, alternates_begin, alternates_next, alternates_end}
use Rattle.conditional_steps.proofs.FirstAlternative.{next_seen, none_seen}
use Rattle.cond_locals.proofs.declarators.declare_each.Goals as goal

pub loop-expansion-init : goal.loop-expansion-init
loop-expansion-init g c = record {
  kept = refl;
  outside = nothing_changed c.args.tables.now;
  so_far = λ n tree admitted alone.
      alternates_begin unchanged (unchanged_beside (λ tree. Declares (has n) c.args.base.now (λ scope slots ty. one_local scope slots ty tree (option_map (λ item. item_at (has n) (plain_item item.now)) c.args.initialiser))
      (λ scope. IsInitialiser (option_map (λ item. item_at (has n) (plain_item item.now)) c.args.initialiser)))) tree (seen_tables (has n) c.args.tables.now) (value (has n) (condition_of c.args.when.now))
      (seen (has n) (expanded c.args.expansions.now)) (value (has n) (condition_of c.in_ok-refused.refused)) (c.in_ok-refused.ensures (has n)) alone;
}

pub loop-expansion-preserved : goal.loop-expansion-preserved
loop-expansion-preserved g c = record {
  kept = c.in_ok-found.ensures.kept ∙ c.loop-expansion.invariant.kept;
  outside = locals_again c.args.tables.now c.loop-expansion.tables c.declare_expansion.new.tables c.loop-expansion.invariant.outside c.in_ok-found.ensures.outside;
  so_far = λ n tree admitted alone.
      alternates_next unchanged (unchanged_beside (λ tree. Declares (has n) c.args.base.now (λ scope slots ty. one_local scope slots ty tree (option_map (λ item. item_at (has n) (plain_item item.now)) c.args.initialiser))
      (λ scope. IsInitialiser (option_map (λ item. item_at (has n) (plain_item item.now)) c.args.initialiser)))) tree (seen_tables (has n) c.args.tables.now)
      (plain_tree c.expansion-item.result.tree) (value (has n) (condition_of c.args.when.now)) (value (has n) (condition_of c.expansion-item.result.when)) _ _
      (seen_tables (has n) c.loop-expansion.tables) (seen_tables (has n) c.declare_expansion.new.tables)
      (value (has n) (condition_of c.loop-expansion.refused)) (value (has n) (condition_of c.in_ok-found.found)) (value (has n) (condition_of c.in_ok-refused-2.refused))
      (next_seen (has n) plain_expansion c.args.expansions.now c.loop-expansion.expansion-index c.expansion-item.result c.loop-expansion-test.true c.expansion-item.is)
      (c.in_ok-refused-2.ensures (has n)) (c.in_ok-found.ensures.declares n (ap (value (has n)) c.loop-expansion.invariant.kept ∙ admitted)) (c.loop-expansion.invariant.so_far n tree admitted alone);
}

pub returns-clause-declares : goal.returns-clause-declares
returns-clause-declares g c = λ n tree admitted alone.
    alternates_end unchanged (unchanged_beside (λ tree. Declares (has n) c.args.base.now (λ scope slots ty. one_local scope slots ty tree (option_map (λ item. item_at (has n) (plain_item item.now)) c.args.initialiser))
    (λ scope. IsInitialiser (option_map (λ item. item_at (has n) (plain_item item.now)) c.args.initialiser)))) tree (seen_tables (has n) c.args.tables.now) (value (has n) (condition_of c.args.when.now))
    (seen_tables (has n) c.loop-expansion.tables) (value (has n) (condition_of c.loop-expansion.refused))
    (subst (λ list. Alternates Unchanged (λ tree. Declares (has n) c.args.base.now (λ scope slots ty. one_local scope slots ty tree (option_map (λ item. item_at (has n) (plain_item item.now)) c.args.initialiser))
    (λ scope. IsInitialiser (option_map (λ item. item_at (has n) (plain_item item.now)) c.args.initialiser))) tree (seen_tables (has n) c.args.tables.now) (value (has n) (condition_of c.args.when.now)) list
    (seen_tables (has n) c.loop-expansion.tables) (value (has n) (condition_of c.loop-expansion.refused)))
    (none_seen (has n) plain_expansion c.args.expansions.now c.loop-expansion.expansion-index c.loop-expansion-test.false)
    (c.loop-expansion.invariant.so_far n tree admitted alone))
