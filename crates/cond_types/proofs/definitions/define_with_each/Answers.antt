use Rattle.std.proofs.Common.{refl, ap, ◌∙◌, subst}
use Rattle.cond_formula.specs.Features.{has}
use Rattle.cond_formula.specs.Conditions.{condition_of, value}
use Rattle.conditional.specs.Entries.{seen}
use Rattle.c_tree.specs.Grammar.{block}
use Rattle.tree_derivations.specs.Derivations.{Derivation}
use Rattle.choice_trees.specs.ChoiceTrees.{plain_item, item_at}
use Rattle.plain_objects.specs.PlainStates.{plain_storage}
use Rattle.conditional_steps.proofs.Alternatives.{Alternates, alternates_begin, alternates_next, alternates_end}
use Rattle.conditional_steps.proofs.FirstAlternative.{next_seen, none_seen}
use Rattle.cond_units.specs.Seen.{seen_unit}
use Rattle.cond_units.specs.Declaring.{Declares}
use Rattle.cond_units.specs.Functions.{IsFunctionDeclarator, judged_declarator}
use Rattle.cond_units.specs.Where.{Stays}
use Rattle.cond_units.proofs.Staying.{staying, declares_stable}
use Rattle.cond_units.specs.Names.{said_at, said}
use Rattle.cond_types.specs.Definitions.{definition_of_head}
use Rattle.cond_types.proofs.definitions.define_with_each.Goals as goal

pub loop-one-init : goal.loop-one-init
loop-one-init g c = record {
  kept = refl;
  so_far = λ n storage admitted alone.
      let body = item_at (has n) (plain_item c.args.body.now) in
      let declarator = item_at (has n) (plain_item c.args.declarator.now) in
      alternates_begin staying (declares_stable (has n) c.args.base.now (λ s. judged_declarator (definition_of_head s body) declarator) (λ s. IsFunctionDeclarator declarator × Derivation block body))
      storage (seen_unit (has n) c.args.unit.now) (value (has n) (condition_of c.args.when.now))
      (seen (has n) (said c.args.storages.now)) (value (has n) (condition_of c.in_ok-refused.refused)) (c.in_ok-refused.ensures (has n)) alone;
}

pub loop-one-preserved : goal.loop-one-preserved
loop-one-preserved g c = record {
  kept = c.in_ok-found.ensures.kept ∙ c.loop-one.invariant.kept;
  so_far = λ n storage admitted alone.
      let body = item_at (has n) (plain_item c.args.body.now) in
      let declarator = item_at (has n) (plain_item c.args.declarator.now) in
      alternates_next staying (declares_stable (has n) c.args.base.now (λ s. judged_declarator (definition_of_head s body) declarator) (λ s. IsFunctionDeclarator declarator × Derivation block body))
      storage (seen_unit (has n) c.args.unit.now)
      (plain_storage c.one-item.result.storage) (value (has n) (condition_of c.args.when.now)) (value (has n) (condition_of c.one-item.result.when)) _ _
      (seen_unit (has n) c.loop-one.unit) (seen_unit (has n) c.define_with_storage.new.unit)
      (value (has n) (condition_of c.loop-one.refused)) (value (has n) (condition_of c.in_ok-found.found)) (value (has n) (condition_of c.in_ok-refused-2.refused))
      (next_seen (has n) said_at c.args.storages.now c.loop-one.one-index c.one-item.result c.loop-one-test.true c.one-item.is)
      (c.in_ok-refused-2.ensures (has n)) (c.in_ok-found.ensures.declares n (ap (value (has n)) c.loop-one.invariant.kept ∙ admitted)) (c.loop-one.invariant.so_far n storage admitted alone);
}

pub returns-clause-declares : goal.returns-clause-declares
returns-clause-declares g c = λ n storage admitted alone.
    let body = item_at (has n) (plain_item c.args.body.now) in
    let declarator = item_at (has n) (plain_item c.args.declarator.now) in
    alternates_end staying (declares_stable (has n) c.args.base.now (λ s. judged_declarator (definition_of_head s body) declarator) (λ s. IsFunctionDeclarator declarator × Derivation block body))
    storage (seen_unit (has n) c.args.unit.now) (value (has n) (condition_of c.args.when.now))
    (seen_unit (has n) c.loop-one.unit) (value (has n) (condition_of c.loop-one.refused))
    (subst (λ list. Alternates Stays (λ s. Declares (has n) c.args.base.now (judged_declarator (definition_of_head s body) declarator) (IsFunctionDeclarator declarator × Derivation block body))
    storage (seen_unit (has n) c.args.unit.now) (value (has n) (condition_of c.args.when.now)) list
    (seen_unit (has n) c.loop-one.unit) (value (has n) (condition_of c.loop-one.refused)))
    (none_seen (has n) said_at c.args.storages.now c.loop-one.one-index c.loop-one-test.false)
    (c.loop-one.invariant.so_far n storage admitted alone))
