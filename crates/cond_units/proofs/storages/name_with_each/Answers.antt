use Rattle.std.proofs.Common.{refl, ap, ◌∙◌, subst}
use Rattle.cond_formula.specs.Features.{has}
use Rattle.cond_formula.specs.Conditions.{condition_of, value}
use Rattle.conditional.specs.Entries.{seen}
use Rattle.c_tree.specs.declared.kinds.Kind.TheVariants as k
use Rattle.choice_trees.specs.ChoiceTrees.{plain_choices, parts_at}
use Rattle.tree_derivations.specs.Derivations.{Declared}
use Rattle.plain_objects.specs.PlainStates.{plain_storage}
use Rattle.conditional_steps.proofs.Alternatives.{Alternates, alternates_begin, alternates_next, alternates_end}
use Rattle.conditional_steps.proofs.FirstAlternative.{next_seen, none_seen}
use Rattle.cond_units.specs.Seen.{seen_unit}
use Rattle.cond_units.specs.Declaring.{Declares}
use Rattle.cond_units.specs.Where.{Stays}
use Rattle.cond_units.proofs.Staying.{staying, declares_stable}
use Rattle.cond_units.specs.Names.{all_names, said_at, said}
use Rattle.cond_units.proofs.storages.name_with_each.Goals as goal

pub loop-one-init : goal.loop-one-init
loop-one-init g c = record {
  kept = refl;
  so_far = λ n globals role storage admitted alone.
      alternates_begin staying (declares_stable (has n) c.args.base.now (λ s. all_names globals s (g.B.Behind.rest c.args.surroundings.now.behind.now n) (parts_at (has n) k.Declarators 0 (plain_choices c.args.parts.now))) (λ s. Declared role (parts_at (has n) k.Declarators 0 (plain_choices c.args.parts.now))))
      storage (seen_unit (has n) c.args.unit.now) (value (has n) (condition_of c.args.when.now))
      (seen (has n) (said c.args.storages.now)) (value (has n) (condition_of c.in_ok-refused.refused)) (c.in_ok-refused.ensures (has n)) alone;
}

pub loop-one-preserved : goal.loop-one-preserved
loop-one-preserved g c = record {
  kept = c.in_ok-found.ensures.kept ∙ c.loop-one.invariant.kept;
  so_far = λ n globals role storage admitted alone.
      alternates_next staying (declares_stable (has n) c.args.base.now (λ s. all_names globals s (g.B.Behind.rest c.args.surroundings.now.behind.now n) (parts_at (has n) k.Declarators 0 (plain_choices c.args.parts.now))) (λ s. Declared role (parts_at (has n) k.Declarators 0 (plain_choices c.args.parts.now))))
      storage (seen_unit (has n) c.args.unit.now)
      (plain_storage c.one-item.result.storage) (value (has n) (condition_of c.args.when.now)) (value (has n) (condition_of c.one-item.result.when)) _ _
      (seen_unit (has n) c.loop-one.unit) (seen_unit (has n) c.name_with_storage.new.unit)
      (value (has n) (condition_of c.loop-one.refused)) (value (has n) (condition_of c.in_ok-found.found)) (value (has n) (condition_of c.in_ok-refused-2.refused))
      (next_seen (has n) said_at c.args.storages.now c.loop-one.one-index c.one-item.result c.loop-one-test.true c.one-item.is)
      (c.in_ok-refused-2.ensures (has n)) (c.in_ok-found.ensures.declares n globals role (ap (value (has n)) c.loop-one.invariant.kept ∙ admitted)) (c.loop-one.invariant.so_far n globals role storage admitted alone);
}

pub returns-clause-declares : goal.returns-clause-declares
returns-clause-declares g c = λ n globals role storage admitted alone.
    alternates_end staying (declares_stable (has n) c.args.base.now (λ s. all_names globals s (g.B.Behind.rest c.args.surroundings.now.behind.now n) (parts_at (has n) k.Declarators 0 (plain_choices c.args.parts.now))) (λ s. Declared role (parts_at (has n) k.Declarators 0 (plain_choices c.args.parts.now))))
    storage (seen_unit (has n) c.args.unit.now) (value (has n) (condition_of c.args.when.now))
    (seen_unit (has n) c.loop-one.unit) (value (has n) (condition_of c.loop-one.refused))
    (subst (λ list. Alternates Stays (λ s. Declares (has n) c.args.base.now (all_names globals s (g.B.Behind.rest c.args.surroundings.now.behind.now n) (parts_at (has n) k.Declarators 0 (plain_choices c.args.parts.now))) (Declared role (parts_at (has n) k.Declarators 0 (plain_choices c.args.parts.now))))
    storage (seen_unit (has n) c.args.unit.now) (value (has n) (condition_of c.args.when.now)) list
    (seen_unit (has n) c.loop-one.unit) (value (has n) (condition_of c.loop-one.refused)))
    (none_seen (has n) said_at c.args.storages.now c.loop-one.one-index c.loop-one-test.false)
    (c.loop-one.invariant.so_far n globals role storage admitted alone))
