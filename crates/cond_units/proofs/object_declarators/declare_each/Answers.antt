use Rattle.std.proofs.Common.{refl, ap, ◌∙◌, subst}
use Rattle.cond_formula.specs.Features.{has}
use Rattle.cond_formula.specs.Conditions.{condition_of, value}
use Rattle.conditional.specs.Entries.{seen}
use Rattle.c_tree.specs.Trees.{plain_tree}
use Rattle.choice_expansions.specs.Expansions.{plain_expansion, expanded}
use Rattle.plain_objects.specs.PlainStates.{plain_storage}
use Rattle.conditional_steps.specs.Here.{Unchanged}
use Rattle.conditional_steps.proofs.Alternatives.{unchanged, unchanged_beside, Alternates, alternates_begin, alternates_next, alternates_end}
use Rattle.conditional_steps.proofs.FirstAlternative.{next_seen, none_seen}
use Rattle.cond_units.specs.Seen.{seen_unit, initialiser_at}
use Rattle.cond_units.specs.Declaring.{IsInitialiser, object_in, Declares}
use Rattle.cond_units.proofs.object_declarators.declare_each.Goals as goal

pub loop-expansion-init : goal.loop-expansion-init
loop-expansion-init g c = record {
  kept = refl;
  so_far = λ n globals tree admitted alone.
      alternates_begin unchanged (unchanged_beside (λ tree. Declares (has n) c.args.base.now (object_in globals (plain_storage c.args.declaration.now.storage) tree (initialiser_at (has n) c.args.declaration.now) (g.B.Behind.rest c.args.declaration.now.behind.now n)) (IsInitialiser (initialiser_at (has n) c.args.declaration.now)))) tree (seen_unit (has n) c.args.unit.now) (value (has n) (condition_of c.args.when.now))
      (seen (has n) (expanded c.args.expansions.now)) (value (has n) (condition_of c.in_ok-refused.refused)) (c.in_ok-refused.ensures (has n)) alone;
}

pub loop-expansion-preserved : goal.loop-expansion-preserved
loop-expansion-preserved g c = record {
  kept = c.in_ok-found.ensures.kept ∙ c.loop-expansion.invariant.kept;
  so_far = λ n globals tree admitted alone.
      alternates_next unchanged (unchanged_beside (λ tree. Declares (has n) c.args.base.now (object_in globals (plain_storage c.args.declaration.now.storage) tree (initialiser_at (has n) c.args.declaration.now) (g.B.Behind.rest c.args.declaration.now.behind.now n)) (IsInitialiser (initialiser_at (has n) c.args.declaration.now)))) tree (seen_unit (has n) c.args.unit.now)
      (plain_tree c.expansion-item.result.tree) (value (has n) (condition_of c.args.when.now)) (value (has n) (condition_of c.expansion-item.result.when)) _ _
      (seen_unit (has n) c.loop-expansion.unit) (seen_unit (has n) c.declare_expansion.new.unit)
      (value (has n) (condition_of c.loop-expansion.refused)) (value (has n) (condition_of c.in_ok-found.found)) (value (has n) (condition_of c.in_ok-refused-2.refused))
      (next_seen (has n) plain_expansion c.args.expansions.now c.loop-expansion.expansion-index c.expansion-item.result c.loop-expansion-test.true c.expansion-item.is)
      (c.in_ok-refused-2.ensures (has n)) (c.in_ok-found.ensures.declares n globals (ap (value (has n)) c.loop-expansion.invariant.kept ∙ admitted)) (c.loop-expansion.invariant.so_far n globals tree admitted alone);
}

pub returns-clause-declares : goal.returns-clause-declares
returns-clause-declares g c = λ n globals tree admitted alone.
    alternates_end unchanged (unchanged_beside (λ tree. Declares (has n) c.args.base.now (object_in globals (plain_storage c.args.declaration.now.storage) tree (initialiser_at (has n) c.args.declaration.now) (g.B.Behind.rest c.args.declaration.now.behind.now n)) (IsInitialiser (initialiser_at (has n) c.args.declaration.now)))) tree (seen_unit (has n) c.args.unit.now) (value (has n) (condition_of c.args.when.now))
    (seen_unit (has n) c.loop-expansion.unit) (value (has n) (condition_of c.loop-expansion.refused))
    (subst (λ list. Alternates Unchanged (λ tree. Declares (has n) c.args.base.now (object_in globals (plain_storage c.args.declaration.now.storage) tree (initialiser_at (has n) c.args.declaration.now) (g.B.Behind.rest c.args.declaration.now.behind.now n)) (IsInitialiser (initialiser_at (has n) c.args.declaration.now))) tree (seen_unit (has n) c.args.unit.now) (value (has n) (condition_of c.args.when.now)) list
    (seen_unit (has n) c.loop-expansion.unit) (value (has n) (condition_of c.loop-expansion.refused)))
    (none_seen (has n) plain_expansion c.args.expansions.now c.loop-expansion.expansion-index c.loop-expansion-test.false)
    (c.loop-expansion.invariant.so_far n globals tree admitted alone))
