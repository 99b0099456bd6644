use Rattle.std.proofs.Common.{refl, ap, ◌∙◌, subst}
use Rattle.cond_formula.specs.Features.{has}
use Rattle.cond_formula.specs.Conditions.{condition_of, value}
use Rattle.conditional.specs.Entries.{seen}
use Rattle.c_tree.specs.declared.kinds.Kind.TheVariants as k
use Rattle.c_tree.specs.Trees.{PlainTrees, trees}
use Rattle.choice_trees.specs.ChoiceTrees.{plain_choices, parts_at}
use Rattle.declarator_lists.specs.Entries.{entries_at}
use Rattle.cond_units.specs.Seen.{seen_unit}
use Rattle.cond_units.specs.Where.{Where}
use Rattle.cond_units.specs.Units.{DeclaresItems}
use Rattle.cond_units.proofs.EachItem.{trees_again}
use Rattle.cond_units.proofs.items.declare_items.Goals as goal

pub returns-clause-declares : goal.returns-clause-declares
returns-clause-declares g c = λ n globals admitted.
    subst (λ (parts : PlainTrees). Where (value (has n) (condition_of c.args.when.now)) (DeclaresItems globals parts) (seen_unit (has n) c.args.unit.now) (seen_unit (has n) c.declare_each.new.unit) (value (has n) (condition_of c.in_ok-refused.refused)))
    (ap (λ list. trees (seen (has n) (entries_at (has n) list))) c.deref.ensures.value
    ∙ (ap trees (c.in_ok-all.ensures.seen n k.Unit admitted (λ place. refl)) ∙ trees_again (parts_at (has n) k.Unit 0 (plain_choices c.args.items.now))))
    (c.in_ok-refused.ensures.declares n globals (ap (value (has n)) c.in_ok-all.ensures.kept ∙ admitted))
