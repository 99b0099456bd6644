use Rattle.std.proofs.Common.{refl, sym, ap, ◌∙◌, subst}
use Rattle.std.specs.Prelude.{if◌then◌else◌}
use Rattle.cond_formula.specs.Features.{has}
use Rattle.c_tree.specs.declared.kinds.Kind.TheVariants as kinds
use Rattle.c_tree.specs.Grammar.{member_of, declarators}
use Rattle.tree_derivations.specs.Derivations.{Derivation}
use Rattle.choice_trees.specs.ChoiceTrees.{plain_item, plain_choices, item_at, parts_at}
use Rattle.choice_trees.specs.ItemLaws.{plain_item-Node}
use Rattle.choice_expansions.specs.Steps.{after_each}
use Rattle.declarator_lists.specs.Lists.{declared_in, trees_of}
use Rattle.declaration_readings.specs.Readings.{after}
use Rattle.cond_structs.specs.Gathered.{gathered}
use Rattle.cond_structs.specs.Standing.{GathersSoFar}
use Rattle.cond_structs.specs.Walks.{members_in}
use Rattle.cond_structs.specs.Declaring.{next_declarator, IsDeclaring}
use Rattle.cond_structs.proofs.ListSteps.{list_gathers}
use Rattle.cond_structs.proofs.reading.read_list.Goals as goal

pub returns-in_ok-for_each_declarator-in-Node-clause-gathers : goal.returns-in_ok-for_each_declarator-in-Node-clause-gathers
returns-in_ok-for_each_declarator-in-Node-clause-gathers g c = λ n m admitted here_is derived so_far before.
    let p = ap plain_item c.in-Node.is ∙ plain_item-Node c.in-Node.field-0 c.in-Node.parts in
    let out = c.for_each_declarator.new.state in
    let all = c.in_ok-for_each_declarator-in-Node.ensures.steps n kinds.Declarators m admitted (λ place. refl) (record { here_is = here_is; so_far = so_far; before = before }) in
    subst (λ i. GathersSoFar m.by m.scope.structs (gathered (has n) out.all) (if m.here then after m.known (members_in m.scope m.number m.known.state m.ty (item_at (has n) i)) else m.known)) (sym p)
    (list_gathers c.members_are_read.ensures m c.in-Node.field-0 (λ k. parts_at (has n) k 0 (plain_choices c.in-Node.parts.items)) (gathered (has n) out.all)
    (subst (λ list. IsDeclaring (has n) out (after_each next_declarator m (declared_in (trees_of (parts_at (has n) kinds.Declarators 0 (plain_choices list)))))) c.deref.ensures.value all).so_far
    (λ h. subst (λ i. Derivation (declarators member_of) (item_at (has n) i)) p (derived h)))
