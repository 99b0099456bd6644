use Rattle.std.proofs.Common.{Bool, subst}
use Rattle.cond_formula.specs.Features.{has}
use Rattle.cond_formula.specs.Conditions.{condition_of, value}
use Rattle.conditional.specs.Entries.{seen}
use Rattle.c_tree.specs.Trees.{trees}
use Rattle.c_tree.specs.Grammar.{file_item}
use Rattle.tree_derivations.specs.Derivations.{Derivation}
use Rattle.choice_trees.specs.ChoiceTrees.{plain_item, item_at}
use Rattle.declarator_lists.specs.Entries.{entries_at}
use Rattle.cond_units.specs.Seen.{seen_unit}
use Rattle.cond_units.specs.Where.{Where}
use Rattle.cond_units.specs.Items.{DeclaresItem}
use Rattle.cond_units.specs.Units.{one_item}
use Rattle.cond_units.proofs.items.declare_entry.Goals as goal

pub returns-clause-declares : goal.returns-clause-declares
returns-clause-declares g c = λ n globals admitted.
    subst (λ (b : Bool). Where b
    (DeclaresItem (one_item globals (item_at (has n) (plain_item c.args.entry.now.item.now)) (trees (seen (has n) (entries_at (has n) c.args.rest.now)))) (Derivation file_item (item_at (has n) (plain_item c.args.entry.now.item.now))))
    (seen_unit (has n) c.args.unit.now) (seen_unit (has n) c.declare_item.new.unit) (value (has n) (condition_of c.in_ok-refused.refused)))
    (c.in_ok-here.ensures (has n)) (c.in_ok-refused.ensures.declares n globals admitted)
