use Rattle.std.proofs.Common.{sym, ap, ◌∙◌, subst}
use Rattle.std.proofs.lemmas.Result.{IfOk-weaker}
use Rattle.cond_formula.specs.Features.{has}
use Rattle.cond_formula.specs.Conditions.{condition_of, value}
use Rattle.c_tree.specs.declared.kinds.Kind.TheVariants as k
use Rattle.c_tree.specs.Trees.{PlainTrees}
use Rattle.c_tree.specs.Grammar.{local}
use Rattle.tree_derivations.specs.Derivations.{Declared}
use Rattle.choice_trees.specs.ChoiceTrees.{plain_item, plain_choices, item_at, parts_at}
use Rattle.choice_trees.specs.ItemLaws.{plain_item-Node}
use Rattle.core_meaning.specs.Declarations.{locals_from}
use Rattle.type_tables.specs.Seen.{seen_tables}
use Rattle.cond_locals.specs.Declaring.{Declares}
use Rattle.cond_locals.proofs.Parts.{listed_parts}
use Rattle.cond_locals.proofs.lists.declare_list.Goals as goal

pub returns-in-Node-clause-declares : goal.returns-in-Node-clause-declares
returns-in-Node-clause-declares g c =
    IfOk-weaker c.declare_parts.result _ _ (λ f declares n parts admitted on at.
    subst (λ (list : PlainTrees). Declares (has n) c.args.base.now (λ scope slots ty. locals_from scope slots ty list) (λ scope. Declared local list)
    (seen_tables (has n) c.args.tables.now) (seen_tables (has n) c.declare_parts.new.tables) (value (has n) (condition_of f)))
    (ap (λ list. parts_at (has n) k.Declarators 0 (plain_choices list)) c.deref.ensures.value
    ∙ listed_parts (has n) c.in-Node.field-0 (plain_choices c.in-Node.parts.items) parts
    (sym (ap (item_at (has n)) (ap plain_item c.in-Node.is ∙ plain_item-Node c.in-Node.field-0 c.in-Node.parts)) ∙ at))
    ((declares n admitted).does on)) c.declare_parts.ensures.declares
