use Rattle.std.proofs.Common.{sym, ap, ◌∙◌, subst}
use Rattle.std.specs.Prelude.{None}
use Rattle.std.proofs.lemmas.Result.{on_ok_weaker}
use Rattle.cond_formula.specs.Features.{has}
use Rattle.c_tree.specs.Trees.{plain_tree, plain_trees}
use Rattle.c_tree.specs.TreeLaws.{plain_tree-Node}
use Rattle.core_meaning.specs.Declarations.{name_in}
use Rattle.operand_types.specs.OperandTypes.{renumbered, outcome_as}
use Rattle.type_tables.specs.Seen.{seen_tables}
use Rattle.cond_declarators.specs.Types.{object_type_in}
use Rattle.cond_structs.specs.Gathered.{gathered, with_declared, Comes}
use Rattle.cond_structs.specs.Walks.{declared_name}
use Rattle.cond_structs.proofs.declaring.declare_tree.Goals as goal

pub returns-in-Node-clause-comes : goal.returns-in-Node-clause-comes
returns-in-Node-clause-comes g c =
    on_ok_weaker c.declare_parts.result (λ holds n scope f ty admitted there shows here.
    subst (λ o. Comes (gathered (has n) c.declare_parts.new.all) (with_declared (seen_tables (has n) c.args.tables.now) (λ name. outcome_as (renumbered f.by) (object_type_in scope ty (plain_tree c.args.tree.now) name None)) o (gathered (has n) c.args.all.now)))
    (ap (λ list. name_in (plain_trees list)) c.deref.ensures.value ∙ sym (ap declared_name (ap plain_tree c.in-Node.is ∙ plain_tree-Node c.in-Node.field-0 c.in-Node.parts)))
    (holds n scope f ty admitted there shows here)) c.declare_parts.ensures.comes
