use Rattle.std.proofs.Common.{subst}
use Rattle.std.specs.Prelude.{None}
use Rattle.std.proofs.lemmas.Result.{on_ok_weaker}
use Rattle.cond_formula.specs.Features.{has}
use Rattle.c_tree.specs.Trees.{plain_tree}
use Rattle.operand_types.specs.OperandTypes.{renumbered, outcome_as}
use Rattle.type_tables.specs.Seen.{seen_tables}
use Rattle.cond_declarators.specs.Types.{object_type_in}
use Rattle.cond_structs.specs.Gathered.{gathered, with_declared, Comes}
use Rattle.cond_structs.proofs.declaring.declare_parts.Goals as goal

pub returns-in-Some-clause-comes : goal.returns-in-Some-clause-comes
returns-in-Some-clause-comes g c =
    on_ok_weaker c.declare_named.result (λ holds n scope f ty admitted there shows here.
    subst (λ o. Comes (gathered (has n) c.declare_named.new.all) (with_declared (seen_tables (has n) c.args.tables.now) (λ name. outcome_as (renumbered f.by) (object_type_in scope ty (plain_tree c.args.tree.now) name None)) o (gathered (has n) c.args.all.now)))
    c.in-Some.ensures (holds n scope f ty admitted there shows here)) c.declare_named.ensures.comes
