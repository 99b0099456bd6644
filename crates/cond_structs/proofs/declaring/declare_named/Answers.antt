use Rattle.std.specs.Prelude.{None}
use Rattle.cond_formula.specs.Features.{has}
use Rattle.cond_formula.specs.Conditions.{condition_of, value}
use Rattle.c_text.specs.Token.{plain_token}
use Rattle.c_tree.specs.Trees.{plain_tree}
use Rattle.operand_types.specs.OperandTypes.{renumbered, outcome_as}
use Rattle.type_tables.specs.Seen.{seen_tables}
use Rattle.cond_declarators.specs.Types.{object_type_in}
use Rattle.cond_structs.specs.Gathered.{gathered}
use Rattle.cond_structs.proofs.Outcome.{named_comes}
use Rattle.cond_structs.proofs.declaring.declare_named.Goals as goal

pub returns-clause-comes : goal.returns-clause-comes
returns-clause-comes g c = λ n scope f ty admitted there shows here.
    let v = outcome_as (renumbered f.by) (object_type_in scope ty (plain_tree c.args.tree.now) (plain_token c.args.name.now) None) in
    named_comes (seen_tables (has n) c.args.tables.now) c.args.name.now.text.items c.as_slice-text.result.now v (value (has n) (condition_of c.args.here.now)) (gathered (has n) c.args.all.now) (gathered (has n) c.refuse_again.new.all)
    (gathered (has n) c.add_outcome.new.self) c.as_slice-text.ensures.value (c.in_ok-refuse_again.ensures (has n)) here
    (c.in_ok-add_outcome.ensures.comes (has n) v (c.in_ok-types.ensures.shows n scope f ty (plain_token c.args.name.now) admitted there shows) here)
