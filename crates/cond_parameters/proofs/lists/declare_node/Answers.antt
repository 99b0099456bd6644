use Rattle.std.proofs.Common.{sym, subst}
use Rattle.std.specs.Prelude.{Some}
use Rattle.cond_formula.specs.Features.{has}
use Rattle.cond_formula.specs.Conditions.{condition_of, value}
use Rattle.conditional.specs.Entries.{seen, listed}
use Rattle.c_tree.specs.Trees.{node}
use Rattle.choice_trees.specs.ChoiceTrees.{plain_choices, parts_at}
use Rattle.core_meaning.specs.Declarations.{parameters_of}
use Rattle.operand_types.specs.OperandTypes.{outcome_as}
use Rattle.type_tables.specs.Forms.{declared_type_form}
use Rattle.type_tables.specs.Seen.{seen_tables}
use Rattle.cond_parameters.specs.Parameters.{IsList, Declares}
use Rattle.cond_parameters.proofs.lists.declare_node.Goals as goal

pub returns-in_ok-all-in-Parameters-clause-declared : goal.returns-in_ok-all-in-Parameters-clause-declared
returns-in_ok-all-in-Parameters-clause-declared g c = λ n by scope behind admitted here f.
    subst
    (λ kind. IsList (node kind (parts_at (has n) kind 0 (plain_choices c.args.parts.now)))
    → Declares by scope (outcome_as (λ ps. ps) (parameters_of c.args.defining scope (Some (node kind (parts_at (has n) kind 0 (plain_choices c.args.parts.now)))) behind))
    (seen (has n) (listed declared_type_form c.in_ok-all-in-Parameters.all.types)) (value (has n) (condition_of c.in_ok-all-in-Parameters.all.refused))
    (seen_tables (has n) c.declare_parts.new.tables))
    (sym c.in-Parameters.is) (c.in_ok-all-in-Parameters.ensures.declared n by scope behind admitted here f)
