use Rattle.std.proofs.Common.{sym, ap, ◌∙◌}
use Rattle.c_tree.specs.Trees.{node, plain_trees}
use Rattle.core_meaning.specs.Declarations.{declared_parameter}
use Rattle.operand_types.specs.OperandTypes.{outcome_as}
use Rattle.cond_parameters.specs.Types.{renumbered_parameter}
use Rattle.cond_parameters.proofs.OneParameter.{absence_is}
use Rattle.cond_parameters.proofs.found.by_kind.Goals as goal

pub returns-in_ok-found : goal.returns-in_ok-found
returns-in_ok-found c = λ on scope follows before ty first names there same.
    c.in_ok-found.ensures on scope follows before ty first (plain_trees c.args.parts.now) there same
    ∙ ap (λ kind. outcome_as (renumbered_parameter follows.follows.by) (declared_parameter c.args.defining scope before ty first (node kind (plain_trees c.args.parts.now))))
    (sym (absence_is c.args.kind (sym c.is_absence.ensures ∙ c.if-is_absence.true)))
