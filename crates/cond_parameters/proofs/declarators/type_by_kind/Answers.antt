use Rattle.std.proofs.Common.{sym, ap, ◌∙◌}
use Rattle.conditional.specs.Judgements.{fine}
use Rattle.c_tree.specs.Trees.{plain_trees}
use Rattle.cond_declarators.proofs.DeclaratorTypes.{starred_renumbered}
use Rattle.core_meaning.specs.Declarations.{starred, parameter_type}
use Rattle.operand_types.specs.OperandTypes.{outcome_as, renumbered}
use Rattle.cond_parameters.proofs.declarators.type_by_kind.Goals as goal

pub returns-in_ok-ty-in-Declarator : goal.returns-in_ok-ty-in-Declarator
returns-in_ok-ty-in-Declarator c = λ on scope f ty name there same.
    c.type_anywhere.ensures on
    ∙ ap fine (c.in_ok-ty-in-Declarator.ensures ∙ ap (starred (plain_trees c.args.parts.now)) same ∙ sym (starred_renumbered f.by (plain_trees c.args.parts.now) ty))
    ∙ sym (ap (λ kind. outcome_as (renumbered f.by) (parameter_type scope ty kind (plain_trees c.args.parts.now) name)) c.in-Declarator.is)
