use Rattle.std.proofs.Common.{sym, ap, ◌∙◌, subst}
use Rattle.cond_formula.specs.Features.{has}
use Rattle.conditional.specs.Judgements.{fine}
use Rattle.c_tree.specs.Trees.{plain_trees}
use Rattle.std.specs.Prelude.{option_map}
use Rattle.choice_trees.specs.ChoiceTrees.{plain_item, item_at}
use Rattle.operand_types.specs.OperandTypes.{outcome_as, renumbered}
use Rattle.core_meaning.specs.Declarations.{starred, object_type}
use Rattle.cond_declarators.specs.Types.{ShowsType}
use Rattle.cond_declarators.proofs.DeclaratorTypes.{starred_renumbered}
use Rattle.cond_declarators.proofs.objects.types_by_kind.Goals as goal

pub returns-in_ok-types-in-Declarator-clause-shows : goal.returns-in_ok-types-in-Declarator-clause-shows
returns-in_ok-types-in-Declarator-clause-shows g c = λ n scope f ty name admitted there same.
    subst (λ kind. ShowsType (has n) (outcome_as (renumbered f.by) (object_type scope ty kind (plain_trees c.args.parts.now) name (option_map (λ item. item_at (has n) (plain_item item.now)) c.args.initialiser))) c.in_ok-types-in-Declarator.types)
    (sym c.in-Declarator.is)
    (subst (λ t. ShowsType (has n) (fine t) c.in_ok-types-in-Declarator.types) (ap (starred (plain_trees c.args.parts.now)) same ∙ sym (starred_renumbered f.by (plain_trees c.args.parts.now) ty))
    (c.in_ok-types-in-Declarator.ensures (has n)))
