use Rattle.std.proofs.Common.{sym, ap, ◌∙◌}
use Rattle.c_tree.specs.Trees.{node, none, more, plain_tree, plain_trees}
use Rattle.c_tree.specs.TreeLaws.{plain_tree-Node}
use Rattle.core_meaning.specs.Declarations.{one_parameter}
use Rattle.core_meaning.specs.Expressions.{first_token_in}
use Rattle.operand_types.specs.OperandTypes.{outcome_as}
use Rattle.plain_parameters.specs.Parameters.{words_then}
use Rattle.cond_parameters.specs.Types.{renumbered_parameter}
use Rattle.cond_parameters.proofs.found.by_two_parts.Goals as goal

pub returns-in_ok-found-in-Node : goal.returns-in_ok-found-in-Node
returns-in_ok-found-in-Node c = λ on scope follows before kind behind names.
    c.in_ok-found-in-Node.ensures on scope follows before (first_token_in (plain_trees c.deref.result.now) behind) names
    ∙ ap
    (λ words. outcome_as (renumbered_parameter follows.follows.by) (words_then c.args.defining scope before (plain_trees words) (plain_tree c.args.declarator.now) (first_token_in (plain_trees words) behind)))
    c.deref.ensures.value
    ∙ sym
    (ap (λ words. outcome_as (renumbered_parameter follows.follows.by) (one_parameter c.args.defining scope before (node kind (more words (more (plain_tree c.args.declarator.now) none))) behind))
    (ap plain_tree c.in-Node.is ∙ plain_tree-Node c.in-Node.field-0 c.in-Node.words))
