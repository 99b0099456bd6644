use Rattle.std.proofs.Common.{ap, ap₂, ◌∙◌, if◌then◌else◌}
use Rattle.cond_formula.specs.Conditions.{condition_of, value}
use Rattle.conditional.specs.Judgements.{fine, refused}
use Rattle.c_types.specs.Types.{plain_type}
use Rattle.c_tree.specs.Trees.{plain_trees}
use Rattle.core_meaning.specs.Declarations.{starred, size_of_parameter}
use Rattle.type_tables.specs.Seen.{seen_tables}
use Rattle.cond_parameters.specs.Types.{is_fine}
use Rattle.cond_parameters.proofs.ParameterTypes.{array_judged}
use Rattle.cond_parameters.proofs.declarators.array_type.Goals as goal

pub returns : goal.returns
returns c = λ on scope f ty name there same.
    ap₂ (λ b t. if b then fine t else refused tt) (c.if_so-fits.ensures on) c.in_ok-ty.ensures
    ∙ array_judged (seen_tables on c.args.tables.now) scope f ty (plain_trees c.args.parts.now) name there (plain_type c.in_ok-element.element)
    (c.in_ok-element.ensures ∙ ap (starred (plain_trees c.args.parts.now)) same) c.in_ok-constant.constant (value on (condition_of c.in_ok-complete.complete))
    (c.in_ok-constant.ensures scope name ∙ ap (λ size. is_fine (size_of_parameter scope name size)) c.behind_word.ensures) (c.in_ok-complete.ensures on)
