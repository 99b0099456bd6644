use Rattle.std.proofs.Common.{◌&&◌, ap, ap₂, ◌∙◌, if◌then◌else◌}
use Rattle.cond_formula.specs.Conditions.{condition_of, value}
use Rattle.conditional.specs.Judgements.{fine, refused}
use Rattle.c_types.specs.Types.{plain_type}
use Rattle.c_tree.specs.Trees.{plain_trees}
use Rattle.core_meaning.specs.Declarations.{name_in, token_of, is_new_parameter}
use Rattle.cond_parameters.proofs.OneParameter.{a_parameter, named_found}
use Rattle.cond_parameters.proofs.found.named.Goals as goal

pub returns : goal.returns
returns c = λ on scope follows before ty first names there same.
    ap₂ (λ b name. if b then fine (a_parameter name (plain_type c.in_ok-ty.field-0.ty)) else refused tt)
    (c.in_ok-fits.ensures on ∙ ap (λ b. value on (condition_of c.in_ok-new.new) && b) (c.in_ok-both.ensures on)) c.name_in-name.ensures
    ∙ named_found follows.follows.by c.args.defining scope before ty first c.args.kind (plain_trees c.args.parts.now) c.requires there
    (value on (condition_of c.in_ok-new.new)) (value on (condition_of c.in_ok-ty.field-0.fits)) (value on (condition_of c.in_ok-may_be.may_be)) (plain_type c.in_ok-ty.field-0.ty)
    (c.in_ok-new.ensures on scope follows before names ∙ ap (is_new_parameter before) c.name_in-name.ensures)
    (c.in_ok-ty.ensures on scope follows.follows ty (token_of (name_in (plain_trees c.args.parts.now)) first) there same)
    (λ w is_there is. c.in_ok-may_be.ensures on scope follows.follows w is_there is)
