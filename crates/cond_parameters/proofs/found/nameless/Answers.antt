use Rattle.std.proofs.Common.{◌∙◌}
use Rattle.cond_formula.specs.Conditions.{condition_of, value}
use Rattle.c_types.specs.Types.{plain_type}
use Rattle.cond_parameters.proofs.OneParameter.{nameless_found}
use Rattle.cond_parameters.proofs.found.nameless.Goals as goal

pub returns : goal.returns
returns c = λ on scope follows before ty first parts there same.
    nameless_found follows.follows.by c.args.defining scope before ty first parts (plain_type c.in_ok-ty.ty) (value on (condition_of c.in_ok-fits.fits)) (c.in_ok-ty.ensures ∙ same)
    (c.in_ok-fits.ensures on scope follows.follows ty there (c.in_ok-ty.ensures ∙ same))
