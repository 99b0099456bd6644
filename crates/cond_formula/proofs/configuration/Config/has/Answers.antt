use Rattle.std.proofs.Common.{sym, ap, ◌∙◌}
use Rattle.cond_formula.specs.Features.{has}
use Rattle.cond_formula.specs.FeatureBits.{has-bits_of}
use Rattle.cond_formula.proofs.configuration.Config.has.Goals as goal

pub returns : goal.returns
returns c =
    sym (has-bits_of c.self.inside.bits c.args.feature c.requires) ∙ ap (λ on. has on c.args.feature) c.self.view_is
