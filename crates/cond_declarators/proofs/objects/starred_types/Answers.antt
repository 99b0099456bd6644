use Rattle.std.proofs.Common.{subst}
use Rattle.conditional.specs.Judgements.{fine}
use Rattle.cond_declarators.specs.Types.{ShowsType}
use Rattle.cond_declarators.proofs.objects.starred_types.Goals as goal

pub returns : goal.returns
returns c = λ on. subst (λ ty. ShowsType on (fine ty) c.in_ok-types.types) c.in_ok-ty.ensures (c.in_ok-types.ensures on)
