use Rattle.std.proofs.Common.{ap₂, ◌∙◌}
use Rattle.std.proofs.lemmas.Result.{IfOk-weaker}
use Rattle.cond_formula.specs.Features.{has}
use Rattle.core_meaning.specs.Entities.{Signature}
use Rattle.cond_compatible.specs.Depths.{signatures_agree}
use Rattle.cond_compatible.specs.SeenTags.{said_alike}
use Rattle.cond_compatible.proofs.sorts.where_functions_agree.Goals as goal

pub returns-clause-exact : goal.returns-clause-exact
returns-clause-exact g c = IfOk-weaker c.where_signatures_agree.result _ _ (λ f is n admitted.
    is n admitted
    ∙ ap₂ (λ (a b : Signature). signatures_agree (said_alike (has n) c.args.alike.now) a b)
    (c.signature_or-f.ensures (has n) (c.none-none.ensures (has n)))
    (c.signature_or-g.ensures (has n) (c.none-none.ensures (has n)))) c.where_signatures_agree.ensures.exact
