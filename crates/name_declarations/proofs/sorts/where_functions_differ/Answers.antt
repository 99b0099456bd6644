use Rattle.std.proofs.Common.{not, ap₂, ◌∙◌}
use Rattle.std.proofs.lemmas.Result.{IfOk-weaker}
use Rattle.cond_formula.specs.Features.{has}
use Rattle.core_meaning.specs.Entities.{Signature, function}
use Rattle.core_meaning.specs.UnitNames.{same_sort}
use Rattle.name_declarations.proofs.sorts.where_functions_differ.Goals as goal

pub returns-clause-exact : goal.returns-clause-exact
returns-clause-exact g c = IfOk-weaker c.where_signatures_differ.result _ _ (λ f is n admitted.
    is n admitted
    ∙ ap₂ (λ (a b : Signature). not (same_sort (function a) (function b)))
    (c.signature_or-f.ensures (has n) (c.none-none.ensures (has n)))
    (c.signature_or-g.ensures (has n) (c.none-none.ensures (has n)))) c.where_signatures_differ.ensures.exact
