use Rattle.std.proofs.Common.{sym, ap, subst, ◌∙◌}
use Rattle.std.specs.Prelude.{◌||◌}
use Rattle.cond_formula.specs.Features.{has}
use Rattle.cond_formula.specs.Conditions.{condition_of, value}
use Rattle.cond_types.specs.Elaborated.{TellsElaborated}
use Rattle.cond_types.proofs.NotElaborated.{tells_elaborated}
use Rattle.cond_types.proofs.elaboration.where_typed_not_elaborated.Goals as goal

pub returns-clause-exact : goal.returns-clause-exact
returns-clause-exact g c = λ c' trees admitted typed.
    let unlinked = value (has c') (condition_of c.in_ok-linked.linked.refused) in
    let is = c.in_ok-f.ensures (has c') ∙ ap (λ a. value (has c') a || unlinked) c.in_ok-badly_typed.ensures in
    subst (λ b. TellsElaborated b trees) (sym is)
    (tells_elaborated (has c') trees c.args.t.now unlinked
    (λ linked l e. c.in_ok-linked.ensures.fails c' linked admitted l e)
    (λ linked l e. c.in_ok-linked.ensures.links c' linked admitted l e)
    typed)
