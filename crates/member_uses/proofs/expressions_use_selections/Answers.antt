use Rattle.std.proofs.Common.{sym, ap, subst, ◌∙◌}
use Rattle.member_uses.specs.Uses.{names_in, using, structures_in}
use Rattle.member_uses.proofs.Using.{IsUsing, judged_using}
use Rattle.member_uses.proofs.expressions_use_selections.Goals as goal

pub returns : goal.returns
returns c = λ by keeps scope names known is level tree d pieces operand bindings e.
    ap (λ m. using (names_in tree) (structures_in by m)) e
    ∙ ap (using (names_in tree))
    (subst (IsUsing by) e (judged_using by scope tree) ∙ sym (c.selections_are_judged.ensures by keeps scope names known is level tree d pieces operand bindings e))
