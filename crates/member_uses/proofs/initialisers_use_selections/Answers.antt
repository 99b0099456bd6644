use Rattle.std.proofs.Common.{sym, ap, subst, ◌∙◌}
use Rattle.member_uses.specs.Uses.{names_in, using, structures_in}
use Rattle.member_uses.proofs.Using.{IsUsing, initial_using}
use Rattle.member_uses.proofs.initialisers_use_selections.Goals as goal

pub returns : goal.returns
returns c = λ by keeps scope names known is tree d pieces globals ty path behind parts bindings e.
    ap (λ m. using (names_in tree) (structures_in by m)) e
    ∙ ap (using (names_in tree))
    (subst (IsUsing by) e (initial_using by scope globals ty path tree behind) ∙ sym (c.initialisers_select_so.ensures by keeps scope names known is tree d pieces globals ty path behind parts bindings e))
