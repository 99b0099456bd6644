use Rattle.std.proofs.Common.{[], subst, ◌∙◌}
use Rattle.std.proofs.lemmas.List.{append-nil}
use Rattle.std.specs.Prelude.{map}
use Rattle.bindings.proofs.Pieces.{holds_of}
use Rattle.selections.specs.Laws.{structure_bound}
use Rattle.selections.proofs.Judgings.{Selects}
use Rattle.selections.proofs.Expressions.{Those}
use Rattle.selections.proofs.Initialisers.{initial_selects}
use Rattle.selections.proofs.initialisers_select_so.Goals as goal

pub returns : goal.returns
returns c = λ by keeps scope names known is tree d pieces globals ty path behind parts bindings e.
    subst (λ m. Selects by (Those by scope known tree) m) e
    (initial_selects by scope known globals names (c.types_are_kept.ensures by keeps scope) (λ n t t_is. c.expressions_have_types.ensures by keeps scope known is n t t_is) d (holds_of tree [] pieces).0 ty path behind) []
    ∙ append-nil (map (structure_bound by) bindings)
