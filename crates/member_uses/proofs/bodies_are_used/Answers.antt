use Rattle.std.proofs.Common.{◌≡◌, [], sym, ap, subst, ◌∙◌}
use Rattle.bindings.proofs.Pieces.{holds_of}
use Rattle.statement_readings.specs.Laws.{starting}
use Rattle.member_uses.specs.Uses.{names_in, using, structures_in}
use Rattle.member_uses.specs.Walks.{uses_in_body}
use Rattle.member_uses.proofs.Parts.{Part}
use Rattle.member_uses.proofs.Statements.{body_part}
use Rattle.member_uses.proofs.bodies_are_used.Goals as goal

pub returns : goal.returns
returns c = λ by result scope names slots tree d pieces items js e.
    sym (subst (λ m. Part by (λ j u. u ≡ uses_in_body by result tree (starting scope slots)) m (names_in tree)) e
    (body_part by c.types_are_kept.ensures c.expressions_have_types.ensures c.counts_need_no_names.ensures result d (holds_of tree [] pieces).0 (starting scope slots) names)).1
    ∙ sym (ap (λ m. using (names_in tree) (structures_in by m)) e)
