use Rattle.std.proofs.Common.{[], ap, subst, ◌∙◌}
use Rattle.bindings.proofs.Pieces.{holds_of}
use Rattle.member_uses.specs.Uses.{names_in, using, structures_in}
use Rattle.member_uses.proofs.Parts.{Part}
use Rattle.unit_member_uses.specs.Items.{definition}
use Rattle.unit_member_uses.proofs.Items.{IsDefinition, definition_derived}
use Rattle.unit_member_uses.proofs.functions_are_used.Goals as goal

pub returns : goal.returns
returns c =
    λ by globals unit names words parts body d pieces behind base bs is name named parameters ps given scope ss visible next js judged.
    ap (λ m. using (names_in (definition words parts body)) (structures_in by m)) judged
    ∙ (subst (λ m. Part by (IsDefinition by c.types_are_kept.ensures c.expressions_have_types.ensures c.counts_need_no_names.ensures globals unit words parts body) m (names_in (definition words parts body))) judged
    (definition_derived by c.types_are_kept.ensures c.expressions_have_types.ensures c.counts_need_no_names.ensures globals d (holds_of (definition words parts body) [] pieces).0 unit names behind)).1.1 base bs is name named parameters ps given scope ss visible
