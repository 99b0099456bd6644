use Rattle.std.proofs.Common.{[], ap, subst, ◌∙◌}
use Rattle.c_tree.specs.declared.kinds.Kind.TheVariants as k
use Rattle.c_tree.specs.Trees.{node}
use Rattle.bindings.proofs.Pieces.{holds_of}
use Rattle.member_uses.specs.Uses.{names_in, using, structures_in}
use Rattle.member_uses.specs.Declarations.{declaration}
use Rattle.member_uses.proofs.Parts.{Part}
use Rattle.unit_member_uses.proofs.Items.{IsDeclaration, declaration_derived}
use Rattle.unit_member_uses.proofs.declarations_are_used.Goals as goal

pub returns : goal.returns
returns c =
    λ by globals unit names words list last d pieces behind base bs is g at next js judged.
    ap (λ m. using (names_in (node k.Declaration (declaration words list last))) (structures_in by m)) judged
    ∙ (subst (λ m. Part by (IsDeclaration by c.types_are_kept.ensures c.expressions_have_types.ensures c.counts_need_no_names.ensures globals unit words list behind) m (names_in (node k.Declaration (declaration words list last)))) judged
    (declaration_derived by c.types_are_kept.ensures c.expressions_have_types.ensures c.counts_need_no_names.ensures globals d (holds_of (node k.Declaration (declaration words list last)) [] pieces).0 unit names behind)).1.1 base bs is g at
