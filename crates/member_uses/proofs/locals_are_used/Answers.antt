use Rattle.std.proofs.Common.{[], ap, subst, ◌∙◌}
use Rattle.c_tree.specs.declared.kinds.Kind.TheVariants as k
use Rattle.c_tree.specs.Trees.{node}
use Rattle.bindings.proofs.Pieces.{holds_of}
use Rattle.member_uses.specs.Uses.{names_among, using, structures_in}
use Rattle.member_uses.specs.Declarations.{declaration}
use Rattle.member_uses.proofs.Parts.{Part}
use Rattle.member_uses.proofs.Locals.{words_of, list_of, IsDeclaration, declaration_part}
use Rattle.member_uses.proofs.locals_are_used.Goals as goal

pub returns : goal.returns
returns c = λ by words list last d e y pieces g names base bs is locals js judged.
    let kept = c.types_are_kept.ensures in
    let typed = c.expressions_have_types.ensures in
    let sizes = c.counts_need_no_names.ensures in
    let holds = (holds_of (node k.LocalDeclaration (declaration words list last)) [] pieces).0 in
    ap (λ m. using (names_among (declaration words list last)) (structures_in by m)) judged
    ∙ (subst (λ m. Part by (IsDeclaration by kept typed sizes g words list) m (names_among (declaration words list last))) judged
    (declaration_part by kept typed sizes words list last (words_of d) (list_of e) holds.1.0 y g names)).1.1 base bs is
