use Rattle.std.proofs.Common.{[], ap, subst, ◌∙◌}
use Rattle.bindings.proofs.Pieces.{holds_of}
use Rattle.member_uses.specs.Uses.{names_in, using, structures_in}
use Rattle.member_uses.proofs.Parts.{Part}
use Rattle.unit_member_uses.proofs.Items.{IsItem, item_part}
use Rattle.unit_member_uses.proofs.structs_use_nothing.Goals as goal

pub returns : goal.returns
returns c =
    λ by globals unit names tree d is pieces behind next js judged.
    ap (λ m. using (names_in tree) (structures_in by m)) judged
    ∙ (subst (λ m. Part by (IsItem by c.types_are_kept.ensures c.expressions_have_types.ensures c.counts_need_no_names.ensures globals tree) m (names_in tree)) judged
    (item_part by c.types_are_kept.ensures c.expressions_have_types.ensures c.counts_need_no_names.ensures globals d (holds_of tree [] pieces).0 unit names behind)).1.1 is
