use Rattle.std.proofs.Common.{[], subst}
use Rattle.bindings.proofs.Pieces.{holds_of}
use Rattle.member_uses.specs.Uses.{names_in}
use Rattle.member_uses.proofs.Parts.{Part}
use Rattle.unit_member_uses.proofs.Items.{IsItem, item_part}
use Rattle.unit_member_uses.proofs.items_keep_names.Goals as goal

pub returns : goal.returns
returns c =
    λ globals unit names tree d pieces behind next js judged.
    (subst (λ m. Part (λ n. n) (IsItem (λ n. n) c.types_are_kept.ensures c.expressions_have_types.ensures c.counts_need_no_names.ensures globals tree) m (names_in tree)) judged
    (item_part (λ n. n) c.types_are_kept.ensures c.expressions_have_types.ensures c.counts_need_no_names.ensures globals d (holds_of tree [] pieces).0 unit names behind)).1.0
