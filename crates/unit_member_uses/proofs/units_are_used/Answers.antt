use Rattle.std.proofs.Common.{◌≡◌, [], ap, subst, ◌∙◌}
use Rattle.c_tree.specs.declared.kinds.Kind.TheVariants as k
use Rattle.c_tree.specs.Trees.{node}
use Rattle.core_meaning.specs.UnitNames.{unit_start}
use Rattle.bindings.proofs.Pieces.{holds_of}
use Rattle.member_uses.specs.Uses.{names_in, using, structures_in}
use Rattle.member_uses.proofs.Parts.{Part}
use Rattle.unit_member_uses.specs.Items.{uses_in_items}
use Rattle.unit_member_uses.proofs.Items.{unit_part}
use Rattle.unit_member_uses.proofs.units_are_used.Goals as goal

pub returns : goal.returns
returns c =
    λ by items is globals structs numbers unit js judged.
    ap (λ m. using (names_in (node k.Unit items)) (structures_in by m)) judged
    ∙ (subst (λ m. Part by (λ next u. u ≡ uses_in_items by globals (unit_start structs numbers) items) m (names_in (node k.Unit items))) judged
    (unit_part by c.types_are_kept.ensures c.expressions_have_types.ensures c.counts_need_no_names.ensures globals (c.units_are_derived.ensures (node k.Unit items) is.unit) (holds_of (node k.Unit items) [] is.pieces).0 structs numbers)).1
