use Rattle.std.proofs.Common.{[], ap, subst, ◌∙◌}
use Rattle.bindings.proofs.Pieces.{holds_of}
use Rattle.member_uses.specs.Uses.{using, structures_in}
use Rattle.member_uses.specs.Declarations.{names_in_declared}
use Rattle.member_uses.proofs.Parts.{Part}
use Rattle.member_uses.proofs.Turns.{initialised}
use Rattle.unit_member_uses.proofs.FileNames.{IsName, initially_used, next_part}
use Rattle.unit_member_uses.proofs.names_use_initialisers.Goals as goal

pub returns : goal.returns
returns c =
    λ by keeps globals storage ty behind role d is unit names next js judged known seen.
    ap (λ m. using (names_in_declared d) (structures_in by m)) judged
    ∙ (subst (λ m. Part by (IsName by c.types_are_kept.ensures c.expressions_have_types.ensures c.counts_need_no_names.ensures d.initialiser) m (names_in_declared d)) judged
    (next_part by c.types_are_kept.ensures c.expressions_have_types.ensures c.counts_need_no_names.ensures (IsName by c.types_are_kept.ensures c.expressions_have_types.ensures c.counts_need_no_names.ensures) (initially_used by c.types_are_kept.ensures c.expressions_have_types.ensures c.counts_need_no_names.ensures) globals storage ty behind d.declarator d.initialiser is.declarator (holds_of d.declarator [] is.declarator_pieces).0 (initialised d is) unit names)).1.1 keeps known seen
