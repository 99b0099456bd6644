use Rattle.std.proofs.Common.{[], ap, subst, ◌∙◌}
use Rattle.bindings.proofs.Pieces.{holds_of}
use Rattle.selections.specs.Laws.{HasNames}
use Rattle.member_uses.specs.Uses.{using, structures_in}
use Rattle.member_uses.specs.Declarations.{names_in_declared}
use Rattle.member_uses.proofs.Parts.{Part}
use Rattle.member_uses.proofs.Turns.{initialised}
use Rattle.member_uses.proofs.Locals.{IsInitiallyIf, next_part}
use Rattle.member_uses.proofs.locals_use_initialisers.Goals as goal

pub returns : goal.returns
returns c = λ by keeps ty d is s names now js judged known seen.
    ap (λ m. using (names_in_declared d) (structures_in by m)) judged
    ∙ (subst (λ m. Part by (λ next u. HasNames next.scope × IsInitiallyIf by next.scope d.initialiser u) m (names_in_declared d)) judged
    (next_part by c.types_are_kept.ensures c.expressions_have_types.ensures c.counts_need_no_names.ensures ty d.declarator d.initialiser is.declarator
    (holds_of d.declarator [] is.declarator_pieces).0 (initialised d is) s names)).1.1 keeps known seen
