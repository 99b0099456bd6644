use Rattle.std.proofs.Common.{[], subst}
use Rattle.bindings.proofs.Pieces.{holds_of}
use Rattle.selections.specs.Laws.{HasNames}
use Rattle.member_uses.specs.Declarations.{names_in_declared}
use Rattle.member_uses.proofs.Parts.{Part}
use Rattle.member_uses.proofs.Turns.{initialised}
use Rattle.member_uses.proofs.Locals.{IsInitiallyIf, next_part}
use Rattle.member_uses.proofs.locals_keep_names.Goals as goal

pub returns : goal.returns
returns c = λ ty d is s names now js judged.
    (subst (λ m. Part (λ n. n) (λ next u. HasNames next.scope × IsInitiallyIf (λ n. n) next.scope d.initialiser u) m (names_in_declared d)) judged
    (next_part (λ n. n) c.types_are_kept.ensures c.expressions_have_types.ensures c.counts_need_no_names.ensures ty d.declarator d.initialiser is.declarator
    (holds_of d.declarator [] is.declarator_pieces).0 (initialised d is) s names)).1.0
