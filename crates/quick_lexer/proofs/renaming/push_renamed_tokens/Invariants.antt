use Rattle.std.proofs.Common.{◌≡◌, ◌++◌, length}
use Rattle.std.specs.List.{flat_map}
use Rattle.quick_form.specs.Symbols.{pieces_of}
use Rattle.quick_form.specs.Renaming.{renamed_piece}
use Rattle.quick_lexer.proofs.renaming.push_renamed_tokens.Given as goal

abbrev pub invariant-loop-piece : goal.invariant-loop-piece
invariant-loop-piece l =
    l.out.items ++ flat_map (renamed_piece l.old l.new) (pieces_of l.rest)
    ≡ l.initial.out.items ++ flat_map (renamed_piece l.old l.new) (pieces_of l.line)

abbrev pub decreases-loop-piece : goal.decreases-loop-piece
decreases-loop-piece l = length l.rest
