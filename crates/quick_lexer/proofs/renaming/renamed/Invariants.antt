use Rattle.std.proofs.Common.{◌≡◌, ◌==◌, length, map}
use Rattle.std.specs.List.{join_with_byte}
use Rattle.quick_form.specs.Renaming.{renamed_line}
use Rattle.quick_lexer.proofs.renaming.renamed.Given as goal

abbrev pub invariant-loop-line : goal.invariant-loop-line
invariant-loop-line l =
    (l.is_first ≡ (length l.yielded == 0))
    × (l.out.items ≡ join_with_byte 10 (map (λ line. renamed_line l.old l.new line.now) l.yielded))
