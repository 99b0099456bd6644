use Rattle.std.proofs.Common.{◌≡◌, ◌+◌, length}
use Rattle.std.specs.Option.{option_copied}
use Rattle.c_tree.specs.Machine.{outcome}
use Rattle.plain_parse.specs.Kept.{of_kept}
use Rattle.plain_parse.specs.Frames.{plain_frames}
use Rattle.plain_parse.specs.Turns.{read_as}
use Rattle.plain_parse.proofs.turns.read_next.Given as goal

abbrev pub invariant-loop : goal.invariant-loop
invariant-loop l =
    (outcome of_kept l.terminal (read_as (option_copied l.token)) (plain_frames l.frames.items)
    ≡ outcome of_kept l.terminal (read_as (option_copied l.token)) (plain_frames l.initial.frames.items))
    × (length l.frames.items + l.counter ≡ length l.initial.frames.items)
