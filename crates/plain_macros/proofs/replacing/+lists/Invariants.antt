use Rattle.std.proofs.Common.{◌+◌, ◌*◌, ◌≡◌, map, drop}
use Rattle.plain_macros.specs.PlainItems.{plain_item}
use Rattle.plain_macros.specs.PlainLevels.{macros_of, active_in, deeper_in}
use Rattle.plain_macros.specs.PlainRuns.{reading}
use Rattle.c_text.specs.Macros as spec
use Rattle.plain_macros.proofs.RunLemmas.{joined}
use Rattle.plain_macros.proofs.replacing.+lists.Given as goal

abbrev pub decreases-deeper : goal.decreases-deeper
decreases-deeper l = 8 * l.level.now.left

abbrev pub decreases-replacement : goal.decreases-replacement
decreases-replacement l = 8 * l.level.now.left + 1

abbrev pub decreases-arguments_replaced : goal.decreases-arguments_replaced
decreases-arguments_replaced l = 8 * l.level.now.left + 1

abbrev pub decreases-called : goal.decreases-called
decreases-called l = 8 * l.level.now.left + 2

abbrev pub decreases-object_turn : goal.decreases-object_turn
decreases-object_turn l = 8 * l.level.now.left + 2

abbrev pub decreases-inside_turn : goal.decreases-inside_turn
decreases-inside_turn l = 8 * l.level.now.left + 3

abbrev pub decreases-outside_turn : goal.decreases-outside_turn
decreases-outside_turn l = 8 * l.level.now.left + 3

abbrev pub decreases-turn : goal.decreases-turn
decreases-turn l = 8 * l.level.now.left + 4

abbrev pub decreases-finished : goal.decreases-finished
decreases-finished l = 8 * l.level.now.left + 5

abbrev pub invariant-arguments_replaced-loop-argument : goal.invariant-arguments_replaced-loop-argument
invariant-arguments_replaced-loop-argument l =
    joined (map (λ v. map plain_item v.items) l.replaced.items)
    (spec.all_replaced (deeper_in l.level) (active_in l.level) (map (λ v. map plain_item v.items) (drop l.argument-index l.arguments)))
    ≡ spec.all_replaced (deeper_in l.level) (active_in l.level) (map (λ v. map plain_item v.items) l.arguments)

abbrev pub invariant-finished-loop-i : goal.invariant-finished-loop-i
invariant-finished-loop-i l =
    reading (macros_of l.level) (deeper_in l.level) (active_in l.level) l.run (map plain_item (drop l.i l.items))
    ≡ spec.outside (macros_of l.level) (deeper_in l.level) (active_in l.level) (map plain_item l.items)
