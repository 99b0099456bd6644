use Rattle.std.proofs.Common.{◌+◌, drop}
use Rattle.c_tree.specs.declared.terminals.Terminal.TheVariants.{Name}
use Rattle.grammar_moves.specs.declared.slots.Choices.TheVariants.{One}
use Rattle.grammar_moves.specs.declared.slots.Slot.TheVariants.{Word}
use Rattle.grammar_moves.specs.Slots.{row_slots}
use Rattle.grammar_moves.specs.PlainPlaces.{row_place}
use Rattle.grammar_moves.proofs.RowLemmas.{skips_one, acts}
use Rattle.grammar_moves.proofs.moves.row_move.Goals as goal

pub returns-in-Some : goal.returns-in-Some
returns-in-Some c =
    acts c.args.row c.slots-slots.result.now c.args.read c.args.token c.loop-place.skipped c.loop-place.place (Word (One Name)) c.in-Some.action
    c.loop-place.invariant c.loop-place-test.true c.in-Some.ensures

pub loop-place-preserved : goal.loop-place-preserved
loop-place-preserved c =
    skips_one c.args.row c.slots-slots.result.now c.args.read c.args.token c.loop-place.skipped c.loop-place.place (Word (One Name))
    (row_place c.args.row (drop (c.loop-place.place + 1) (row_slots c.args.row)))
    c.loop-place.invariant c.loop-place-test.true c.in_default.ensures
