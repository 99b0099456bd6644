use Rattle.std.proofs.Common.{◌++◌, ◌∙◌, false, ap, sym}
use Rattle.std.specs.Option.{option_map_or}
use Rattle.c_tree.specs.declared.terminals.Terminal.TheVariants.{Name}
use Rattle.c_tree.specs.Terminals.{same}
use Rattle.std.proofs.Common.{get_or}
use Rattle.c_tree.specs.Places.{goes_on}
use Rattle.grammar_moves.proofs.WordLemmas.{step_holds, step_fails}
use Rattle.grammar_moves.proofs.wordings.begins_with.Goals as goal

pub loop-place-preserved : goal.loop-place-preserved
loop-place-preserved c =
    let words = c.args.words.now in
    let whole = c.args.first.now ++ c.args.second.now in
    step_holds words whole c.loop-place.place Name c.is_there.result (goes_on words whole) c.loop-place-test.true
    (c.is_there.ensures ∙ ap (λ other. option_map_or (same (get_or words c.loop-place.place Name)) other false) c.word_at.ensures)
    c.if-not-is_there.false c.loop-place.invariant

pub returns-then-not-is_there : goal.returns-then-not-is_there
returns-then-not-is_there c =
    let words = c.args.words.now in
    let whole = c.args.first.now ++ c.args.second.now in
    sym (step_fails words whole c.loop-place.place Name c.is_there.result (goes_on words whole) c.loop-place-test.true
    (c.is_there.ensures ∙ ap (λ other. option_map_or (same (get_or words c.loop-place.place Name)) other false) c.word_at.ensures)
    c.if-not-is_there.true c.loop-place.invariant)
