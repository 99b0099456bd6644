use Rattle.std.proofs.Common.{◌∙◌, ap, sym, map}
use Rattle.std.specs.Option.{option_copied}
use Rattle.c_tree.specs.Machine.{moved, arrives, outcome}
use Rattle.grammar_moves.specs.PlainPlaces.{plain_place}
use Rattle.grammar_moves.specs.PlainMoves.{plain_action}
use Rattle.plain_parse.specs.Kept.{of_kept}
use Rattle.plain_parse.specs.Frames.{plain_built, plain_frames}
use Rattle.plain_parse.specs.Turns.{read_as}
use Rattle.plain_parse.proofs.FrameLemmas.{plain_frames-push}
use Rattle.plain_parse.proofs.MachineLemmas.{outcome-skipping}
use Rattle.plain_parse.proofs.turns.take_turn.Goals as goal

pub returns-clause-outcome : goal.returns-clause-outcome
returns-clause-outcome c =
    let inner = c.in-Some.inner in
    let token = read_as (option_copied c.args.token) in
    let others = plain_frames c.pop.new.self.items in
    let popped = ap plain_frames c.in-Some.ensures.items ∙ plain_frames-push c.pop.new.self.items inner in
    c.in_ok-turn.ensures.outcome c.args.terminal
    ∙ ap (λ parts. moved of_kept (plain_place inner.place) parts (plain_action c.next_move-next.result.action) token others
    (λ whole. arrives of_kept c.args.terminal token whole (plain_place inner.place) others)) c.in_ok-skip.ensures
    ∙ outcome-skipping of_kept c.args.terminal token (plain_place inner.place) (map plain_built inner.parts.items) c.next_move-next.result.skipped
    (plain_action c.next_move-next.result.action) others c.next_move-next.ensures
    ∙ ap (outcome of_kept c.args.terminal token) (sym popped)
