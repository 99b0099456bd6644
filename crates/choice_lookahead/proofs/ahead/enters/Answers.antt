use Rattle.std.proofs.Common.{sym, ap, ◌∙◌}
use Rattle.grammar_moves.specs.PlainMoves.{plain_action}
use Rattle.choice_lookahead.specs.Ahead.{begins_part}
use Rattle.choice_lookahead.proofs.Asking.{begins_skipping}
use Rattle.choice_lookahead.proofs.ahead.enters.Goals as goal

pub returns : goal.returns
returns c =
    c.is_entering.ensures ∙ sym (begins_skipping c.next_move-next.result.skipped (plain_action c.next_move-next.result.action))
    ∙ ap begins_part c.next_move-next.ensures
