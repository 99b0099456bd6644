use Rattle.std.proofs.Common.{true, refl}
use Rattle.std.proofs.lemmas.Result.{IfOk-weaker}
use Rattle.choice_states.specs.declared.states.State.{Dead, At, Taken}
use Rattle.choice_settling.specs.Steps.{seen_of}
use Rattle.choice_reading.proofs.NodeReading.{reads_shifts, reads_enters, reads_takes, reads_finishes, reads_passes, reads_fails}
use Rattle.choice_reading.proofs.reading.read_in_node.Goals as goal

pub returns-in_ok-push_token-in-Shifts-clause-reads : goal.returns-in_ok-push_token-in-Shifts-clause-reads
returns-in_ok-push_token-in-Shifts-clause-reads c =
    reads_shifts c.args.place c.args.reading.terminal (seen_of c.args.reading.number c.args.reading.token.now) c.next_move-next.result.skipped c.next_move-next.result.action c.args.here.now c.args.parts.now.items c.left_out.new.parts.items c.next_move-next.ensures c.in_ok-ended.ensures.left_out
    c.in-Shifts.behind c.push_token.new.parts.items (At c.in-Shifts.behind true) c.in-Shifts.is c.in_ok-push_token-in-Shifts.ensures.pushed refl

pub returns-in-Enters-clause-reads : goal.returns-in-Enters-clause-reads
returns-in-Enters-clause-reads c =
    IfOk-weaker c.begun.result _ _ (λ new h.
    reads_enters c.args.place c.args.reading.terminal (seen_of c.args.reading.number c.args.reading.token.now) c.next_move-next.result.skipped c.next_move-next.result.action c.args.here.now c.args.parts.now.items c.left_out.new.parts.items c.next_move-next.ensures c.in_ok-ended.ensures.left_out
    c.in-Enters.behind c.in-Enters.beginning new c.in-Enters.is h) c.begun.ensures

pub returns-in_ok-push_token-in-Takes-clause-reads : goal.returns-in_ok-push_token-in-Takes-clause-reads
returns-in_ok-push_token-in-Takes-clause-reads c =
    reads_takes c.args.place c.args.reading.terminal (seen_of c.args.reading.number c.args.reading.token.now) c.next_move-next.result.skipped c.next_move-next.result.action c.args.here.now c.args.parts.now.items c.left_out.new.parts.items c.next_move-next.ensures c.in_ok-ended.ensures.left_out
    c.in-Takes.behind c.in-Takes.second c.push_token-in-Takes.new.parts.items (Taken c.in-Takes.behind c.in-Takes.second) c.in-Takes.is c.in_ok-push_token-in-Takes.ensures.pushed refl

pub returns-in-Finishes-clause-reads : goal.returns-in-Finishes-clause-reads
returns-in-Finishes-clause-reads c =
    reads_finishes c.args.place c.args.reading.terminal (seen_of c.args.reading.number c.args.reading.token.now) c.next_move-next.result.skipped c.next_move-next.result.action c.args.here.now c.args.parts.now.items c.left_out.new.parts.items c.next_move-next.ensures c.in_ok-ended.ensures.left_out
    c.in-Finishes.kind c.in_ok-ended.ended c.whole.result c.in-Finishes.is c.in_ok-ended.ensures.behind c.whole.ensures

pub returns-in-Passes-clause-reads : goal.returns-in-Passes-clause-reads
returns-in-Passes-clause-reads c =
    reads_passes c.args.place c.args.reading.terminal (seen_of c.args.reading.number c.args.reading.token.now) c.next_move-next.result.skipped c.next_move-next.result.action c.args.here.now c.args.parts.now.items c.left_out.new.parts.items c.next_move-next.ensures c.in_ok-ended.ensures.left_out
    c.in_ok-ended.ended c.whole-in-Passes.result c.in-Passes.is c.in_ok-ended.ensures.behind c.whole-in-Passes.ensures

pub returns-in-Fails-clause-reads : goal.returns-in-Fails-clause-reads
returns-in-Fails-clause-reads c =
    reads_fails c.args.place c.args.reading.terminal (seen_of c.args.reading.number c.args.reading.token.now) c.next_move-next.result.skipped c.next_move-next.result.action c.args.here.now c.args.parts.now.items c.left_out.new.parts.items c.next_move-next.ensures c.in_ok-ended.ensures.left_out
    Dead c.in-Fails.is refl
