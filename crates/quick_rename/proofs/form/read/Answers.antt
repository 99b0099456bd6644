use Rattle.std.proofs.Common.{◌≤◌, ◌+◌, length, sym, ◌∙◌, subst, arith}
use Rattle.quick_form.specs.Symbols.{symbols_of}
use Rattle.quick_form.specs.Form.{IsWritten}
use Rattle.quick_form.specs.Places.{placed_symbols}
use Rattle.quick_form.proofs.PlaceLemmas.{placed_symbols_are_spelled_lem}
use Rattle.quick_rename.specs.Readings.{IsWhole}
use Rattle.quick_rename.proofs.FormLemmas.{stopped, walked_file, whole, broken_off}
use Rattle.quick_rename.proofs.Stops.{parser_stop, stop_directive, stop_token, stop_names, stop_place, fault_within, breaks_off}
use Rattle.quick_rename.proofs.form.read.Goals as goal

pub fault_len-requires-clause-directive : goal.fault_len-requires-clause-directive
fault_len-requires-clause-directive c =
    let s = parser_stop c.one_step_more.ensures c.args.bytes.now c.new-parser.result c.visit.new.visitor _ c.in-Some.stop c.new-parser.ensures c.in_ok-stop.ensures.visits c.in-Some.is in
    stop_directive c.args.bytes.now c.visit.new.visitor c.in-Some.stop s

pub fault_len-requires-clause-tokens : goal.fault_len-requires-clause-tokens
fault_len-requires-clause-tokens c =
    let s = parser_stop c.one_step_more.ensures c.args.bytes.now c.new-parser.result c.visit.new.visitor _ c.in-Some.stop c.new-parser.ensures c.in_ok-stop.ensures.visits c.in-Some.is in
    stop_token c.args.bytes.now c.visit.new.visitor c.in-Some.stop s

pub fault_len-requires-clause-names : goal.fault_len-requires-clause-names
fault_len-requires-clause-names c =
    let s = parser_stop c.one_step_more.ensures c.args.bytes.now c.new-parser.result c.visit.new.visitor _ c.in-Some.stop c.new-parser.ensures c.in_ok-stop.ensures.visits c.in-Some.is in
    stop_names c.tests_are_kept.ensures c.args.bytes.now c.visit.new.visitor c.in-Some.stop s

pub overflow_add-result : goal.overflow_add-result
overflow_add-result c =
    let s = parser_stop c.one_step_more.ensures c.args.bytes.now c.new-parser.result c.visit.new.visitor _ c.in-Some.stop c.new-parser.ensures c.in_ok-stop.ensures.visits c.in-Some.is in
    let place = stop_place c.states_complete.ensures c.refused_is_unwritten.ensures c.args.bytes.now c.visit.new.visitor c.in-Some.stop c.fault_len.result s c.fault_len.ensures in
    let inside : c.in-Some.stop.at + c.fault_len.result ≤ length c.args.bytes.now = fault_within c.args.bytes.now _ place in
    omega arith

pub returns-in-Some : goal.returns-in-Some
returns-in-Some c =
    let s = parser_stop c.one_step_more.ensures c.args.bytes.now c.new-parser.result c.visit.new.visitor _ c.in-Some.stop c.new-parser.ensures c.in_ok-stop.ensures.visits c.in-Some.is in
    record {
      unwritten = λ w.
          stopped (placed_symbols c.args.bytes.now) c.new-parser.result _ _ _ _ c.refusals_end.ensures c.new-parser.ensures c.in_ok-stop.ensures.visits c.in-Some.is
          (subst IsWritten (sym (placed_symbols_are_spelled_lem c.args.bytes.now)) w);
      place = stop_place c.states_complete.ensures c.refused_is_unwritten.ensures c.args.bytes.now c.visit.new.visitor c.in-Some.stop c.fault_len.result s c.fault_len.ensures;
    }

pub returns-then-is_complete : goal.returns-then-is_complete
returns-then-is_complete c =
    subst (λ ks. IsWhole ks c.visit.new.visitor) (placed_symbols_are_spelled_lem c.args.bytes.now)
    (whole (placed_symbols c.args.bytes.now) c.new-parser.result _ _ _ c.complete_is_written.ensures c.new-parser.ensures c.in_ok-stop.ensures.visits c.in-None.is (sym c.is_complete.ensures ∙ c.if-is_complete.true))

pub returns-else-is_complete : goal.returns-else-is_complete
returns-else-is_complete c =
    let unwritten = λ (w : IsWritten (symbols_of c.args.bytes.now)).
    broken_off (placed_symbols c.args.bytes.now) c.new-parser.result _ _ _ c.complete_is_written.ensures c.new-parser.ensures c.in_ok-stop.ensures.visits c.in-None.is (sym c.is_complete.ensures ∙ c.if-is_complete.false)
    (subst IsWritten (sym (placed_symbols_are_spelled_lem c.args.bytes.now)) w) in
    let read = walked_file c.args.bytes.now c.new-parser.result c.visit.new.visitor _ _ c.new-parser.ensures c.in_ok-stop.ensures.visits c.in-None.is in
    record { unwritten = unwritten; place = breaks_off c.states_complete.ensures c.args.bytes.now c.visit.new.visitor read unwritten }
