use Rattle.std.proofs.lemmas.Result.{IfOk-weaker}
use Rattle.std.proofs.Common.{length, map, refl, sym, ap, ◌∙◌, option_map, slice_get}
use Rattle.std.proofs.lemmas.Option.{slice_get-map, slice_get_past, slice_get_read}
use Rattle.core_meaning.specs.Plain.{plain_function}
use Rattle.core_cells.specs.Forms.{plain_value}
use Rattle.run_calls.proofs.CallLemmas.{nothing_called}
use Rattle.run_calls.proofs.calls.call.Goals as goal

pub returns-in-None : goal.returns-in-None
returns-in-None c =
    let functions = c.args.machine.now.program.now.functions.items in
    let f = c.args.function in
    nothing_called c.args.machine.now f (map plain_value c.args.arguments.items)
    (slice_get-map plain_function functions f
    ∙ (ap (λ xs. option_map plain_function (slice_get xs f)) (sym c.deref.ensures.value)
    ∙ ap (option_map plain_function) (slice_get_past c.deref.result.now f c.in-None.ensures.lookup.3)))

pub returns-in-Some : goal.returns-in-Some
returns-in-Some c =
    let functions = c.args.machine.now.program.now.functions.items in
    let f = c.args.function in
    let read = c.deref.result.now in
    let called = c.in-Some.called.now in
    IfOk-weaker c.call_of.result _ _ (λ flow known. known f
    (slice_get-map plain_function functions f
    ∙ (ap (λ xs. option_map plain_function (slice_get xs f)) (sym c.deref.ensures.value)
    ∙ ap (option_map plain_function) (slice_get_read read (length read) f called refl c.in-Some.ensures.lookup.3.0 c.in-Some.ensures.lookup.1)))) c.call_of.ensures
