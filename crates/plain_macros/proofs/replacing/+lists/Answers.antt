use Rattle.std.proofs.Common.{◌≡◌, map, Some, true, false, sym, ap, ◌∙◌, arith}
use Rattle.std.specs.Option.{option_map}
use Rattle.c_text.specs.Macros as spec
use Rattle.c_text.specs.Macros.{fits, all_arguments, all_replaced, substituted, before}
use Rattle.plain_macros.specs.PlainItems.{plain_item, item_token}
use Rattle.plain_macros.specs.PlainCalls.{plain_call}
use Rattle.plain_macros.specs.PlainLevels.{macros_of, active_in, deeper_in}
use Rattle.plain_macros.specs.PlainRuns.{plain_finished}
use Rattle.plain_macros.proofs.RunLemmas.{below_is, inside_ends, unfit_call, fit_call}
use Rattle.plain_macros.proofs.replacing.+lists.Goals as goal

pub called-returns-then-not-fits : goal.called-returns-then-not-fits
unfolding plain_call
called-returns-then-not-fits t c =
    let call = plain_call c.args.call in
    let all : map (λ v. map plain_item v.items) c.as_slice.result.now ≡ all_arguments call = cc (c.as_slice.ensures.value, c.in_ok-arguments.ensures) in
    let unfit : fits call.params (all_arguments call) ≡ false = ap (fits call.params) (sym all) ∙ sym c.fits.ensures ∙ c.if-not-fits.true in
    sym (unfit_call (macros_of c.args.level.now) (deeper_in c.args.level.now) (active_in c.args.level.now) call (item_token c.args.last.now) unfit)

pub called-returns-in-Some : goal.called-returns-in-Some
unfolding plain_call
called-returns-in-Some t c =
    let call = plain_call c.args.call in
    let replaced = map (λ v. map plain_item v.items) c.in-Some.replaced.items in
    let all : map (λ v. map plain_item v.items) c.as_slice.result.now ≡ all_arguments call = cc (c.as_slice.ensures.value, c.in_ok-arguments.ensures) in
    let again : map (λ v. map plain_item v.items) c.as_slice-2.result.now ≡ all_arguments call = cc (c.as_slice-2.ensures.value, c.in_ok-arguments.ensures) in
    let fit : fits call.params (all_arguments call) ≡ true = ap (fits call.params) (sym all) ∙ sym c.fits.ensures ∙ c.if-not-fits.false in
    let known : option_map (λ vs. map (λ v. map plain_item v.items) vs.items) c.in_ok-replaced.field-0 ≡ Some replaced = ap (option_map (λ vs. map (λ v. map plain_item v.items) vs.items)) c.in-Some.is in
    let given : all_replaced (deeper_in c.args.level.now) (active_in c.args.level.now) (all_arguments call) ≡ Some replaced = cc (known, again, c.in_ok-replaced.ensures) in
    let body : map plain_item c.as_slice-in-Some-2.result.now ≡ substituted call.params replaced call.body =
    cc (c.as_slice-in-Some-2.ensures.value, c.as_slice-in-Some.ensures.value, c.in_ok-items-in-Some.ensures) in
    cc (fit_call (macros_of c.args.level.now) (deeper_in c.args.level.now) (active_in c.args.level.now) call (item_token c.args.last.now) replaced fit given, body, c.in_ok-replacement-in-Some.ensures)

pub deeper-returns-in-Fine : goal.deeper-returns-in-Fine
deeper-returns-in-Fine t c =
    below_is (macros_of c.args.level.now) c.args.level.now.left (active_in c.args.level.now) (map plain_item c.args.items.now) _ (plain_finished c.in_ok-items.field-0) (omega arith) c.in_ok-items.ensures (rw c.in-Fine.is)

pub deeper-returns-in-BadCall : goal.deeper-returns-in-BadCall
deeper-returns-in-BadCall t c =
    below_is (macros_of c.args.level.now) c.args.level.now.left (active_in c.args.level.now) (map plain_item c.args.items.now) _ (plain_finished c.in_ok-items.field-0) (omega arith) c.in_ok-items.ensures (rw c.in-BadCall.is)

pub inside_turn-returns-in_ok-with_call : goal.inside_turn-returns-in_ok-with_call
unfolding plain_call
inside_turn-returns-in_ok-with_call t c = λ rest.
    let table = macros_of c.args.level.now in
    let deeper = deeper_in c.args.level.now in
    let active = active_in c.args.level.now in
    let done = map plain_item c.args.done.items in
    let ended = inside_ends table deeper active (plain_call c.args.call) (plain_item c.args.item.now) rest (sym c.is_closed_by.ensures ∙ c.if-is_closed_by.true) in
    c.in_ok-with_call.ensures table deeper active rest
    ∙ ap (λ given. before done (spec.call_then (item_token c.args.call.name) given (spec.outside table deeper active rest))) c.in_ok-given.ensures
    ∙ ap (before done) (sym ended)
