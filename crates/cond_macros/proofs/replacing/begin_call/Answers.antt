use Rattle.std.proofs.Common.{◌≡◌, List, [], ◌∷◌, ap, ◌∙◌}
use Rattle.std.proofs.lemmas.Result.{on_ok_weaker}
use Rattle.c_text.specs.declared.token.Token.{Token}
use Rattle.c_text.specs.Token.{plain_token}
use Rattle.c_text.specs.Macros as spec
use Rattle.cond_formula.specs.Features.{has}
use Rattle.cond_formula.specs.Conditions.{Condition, condition_of, value}
use Rattle.conditional.specs.Entries.{entries_of, seen}
use Rattle.cond_bodies.specs.declared.item.Item.{Item}
use Rattle.cond_bodies.specs.CondItems.{item_at}
use Rattle.cond_bodies.specs.CondMeanings.{PlainFunction, plain_function}
use Rattle.cond_runs.specs.Functions.{is_single, or_function}
use Rattle.cond_runs.specs.CondCalls.{call_at, held_at}
use Rattle.cond_runs.specs.CondRuns.{run_at}
use Rattle.cond_runs.specs.Pieces.{also, under_piece, open_piece}
use Rattle.cond_macros.proofs.TurnLemmas.{unseen}
use Rattle.cond_macros.proofs.replacing.begin_call.Goals as goal

pub begun-call-requires : goal.begun-call-requires
begun-call-requires g c = λ n opened. ap is_single (ap (seen (has n)) c.in_ok-functions.ensures) ∙ c.requires n opened

pub returns-then-not-possible-clause-read : goal.returns-then-not-possible-clause-read
returns-then-not-possible-clause-read g c = λ exact n admitted within.
    let f = or_function (seen (has n) (entries_of plain_function c.args.functions.now)) in
    unseen (run_at exact (has n) c.args.run.now) (value (has n) (condition_of c.args.when)) (open_piece (record { call = spec.begun (item_at (has n) c.args.item.now).token f.params f.body; first = plain_token c.args.item.now.token.now } ∷ [])) (c.in_ok-possible.ensures.no c.if-not-possible.true n admitted within)

pub returns-clause-read : goal.returns-clause-read
returns-clause-read g c =
    on_ok_weaker c.push_call.result (λ h. λ exact n admitted within.
    let old = run_at exact (has n) c.args.run.now in
    let call = c.begun-call.result in
    let w = value (has n) (condition_of c.args.when) in
    let f = or_function (seen (has n) (entries_of plain_function c.args.functions.now)) in
    let same : seen (has n) (entries_of plain_function c.in_ok-functions.functions.items) ≡ seen (has n) (entries_of plain_function c.args.functions.now) = ap (seen (has n)) c.in_ok-functions.ensures in
    h exact (has n)
    ∙ ap (λ (d : Condition). also old (under_piece (value (has n) d) (open_piece (held_at (has n) call ∷ [])))) c.begun-call.ensures.when
    ∙ ap (λ (i : Item). also old (under_piece w (open_piece (record { call = call_at (has n) call; first = plain_token i.token.now } ∷ [])))) c.begun-call.ensures.name
    ∙ ap (λ (t : Token). also old (under_piece w (open_piece (record { call = call_at (has n) call; first = plain_token t } ∷ [])))) c.in_ok-try_clone.ensures.token
    ∙ ap (λ (k : spec.Call). also old (under_piece w (open_piece (record { call = k; first = plain_token c.args.item.now.token.now } ∷ [])))) (c.begun-call.ensures.call (has n))
    ∙ ap (λ (l : List PlainFunction). also old (under_piece w (open_piece (record { call = spec.begun (item_at (has n) c.in_ok-try_clone.field-0).token (or_function l).params (or_function l).body; first = plain_token c.args.item.now.token.now } ∷ [])))) same
    ∙ ap (λ (i : spec.Item). also old (under_piece w (open_piece (record { call = spec.begun i.token f.params f.body; first = plain_token c.args.item.now.token.now } ∷ [])))) (c.in_ok-try_clone.ensures.item (has n)))
    c.push_call.ensures

pub returns-in_err-functions-clause-kept : goal.returns-in_err-functions-clause-kept
returns-in_err-functions-clause-kept g c = c.in_ok-possible.ensures.kept

pub returns-in_err-try_clone-clause-kept : goal.returns-in_err-try_clone-clause-kept
returns-in_err-try_clone-clause-kept g c = c.in_ok-possible.ensures.kept

pub returns-clause-kept : goal.returns-clause-kept
returns-clause-kept g c = c.in_ok-possible.ensures.kept
