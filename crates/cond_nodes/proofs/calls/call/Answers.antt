use Rattle.std.proofs.Common.{Some, subst}
use Rattle.std.proofs.lemmas.Result.{IfOk-weaker}
use Rattle.cond_formula.specs.Features.{has}
use Rattle.cond_operands.specs.Operands.{ShowsOperand}
use Rattle.expression_types.specs.Reading as spec
use Rattle.cond_nodes.proofs.Arms.{called_as}
use Rattle.cond_nodes.proofs.calls.call.Goals as goal

pub returns-clause-shows : goal.returns-clause-shows
returns-clause-shows g c =
    IfOk-weaker c.led_or_refused.result _ _ (λ z shows n f xs right admitted callee each.
    subst (λ o. ShowsOperand (has n) o z) (called_as (g.K.Knowledge.callable c.args.known.now n) xs callee.number f callee.same)
    (shows n (λ k. spec.called (Some (g.K.Knowledge.callable c.args.known.now n k)) xs) callee.number admitted (record { leads_to = λ x w leads. leads xs right each }) callee.seen)) c.led_or_refused.ensures.shows
