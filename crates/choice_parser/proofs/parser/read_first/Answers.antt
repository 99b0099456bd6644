use Rattle.std.proofs.Common.{ap, ◌∙◌, ◌&&◌, ◌||◌, []}
use Rattle.cond_formula.specs.Features.{has}
use Rattle.cond_formula.specs.Conditions.{condition_of, conditions_of, value, all_true}
use Rattle.choice_states.specs.Seen.{seen_in}
use Rattle.choice_parser.specs.Deaths.{is_dead}
use Rattle.choice_settling.specs.Steps.{stood}
use Rattle.choice_parser.proofs.UnitLemmas.{first_read_so, first_then}
use Rattle.choice_parser.proofs.parser.read_first.Goals as goal

pub returns-clause-so_far : goal.returns-clause-so_far
returns-clause-so_far g c = λ c' nodes rest admitted tokens_are kind_is so_far.
    first_then (has c') c.args.reading.number c.args.reading.token.now rest nodes
    (stood c.args.state c.args.parts.now.items (has c')) (stood c.in_ok-state.state c.read_next.new.parts.items (has c')) (stood c.in_ok-state-2.state c.read_next.new.parts.items (has c'))
    (stood c.in_ok-state-3.state c.read_next.new.parts.items (has c')) (value (has c') (condition_of c.args.refused.now)) (value (has c') (condition_of c.buried.new.refused)) (is_dead c.in_ok-state-2.state (has c'))
    (first_read_so (has c') c.args.reading.number c.args.reading.token.now rest c.args.ahead.tokens.now c.args.reading.terminal nodes
    (stood c.args.state c.args.parts.now.items (has c')) (stood c.in_ok-state.state c.read_next.new.parts.items (has c')) (stood c.in_ok-state-2.state c.read_next.new.parts.items (has c'))
    (stood c.in_ok-state-3.state c.read_next.new.parts.items (has c')) (value (has c') (condition_of c.args.refused.now)) (value (has c') (condition_of c.buried.new.refused)) (is_dead c.in_ok-state-2.state (has c'))
    tokens_are kind_is (c.in_ok-state.ensures.there c' nodes admitted) (c.in_ok-state.ensures.absent c' nodes admitted)
    (c.in_ok-state-2.ensures (has c') (seen_in (has c') c.read_next.new.parts.items))
    (λ lives. c.in_ok-state-3.ensures.lives (has c') (seen_in (has c') c.read_next.new.parts.items) (ap (λ xs. all_true (has c') (conditions_of xs)) (c.deref.ensures.value ∙ c.new-path.ensures.items)) lives)
    (λ dies next token. c.in_ok-state-3.ensures.dead (has c') (seen_in (has c') c.read_next.new.parts.items) dies [] next token)
    (c.in_ok-state-3.ensures.refused (has c')
    ∙ ap (λ xs. value (has c') (condition_of c.args.refused.now) || (all_true (has c') (conditions_of xs) && is_dead c.in_ok-state-2.state (has c'))) (c.deref.ensures.value ∙ c.new-path.ensures.items)))
    so_far
