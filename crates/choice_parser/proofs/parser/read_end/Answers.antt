use Rattle.std.proofs.Common.{subst, sym, ap, ◌∙◌}
use Rattle.cond_formula.specs.Features.{has}
use Rattle.cond_formula.specs.Conditions.{condition_of, conditions_of, value, all_true}
use Rattle.choice_states.specs.Seen.{seen_in}
use Rattle.choice_settling.specs.Steps.{seen_of, stood}
use Rattle.choice_parser.specs.Units.{IsRefusedHere}
use Rattle.choice_parser.proofs.UnitLemmas.{end_so_far}
use Rattle.choice_parser.proofs.parser.read_end.Goals as goal

pub returns-clause-ended : goal.returns-clause-ended
returns-clause-ended g c = λ c' nodes admitted so_far.
    end_so_far (has c') nodes c.terminal.result (seen_of 0 c.end_of_text-end.result)
    (value (has c') (condition_of c.args.so_far.refused)) (value (has c') (condition_of c.in_ok-refused.refused)) (seen_in (has c') c.read_next.new.parts.items)
    (stood c.args.so_far.state c.args.so_far.items.items (has c')) (stood c.in_ok-state.state c.read_next.new.parts.items (has c'))
    (c.terminal.ensures ∙ c.end_of_text-end.ensures.kind)
    (c.in_ok-state.ensures.there c' nodes admitted (c.end_of_text-end.ensures.there (has c')) (sym (c.terminal.ensures ∙ c.end_of_text-end.ensures.kind)))
    (subst (λ b. IsRefusedHere (stood c.in_ok-state.state c.read_next.new.parts.items (has c')) (seen_in (has c') c.read_next.new.parts.items) b (value (has c') (condition_of c.args.so_far.refused)) (value (has c') (condition_of c.in_ok-refused.refused)))
    (ap (λ xs. all_true (has c') (conditions_of xs)) (c.deref.ensures.value ∙ c.new-path.ensures.items))
    (c.in_ok-refused.ensures (has c') (seen_in (has c') c.read_next.new.parts.items)))
    so_far
