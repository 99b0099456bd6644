use Rattle.std.proofs.Common.{subst, ap, ◌∙◌}
use Rattle.std.proofs.lemmas.Result.{IfOk-weaker}
use Rattle.cond_formula.specs.Conditions.{condition_of, conditions_of, value, all_true}
use Rattle.choice_states.specs.States.{standing}
use Rattle.choice_states.specs.StateLaws.{standing-Split}
use Rattle.choice_parser.specs.Units.{IsRefusedHere}
use Rattle.choice_parser.proofs.UnitLemmas.{ends_split_so}
use Rattle.choice_parser.proofs.units.+refused_in.Goals as goal

pub returns-in_ok-second_path-in-Split : goal.returns-in_ok-second_path-in-Split
returns-in_ok-second_path-in-Split t c =
    IfOk-weaker c.refused_in-in-Split.result _ _ (λ new h on parts.
    ends_split_so (value on (condition_of c.in-Split.f)) (standing c.args.state.now on parts) (standing c.in-Split.first.value on parts) (standing c.in-Split.second.value on parts) parts
    (all_true on (conditions_of c.args.path.now)) (all_true on (conditions_of c.deref-in-Split.result.now)) (all_true on (conditions_of c.deref-in-Split-3.result.now))
    (value on (condition_of c.args.refused)) (value on (condition_of c.in_ok-refused-in-Split.refused)) (value on (condition_of new))
    (ap (λ s. standing s on parts) c.in-Split.is ∙ standing-Split c.in-Split.f c.in-Split.first c.in-Split.second on parts)
    (ap (λ xs. all_true on (conditions_of xs)) c.deref-in-Split.ensures.value ∙ c.in_ok-first_path-in-Split.ensures on)
    (ap (λ xs. all_true on (conditions_of xs)) c.deref-in-Split-3.ensures.value ∙ c.in_ok-second_path-in-Split.ensures on)
    (subst (λ s. IsRefusedHere (standing s on parts) parts (all_true on (conditions_of c.deref-in-Split.result.now)) (value on (condition_of c.args.refused)) (value on (condition_of c.in_ok-refused-in-Split.refused)))
    c.deref.ensures (c.in_ok-refused-in-Split.ensures on parts))
    (subst (λ s. IsRefusedHere (standing s on parts) parts (all_true on (conditions_of c.deref-in-Split-3.result.now)) (value on (condition_of c.in_ok-refused-in-Split.refused)) (value on (condition_of new)))
    c.deref-in-Split-2.ensures (h on parts))) c.refused_in-in-Split.ensures
