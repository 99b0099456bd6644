use Rattle.std.proofs.Common.{subst, ap, ◌∙◌}
use Rattle.cond_formula.specs.Conditions.{condition_of, value}
use Rattle.choice_states.specs.States.{standing}
use Rattle.choice_states.specs.StateLaws.{standing-Split}
use Rattle.choice_parser.specs.Units.{IsInUnit}
use Rattle.choice_parser.proofs.UnitLemmas.{still_split_so}
use Rattle.choice_parser.proofs.units.+still_in_unit.Goals as goal

pub returns-in_ok-state-in-Split : goal.returns-in_ok-state-in-Split
returns-in_ok-state-in-Split t c = λ on parts.
    still_split_so (value on (condition_of c.in-Split.f)) (standing c.args.state on parts) (standing c.in_ok-state-in-Split.state on parts)
    (standing c.in-Split.first.value on parts) (standing c.in-Split.second.value on parts) (standing c.in_ok-first-in-Split.first on parts) (standing c.in_ok-second-in-Split.second on parts)
    (ap (λ s. standing s on parts) c.in-Split.is ∙ standing-Split c.in-Split.f c.in-Split.first c.in-Split.second on parts)
    (c.in_ok-state-in-Split.ensures on parts)
    (subst (λ s. IsInUnit (standing s on parts) (standing c.in_ok-first-in-Split.first on parts)) c.into_inner.ensures (c.in_ok-first-in-Split.ensures on parts))
    (subst (λ s. IsInUnit (standing s on parts) (standing c.in_ok-second-in-Split.second on parts)) c.into_inner-in-Split.ensures (c.in_ok-second-in-Split.ensures on parts))
