-- Whether a condition is possible, by what is answered of it.
use Rattle.std.proofs.Common.{◌≡◌, Bool, true, false, ◌&&◌, List, refl, sym, ap, ◌∙◌}
use Rattle.std.specs.Prelude.{◌↔◌, IsTrue}
use Rattle.cond_formula.specs.Features.{has}
use Rattle.cond_formula.specs.Conditions.{Condition, value, IsConjunction}
use Rattle.verdict_query.specs.Verdicts.{where_admitted}
use Rattle.tied_tokens.specs.Ties.{PlainTiedTokens}
use Rattle.tied_tokens.specs.Reached.{IsPossible}
use Rattle.tied_tokens.specs.Search.{TellsModel}
use Rattle.tied_tokens.proofs.Members.{never}

parts : (m a w : Bool) → IsTrue (m && ((a && w) && true)) → IsTrue m × IsTrue a × IsTrue w
parts true true true h = (refl, refl, refl)
parts true true false h = absurd cc
parts true false w h = absurd cc
parts false a w h = absurd cc

joined : (m a w : Bool) → IsTrue m → IsTrue a → IsTrue w → IsTrue (m && ((a && w) && true))
joined true true true p q r = refl
joined true true false p q r = absurd cc
joined true false w p q r = absurd cc
joined false a w p q r = absurd cc

module _ (all : PlainTiedTokens) (accepted when question : Condition) (accepted_is : accepted ≡ all.accepted) (both : IsConjunction accepted when question) where
  question_at : (c : List Bool) → value (has c) (where_admitted all.admitted question) ≡ (value (has c) all.admitted && ((value (has c) all.accepted && value (has c) when) && true))
  question_at c = ap (λ b. value (has c) all.admitted && (b && true)) (both.holds (has c) ∙ ap (λ a. value (has c) a && value (has c) when) accepted_is)

  from_model : (c : List Bool) → IsTrue (value (has c) (where_admitted all.admitted question)) → IsPossible all when
  from_model c h =
      let p = parts (value (has c) all.admitted) (value (has c) all.accepted) (value (has c) when) (sym (question_at c) ∙ h) in
      record { configuration = c; is_accepted = record { admitted = p.0; accepted = p.1 }; holds = p.2 }

  to_model : (p : IsPossible all when) → IsTrue (value (has p.configuration) (where_admitted all.admitted question))
  to_model p = question_at p.configuration ∙ joined _ _ _ p.is_accepted.admitted p.is_accepted.accepted p.holds

  pub possible_is : (b : Bool) → TellsModel (where_admitted all.admitted question) b → IsTrue b ↔ IsPossible all when
  possible_is true tells = (λ _. from_model tells.0 tells.1, λ _. refl)
  possible_is false tells = (λ h. absurd (never refl h), λ p. absurd (never (tells (has p.configuration)) (to_model p)))
