-- Whether a token is there is the same for two alternatives.
use Rattle.std.proofs.Common.{◌≡◌, Bool, true, false, not, ◌&&◌, List, Option, Some, None, IfSome, IsTrue, sym, ap, ◌∙◌, subst}
use Rattle.std.specs.Bool.{if◌then◌else◌}
use Rattle.std.specs.declared.alloc.Global.{Global}
use Rattle.std.specs.Prelude.{Box}
use Rattle.cond_formula.specs.declared.formulas.Formula.{Formula}
use Rattle.cond_formula.specs.Features.{has}
use Rattle.cond_formula.specs.Conditions.{Condition, condition_of, conditions_of, value, all_true}
use Rattle.path_conditions.specs.declared.presences.Presence.{Presence}
use Rattle.path_conditions.specs.declared.presences.Presence.TheVariants.{Present, Absent, Unsure}
use Rattle.path_conditions.specs.Presences.{IsEverywhere, IsPresence}
use Rattle.grammar_moves.specs.declared.places.Place.{Place as Spot}
use Rattle.choice_states.specs.declared.states.State.{State, Split}
use Rattle.choice_settling.specs.Leaving.{IsThere, spot_at, OnlyPlaces}
use Rattle.choice_reading.specs.SpotLaws.{spot_at-Split}
use Rattle.choice_settling.proofs.Divisions.{Divides}

by_one : (f path first second v b : Bool) → first ≡ (path && f) → second ≡ (path && not f) → IsTrue path → (IsTrue first → v ≡ b) → (IsTrue second → v ≡ b) → v ≡ b
by_one true path first second v b fp sp p one other = one (fp ∙ ap (λ x. x && true) p)
by_one false path first second v b fp sp p one other = other (sp ∙ ap (λ x. x && true) p)

module _ (admits when : Condition) (path first_path second_path : List Formula) (f : Formula) (paths : Divides path f first_path second_path) where
  everywhere : (b : Bool) → IsEverywhere admits first_path when b → IsEverywhere admits second_path when b → IsEverywhere admits path when b
  everywhere b one other = λ c admitted p.
      by_one (value (has c) (condition_of f)) (all_true (has c) (conditions_of path)) (all_true (has c) (conditions_of first_path)) (all_true (has c) (conditions_of second_path)) (value (has c) when) b
      (paths.first (has c)) (paths.second (has c)) p (one c admitted) (other c admitted)

  in_both : (p : Presence) → IsPresence admits first_path when p → IsPresence admits second_path when p → IsPresence admits path when p
  in_both Present one other = everywhere true one other
  in_both Absent one other = everywhere false one other
  in_both Unsure one other = tt

  pub presence_split : (found there otherwise : Option Presence) → IfSome found (λ p. there ≡ Some p) → IfSome found (λ p. otherwise ≡ Some p)
      → IfSome there (IsPresence admits first_path when) → IfSome otherwise (IsPresence admits second_path when) → IfSome found (IsPresence admits path when)
  presence_split None there otherwise is also one other = tt
  presence_split (Some p) there otherwise is also one other =
      in_both p (subst (λ t. IfSome t (IsPresence admits first_path when)) is one) (subst (λ t. IfSome t (IsPresence admits second_path when)) also other)

pub places_both : (found there otherwise : Option Presence) (first second : State) → IfSome found (λ p. there ≡ Some p) → IfSome found (λ p. otherwise ≡ Some p)
    → IfSome there (λ p. OnlyPlaces first) → IfSome otherwise (λ p. OnlyPlaces second) → IfSome found (λ p. OnlyPlaces first × OnlyPlaces second)
places_both None there otherwise first second is also one other = tt
places_both (Some p) there otherwise first second is also one other =
    (subst (λ t. IfSome t (λ p. OnlyPlaces first)) is one, subst (λ t. IfSome t (λ p. OnlyPlaces second)) also other)

there_either : (b : Bool) (found first second : Option Spot) → found ≡ (if b then first else second) → IsThere first → IsThere second → IsThere found
there_either true found first second is one other = subst IsThere (sym is) one
there_either false found first second is one other = subst IsThere (sym is) other

pub places_split : (f : Formula) (first second : Box State Global) → OnlyPlaces first.value → OnlyPlaces second.value → OnlyPlaces (Split f first second)
places_split f first second one other = λ on.
    there_either (value on (condition_of f)) (spot_at (Split f first second) on) (spot_at first.value on) (spot_at second.value on) (spot_at-Split f first second on) (one on) (other on)
