-- Alternatives that leave a node for a token that waits.
use Rattle.std.proofs.Common.{◌≡◌, ℕ, Bool, true, false, not, ◌&&◌, List, IsTrue, refl, sym, ap, ◌∙◌, subst}
use Rattle.std.specs.Bool.{if◌then◌else◌}
use Rattle.std.specs.declared.alloc.Global.{Global}
use Rattle.std.specs.Prelude.{Vec, Box}
use Rattle.cond_formula.specs.declared.formulas.Formula.{Formula}
use Rattle.cond_formula.specs.Conditions.{condition_of, conditions_of, value, all_true}
use Rattle.choice_trees.specs.declared.trees.Choice.{Choice}
use Rattle.choice_trees.specs.declared.trees.Item.{Item}
use Rattle.grammar_moves.specs.declared.places.Place.{Place as Spot}
use Rattle.grammar_moves.specs.PlainPlaces.{plain_place}
use Rattle.choice_states.specs.declared.states.State.{State, At, In, Split}
use Rattle.choice_states.specs.Seen.{seen_in}
use Rattle.choice_states.specs.States.{Stay, stays, leaves, takes, astray, stay_within, Standing, at_place, within, standing, open_node, owes, Finishes}
use Rattle.choice_states.specs.StateLaws.{standing-At, standing-In, standing-Split, owes-Split}
use Rattle.choice_settling.specs.Leaving.{StaysInside, EachOwes, IsLeft}
use Rattle.choice_settling.proofs.Divisions.{Divides}

-- ---- one stays in the node

stays_within : (stay : Stay) → stay_within (stay_within stay) ≡ stay_within stay
stays_within stays = refl
stays_within leaves = refl
stays_within takes = refl
stays_within astray = refl

open_as : (a b : Standing) → a ≡ b → open_node b ≡ b → open_node a ≡ a
open_as a b is same = ap open_node is ∙ same ∙ sym is

pub at_inside : (place : Spot) (new : Bool) → StaysInside (At place new)
at_inside place new = λ on parts. open_as (standing (At place new) on parts) (at_place (plain_place place) parts) (standing-At place new on parts) refl

pub in_inside : (place : Spot) (inner : Vec (Choice Item) Global) (rest : Box State Global) → StaysInside (In place inner rest)
in_inside place inner rest = λ on parts.
    let part : Standing = standing rest.value on (seen_in on inner.items) in
    open_as (standing (In place inner rest) on parts) (within (plain_place place) part parts) (standing-In place inner rest on parts)
    (ap (λ stay. record (within (plain_place place) part parts) { stay = stay }) (stays_within part.stay))

-- ---- each that leaves it has to

either_owes : (f path first_path second_path : Bool) (whole first second : Standing) (owed owed_first owed_second : Bool)
    → first_path ≡ (path && f) → second_path ≡ (path && not f) → whole ≡ (if f then first else second) → owed ≡ (if f then owed_first else owed_second)
    → IsTrue path → whole.stay ≡ leaves
    → (IsTrue first_path → first.stay ≡ leaves → owed_first ≡ true) → (IsTrue second_path → second.stay ≡ leaves → owed_second ≡ true) → owed ≡ true
either_owes true path first_path second_path whole first second owed owed_first owed_second one other is so there left owes owe =
    so ∙ owes (one ∙ ap (λ b. b && true) there) (sym (ap (λ (s : Standing). s.stay) is) ∙ left)
either_owes false path first_path second_path whole first second owed owed_first owed_second one other is so there left owes owe =
    so ∙ owe (other ∙ ap (λ b. b && true) there) (sym (ap (λ (s : Standing). s.stay) is) ∙ left)

pub owes_split :
    (path first_path second_path : List Formula) (f when : Formula) (first second first_new second_new : Box State Global) → Divides path f first_path second_path
    → EachOwes first_path when first.value first_new.value → EachOwes second_path when second.value second_new.value
    → EachOwes path when (Split f first second) (Split f first_new second_new)
owes_split path first_path second_path f when first second first_new second_new paths one other = λ on parts there holds left.
    either_owes (value on (condition_of f)) (all_true on (conditions_of path)) (all_true on (conditions_of first_path)) (all_true on (conditions_of second_path))
    (standing (Split f first second) on parts) (standing first.value on parts) (standing second.value on parts)
    (owes (Split f first_new second_new) on) (owes first_new.value on) (owes second_new.value on)
    (paths.first on) (paths.second on) (standing-Split f first second on parts) (owes-Split f first_new second_new on) there left
    (λ t. one on parts t holds) (λ t. other on parts t holds)

-- ---- what becomes of the node

pub is_left : (path : List Formula) (when : Formula) (on : ℕ → Bool) (before between after : Standing) (owed : Bool)
    → between ≡ before → (IsTrue (all_true on (conditions_of path)) → IsTrue (value on (condition_of when)) → before.stay ≡ leaves → owed ≡ true)
    → (IsTrue between.fits → Finishes between owed after) → IsLeft path when on before after
is_left path when on before between after owed same owes finishes = λ fits. (
  owed,
  subst (λ s. Finishes s owed after) same (finishes (subst (λ (s : Standing). IsTrue s.fits) (sym same) fits)),
  owes,
)
