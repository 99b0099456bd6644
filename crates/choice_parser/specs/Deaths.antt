-- Alternatives that no unit goes on as.
use Rattle.std.specs.Prelude.{◌≡◌, ℕ, Bool, true, false, ◌&&◌, ◌||◌, List, IsTrue, Option, Some, None, if◌then◌else◌}
use Rattle.cond_formula.specs.declared.formulas.Formula.{Formula}
use Rattle.cond_formula.specs.Conditions.{condition_of, conditions_of, value, all_true}
use Rattle.choice_states.specs.declared.states.State.{State}
use Rattle.choice_states.specs.declared.states.State.TheOpen.{State-F}
use Rattle.choice_states.specs.declared.states.State.TheOpen as state
use Rattle.choice_states.specs.declared.states.State.TheFolds.{fold-State}
use Rattle.choice_states.specs.Alike.{StandsAsSplit}
use Rattle.c_tree.specs.declared.terminals.Terminal.{Terminal}
use Rattle.c_tree.specs.Machine.{Frame, is_wrong}
use Rattle.choice_states.specs.Seen.{Seen, Parts}
use Rattle.choice_states.specs.States.{Stay, stays, leaves, takes, astray, Standing, dead, standing}

abbrev pub Deaths : Type 0
Deaths = (ℕ → Bool) → Bool

abbrev pub death_level : State-F Deaths → Deaths
death_level state.Dead on = true
death_level (state.In place inner rest) on = rest.value on
death_level (state.Split f first second) on = if value on (condition_of f) then first.value on else second.value on
death_level other on = false

-- the alternative that is taken is dead, or where one stands in it
unfoldable pub is_dead : State → Deaths
is_dead = fold-State Deaths death_level

abbrev pub if_left : Stay → Standing → Standing
if_left leaves standing = dead
if_left stays standing = standing
if_left takes standing = dead
if_left astray standing = standing

-- behind a unit no token stands, and no node takes it
abbrev pub within_unit : Standing → Standing
within_unit standing = if_left standing.stay standing

-- by a dead alternative no token leads on
abbrev pub DeadIsWrong : State → Type 0
DeadIsWrong state =
    (on : ℕ → Bool) (parts : Parts) → is_dead state on ≡ true → (frames : List (Frame Seen)) (kind : Terminal) (token : Seen)
    → (standing state on parts).leads frames kind token ≡ is_wrong

-- what lives is as before
abbrev pub Lives : List Formula → State → State → Type 0
Lives path old new =
    (on : ℕ → Bool) (parts : Parts) → IsTrue (all_true on (conditions_of path)) → is_dead old on ≡ false → standing new on parts ≡ standing old on parts

abbrev pub LivesIfSome : List Formula → State → Option State → Type 0
LivesIfSome path old None = (on : ℕ → Bool) → IsTrue (all_true on (conditions_of path)) → is_dead old on ≡ true
LivesIfSome path old (Some new) = Lives path old new

-- refused where it was, and where the state is dead on the path
abbrev pub IsRefused : List Formula → State → Formula → Formula → Type 0
IsRefused path state old new =
    (on : ℕ → Bool) → value on (condition_of new) ≡ (value on (condition_of old) || (all_true on (conditions_of path) && is_dead state on))

abbrev pub NoneIsDead : State → Type 0
NoneIsDead state = (on : ℕ → Bool) → is_dead state on ≡ false

-- what is left of two alternatives is each of them where it is the one and lives
abbrev pub LivesAsSplit : Formula → Option State → Option State → Option State → Type 0
LivesAsSplit f None None None = Unit {0}
LivesAsSplit f None None (Some new) = ⊥
LivesAsSplit f None (Some second) None = ⊥
LivesAsSplit f None (Some second) (Some new) = (on : ℕ → Bool) (parts : Parts) → value on (condition_of f) ≡ false → standing new on parts ≡ standing second on parts
LivesAsSplit f (Some first) None None = ⊥
LivesAsSplit f (Some first) None (Some new) = (on : ℕ → Bool) (parts : Parts) → IsTrue (value on (condition_of f)) → standing new on parts ≡ standing first on parts
LivesAsSplit f (Some first) (Some second) None = ⊥
LivesAsSplit f (Some first) (Some second) (Some new) = StandsAsSplit f first second new
