-- What the next token leads to in a state, where `on` says which features are on.
use Rattle.std.specs.Prelude.{◌≡◌, ℕ, Bool, true, false, IsTrue, ◌&&◌, List, [], ◌∷◌, Option, Some, None, if◌then◌else◌}
use Rattle.cond_formula.specs.Conditions.{condition_of, value}
use Rattle.c_tree.specs.declared.kinds.Kind.{Kind}
use Rattle.c_tree.specs.declared.terminals.Terminal.{Terminal}
use Rattle.c_tree.specs.Places.{Place}
use Rattle.c_tree.specs.Machine.{Frame, frame, Outcome, is_wrong, outcome, arrives}
use Rattle.grammar_moves.specs.PlainPlaces.{plain_place}
use Rattle.choice_states.specs.declared.states.State.{State}
use Rattle.choice_states.specs.declared.states.State.TheOpen.{State-F}
use Rattle.choice_states.specs.declared.states.State.TheOpen as state
use Rattle.choice_states.specs.declared.states.State.TheFolds.{fold-State}
use Rattle.choice_states.specs.declared.states.After.{After}
use Rattle.choice_states.specs.declared.states.After.TheOpen.{After-F}
use Rattle.choice_states.specs.declared.states.After.TheOpen as after
use Rattle.choice_states.specs.declared.states.After.TheFolds.{fold-After}
use Rattle.choice_states.specs.Seen.{Seen, node_seen, of_seen, Parts, choice_seen, seen_in}
use Rattle.choice_states.specs.Parts.{first_of, is_there, values, parts_fit, parts_fit_within, parts_are_whole}
use Rattle.choice_states.specs.Lists.{is_around_list, frames_at, place_fits_in, whole_fits_in, unbegun_fits_in}

-- what the next token leads to, in the nodes around
abbrev pub Leading : Type 0
Leading = List (Frame Seen) → Terminal → Seen → Outcome Seen

-- where the next token is read
pub data Stay : Type 0 where
  -- in the node
  stays : Stay
  -- behind it, since it is whole, or a list that hasn't begun
  leaves : Stay
  -- in a node of which its parts are the first
  takes : Stay
  -- in a part that would be such a node
  astray : Stay

abbrev pub stay_within : Stay → Stay
stay_within stays = stays
stay_within leaves = stays
stay_within takes = astray
stay_within astray = astray

-- how one stands in a node
pub record Standing : Type 0 where
  -- the node and those in it have the parts that they have where one stands so
  pub fits : Bool
  -- one may stand so in a node behind which is this place in the node around it, or in one that is in no other
  pub fits_in : Option Place → Bool
  pub stay : Stay
  pub leads : Leading

-- no unit goes on so
abbrev pub dead : Standing
dead = record { fits = true; fits_in = λ outer. true; stay = stays; leads = λ frames kind token. is_wrong }

-- at a place behind these parts
abbrev pub at_place : Place → Parts → Standing
at_place place parts = record {
  fits = parts_fit place parts;
  fits_in = place_fits_in place;
  stay = stays;
  leads = λ frames kind token. outcome of_seen kind token (frames_at place (values parts) frames);
}

-- in a part of a node with these parts, behind which is this place
abbrev pub within : Place → Standing → Parts → Standing
within place inner parts = record {
  fits = parts_fit_within place parts && inner.fits;
  fits_in = λ outer. place_fits_in place outer && inner.fits_in (Some place);
  stay = stay_within inner.stay;
  leads = λ frames. inner.leads (frame place (values parts) ∷ frames);
}

-- one of some alternatives is a part of the nodes around
abbrev pub arriving : Option Seen → Place → Leading
arriving None ended frames kind token = is_wrong
arriving (Some part) ended frames kind token = arrives of_seen kind token part ended frames

abbrev pub arrived : Option Seen → Place → Standing
arrived part ended = record { fits = is_there part; fits_in = λ outer. is_there outer; stay = leaves; leads = arriving part ended }

-- a whole node of a kind, or the one part
abbrev pub made : Option Kind → List Seen → Option Seen
made None parts = first_of parts
made (Some kind) parts = Some (node_seen kind parts)

abbrev pub closed : Option Kind → Place → Parts → Standing
closed kind ended parts = record {
  fits = parts_are_whole kind parts;
  fits_in = whole_fits_in kind;
  stay = leaves;
  leads = arriving (made kind (values parts)) ended;
}

-- a whole node, as a part of another
abbrev pub as_part : Standing → Standing
as_part whole = record whole { fits_in = λ outer. is_there outer }

-- a list that hasn't begun, in the node around it at this place
abbrev pub without_entry : Place → Leading
without_entry around [] kind token = is_wrong
without_entry around (outer ∷ frames) kind token = outcome of_seen kind token (frame around outer.parts ∷ frames)

abbrev pub unbegun : Place → Standing
unbegun around = record { fits = is_around_list around; fits_in = unbegun_fits_in; stay = leaves; leads = without_entry around }

-- a node whose first parts are those of another
abbrev pub taken : Place → Place → Parts → Standing
taken behind second parts = record (within behind (at_place second parts) []) { fits_in = λ outer. is_there outer; stay = takes }

abbrev pub Stands : Type 0
Stands = (ℕ → Bool) → Parts → Standing

abbrev pub state_level : State-F Stands → Stands
state_level state.Dead on parts = dead
state_level (state.At place new) on parts = at_place (plain_place place) parts
state_level (state.In place inner rest) on parts = within (plain_place place) (rest.value on (seen_in on inner.items)) parts
state_level (state.Closed c) on parts = closed c.kind (plain_place c.ended) parts
state_level (state.Unbegun around waits) on parts = unbegun (plain_place around)
state_level (state.Taken behind second) on parts = taken (plain_place behind) (plain_place second) parts
state_level (state.Split f first second) on parts =
    if value on (condition_of f) then first.value on parts else second.value on parts

-- how one stands by a state in a node with these parts
unfoldable pub standing : State → Stands
standing = fold-State Stands state_level

-- a node that isn't left
abbrev pub open_node : Standing → Standing
open_node inner = record inner { stay = stay_within inner.stay }

abbrev pub Becomes : Type 0
Becomes = (ℕ → Bool) → Standing

abbrev pub after_level : After-F Becomes → Becomes
after_level (after.Open parts rest) on = open_node (standing rest.value on (seen_in on parts.items))
after_level (after.Whole part ended) on = arrived (choice_seen on part) (plain_place ended)
after_level (after.Unbegun around) on = unbegun (plain_place around)
after_level after.Dead on = dead
after_level (after.Split f first second) on = if value on (condition_of f) then first.value on else second.value on

-- how one stands by what becomes of a node
unfoldable pub becoming : After → Becomes
becoming = fold-After Becomes after_level

-- ---- what has to leave a node

abbrev pub Owes : Type 0
Owes = (ℕ → Bool) → Bool

abbrev pub owes_level : State-F Owes → Owes
owes_level (state.Closed c) on = c.waited_for
owes_level (state.Unbegun around waits) on = waits
owes_level (state.Split f first second) on = if value on (condition_of f) then first.value on else second.value on
owes_level other on = false

-- a token waits for the node to be left
unfoldable pub owes : State → Owes
owes = fold-State Owes owes_level

-- the node is left, or one stays in it
abbrev pub IsClean : Stay → Type 0
IsClean stays = Unit {0}
IsClean leaves = Unit {0}
IsClean takes = ⊥
IsClean astray = ⊥

-- where the next token is read when a node is finished, by where it was before
abbrev pub IsFinished : Stay → Bool → Stay → Type 0
IsFinished stays owed after = after ≡ stays
IsFinished takes owed after = after ≡ stays
IsFinished leaves true after = after ≡ leaves
IsFinished leaves false after = IsClean after
IsFinished astray owed after = Unit {0}

-- What becomes of a node is what it was, and it is left where a token waits for that.
pub record Finishes (before : Standing) (owed : Bool) (after : Standing) : Type 0 where
  pub fit : IsTrue after.fits
  pub leads_are : (frames : List (Frame Seen)) (kind : Terminal) (token : Seen) → after.leads frames kind token ≡ before.leads frames kind token
  pub stay : IsFinished before.stay owed after.stay
  -- in a node around in which one may stand as before one may stand so
  pub fit_in : (behind : Place) → IsTrue (before.fits_in (Some behind)) → IsTrue (after.fits_in (Some behind))

-- one may stay in a node for now
abbrev pub MayStay : Standing → Bool → Type 0
MayStay before owed = IsFinished before.stay owed (stay_within before.stay)
