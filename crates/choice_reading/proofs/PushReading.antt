-- A token is the next part wherever one stands.
use Rattle.std.proofs.Common.{◌≡◌, ◌≤◌, ℕ, zero, suc, arith, Bool, true, false, List, [], ◌∷◌, ◌++◌, Option, Some, None, IsTrue, refl, sym, ap, ◌∙◌, subst}
use Rattle.std.specs.Bool.{if◌then◌else◌}
use Rattle.std.specs.declared.alloc.Global.{Global}
use Rattle.std.specs.Prelude.{Box}
use Rattle.cond_formula.specs.declared.formulas.Formula.{Formula}
use Rattle.cond_formula.specs.Conditions.{condition_of, conditions_of, value, all_true}
use Rattle.c_tree.specs.declared.terminals.Terminal.{Terminal}
use Rattle.c_tree.specs.Places.{Place, inside, in_brackets, shifts, move}
use Rattle.c_tree.specs.Machine.{Frame, frame, moved, arrives, outcome}
use Rattle.choice_trees.specs.declared.trees.Choice.{Choice}
use Rattle.choice_trees.specs.declared.trees.Item.{Item}
use Rattle.grammar_moves.specs.declared.moves.Move.{Move as Next}
use Rattle.grammar_moves.specs.declared.moves.Action.TheVariants as action
use Rattle.grammar_moves.specs.PlainMoves.{skipping, plain_action}
use Rattle.grammar_moves.specs.declared.places.Place.{Place as Spot}
use Rattle.grammar_moves.specs.PlainPlaces.{plain_place}
use Rattle.choice_states.specs.declared.states.State.{State, At, Split}
use Rattle.choice_states.specs.Seen.{Seen, Parts, of_seen, seen_in}
use Rattle.choice_states.specs.Parts.{values, part_count, parts_fit, parts_fit_within, HasNoNumber, Pushed}
use Rattle.choice_states.specs.Lists.{around_of, without_list, frames_at, left_out}
use Rattle.choice_states.specs.States.{Standing, at_place, standing}
use Rattle.choice_states.specs.StateLaws.{standing-At}
use Rattle.choice_states.proofs.Fitting.{pushed_unnumbered}
use Rattle.choice_states.specs.Alike.{StandsAsSplit}
use Rattle.choice_settling.specs.Leaving.{spot_at}
use Rattle.choice_reading.specs.SpotLaws.{spot_at-Split}
use Rattle.choice_reading.specs.Pushing.{Pushes, PushesThere, StandsThere, MovesThere, ReadsPlaces}
use Rattle.choice_settling.specs.Steps.{stood, place_around, IsSound, IsBehind, ReadsThere, ReadsAll}
use Rattle.choice_settling.proofs.FrameLemmas.{frames_pushed}
use Rattle.choice_reading.proofs.TokenFits.{shifts_fit}
use Rattle.choice_settling.proofs.ListLaws.{shifts_in_no_list}
use Rattle.choice_settling.proofs.UnitPlaces.{shifts_fit_in}

frames_no_list : (place : Place) (values : List Seen) (frames : List (Frame Seen)) → ((other : Place) → around_of place other ≡ []) → frames_at place values frames ≡ frame place values ∷ frames
frames_no_list place [] [] none = refl
frames_no_list place [] (outer ∷ frames) none = ap (λ places. without_list places place outer frames) (none outer.place)
frames_no_list place (first ∷ rest) frames none = refl

none_left_out : (place : Place) → left_out 0 place ≡ place
none_left_out (inside kind slots) = refl
none_left_out (in_brackets has_name slots) = refl
none_left_out _ = refl

reads_pushed : (outer : Option Spot) (kind : Terminal) (token : Seen) (spot : Spot) (old new : Parts) (pushes : Pushes (plain_place spot) kind) → IsTrue (parts_fit (plain_place spot) old)
    → values new ≡ values old ++ token ∷ [] → ReadsThere outer kind token (at_place (plain_place spot) old) (at_place pushes.behind new)
reads_pushed outer kind token spot old new pushes fits grown =
    let within_fits : IsTrue (parts_fit_within pushes.behind old) = shifts_fit spot kind 0 old (ap (λ p. parts_fit p old) (none_left_out (plain_place spot)) ∙ fits) pushes.behind pushes.is in
    let pushed : Pushed pushes.behind old new token = pushed_unnumbered pushes.behind old new token pushes.none within_fits grown in
    record {
      fit = pushed.fit;
      fit_in = λ fits_in. shifts_fit_in (plain_place spot) pushes.behind kind 0 (place_around outer) pushes.is fits_in;
      reads = λ frames around.
          subst (λ o. IsBehind o (λ k t. outcome of_seen k t (frames_at pushes.behind (values new) frames)))
          (sym (ap (λ fs. outcome of_seen kind token fs) (frames_no_list (plain_place spot) (values old) frames (λ other. shifts_in_no_list (plain_place spot) other pushes.behind kind pushes.is))
          ∙ ap (λ m. moved of_seen (plain_place spot) (values old) m token frames (λ whole. arrives of_seen kind token whole (plain_place spot) frames)) pushes.is))
          (λ k t. ap (λ vs. outcome of_seen k t (frames_at pushes.behind vs frames)) grown ∙ ap (λ fs. outcome of_seen k t fs) (frames_pushed pushes.behind (values old) token frames));
    }

at_spot : (outer : Option Spot) (kind : Terminal) (token : Seen) (found : Option Spot) (before after : Parts → Standing) (old new : Parts)
    → PushesThere found kind → StandsThere found before → MovesThere found kind after → values new ≡ values old ++ token ∷ []
    → IsSound (before old) → ReadsThere outer kind token (before old) (after new)
at_spot outer kind token None before after old new pushes stands moves grown sound = absurd pushes
at_spot outer kind token (Some spot) before after old new pushes stands moves grown sound =
    subst (λ s. ReadsThere outer kind token s (after new)) (sym (stands old)) (subst (λ s. ReadsThere outer kind token (at_place (plain_place spot) old) s) (sym (moves pushes.behind pushes.is new))
    (reads_pushed outer kind token spot old new pushes (subst IsSound (stands old) sound).fit grown))

-- it is pushed for all alternatives at once
pub reads_alike : (path here : List Formula) (outer : Option Spot) (kind : Terminal) (token : Seen) (state new : State) (old pushed : List (Choice Item))
    → ((on : ℕ → Bool) → PushesThere (spot_at state on) kind) → ((on : ℕ → Bool) → StandsThere (spot_at state on) (standing state on)) → ((on : ℕ → Bool) → MovesThere (spot_at state on) kind (standing new on))
    → ((on : ℕ → Bool) → IsTrue (all_true on (conditions_of here)) → values (seen_in on pushed) ≡ values (seen_in on old) ++ token ∷ [])
    → ReadsPlaces state path here outer kind token (stood state old) (stood new pushed)
reads_alike path here outer kind token state new old pushed pushes stands moves grown = λ on there p h sound.
    at_spot outer kind token (spot_at state on) (standing state on) (standing new on) (seen_in on old) (seen_in on pushed) (pushes on) (stands on) (moves on) (grown on h) sound

-- ---- alternatives

pub either_pushes : (b : Bool) (found first second : Option Spot) (kind : Terminal) → found ≡ (if b then first else second) → PushesThere first kind → PushesThere second kind → PushesThere found kind
either_pushes true found first second kind is one other = subst (λ f. PushesThere f kind) (sym is) one
either_pushes false found first second kind is one other = subst (λ f. PushesThere f kind) (sym is) other

-- what is said of where one stands in an alternative
pub either_stands : (Q : Option Spot → (Parts → Standing) → Type 0) (b : Bool) (found first second : Option Spot) (whole one other : Parts → Standing)
    → found ≡ (if b then first else second) → ((parts : Parts) → whole parts ≡ (if b then one parts else other parts))
    → (((f g : Parts → Standing) (spot : Option Spot) → ((parts : Parts) → g parts ≡ f parts) → Q spot f → Q spot g)) → Q first one → Q second other → Q found whole
either_stands Q true found first second whole one other is are same a b = subst (λ f. Q f whole) (sym is) (same one whole first are a)
either_stands Q false found first second whole one other is are same a b = subst (λ f. Q f whole) (sym is) (same other whole second are b)

stands_same : (f g : Parts → Standing) (spot : Option Spot) → ((parts : Parts) → g parts ≡ f parts) → StandsThere spot f → StandsThere spot g
stands_same f g None same h = tt
stands_same f g (Some spot) same h = λ parts. same parts ∙ h parts

moves_same : (kind : Terminal) (f g : Parts → Standing) (spot : Option Spot) → ((parts : Parts) → g parts ≡ f parts) → MovesThere spot kind f → MovesThere spot kind g
moves_same kind f g None same h = tt
moves_same kind f g (Some spot) same h = λ behind is parts. same parts ∙ h behind is parts

pub stands_split : (b : Bool) (found first second : Option Spot) (whole one other : Parts → Standing)
    → found ≡ (if b then first else second) → ((parts : Parts) → whole parts ≡ (if b then one parts else other parts)) → StandsThere first one → StandsThere second other → StandsThere found whole
stands_split b found first second whole one other is are a c = either_stands StandsThere b found first second whole one other is are stands_same a c

pub moves_split : (kind : Terminal) (b : Bool) (found first second : Option Spot) (whole one other : Parts → Standing)
    → found ≡ (if b then first else second) → ((parts : Parts) → whole parts ≡ (if b then one parts else other parts)) → MovesThere first kind one → MovesThere second kind other → MovesThere found kind whole
moves_split kind b found first second whole one other is are a c = either_stands (λ spot stands. MovesThere spot kind stands) b found first second whole one other is are (moves_same kind) a c

-- at one place
pub reads_at_place : (path here : List Formula) (outer : Option Spot) (kind : Terminal) (token : Seen) (state : State) (place : Spot) (waits : Bool) (old : List (Choice Item)) (after : (ℕ → Bool) → Standing) → state ≡ At place waits
    → ReadsAll path here outer kind token (λ on. at_place (plain_place place) (seen_in on old)) after → ReadsPlaces state path here outer kind token (stood state old) after
reads_at_place path here outer kind token state place waits old after is reads = λ on there p h sound.
    let at : stood state old on ≡ at_place (plain_place place) (seen_in on old) = ap (λ s. standing s on (seen_in on old)) is ∙ standing-At place waits on (seen_in on old) in
    subst (λ s. ReadsThere outer kind token s (after on)) (sym at) (reads on p h (subst IsSound at sound))

-- ---- as the code knows of a move

same_shift : (n : ℕ) (a b : Place) → skipping n (shifts a) ≡ shifts b → a ≡ b
same_shift zero a b is = cc is
same_shift (suc n) a b is = absurd (cc is)

pub moved_behind : (place : Spot) (token : Terminal) (next : Next) (spot : Spot) → skipping next.skipped (plain_action next.action) ≡ move (plain_place place) token → next.action ≡ action.Shifts spot
    → (behind : Place) → move (plain_place place) token ≡ shifts behind → (on : ℕ → Bool) (parts : Parts) → standing (At spot true) on parts ≡ at_place behind parts
moved_behind place token next spot is e = λ behind so on parts.
    standing-At spot true on parts ∙ ap (λ p. at_place p parts) (same_shift next.skipped (plain_place spot) behind (ap (λ a. skipping next.skipped (plain_action a)) (sym e) ∙ is ∙ so))

none_skipped : (n : ℕ) → n ≤ 0 → n ≡ 0
none_skipped n few = omega arith

pub pushes_so : (place : Spot) (token : Terminal) (next : Next) (spot : Spot) → skipping next.skipped (plain_action next.action) ≡ move (plain_place place) token → next.action ≡ action.Shifts spot → next.skipped ≤ 0
    → HasNoNumber (part_count (plain_place spot)) → Pushes (plain_place place) token
pushes_so place token next spot is e few none = record {
  behind = plain_place spot;
  is = sym is ∙ ap (λ a. skipping next.skipped (plain_action a)) e ∙ ap (λ n. skipping n (shifts (plain_place spot))) (none_skipped next.skipped few);
  none = none;
}

pub moves_either : (kind : Terminal) (f copy : Formula) (first second : Box State Global) (state first_at second_at first_new second_new new : State) → state ≡ Split f first second → first_at ≡ first.value → second_at ≡ second.value
    → condition_of copy ≡ condition_of f → StandsAsSplit copy first_new second_new new
    → ((on : ℕ → Bool) → MovesThere (spot_at first_at on) kind (standing first_new on)) → ((on : ℕ → Bool) → MovesThere (spot_at second_at on) kind (standing second_new on))
    → (on : ℕ → Bool) → MovesThere (spot_at state on) kind (standing new on)
moves_either kind f copy first second state first_at second_at first_new second_new new state_is first_is second_is same is one other = λ on.
    moves_split kind (value on (condition_of f)) (spot_at state on) (spot_at first.value on) (spot_at second.value on) (standing new on) (standing first_new on) (standing second_new on)
    (ap (λ s. spot_at s on) state_is ∙ spot_at-Split f first second on)
    (λ parts. is on parts ∙ ap (λ when. if value on when then standing first_new on parts else standing second_new on parts) same)
    (subst (λ s. MovesThere (spot_at s on) kind (standing first_new on)) first_is (one on))
    (subst (λ s. MovesThere (spot_at s on) kind (standing second_new on)) second_is (other on))
