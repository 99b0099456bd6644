-- A token is read in each kind of state.
use Rattle.std.proofs.Common.{◌≡◌, ℕ, Bool, List, Option, sym, ap, ◌∙◌, subst}
use Rattle.std.specs.Bool.{if◌then◌else◌}
use Rattle.std.specs.declared.alloc.Global.{Global}
use Rattle.std.specs.Prelude.{Box}
use Rattle.cond_formula.specs.declared.formulas.Formula.{Formula}
use Rattle.cond_formula.specs.Features.{has}
use Rattle.cond_formula.specs.Conditions.{Condition, condition_of, value}
use Rattle.c_tree.specs.declared.terminals.Terminal.{Terminal}
use Rattle.choice_trees.specs.declared.trees.Choice.{Choice}
use Rattle.choice_trees.specs.declared.trees.Item.{Item}
use Rattle.grammar_moves.specs.declared.places.Place.{Place as Spot}
use Rattle.grammar_moves.specs.PlainPlaces.{plain_place}
use Rattle.choice_states.specs.declared.states.Closing.{Closing}
use Rattle.choice_states.specs.declared.states.State.{State, Dead, At, Closed, Unbegun, Taken, Split}
use Rattle.choice_states.specs.Seen.{Seen, seen_in}
use Rattle.choice_states.specs.States.{leaves, IsClean, Standing, at_place, standing}
use Rattle.choice_states.specs.StateLaws.{standing-Dead, standing-At, standing-Closed, standing-Unbegun, standing-Taken, standing-Split}
use Rattle.choice_states.specs.Alike.{StandsAsSplit}
use Rattle.choice_settling.specs.Leaving.{spot_at}
use Rattle.choice_reading.specs.Pushing.{ReadsPlaces}
use Rattle.choice_reading.specs.SpotLaws.{spot_at-Split}
use Rattle.choice_settling.specs.Steps.{stood, SameElsewhere, IsSound, ReadsIfThere, ReadsSo}
use Rattle.choice_reading.proofs.ReadingLemmas.{reads_left, reads_still_dead}
use Rattle.choice_reading.proofs.ReadSplits.{reads_so_split, reads_places_split}
use Rattle.choice_settling.proofs.Divisions.{Divides}

stands_split : (f : Formula) (first second : Box State Global) (state first_at second_at : State) → state ≡ Split f first second → first_at ≡ first.value → second_at ≡ second.value → StandsAsSplit f first_at second_at state
stands_split f first second state first_at second_at is first_is second_is = λ on parts.
    ap (λ s. standing s on parts) is ∙ standing-Split f first second on parts
    ∙ ap (λ s. if value on (condition_of f) then standing s on parts else standing second.value on parts) (sym first_is)
    ∙ ap (λ s. if value on (condition_of f) then standing first_at on parts else standing s on parts) (sym second_is)

split_by : (f copy : Formula) (first second new : State) → condition_of copy ≡ condition_of f → StandsAsSplit copy first second new → StandsAsSplit f first second new
split_by f copy first second new same is = λ on parts. is on parts ∙ ap (λ when. if value on when then standing first on parts else standing second on parts) same

module _
    (path here first_path first_here second_path second_here : List Formula) (f : Formula) (old mid new : List (Choice Item)) (outer : Option Spot) (kind : Terminal) (token : Seen)
    (first second : Box State Global) (state first_at second_at first_new second_new result : State)
    (state_is : state ≡ Split f first second) (first_is : first_at ≡ first.value) (second_is : second_at ≡ second.value)
    (paths : Divides path f first_path second_path) (heres : Divides here f first_here second_here)
    (one : SameElsewhere first_here old mid) (other : SameElsewhere second_here mid new)
  where
    -- two alternatives
    pub split_so : (admits admits_first admits_second when : Condition) (outer_first outer_second : Option Spot) → admits_first ≡ admits → admits_second ≡ admits → outer_first ≡ outer → outer_second ≡ outer
        → StandsAsSplit f first_new second_new result
        → ReadsSo admits_first first_path first_here when outer_first kind token (stood first_at old) (stood first_new mid)
        → ReadsSo admits_second second_path second_here when outer_second kind token (stood second_at mid) (stood second_new new) → ReadsSo admits path here when outer kind token (stood state old) (stood result new)
    split_so admits admits_first admits_second when outer_first outer_second kept kept_too around around_too is a b =
        reads_so_split path here first_path first_here second_path second_here f old mid new outer kind token state first_at second_at first_new second_new result paths heres one other
        (stands_split f first second state first_at second_at state_is first_is second_is) is admits when
        (λ c admitted. subst (λ o. ReadsSo admits_first first_path first_here when o kind token (stood first_at old) (stood first_new mid)) around a c (ap (value (has c)) kept ∙ admitted))
        (λ c admitted. subst (λ o. ReadsSo admits_second second_path second_here when o kind token (stood second_at mid) (stood second_new new)) around_too b c (ap (value (has c)) kept_too ∙ admitted))

    -- two alternatives, each at places
    pub split_places : (copy : Formula) (outer_first outer_second : Option Spot) → condition_of copy ≡ condition_of f → outer_first ≡ outer → outer_second ≡ outer → StandsAsSplit copy first_new second_new result
        → ReadsPlaces first_at first_path first_here outer_first kind token (stood first_at old) (stood first_new mid)
        → ReadsPlaces second_at second_path second_here outer_second kind token (stood second_at mid) (stood second_new new) → ReadsPlaces state path here outer kind token (stood state old) (stood result new)
    split_places copy outer_first outer_second same around around_too is a b =
        reads_places_split path here first_path first_here second_path second_here f old mid new outer kind token state first_at second_at first_new second_new result paths heres one other
        (stands_split f first second state first_at second_at state_is first_is second_is) (split_by f copy first_new second_new result same is)
        (λ on. ap (λ s. spot_at s on) state_is ∙ spot_at-Split f first second on
        ∙ ap (λ s. if value on (condition_of f) then spot_at s on else spot_at second.value on) (sym first_is)
        ∙ ap (λ s. if value on (condition_of f) then spot_at first_at on else spot_at s on) (sym second_is))
        (subst (λ o. ReadsPlaces first_at first_path first_here o kind token (stood first_at old) (stood first_new mid)) around a)
        (subst (λ o. ReadsPlaces second_at second_path second_here o kind token (stood second_at mid) (stood second_new new)) around_too b)

module _
    (admits when : Condition) (path here : List Formula) (outer : Option Spot) (kind : Terminal) (token : Seen) (old : List (Choice Item)) (state : State)
  where
    -- at a place
    pub so_at : (place : Spot) (waits : Bool) (after : (ℕ → Bool) → Standing) → state ≡ At place waits
        → ReadsSo admits path here when outer kind token (λ on. at_place (plain_place place) (seen_in on old)) after → ReadsSo admits path here when outer kind token (stood state old) after
    so_at place waits after is reads = λ c admitted p h sound.
        let at : stood state old (has c) ≡ at_place (plain_place place) (seen_in (has c) old) = ap (λ s. standing s (has c) (seen_in (has c) old)) is ∙ standing-At place waits (has c) (seen_in (has c) old) in
        subst (λ s. ReadsIfThere (value (has c) when) outer kind token s (after (has c))) (sym at) (reads c admitted p h (subst IsSound at sound))

    -- as a state that is the same
    pub so_as : (other : State) (after : (ℕ → Bool) → Standing) → state ≡ other → ReadsSo admits path here when outer kind token (stood other old) after → ReadsSo admits path here when outer kind token (stood state old) after
    so_as other after is reads = subst (λ s. ReadsSo admits path here when outer kind token (stood s old) after) (sym is) reads

    still : (other : State) → state ≡ other → ((on : ℕ → Bool) → (stood other old on).stay ≡ leaves) → ReadsSo admits path here when outer kind token (stood state old) (stood other old)
    still other is left = so_as other (stood other old) is (λ c admitted p h sound. reads_left (value (has c) when) outer kind token (stood other old (has c)) (left (has c)) sound)

    pub so_closed : (closing : Closing) → state ≡ Closed closing → ReadsSo admits path here when outer kind token (stood state old) (stood (Closed closing) old)
    so_closed closing is = still (Closed closing) is (λ on. ap (λ (s : Standing). s.stay) (standing-Closed closing on (seen_in on old)))

    pub so_unbegun : (around : Spot) (waits : Bool) → state ≡ Unbegun around waits → ReadsSo admits path here when outer kind token (stood state old) (stood (Unbegun around waits) old)
    so_unbegun around waits is = still (Unbegun around waits) is (λ on. ap (λ (s : Standing). s.stay) (standing-Unbegun around waits on (seen_in on old)))

    pub so_dead : state ≡ Dead → ReadsSo admits path here when outer kind token (stood state old) (stood Dead old)
    so_dead is = so_as Dead (stood Dead old) is (λ c admitted p h sound.
        subst (λ s. ReadsIfThere (value (has c) when) outer kind token s s) (sym (standing-Dead (has c) (seen_in (has c) old))) (reads_still_dead (value (has c) when) outer kind token))

    pub so_taken : (behind second : Spot) → state ≡ Taken behind second → ReadsSo admits path here when outer kind token (stood state old) (stood (Taken behind second) old)
    so_taken behind second is = so_as (Taken behind second) (stood (Taken behind second) old) is (λ c admitted p h sound.
        absurd (subst (λ (s : Standing). IsClean s.stay) (standing-Taken behind second (has c) (seen_in (has c) old)) sound.clean))
