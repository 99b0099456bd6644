-- What a token does in a node.
use Rattle.std.proofs.Common.{◌≡◌, ℕ, Bool, true, false, not, ◌&&◌, List, [], ◌∷◌, Option, Some, None, IsTrue, refl, sym, ap, ◌∙◌, subst}
use Rattle.cond_formula.specs.declared.formulas.Formula.{Formula}
use Rattle.cond_formula.specs.Conditions.{conditions_of, all_true}
use Rattle.c_tree.specs.declared.kinds.Kind.{Kind}
use Rattle.c_tree.specs.declared.terminals.Terminal.{Terminal}
use Rattle.c_tree.specs.Places.{Place, Beginning, Move, shifts, enters, takes, finishes, passes, fails, move}
use Rattle.c_tree.specs.Machine.{Frame, frame, Outcome, is_wrong, alone, moved, arrives, outcome}
use Rattle.choice_trees.specs.declared.trees.Choice.{Choice}
use Rattle.choice_trees.specs.declared.trees.Item.{Item}
use Rattle.grammar_moves.specs.declared.moves.Action.{Action}
use Rattle.grammar_moves.specs.declared.moves.Action.TheVariants as action
use Rattle.grammar_moves.specs.declared.beginnings.Beginning.{Beginning as Start}
use Rattle.grammar_moves.specs.declared.places.Place.{Place as Spot}
use Rattle.grammar_moves.specs.PlainPlaces.{plain_place}
use Rattle.grammar_moves.specs.PlainMoves.{skipping, plain_action, begun_by}
use Rattle.choice_states.specs.declared.states.State.{State, Dead, At, Taken}
use Rattle.choice_states.specs.Seen.{Seen, Parts, node_seen, of_seen, seen_in}
use Rattle.choice_states.specs.Parts.{is_empty, first_of, values, parts_fit, parts_fit_within, parts_are_whole, Pushed}
use Rattle.choice_states.specs.Lists.{left_out, frames_at, place_fits_in, whole_fits_in}
use Rattle.choice_states.specs.States.{takes, Standing, dead, at_place, arriving, made, closed, taken, standing}
use Rattle.choice_states.specs.StateLaws.{standing-Dead, standing-At, standing-Taken}
use Rattle.choice_settling.specs.LeftOut.{LeavesOut, LeftOut}
use Rattle.choice_reading.specs.Beginnings.{BeginsFitting, StandsBegun}
use Rattle.choice_settling.specs.Steps.{stood, place_around, in_node, ClosesAlike, IsBehind, IsRead, ReadsThere, ReadsAll}
use Rattle.choice_settling.proofs.FrameLemmas.{frames_pushed, moved_skipping, back_left_out, arriving_alike}
use Rattle.choice_settling.proofs.UnitPlaces.{shifts_fit_in, enters_fit_in, takes_fit_in, finishes_fit_in, passes_fit_in}
use Rattle.choice_reading.proofs.TokenFits.{shifts_fit, enters_fit, takes_fit, finishes_fit, passes_fit, begins_fit, taken_fit}

of_both : (a b : Bool) → IsTrue a → IsTrue b → IsTrue (a && b)
of_both true b x y = y
of_both false b x y = x

first_alone : (vs : List Seen) → IsTrue (not (is_empty vs)) → first_of vs ≡ Some (alone of_seen vs)
first_alone [] some = absurd (cc some)
first_alone (first ∷ rest) some = refl

module _
    (outer : Option Spot) (kind : Terminal) (token : Seen) (place : Place) (count : ℕ) (next : Move) (old between : Parts)
    (is : move place kind ≡ skipping count next) (out : LeftOut count place old between)
  where
    abbrev leads_to : Move → List (Frame Seen) → Outcome Seen
    leads_to m frames = moved of_seen place (values between) m token frames (λ whole. arrives of_seen kind token whole place frames)

    -- what the token leads to, behind what is left out
    in_between : (frames : List (Frame Seen)) → outcome of_seen kind token (frame place (values old) ∷ frames) ≡ leads_to next frames
    in_between frames =
        ap (λ m. moved of_seen place (values old) m token frames (λ whole. arrives of_seen kind token whole place frames)) is
        ∙ moved_skipping place (values old) count next token frames (λ whole. arrives of_seen kind token whole place frames)
        ∙ ap (λ vs. moved of_seen place vs next token frames (λ whole. arrives of_seen kind token whole place frames)) (sym out.values_are)

    leads_so : (m : Move) → next ≡ m → (frames : List (Frame Seen)) → outcome of_seen kind token (frame place (values old) ∷ frames) ≡ leads_to m frames
    leads_so m e frames = in_between frames ∙ ap (λ x. leads_to x frames) e

    is_so : (m : Move) → next ≡ m → move place kind ≡ skipping count m
    is_so m e = is ∙ ap (λ x. skipping count x) e

    pub node_shifts : (behind : Place) (new : Parts) → next ≡ shifts behind → Pushed behind between new token → ReadsThere outer kind token (in_node place old) (at_place behind new)
    node_shifts behind new e pushed = record {
      fit = pushed.fit;
      fit_in = λ fits_in. shifts_fit_in place behind kind count (place_around outer) (is_so (shifts behind) e) fits_in;
      reads = λ frames around. subst (λ o. IsBehind o (λ k t. outcome of_seen k t (frames_at behind (values new) frames))) (sym (leads_so (shifts behind) e frames)) (λ k t.
          ap (λ vs. outcome of_seen k t (frames_at behind vs frames)) pushed.values_are ∙ ap (λ fs. outcome of_seen k t fs) (frames_pushed behind (values between) token frames));
    }

    pub node_enters : (behind : Place) (beginning : Beginning) (new : Standing) → next ≡ enters behind beginning → StandsBegun behind beginning token between new → ReadsThere outer kind token (in_node place old) new
    node_enters behind beginning new e begins = record {
      fit = begins.fit;
      fit_in = λ fits_in. begins.fit_in (place_around outer) (enters_fit_in place behind beginning kind count (place_around outer) (is_so (enters behind beginning) e) fits_in);
      reads = λ frames around. subst (λ s. IsRead s kind token (outcome of_seen kind token (frame place (values old) ∷ frames)) (new.leads frames)) (sym begins.stay)
          (subst (λ o. IsBehind o (new.leads frames)) (sym (leads_so (enters behind beginning) e frames)) (begins.begins frames));
    }

    pub node_takes : (behind second : Place) (new : Parts) → next ≡ takes behind second → IsTrue (parts_fit_within behind []) → Pushed second between new token
        → ReadsThere outer kind token (in_node place old) (taken behind second new)
    node_takes behind second new e fits pushed = record {
      fit = of_both (parts_fit_within behind []) (parts_fit second new) fits pushed.fit;
      fit_in = λ fits_in. takes_fit_in place behind second kind count (place_around outer) (is_so (takes behind second) e) fits_in;
      reads = λ frames around. subst (λ o. IsBehind o (λ k t. outcome of_seen k t (frames_at second (values new) (frame behind [] ∷ frames)))) (sym (leads_so (takes behind second) e frames)) (λ k t.
          ap (λ vs. outcome of_seen k t (frames_at second vs (frame behind [] ∷ frames))) pushed.values_are
          ∙ ap (λ fs. outcome of_seen k t fs) (frames_pushed second (values between) token (frame behind [] ∷ frames)));
    }

    -- the node is whole without it
    node_closed : (whole : Option Kind) (value : Seen) (ended : Place) (m : Move) (new : Standing) → next ≡ m
        → ((frames : List (Frame Seen)) → leads_to m frames ≡ arrives of_seen kind token value place frames)
        → (IsTrue (place_fits_in place (place_around outer)) → IsTrue (whole_fits_in whole (place_around outer)))
        → made whole (values between) ≡ Some value → ended ≡ left_out count place → IsTrue (parts_are_whole whole between) → ClosesAlike (closed whole ended between) new
        → ReadsThere outer kind token (in_node place old) new
    node_closed whole value ended m new e ends fit_in makes ended_is fits closes = record {
      fit = closes.fits_are ∙ fits;
      fit_in = λ fits_in. closes.fits_in_is (place_around outer) ∙ fit_in fits_in;
      reads = λ frames around. subst (λ s. IsRead s kind token (outcome of_seen kind token (frame place (values old) ∷ frames)) (new.leads frames)) (sym closes.stay_is)
          (closes.leads_are frames kind token
          ∙ ap (λ part. arriving part ended frames kind token) makes
          ∙ ap (λ p. arriving (Some value) p frames kind token) ended_is
          ∙ arriving_alike (Some value) place (left_out count place) frames kind token (λ behind. back_left_out count place behind)
          ∙ sym (leads_so m e frames ∙ ends frames));
    }

    pub node_finishes : (whole : Kind) (ended : Place) (new : Standing) → next ≡ finishes whole → ended ≡ left_out count place → IsTrue (parts_are_whole (Some whole) between)
        → ClosesAlike (closed (Some whole) ended between) new → ReadsThere outer kind token (in_node place old) new
    node_finishes whole ended new e ended_is fits closes =
        node_closed (Some whole) (node_seen whole (values between)) ended (finishes whole) new e (λ frames. refl)
        (finishes_fit_in place whole kind count (place_around outer) (is_so (finishes whole) e)) refl ended_is fits closes

    pub node_passes : (ended : Place) (new : Standing) → next ≡ passes → ended ≡ left_out count place → IsTrue (parts_are_whole None between)
        → ClosesAlike (closed None ended between) new → ReadsThere outer kind token (in_node place old) new
    node_passes ended new e ended_is fits closes =
        node_closed None (alone of_seen (values between)) ended passes new e (λ frames. refl)
        (passes_fit_in place kind count (place_around outer) (is_so passes e)) (first_alone (values between) fits) ended_is fits closes

    pub node_fails : next ≡ fails → ReadsThere outer kind token (in_node place old) dead
    node_fails e = record {
      fit = refl;
      fit_in = λ fits_in. refl;
      reads = λ frames around. subst (λ o. IsBehind o (λ k t. is_wrong)) (sym (leads_so fails e frames)) (λ k t. refl);
    }

-- ---- the same of states

module _
    (place : Spot) (kind : Terminal) (token : Seen) (count : ℕ) (next : Action) (here : List Formula) (old between : List (Choice Item))
    (is : skipping count (plain_action next) ≡ move (plain_place place) kind)
    (out : LeavesOut count (plain_place place) → (on : ℕ → Bool) → IsTrue (all_true on (conditions_of here)) → IsTrue (parts_fit (plain_place place) (seen_in on old)) → LeftOut count (plain_place place) (seen_in on old) (seen_in on between))
  where
    leaves_out : LeavesOut count (plain_place place)
    leaves_out = record { token = kind; next = plain_action next; is = sym is }

    moves : (m : Move) → plain_action next ≡ m → move (plain_place place) kind ≡ skipping count m
    moves m e = sym is ∙ ap (λ x. skipping count x) e

    pub reads_shifts : (behind : Spot) (new : List (Choice Item)) (state : State) → next ≡ action.Shifts behind
        → ((on : ℕ → Bool) → IsTrue (all_true on (conditions_of here)) → IsTrue (parts_fit_within (plain_place behind) (seen_in on between)) → Pushed (plain_place behind) (seen_in on between) (seen_in on new) token)
        → state ≡ At behind true
        → (outer : Option Spot) → ReadsAll [] here outer kind token (λ on. in_node (plain_place place) (seen_in on old)) (stood state new)
    reads_shifts behind new state e pushes state_is = λ outer on path holds sound.
        let left : LeftOut count (plain_place place) (seen_in on old) (seen_in on between) = out leaves_out on holds sound.fit in
        subst (λ s. ReadsThere outer kind token (in_node (plain_place place) (seen_in on old)) s) (sym (ap (λ s. standing s on (seen_in on new)) state_is ∙ standing-At behind true on (seen_in on new)))
        (node_shifts outer kind token (plain_place place) count (plain_action next) (seen_in on old) (seen_in on between) (sym is) left (plain_place behind) (seen_in on new) (ap plain_action e)
        (pushes on holds (shifts_fit place kind count (seen_in on between) left.fit (plain_place behind) (moves (shifts (plain_place behind)) (ap plain_action e)))))

    pub reads_enters : (behind : Spot) (beginning : Start) (state : State) → next ≡ action.Enters behind beginning
        → (BeginsFitting (begun_by beginning) → (on : ℕ → Bool) (parts : Parts) → IsTrue (parts_fit_within (plain_place behind) parts) → StandsBegun (plain_place behind) (begun_by beginning) token parts (standing state on parts))
        → (outer : Option Spot) → ReadsAll [] here outer kind token (λ on. in_node (plain_place place) (seen_in on old)) (stood state between)
    reads_enters behind beginning state e begins = λ outer on path holds sound.
        let left : LeftOut count (plain_place place) (seen_in on old) (seen_in on between) = out leaves_out on holds sound.fit in
        let enters_is : move (plain_place place) kind ≡ skipping count (enters (plain_place behind) (begun_by beginning)) = moves (enters (plain_place behind) (begun_by beginning)) (ap plain_action e) in
        node_enters outer kind token (plain_place place) count (plain_action next) (seen_in on old) (seen_in on between) (sym is) left (plain_place behind) (begun_by beginning) (standing state on (seen_in on between)) (ap plain_action e)
        (begins (begins_fit place kind count (seen_in on between) left.fit (plain_place behind) (begun_by beginning) enters_is) on (seen_in on between)
        (enters_fit place kind count (seen_in on between) left.fit (plain_place behind) (begun_by beginning) enters_is))

    pub reads_takes : (behind second : Spot) (new : List (Choice Item)) (state : State) → next ≡ action.Takes behind second
        → ((on : ℕ → Bool) → IsTrue (all_true on (conditions_of here)) → IsTrue (parts_fit_within (plain_place second) (seen_in on between)) → Pushed (plain_place second) (seen_in on between) (seen_in on new) token)
        → state ≡ Taken behind second
        → (outer : Option Spot) → ReadsAll [] here outer kind token (λ on. in_node (plain_place place) (seen_in on old)) (stood state new)
    reads_takes behind second new state e pushes state_is = λ outer on path holds sound.
        let left : LeftOut count (plain_place place) (seen_in on old) (seen_in on between) = out leaves_out on holds sound.fit in
        let takes_is : move (plain_place place) kind ≡ skipping count (takes (plain_place behind) (plain_place second)) = moves (takes (plain_place behind) (plain_place second)) (ap plain_action e) in
        subst (λ s. ReadsThere outer kind token (in_node (plain_place place) (seen_in on old)) s) (sym (ap (λ s. standing s on (seen_in on new)) state_is ∙ standing-Taken behind second on (seen_in on new)))
        (node_takes outer kind token (plain_place place) count (plain_action next) (seen_in on old) (seen_in on between) (sym is) left (plain_place behind) (plain_place second) (seen_in on new) (ap plain_action e)
        (taken_fit place kind count (seen_in on between) left.fit (plain_place behind) (plain_place second) takes_is)
        (pushes on holds (takes_fit place kind count (seen_in on between) left.fit (plain_place behind) (plain_place second) takes_is)))

    pub reads_finishes : (whole : Kind) (ended : Spot) (state : State) → next ≡ action.Finishes whole → plain_place ended ≡ left_out count (plain_place place)
        → ((on : ℕ → Bool) (parts : Parts) → ClosesAlike (closed (Some whole) (plain_place ended) parts) (standing state on parts))
        → (outer : Option Spot) → ReadsAll [] here outer kind token (λ on. in_node (plain_place place) (seen_in on old)) (stood state between)
    reads_finishes whole ended state e ended_is closes = λ outer on path holds sound.
        let left : LeftOut count (plain_place place) (seen_in on old) (seen_in on between) = out leaves_out on holds sound.fit in
        node_finishes outer kind token (plain_place place) count (plain_action next) (seen_in on old) (seen_in on between) (sym is) left whole (plain_place ended) (standing state on (seen_in on between)) (ap plain_action e) ended_is
        (finishes_fit place kind count (seen_in on between) left.fit whole (moves (finishes whole) (ap plain_action e))) (closes on (seen_in on between))

    pub reads_passes : (ended : Spot) (state : State) → next ≡ action.Passes → plain_place ended ≡ left_out count (plain_place place)
        → ((on : ℕ → Bool) (parts : Parts) → ClosesAlike (closed None (plain_place ended) parts) (standing state on parts))
        → (outer : Option Spot) → ReadsAll [] here outer kind token (λ on. in_node (plain_place place) (seen_in on old)) (stood state between)
    reads_passes ended state e ended_is closes = λ outer on path holds sound.
        let left : LeftOut count (plain_place place) (seen_in on old) (seen_in on between) = out leaves_out on holds sound.fit in
        node_passes outer kind token (plain_place place) count (plain_action next) (seen_in on old) (seen_in on between) (sym is) left (plain_place ended) (standing state on (seen_in on between)) (ap plain_action e) ended_is
        (passes_fit place kind count (seen_in on between) left.fit (moves passes (ap plain_action e))) (closes on (seen_in on between))

    pub reads_fails : (state : State) → next ≡ action.Fails → state ≡ Dead
        → (outer : Option Spot) → ReadsAll [] here outer kind token (λ on. in_node (plain_place place) (seen_in on old)) (stood state between)
    reads_fails state e state_is = λ outer on path holds sound.
        subst (λ s. ReadsThere outer kind token (in_node (plain_place place) (seen_in on old)) s) (sym (ap (λ s. standing s on (seen_in on between)) state_is ∙ standing-Dead on (seen_in on between)))
        (node_fails outer kind token (plain_place place) count (plain_action next) (seen_in on old) (seen_in on between) (sym is) (out leaves_out on holds sound.fit) (ap plain_action e))
