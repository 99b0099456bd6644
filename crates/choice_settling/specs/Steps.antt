-- What one stands for before and behind a token, where `on` says which features are on.
use Rattle.std.specs.Prelude.{◌≡◌, ℕ, Bool, true, false, List, [], ◌∷◌, Option, Some, None, IsTrue}
use Rattle.cond_formula.specs.declared.formulas.Formula.{Formula}
use Rattle.cond_formula.specs.Features.{has}
use Rattle.cond_formula.specs.Conditions.{Condition, conditions_of, value, all_true}
use Rattle.c_text.specs.Token.{plain_token}
use Rattle.c_tree.specs.declared.terminals.Terminal.{Terminal}
use Rattle.c_tree.specs.Places.{Place}
use Rattle.c_tree.specs.Machine.{Frame, frame, Outcome, goes_on, is_whole, is_wrong, outcome}
use Rattle.choice_trees.specs.declared.trees.Choice.{Choice}
use Rattle.choice_trees.specs.declared.trees.Item.{Item}
use Rattle.cond_tokens.specs.declared.tokens.CondToken.{CondToken}
use Rattle.grammar_moves.specs.declared.places.Place.{Place as Spot}
use Rattle.grammar_moves.specs.PlainPlaces.{plain_place}
use Rattle.choice_states.specs.declared.states.State.{State}
use Rattle.choice_states.specs.Seen.{Seen, Parts, of_seen, seen_in, token_seen}
use Rattle.choice_states.specs.Parts.{values, parts_fit}
use Rattle.choice_states.specs.Lists.{frames_at, place_fits_in}
use Rattle.choice_states.specs.States.{Stay, stays, leaves, takes, astray, IsClean, Standing, within, standing}
use Rattle.choice_lookahead.specs.Ahead.{next_kind}

-- a token of the stream with its number
abbrev pub seen_of : ℕ → CondToken → Seen
seen_of number entry = token_seen (Some number) (plain_token entry.token)

-- how one stands by a state in a node with these parts
abbrev pub stood : State → List (Choice Item) → (ℕ → Bool) → Standing
stood state parts on = standing state on (seen_in on parts)

-- nodes around one, behind which is this place in the innermost of them; none, if it is in no other
abbrev pub IsAround : Option Spot → List (Frame Seen) → Type 0
IsAround None [] = Unit {0}
IsAround None (outer ∷ frames) = ⊥
IsAround (Some behind) [] = ⊥
IsAround (Some behind) (outer ∷ frames) = outer.place ≡ plain_place behind

-- the place behind it in the node around
abbrev pub place_around : Option Spot → Option Place
place_around None = None
place_around (Some behind) = Some (plain_place behind)

-- in a node around, or in none, in which one may stand by the first, one may stand by the other
abbrev pub FitsAlike : Option Spot → Standing → Standing → Type 0
FitsAlike outer before after = IsTrue (before.fits_in (place_around outer)) → IsTrue (after.fits_in (place_around outer))

-- the node has the parts that it should have, and is left or not
pub record IsSound (standing : Standing) : Type 0 where
  pub fit : IsTrue standing.fits
  pub clean : IsClean standing.stay

-- it isn't left, if it wasn't before
abbrev pub StaysOpen : Standing → Standing → Type 0
StaysOpen before after = (before.stay ≡ leaves → ⊥) → after.stay ≡ leaves → ⊥

-- where the formulas aren't all true, nothing that is seen of the parts differs
abbrev pub SameElsewhere : List Formula → List (Choice Item) → List (Choice Item) → Type 0
SameElsewhere here old new = (on : ℕ → Bool) → all_true on (conditions_of here) ≡ false → seen_in on new ≡ seen_in on old

-- at a place in a node that has begun
abbrev pub in_node : Place → Parts → Standing
in_node place parts = record {
  fits = parts_fit place parts;
  fits_in = place_fits_in place;
  stay = stays;
  leads = λ frames kind token. outcome of_seen kind token (frame place (values parts) ∷ frames);
}

-- the node at a place has begun, and is no list that has begun only where it has an entry
abbrev pub HasBegun : Option Spot → Place → Parts → Type 0
HasBegun outer place parts =
    (frames : List (Frame Seen)) → IsAround outer frames → frames_at place (values parts) frames ≡ frame place (values parts) ∷ frames

-- whole in the same way, whatever nodes are around
pub record ClosesAlike (before after : Standing) : Type 0 where
  pub fits_are : after.fits ≡ before.fits
  pub fits_in_is : (outer : Option Place) → after.fits_in outer ≡ before.fits_in outer
  pub stay_is : after.stay ≡ before.stay
  pub leads_are : (frames : List (Frame Seen)) (kind : Terminal) (token : Seen) → after.leads frames kind token ≡ before.leads frames kind token

-- ---- before a token

-- What a token of this kind leads to is the same, whatever it is in itself. A node that is in no other isn't left.
pub record Settles (outer : Option Spot) (kind : Terminal) (before after : Standing) : Type 0 where
  pub sound : IsSound after
  pub fit_in : FitsAlike outer before after
  pub still : outer ≡ None → StaysOpen before after
  pub leads_are : (frames : List (Frame Seen)) → IsAround outer frames → (token : Seen) → after.leads frames kind token ≡ before.leads frames kind token

-- what the next token on the path leads to is the same
abbrev pub SettlesSo : List Formula → List Formula → Option Spot → List CondToken → ((ℕ → Bool) → Standing) → ((ℕ → Bool) → Standing) → Type 0
SettlesSo path here outer ahead before after =
    (on : ℕ → Bool) → IsTrue (all_true on (conditions_of path)) → IsTrue (all_true on (conditions_of here))
    → IsSound (before on) → Settles outer (next_kind on ahead) (before on) (after on)

-- ---- a token

-- what the next token leads to behind one that leads to an outcome
abbrev pub IsBehind : Outcome Seen → (Terminal → Seen → Outcome Seen) → Type 0
IsBehind (goes_on frames) next = (kind : Terminal) (token : Seen) → next kind token ≡ outcome of_seen kind token frames
IsBehind (is_whole whole) next = ⊥
IsBehind is_wrong next = (kind : Terminal) (token : Seen) → next kind token ≡ is_wrong

-- the token has been read, or is still to be read behind the node
abbrev pub IsRead : Stay → Terminal → Seen → Outcome Seen → (Terminal → Seen → Outcome Seen) → Type 0
IsRead stays kind token before next = IsBehind before next
IsRead takes kind token before next = IsBehind before next
IsRead leaves kind token before next = next kind token ≡ before
IsRead astray kind token before next = ⊥

pub record ReadsThere (outer : Option Spot) (kind : Terminal) (token : Seen) (before after : Standing) : Type 0 where
  pub fit : IsTrue after.fits
  pub fit_in : FitsAlike outer before after
  pub reads : (frames : List (Frame Seen)) → IsAround outer frames → IsRead after.stay kind token (before.leads frames kind token) (after.leads frames)

pub record Keeps (outer : Option Spot) (before after : Standing) : Type 0 where
  pub sound : IsSound after
  pub fit_in : FitsAlike outer before after
  pub still : StaysOpen before after
  pub leads_are :
      (frames : List (Frame Seen)) → IsAround outer frames → (kind : Terminal) (token : Seen) → after.leads frames kind token ≡ before.leads frames kind token

-- the token is read if it is there
abbrev pub ReadsIfThere : Bool → Option Spot → Terminal → Seen → Standing → Standing → Type 0
ReadsIfThere true outer kind token before after = ReadsThere outer kind token before after
ReadsIfThere false outer kind token before after = Keeps outer before after

-- it is read in each configuration that is admitted and on the path
abbrev pub ReadsSo : Condition → List Formula → List Formula → Condition → Option Spot → Terminal → Seen → ((ℕ → Bool) → Standing) → ((ℕ → Bool) → Standing) → Type 0
ReadsSo admits path here when outer kind token before after =
    (c : List Bool) → IsTrue (value (has c) admits) → IsTrue (all_true (has c) (conditions_of path)) → IsTrue (all_true (has c) (conditions_of here))
    → IsSound (before (has c)) → ReadsIfThere (value (has c) when) outer kind token (before (has c)) (after (has c))

-- it is read wherever it is there
abbrev pub ReadsOn : List Formula → List Formula → Condition → Option Spot → Terminal → Seen → ((ℕ → Bool) → Standing) → ((ℕ → Bool) → Standing) → Type 0
ReadsOn path here when outer kind token before after =
    (on : ℕ → Bool) → IsTrue (all_true on (conditions_of path)) → IsTrue (all_true on (conditions_of here))
    → IsSound (before on) → ReadsIfThere (value on when) outer kind token (before on) (after on)

-- it is read in the part behind which is this place, or still to be read behind it: then it is read in the node
abbrev pub ReadsAfter : Condition → List Formula → List Formula → Condition → Option Spot → Spot → Terminal → Seen → ((ℕ → Bool) → Standing) → ((ℕ → Bool) → Parts) → ((ℕ → Bool) → Standing) → Type 0
ReadsAfter admits path here when outer place kind token after parts new =
    (c : List Bool) → IsTrue (value (has c) admits) → IsTrue (all_true (has c) (conditions_of path)) → IsTrue (all_true (has c) (conditions_of here))
    → (inner : Standing) → IsSound (within (plain_place place) inner (parts (has c)))
    → ReadsIfThere (value (has c) when) (Some place) kind token inner (after (has c))
    → ReadsIfThere (value (has c) when) outer kind token (within (plain_place place) inner (parts (has c))) (new (has c))

-- it is there and is read, wherever the path and the formulas are true
abbrev pub ReadsAll : List Formula → List Formula → Option Spot → Terminal → Seen → ((ℕ → Bool) → Standing) → ((ℕ → Bool) → Standing) → Type 0
ReadsAll path here outer kind token before after =
    (on : ℕ → Bool) → IsTrue (all_true on (conditions_of path)) → IsTrue (all_true on (conditions_of here))
    → IsSound (before on) → ReadsThere outer kind token (before on) (after on)
