-- Nodes that begin with a token, each in the one before it.
use Rattle.std.proofs.Common.{◌≡◌, ℕ, Bool, true, false, ◌&&◌, List, [], ◌∷◌, ◌++◌, Option, Some, None, IsTrue, refl, sym, ap, ◌∙◌, subst, append-nil}
use Rattle.std.specs.declared.alloc.Global.{Global}
use Rattle.std.specs.Prelude.{Vec, Box}
use Rattle.c_tree.specs.Places.{Place, begins}
use Rattle.c_tree.specs.Machine.{Frame, frame, goes_on, nested, begun, outcome}
use Rattle.choice_trees.specs.declared.trees.Choice.{Choice}
use Rattle.choice_trees.specs.declared.trees.Item.{Item}
use Rattle.grammar_moves.specs.declared.places.Place.{Place as Spot}
use Rattle.grammar_moves.specs.PlainPlaces.{plain_place, plain_around}
use Rattle.choice_states.specs.declared.states.State.{State, At, In}
use Rattle.choice_states.specs.Seen.{Seen, Parts, nothing_seen, of_seen, seen_in}
use Rattle.choice_states.specs.Parts.{values, parts_fit, parts_fit_within, Pushed}
use Rattle.choice_states.specs.Lists.{frames_at, place_fits_in}
use Rattle.choice_states.specs.States.{stays, stay_within, Standing, at_place, within, standing}
use Rattle.choice_states.specs.StateLaws.{standing-At, standing-In}
use Rattle.choice_reading.specs.Beginnings.{StandsIn, nested_in, first_values, all_fit, FirstFits, StandsFirst, BeginsFitting, StandsBegun}
use Rattle.choice_settling.specs.Steps.{IsBehind}

first_of_both : (a b : Bool) → IsTrue (a && b) → IsTrue a
first_of_both true b h = refl
first_of_both false b h = h

second_of_both : (a b : Bool) → IsTrue (a && b) → IsTrue b
second_of_both true b h = h
second_of_both false true h = refl
second_of_both false false h = h

of_both : (a b : Bool) → IsTrue a → IsTrue b → IsTrue (a && b)
of_both true b x y = y
of_both false b x y = x

-- ---- one node more

pub in_nested : (place : Option Spot) (inner new : State) (places : List Place) (stands : Standing) (on : ℕ → Bool) → StandsIn place inner new
    → ((parts : Parts) → standing inner on parts ≡ nested_in places stands parts) → (parts : Parts) → standing new on parts ≡ nested_in (plain_around place ++ places) stands parts
in_nested None inner new places stands on is before parts = is on parts ∙ before parts
in_nested (Some place) inner new places stands on is before parts = is on parts ∙ ap (λ s. within (plain_place place) s parts) (before [])

pub in_one : (place : Spot) (inner : Vec (Choice Item) Global) (rest : Box State Global) (on : ℕ → Bool) (parts : Parts)
    → standing (In place inner rest) on parts ≡ nested_in (plain_place place ∷ []) (standing rest.value on (seen_in on inner.items)) parts
in_one place inner rest on parts = standing-In place inner rest on parts

-- the nodes around one with these parts, by the places that there are
module _ (behind : Spot) (parts : Vec (Choice Item) Global) (rest : Box State Global) (on : ℕ → Bool) where
  abbrev stands : Standing
  stands = standing rest.value on (seen_in on parts.items)

  around_it : (around : Option Spot) (place : Spot) (state : State) → StandsIn around (In place parts rest) state → (others : Parts)
      → standing state on others ≡ nested_in (plain_around around ++ plain_place place ∷ []) stands others
  around_it around place state is others = in_nested around (In place parts rest) state (plain_place place ∷ []) stands on is (in_one place parts rest on) others

  pub around_outer : (around outer : Option Spot) (place : Spot) (state new : State) → outer ≡ Some place → StandsIn around (In place parts rest) state → StandsIn (Some behind) state new → (others : Parts)
      → standing new on others ≡ nested_in (plain_place behind ∷ (plain_around around ++ plain_around outer)) stands others
  around_outer around outer place state new is one two others =
      in_nested (Some behind) state new (plain_around around ++ plain_place place ∷ []) stands on two (around_it around place state one) others
      ∙ ap (λ o. nested_in (plain_place behind ∷ (plain_around around ++ plain_around o)) stands others) (sym is)

  pub around_one : (around outer : Option Spot) (place : Spot) (new : State) → outer ≡ None → around ≡ Some place → StandsIn (Some behind) (In place parts rest) new → (others : Parts)
      → standing new on others ≡ nested_in (plain_place behind ∷ (plain_around around ++ plain_around outer)) stands others
  around_one around outer place new none is one others =
      around_it (Some behind) place new one others
      ∙ ap (λ a. nested_in (plain_place behind ∷ (plain_around a ++ plain_around None)) stands others) (sym is)
      ∙ ap (λ o. nested_in (plain_place behind ∷ (plain_around around ++ plain_around o)) stands others) (sym none)

  pub around_none : (around outer : Option Spot) → outer ≡ None → around ≡ None → (others : Parts)
      → standing (In behind parts rest) on others ≡ nested_in (plain_place behind ∷ (plain_around around ++ plain_around outer)) stands others
  around_none around outer none nowhere others =
      in_one behind parts rest on others
      ∙ ap (λ a. nested_in (plain_place behind ∷ (plain_around a ++ plain_around None)) stands others) (sym nowhere)
      ∙ ap (λ o. nested_in (plain_place behind ∷ (plain_around around ++ plain_around o)) stands others) (sym none)

  pub around_all : (around outer innermost : Option Spot) (place : Spot) (one two new : State) → innermost ≡ Some place
      → StandsIn outer (In place parts rest) one → StandsIn around one two → StandsIn (Some behind) two new → (others : Parts)
      → standing new on others ≡ nested_in (plain_place behind ∷ (plain_around around ++ (plain_around outer ++ plain_around innermost))) stands others
  around_all around outer innermost place one two new is first second third others =
      in_nested (Some behind) two new (plain_around around ++ (plain_around outer ++ plain_place place ∷ [])) stands on third
      (in_nested around one two (plain_around outer ++ plain_place place ∷ []) stands on second (around_it outer place one first)) others
      ∙ ap (λ i. nested_in (plain_place behind ∷ (plain_around around ++ (plain_around outer ++ plain_around i))) stands others) (sym is)

  pub around_both : (around outer innermost : Option Spot) (new : State) → innermost ≡ None → (others : Parts)
      → standing new on others ≡ nested_in (plain_place behind ∷ (plain_around around ++ plain_around outer)) stands others
      → standing new on others ≡ nested_in (plain_place behind ∷ (plain_around around ++ (plain_around outer ++ plain_around innermost))) stands others
  around_both around outer innermost new none others is =
      is ∙ ap (λ ps. nested_in (plain_place behind ∷ (plain_around around ++ ps)) stands others) (sym (append-nil (plain_around outer)))
      ∙ ap (λ i. nested_in (plain_place behind ∷ (plain_around around ++ (plain_around outer ++ plain_around i))) stands others) (sym none)

-- ---- what the token leads to

nested_leads : (first : Place) (rest : List Place) (inner : Standing) (parts : Parts) (frames : List (Frame Seen))
    → (nested_in (first ∷ rest) inner parts).leads frames ≡ inner.leads (nested rest (frame first (values parts) ∷ frames))
nested_leads first [] inner parts frames = refl
nested_leads first (second ∷ rest) inner parts frames = nested_leads second rest inner [] (frame first (values parts) ∷ frames)

nested_fits : (places : List Place) (inner : Standing) → IsTrue (all_fit places) → IsTrue inner.fits → IsTrue (nested_in places inner []).fits
nested_fits [] inner all fits = fits
nested_fits (first ∷ rest) inner all fits =
    of_both (parts_fit_within first []) (nested_in rest inner []).fits (first_of_both (parts_fit_within first []) (all_fit rest) all)
    (nested_fits rest inner (second_of_both (parts_fit_within first []) (all_fit rest) all) fits)

nested_fits_in : (places : List Place) (inner : Place) (firsts : Parts) (behind : Place) → IsTrue ((nested_in places (at_place inner firsts) []).fits_in (Some behind))
nested_fits_in [] inner firsts behind = refl
nested_fits_in (first ∷ rest) inner firsts behind = nested_fits_in rest inner firsts first

nested_stays : (places : List Place) (inner : Standing) (parts : Parts) → inner.stay ≡ stays → (nested_in places inner parts).stay ≡ stays
nested_stays [] inner parts is = is
nested_stays (first ∷ rest) inner parts is = ap stay_within (nested_stays rest inner [] is)

begun_first : (places : List Place) (skipped : Bool) (inner : Place) (token : Seen) (frames : List (Frame Seen))
    → begun of_seen (begins places skipped inner) token frames ≡ goes_on (frame inner (first_values skipped token) ∷ nested places frames)
begun_first places false inner token frames = refl
begun_first places true inner token frames = refl

first_frames : (skipped : Bool) (inner : Place) (token : Seen) (frames : List (Frame Seen)) → frames_at inner (first_values skipped token) frames ≡ frame inner (first_values skipped token) ∷ frames
first_frames false inner token frames = refl
first_frames true inner token frames = refl

pub stands_begun :
    (behind : Place) (places : List Place) (skipped : Bool) (inner : Place) (token : Seen) (firsts parts : Parts) (new : Standing)
    → values firsts ≡ first_values skipped token → IsTrue (parts_fit inner firsts) → IsTrue (all_fit places) → IsTrue (parts_fit_within behind parts)
    → new ≡ nested_in (behind ∷ places) (at_place inner firsts) parts → StandsBegun behind (begins places skipped inner) token parts new
stands_begun behind places skipped inner token firsts parts new values_are fits all within_fits is = subst (λ s. StandsBegun behind (begins places skipped inner) token parts s) (sym is) (record {
  fit = of_both (parts_fit_within behind parts) (nested_in places (at_place inner firsts) []).fits within_fits (nested_fits places (at_place inner firsts) all fits);
  fit_in = λ outer fits_in.
      of_both (place_fits_in behind outer) ((nested_in places (at_place inner firsts) []).fits_in (Some behind)) fits_in (nested_fits_in places inner firsts behind);
  stay = nested_stays (behind ∷ places) (at_place inner firsts) parts refl;
  begins = λ frames.
      subst (λ o. IsBehind o ((nested_in (behind ∷ places) (at_place inner firsts) parts).leads frames)) (sym (begun_first places skipped inner token (frame behind (values parts) ∷ frames))) (λ k t.
      ap (λ leads. leads k t) (nested_leads behind places (at_place inner firsts) parts frames)
      ∙ ap (λ vs. outcome of_seen k t (frames_at inner vs (nested places (frame behind (values parts) ∷ frames)))) values_are
      ∙ ap (λ fs. outcome of_seen k t fs) (first_frames skipped inner token (nested places (frame behind (values parts) ∷ frames))));
})

-- ---- the first parts

pub one_first : (inner : Place) (none one : Parts) (token : Seen) → none ≡ [] → Pushed inner none one token → StandsFirst inner false token one
one_first inner none one token is pushed = record { values_are = pushed.values_are ∙ ap (λ ps. values ps ++ token ∷ []) is; fit = pushed.fit }

pub two_first : (inner : Place) (none one two : Parts) (token : Seen) → none ≡ [] → Pushed inner none one nothing_seen → Pushed inner one two token → StandsFirst inner true token two
two_first inner none one two token is first second = record {
  values_are = second.values_are ∙ ap (λ vs. vs ++ token ∷ []) (first.values_are ∙ ap (λ ps. values ps ++ nothing_seen ∷ []) is);
  fit = second.fit;
}

-- so one stands in all of them
pub begun_with : (behind : Place) (places : List Place) (skipped : Bool) (inner : Spot) (token : Seen) (firsts : List (Choice Item)) (rest : Box State Global) (new : State)
    → rest.value ≡ At inner true → (FirstFits skipped (plain_place inner) → (on : ℕ → Bool) → StandsFirst (plain_place inner) skipped token (seen_in on firsts))
    → ((on : ℕ → Bool) (parts : Parts) → standing new on parts ≡ nested_in (behind ∷ places) (standing rest.value on (seen_in on firsts)) parts)
    → BeginsFitting (begins places skipped (plain_place inner)) → (on : ℕ → Bool) (parts : Parts) → IsTrue (parts_fit_within behind parts)
    → StandsBegun behind (begins places skipped (plain_place inner)) token parts (standing new on parts)
begun_with behind places skipped inner token firsts rest new rest_is first stands fitting = λ on parts fits.
    let one : StandsFirst (plain_place inner) skipped token (seen_in on firsts) = first fitting.1 on in
    stands_begun behind places skipped (plain_place inner) token (seen_in on firsts) parts (standing new on parts) one.values_are one.fit fitting.0 fits
    (stands on parts ∙ ap (λ s. nested_in (behind ∷ places) s parts) (ap (λ s. standing s on (seen_in on firsts)) rest_is ∙ standing-At inner true on (seen_in on firsts)))
