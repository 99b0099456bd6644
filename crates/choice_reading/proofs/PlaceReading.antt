-- A token is read at a place, in a node that may be a list that hasn't begun.
use Rattle.std.proofs.Common.{◌≡◌, ℕ, Bool, true, false, not, List, [], ◌∷◌, Option, Some, None, IsTrue, refl, sym, ap, ◌∙◌, subst}
use Rattle.std.specs.Bool.{if◌then◌else◌}
use Rattle.cond_formula.specs.declared.formulas.Formula.{Formula}
use Rattle.cond_formula.specs.Conditions.{condition_of, conditions_of, value, all_true}
use Rattle.c_tree.specs.declared.terminals.Terminal.{Terminal}
use Rattle.c_tree.specs.Places.{move}
use Rattle.c_tree.specs.Machine.{Frame, frame, outcome}
use Rattle.choice_trees.specs.declared.trees.Choice.{Choice}
use Rattle.choice_trees.specs.declared.trees.Item.{Item}
use Rattle.grammar_moves.specs.declared.places.Place.{Place as Spot}
use Rattle.grammar_moves.specs.PlainPlaces.{plain_place}
use Rattle.choice_lookahead.specs.Ahead.{begins_part}
use Rattle.choice_states.specs.declared.states.State.{State, Unbegun}
use Rattle.choice_states.specs.Seen.{Seen, of_seen, seen_in}
use Rattle.choice_states.specs.Parts.{is_empty, values}
use Rattle.choice_states.specs.Lists.{around_of, without_list, frames_at}
use Rattle.choice_states.specs.States.{Standing, at_place, without_entry, unbegun, standing}
use Rattle.choice_states.specs.StateLaws.{standing-Unbegun}
use Rattle.choice_states.specs.Alike.{StandsAsSplit}
use Rattle.choice_settling.specs.Around.{IsListAround, IsNoListAround}
use Rattle.choice_settling.specs.Steps.{stood, in_node, IsAround, IsSound, ReadsThere, ReadsAll}
use Rattle.choice_settling.proofs.FrameLemmas.{begun_some, begun_no_list}
use Rattle.choice_reading.proofs.ReadingLemmas.{reads_there_from}
use Rattle.choice_settling.proofs.ListLaws.{begins_in_list}
use Rattle.choice_settling.proofs.UnitPlaces.{list_fits_in}

module _ (path here : List Formula) (outer : Option Spot) (kind : Terminal) (token : Seen) (place : Spot) (old : List (Choice Item)) where
  -- what the token leads to at the place is what it leads to in the node
  leads_in_node : (after : (ℕ → Bool) → Standing)
      → ((on : ℕ → Bool) → IsTrue (all_true on (conditions_of path)) → (frames : List (Frame Seen)) → IsAround outer frames
      → outcome of_seen kind token (frames_at (plain_place place) (values (seen_in on old)) frames) ≡ outcome of_seen kind token (frame (plain_place place) (values (seen_in on old)) ∷ frames))
      → ReadsAll [] here outer kind token (λ on. in_node (plain_place place) (seen_in on old)) after
      → ReadsAll path here outer kind token (λ on. at_place (plain_place place) (seen_in on old)) after
  leads_in_node after same reads = λ on p h sound.
      reads_there_from outer kind token (at_place (plain_place place) (seen_in on old)) (in_node (plain_place place) (seen_in on old)) (after on) (λ fits_in. fits_in) (same on p)
      (reads on refl h (record { fit = sound.fit; clean = tt }))

  -- in no list
  pub read_no_list : (after : (ℕ → Bool) → Standing) → IsNoListAround place outer
      → ReadsAll [] here outer kind token (λ on. in_node (plain_place place) (seen_in on old)) after
      → ReadsAll path here outer kind token (λ on. at_place (plain_place place) (seen_in on old)) after
  read_no_list after none reads = leads_in_node after (λ on p frames around.
      ap (λ fs. outcome of_seen kind token fs) (begun_no_list outer place (seen_in on old) none frames around)) reads

entered_list : (place around : Spot) (outer : Option Spot) (kind : Terminal) (token : Seen) (values : List Seen) (frames : List (Frame Seen))
    → IsListAround place outer around → IsAround outer frames → IsTrue (begins_part (move (plain_place place) kind))
    → outcome of_seen kind token (frames_at (plain_place place) values frames) ≡ outcome of_seen kind token (frame (plain_place place) values ∷ frames)
entered_list place around outer kind token (first ∷ rest) frames list is begins = refl
entered_list place around None kind token [] frames list is begins = absurd list
entered_list place around (Some behind) kind token [] [] list is begins = absurd is
entered_list place around (Some behind) kind token [] (node ∷ frames) list is begins =
    let found : around_of (plain_place place) node.place ≡ plain_place around ∷ [] = ap (around_of (plain_place place)) is ∙ list.0 in
    ap (λ places. outcome of_seen kind token (without_list places (plain_place place) node frames)) found
    ∙ begins_in_list (plain_place place) (plain_place around) kind token node frames found begins

-- where it hasn't begun, the token is read in the node around it
unbegun_leads : (place around : Spot) (outer : Option Spot) (kind : Terminal) (token : Seen) (values : List Seen) (frames : List (Frame Seen))
    → IsListAround place outer around → is_empty values ≡ true → IsAround outer frames
    → without_entry (plain_place around) frames kind token ≡ outcome of_seen kind token (frames_at (plain_place place) values frames)
unbegun_leads place around outer kind token (first ∷ rest) frames list none is = absurd (cc none)
unbegun_leads place around None kind token [] frames list none is = absurd list
unbegun_leads place around (Some behind) kind token [] [] list none is = absurd is
unbegun_leads place around (Some behind) kind token [] (node ∷ frames) list none is =
    ap (λ places. outcome of_seen kind token (without_list places (plain_place place) node frames)) (sym (ap (around_of (plain_place place)) is ∙ list.0))

around_fits : (place around : Spot) (outer : Option Spot) → IsListAround place outer around → IsTrue (unbegun (plain_place around)).fits
around_fits place around None list = absurd list
around_fits place around (Some behind) list = list.1

not_empty : (b : Bool) → not b ≡ true → b ≡ false
not_empty true is = sym is
not_empty false is = refl

empty : (b : Bool) → not b ≡ false → b ≡ true
empty true is = refl
empty false is = sym is

module _
    (path here : List Formula) (outer : Option Spot) (kind : Terminal) (token : Seen) (place around : Spot) (old : List (Choice Item)) (list : IsListAround place outer around)
  where
    -- an entry begins
    pub read_entered : (after : (ℕ → Bool) → Standing) → IsTrue (begins_part (move (plain_place place) kind))
        → ReadsAll [] here outer kind token (λ on. in_node (plain_place place) (seen_in on old)) after
        → ReadsAll path here outer kind token (λ on. at_place (plain_place place) (seen_in on old)) after
    read_entered after begins reads = leads_in_node path here outer kind token place old after (λ on p frames is.
        entered_list place around outer kind token (values (seen_in on old)) frames list is begins) reads

    at_unbegun : (on : ℕ → Bool) → is_empty (values (seen_in on old)) ≡ true → ReadsThere outer kind token (at_place (plain_place place) (seen_in on old)) (unbegun (plain_place around))
    at_unbegun on none = record {
      fit = around_fits place around outer list;
      fit_in = λ fits_in. list_fits_in outer place around list;
      reads = λ frames is. unbegun_leads place around outer kind token (values (seen_in on old)) frames list none is;
    }

    module _
        (some : Formula) (is : (on : ℕ → Bool) → IsTrue (all_true on (conditions_of path)) → value on (condition_of some) ≡ not (is_empty (values (seen_in on old))))
      where
        -- the list hasn't begun
        pub read_unbegun : (state : State) (new : List (Choice Item)) (waits : Bool) → state ≡ Unbegun around waits
            → ((on : ℕ → Bool) → IsTrue (all_true on (conditions_of path)) → value on (condition_of some) ≡ false)
            → ReadsAll path here outer kind token (λ on. at_place (plain_place place) (seen_in on old)) (stood state new)
        read_unbegun state new waits state_is none = λ on p h sound.
            subst (λ s. ReadsThere outer kind token (at_place (plain_place place) (seen_in on old)) s) (sym (ap (λ s. standing s on (seen_in on new)) state_is ∙ standing-Unbegun around waits on (seen_in on new)))
            (at_unbegun on (empty (is_empty (values (seen_in on old))) (sym (is on p) ∙ none on p)))

        -- it has begun
        pub read_begun : (after : (ℕ → Bool) → Standing) → ((on : ℕ → Bool) → IsTrue (all_true on (conditions_of path)) → IsTrue (value on (condition_of some)))
            → ReadsAll [] here outer kind token (λ on. in_node (plain_place place) (seen_in on old)) after
            → ReadsAll path here outer kind token (λ on. at_place (plain_place place) (seen_in on old)) after
        read_begun after begun reads = leads_in_node path here outer kind token place old after (λ on p frames around_is.
            ap (λ fs. outcome of_seen kind token fs) (begun_some outer (plain_place place) (seen_in on old) (not_empty (is_empty (values (seen_in on old))) (sym (is on p) ∙ begun on p)) frames around_is)) reads

        by_some : (b : Bool) (on : ℕ → Bool) (begun_so unbegun_so after : Standing) → b ≡ not (is_empty (values (seen_in on old)))
            → after ≡ (if b then begun_so else unbegun_so) → unbegun_so ≡ unbegun (plain_place around)
            → IsSound (at_place (plain_place place) (seen_in on old)) → ReadsThere outer kind token (in_node (plain_place place) (seen_in on old)) begun_so
            → ReadsThere outer kind token (at_place (plain_place place) (seen_in on old)) after
        by_some true on begun_so unbegun_so after b_is after_is not_begun sound reads =
            subst (λ s. ReadsThere outer kind token (at_place (plain_place place) (seen_in on old)) s) (sym after_is)
            (reads_there_from outer kind token (at_place (plain_place place) (seen_in on old)) (in_node (plain_place place) (seen_in on old)) begun_so (λ fits_in. fits_in) (λ frames around_is.
            ap (λ fs. outcome of_seen kind token fs) (begun_some outer (plain_place place) (seen_in on old) (not_empty (is_empty (values (seen_in on old))) (sym b_is)) frames around_is)) reads)
        by_some false on begun_so unbegun_so after b_is after_is not_begun sound reads =
            subst (λ s. ReadsThere outer kind token (at_place (plain_place place) (seen_in on old)) s) (sym (after_is ∙ not_begun)) (at_unbegun on (empty (is_empty (values (seen_in on old))) (sym b_is)))

        -- it has begun in some configurations
        pub read_either : (begun_so unbegun_so state : State) (new : List (Choice Item)) (waits : Bool) → unbegun_so ≡ Unbegun around waits → StandsAsSplit some begun_so unbegun_so state
            → ReadsAll [] here outer kind token (λ on. in_node (plain_place place) (seen_in on old)) (stood begun_so new)
            → ReadsAll path here outer kind token (λ on. at_place (plain_place place) (seen_in on old)) (stood state new)
        read_either begun_so unbegun_so state new waits not_begun split reads = λ on p h sound.
            by_some (value on (condition_of some)) on (stood begun_so new on) (stood unbegun_so new on) (stood state new on) (is on p) (split on (seen_in on new))
            (ap (λ s. standing s on (seen_in on new)) not_begun ∙ standing-Unbegun around waits on (seen_in on new)) sound (reads on refl h (record { fit = sound.fit; clean = tt }))
