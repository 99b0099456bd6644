-- A token is read in a node or behind a part of it.
use Rattle.std.proofs.Common.{◌≡◌, ℕ, Bool, List, [], ◌∷◌, ◌++◌, Option, Some, IsTrue, refl, sym, ap, ◌∙◌, subst}
use Rattle.std.specs.Bool.{if◌then◌else◌}
use Rattle.std.specs.declared.alloc.Global.{Global}
use Rattle.std.specs.Prelude.{Vec, Box}
use Rattle.cond_formula.specs.declared.formulas.Formula.{Formula}
use Rattle.cond_formula.specs.Features.{has}
use Rattle.cond_formula.specs.Conditions.{Condition, condition_of, conditions_of, value, all_true}
use Rattle.c_tree.specs.declared.terminals.Terminal.{Terminal}
use Rattle.c_tree.specs.Places.{back}
use Rattle.c_tree.specs.Machine.{frame, outcome}
use Rattle.choice_trees.specs.declared.trees.Choice.{Choice}
use Rattle.choice_trees.specs.declared.trees.Item.{Item}
use Rattle.grammar_moves.specs.declared.places.Place.{Place as Spot}
use Rattle.grammar_moves.specs.PlainPlaces.{plain_place}
use Rattle.choice_states.specs.declared.states.State.{State, Dead, In}
use Rattle.choice_states.specs.declared.states.After.{After}
use Rattle.choice_states.specs.declared.states.After.TheVariants as after_variant
use Rattle.choice_states.specs.Seen.{Seen, Parts, of_seen, choice_seen, seen_in}
use Rattle.choice_states.specs.Parts.{values, parts_fit_within, Pushed}
use Rattle.choice_states.specs.Lists.{frames_at, place_fits_in}
use Rattle.choice_states.specs.States.{Standing, at_place, within, arriving, arrived, unbegun, standing, open_node, becoming}
use Rattle.choice_states.specs.StateLaws.{standing-Dead, standing-In, becoming-Dead, becoming-Open, becoming-Whole, becoming-Unbegun, becoming-Split}
use Rattle.choice_states.specs.Alike.{StandsAsSplit}
use Rattle.choice_settling.specs.Leaving.{StaysInside, IsLeft}
use Rattle.choice_settling.specs.Steps.{stood, place_around, SameElsewhere, IsSound, ReadsIfThere, ReadsSo, ReadsAfter}
use Rattle.choice_settling.proofs.FrameLemmas.{frames_inside, arrives_so}
use Rattle.choice_settling.proofs.SettlingLemmas.{both_of, sound_in, inner_fits_in}
use Rattle.choice_settling.proofs.UnitPlaces.{back_fits_in, around_fits_in}
use Rattle.choice_reading.proofs.ReadingLemmas.{reads_finished, reads_open, reads_dead, fits_arrived, reads_fits_in, alike_behind, seen_there, reads_from}
use Rattle.choice_reading.proofs.ReadSplits.{each_becomes}
use Rattle.choice_settling.proofs.Divisions.{Divides}
use Rattle.choice_reading.proofs.TokenFits.{back_fit}
use Rattle.choice_settling.proofs.ListLaws.{around_inside, around_fits}

-- what becomes of the part is what it is where it is read
left_reads : (there : Bool) (behind : Spot) (kind : Terminal) (token : Seen) (path : List Formula) (when : Formula) (on : ℕ → Bool) (a b c : Standing)
    → IsTrue (all_true on (conditions_of path)) → there ≡ value on (condition_of when) → IsLeft path when on b c → ReadsIfThere there (Some behind) kind token a b → ReadsIfThere there (Some behind) kind token a c
left_reads there behind kind token path when on a b c p is left reads =
    let found = left (fits_arrived there (Some behind) kind token a b reads) in
    reads_finished there behind kind token a b c found.0 (λ t l. found.2 p (sym is ∙ t) l) (λ fits. found.1) reads

-- in a part of the node
pub reads_in : (admits admits_behind : Condition) (when : Condition) (path here path_inside nowhere : List Formula) (outer outer_inside : Option Spot) (place : Spot) (kind : Terminal) (token : Seen)
    (inner : Vec (Choice Item) Global) (rest : Box State Global) (state rest_at inside_new new : State) (parts inner_new parts_new : List (Choice Item))
    → state ≡ In place inner rest → path_inside ≡ path → nowhere ≡ [] → outer_inside ≡ Some place → admits_behind ≡ admits → rest_at ≡ rest.value
    → ReadsSo admits path_inside nowhere when outer_inside kind token (stood rest_at inner.items) (stood inside_new inner_new)
    → ReadsAfter admits_behind path here when outer place kind token (stood inside_new inner_new) (λ on. seen_in on parts) (stood new parts_new)
    → ReadsSo admits path here when outer kind token (stood state parts) (stood new parts_new)
reads_in admits admits_behind when path here path_inside nowhere outer outer_inside place kind token inner rest state rest_at inside_new new parts inner_new parts_new state_is same none around kept rest_is inside behind = λ c admitted p h sound.
    let is : stood state parts (has c) ≡ within (plain_place place) (stood rest.value inner.items (has c)) (seen_in (has c) parts) =
    ap (λ s. standing s (has c) (seen_in (has c) parts)) state_is ∙ standing-In place inner rest (has c) (seen_in (has c) parts) in
    let is_sound : IsSound (within (plain_place place) (stood rest.value inner.items (has c)) (seen_in (has c) parts)) = subst IsSound is sound in
    subst (λ s. ReadsIfThere (value (has c) when) outer kind token s (stood new parts_new (has c))) (sym is)
    (behind c (ap (value (has c)) kept ∙ admitted) p h (stood rest.value inner.items (has c)) is_sound
    (subst (λ s. ReadsIfThere (value (has c) when) (Some place) kind token (stood s inner.items (has c)) (stood inside_new inner_new (has c))) rest_is
    (subst (λ o. ReadsIfThere (value (has c) when) o kind token (stood rest_at inner.items (has c)) (stood inside_new inner_new (has c))) around
    (inside c admitted (ap (λ fs. all_true (has c) (conditions_of fs)) same ∙ p) (ap (λ fs. all_true (has c) (conditions_of fs)) none) (subst (λ s. IsSound (stood s inner.items (has c))) (sym rest_is) (sound_in (plain_place place) (stood rest.value inner.items (has c)) (seen_in (has c) parts) is_sound))))))

-- what has become of the part is read behind it
pub reads_behind : (admits : Condition) (when : Formula) (path here : List Formula) (outer : Option Spot) (place : Spot) (kind : Terminal) (token : Seen)
    (inside after : (ℕ → Bool) → Standing) (parts : (ℕ → Bool) → Parts) (new : (ℕ → Bool) → Standing)
    → ((on : ℕ → Bool) → IsLeft path when on (inside on) (after on))
    → ReadsAfter admits path here (condition_of when) outer place kind token after parts new → ReadsAfter admits path here (condition_of when) outer place kind token inside parts new
reads_behind admits when path here outer place kind token inside after parts new left behind = λ c admitted p h inner sound reads.
    behind c admitted p h inner sound (left_reads (value (has c) (condition_of when)) place kind token path when (has c) inner (inside (has c)) (after (has c)) p refl (left (has c)) reads)

-- one stays in the part, and so in the node
pub reads_inside : (admits when : Condition) (path here : List Formula) (outer : Option Spot) (place : Spot) (kind : Terminal) (token : Seen)
    (state : State) (inner : Vec (Choice Item) Global) (rest : Box State Global) (parts : List (Choice Item)) → StaysInside state → rest.value ≡ state
    → ReadsAfter admits path here when outer place kind token (stood state inner.items) (λ on. seen_in on parts) (stood (In place inner rest) parts)
reads_inside admits when path here outer place kind token state inner rest parts inside rest_is = λ c admitted p h before sound reads.
    let opened : open_node (stood rest.value inner.items (has c)) ≡ stood state inner.items (has c) =
    ap (λ s. open_node (stood s inner.items (has c))) rest_is ∙ inside (has c) (seen_in (has c) inner.items) in
    subst (λ s. ReadsIfThere (value (has c) when) outer kind token (within (plain_place place) before (seen_in (has c) parts)) s) (sym (standing-In place inner rest (has c) (seen_in (has c) parts)))
    (reads_open (value (has c) when) outer kind token place before (stood rest.value inner.items (has c)) (seen_in (has c) parts) sound
    (subst (λ s. ReadsIfThere (value (has c) when) (Some place) kind token before s) (sym opened) reads))

-- ---- behind a part

module _
    (admits when : Condition) (path here : List Formula) (outer : Option Spot) (place : Spot) (kind : Terminal) (token : Seen) (old new : List (Choice Item)) (after : After) (state : State)
  where
    pub after_dead : after ≡ after_variant.Dead → state ≡ Dead → ReadsAfter admits path here when outer place kind token (becoming after) (λ on. seen_in on old) (stood state new)
    after_dead after_is state_is = λ c admitted p h inner sound reads.
        subst (λ s. ReadsIfThere (value (has c) when) outer kind token (within (plain_place place) inner (seen_in (has c) old)) s) (sym (ap (λ s. standing s (has c) (seen_in (has c) new)) state_is ∙ standing-Dead (has c) (seen_in (has c) new)))
        (reads_dead (value (has c) when) outer kind token (plain_place place) inner (seen_in (has c) old) place refl
        (subst (λ s. ReadsIfThere (value (has c) when) (Some place) kind token inner s) (ap (λ a. becoming a (has c)) after_is ∙ becoming-Dead (has c)) reads))

    pub after_open : (inside : Vec (Choice Item) Global) (rest : Box State Global) → after ≡ after_variant.Open inside rest → state ≡ In place inside rest → new ≡ old
        → ReadsAfter admits path here when outer place kind token (becoming after) (λ on. seen_in on old) (stood state new)
    after_open inside rest after_is state_is same = λ c admitted p h inner sound reads.
        subst (λ s. ReadsIfThere (value (has c) when) outer kind token (within (plain_place place) inner (seen_in (has c) old)) s)
        (sym (ap (λ s. standing s (has c) (seen_in (has c) new)) state_is ∙ standing-In place inside rest (has c) (seen_in (has c) new) ∙ ap (λ ps. within (plain_place place) (standing rest.value (has c) (seen_in (has c) inside.items)) (seen_in (has c) ps)) same))
        (reads_open (value (has c) when) outer kind token place inner (standing rest.value (has c) (seen_in (has c) inside.items)) (seen_in (has c) old) sound
        (subst (λ s. ReadsIfThere (value (has c) when) (Some place) kind token inner s) (ap (λ a. becoming a (has c)) after_is ∙ becoming-Open inside rest (has c)) reads))

    pub after_whole : (part : Choice Item) (ended behind : Spot) (pushed : List (Choice Item)) → after ≡ after_variant.Whole part ended → plain_place behind ≡ back (plain_place place) (plain_place ended)
        → ((on : ℕ → Bool) (v : Seen) → IsTrue (all_true on (conditions_of here)) → choice_seen on part ≡ Some v → IsTrue (parts_fit_within (plain_place behind) (seen_in on old)) → Pushed (plain_place behind) (seen_in on old) (seen_in on pushed) v)
        → ReadsSo admits path here when outer kind token (λ on. at_place (plain_place behind) (seen_in on pushed)) (stood state new)
        → ReadsAfter admits path here when outer place kind token (becoming after) (λ on. seen_in on old) (stood state new)
    after_whole part ended behind pushed after_is behind_is pushes next = λ c admitted p h inner sound reads.
        let whole : ReadsIfThere (value (has c) when) (Some place) kind token inner (arrived (choice_seen (has c) part) (plain_place ended)) =
        subst (λ s. ReadsIfThere (value (has c) when) (Some place) kind token inner s) (ap (λ a. becoming a (has c)) after_is ∙ becoming-Whole part ended (has c)) reads in
        let found : (v : Seen) × (choice_seen (has c) part ≡ Some v) =
        seen_there (choice_seen (has c) part) (fits_arrived (value (has c) when) (Some place) kind token inner (arrived (choice_seen (has c) part) (plain_place ended)) whole) in
        let fits : IsTrue (parts_fit_within (plain_place behind) (seen_in (has c) old)) =
        ap (λ b. parts_fit_within b (seen_in (has c) old)) behind_is ∙ back_fit (plain_place place) (plain_place ended) (seen_in (has c) old) (both_of (parts_fit_within (plain_place place) (seen_in (has c) old)) inner.fits sound.fit) in
        let grown : Pushed (plain_place behind) (seen_in (has c) old) (seen_in (has c) pushed) found.0 = pushes (has c) found.0 h found.1 fits in
        reads_from (value (has c) when) outer kind token (within (plain_place place) inner (seen_in (has c) old)) (at_place (plain_place behind) (seen_in (has c) pushed)) (stood state new (has c)) (λ left. cc left)
        (λ fits_in. subst (λ p. IsTrue (place_fits_in p (place_around outer))) (sym behind_is) (back_fits_in (plain_place place) (plain_place ended) (place_around outer)
        (both_of (place_fits_in (plain_place place) (place_around outer)) (inner.fits_in (Some (plain_place place))) fits_in)))
        (alike_behind (value (has c) when) outer kind token place inner (arrived (choice_seen (has c) part) (plain_place ended)) (at_place (plain_place behind) (seen_in (has c) pushed)) (seen_in (has c) old) refl whole (λ frames k t.
        ap (λ vs. outcome of_seen k t (frames_at (plain_place behind) vs frames)) grown.values_are
        ∙ ap (λ b. outcome of_seen k t (frames_at b (values (seen_in (has c) old) ++ found.0 ∷ []) frames)) behind_is
        ∙ arrives_so (plain_place place) (plain_place ended) (values (seen_in (has c) old)) found.0 frames k t
        ∙ ap (λ seen. arriving seen (plain_place ended) (frame (plain_place place) (values (seen_in (has c) old)) ∷ frames) k t) (sym found.1)))
        (next c admitted p h (record { fit = grown.fit; clean = tt }))

    pub after_unbegun : (around : Spot) → after ≡ after_variant.Unbegun around
        → ReadsSo admits path here when outer kind token (λ on. at_place (plain_place around) (seen_in on old)) (stood state new)
        → ReadsAfter admits path here when outer place kind token (becoming after) (λ on. seen_in on old) (stood state new)
    after_unbegun around after_is next = λ c admitted p h inner sound reads.
        let left : ReadsIfThere (value (has c) when) (Some place) kind token inner (unbegun (plain_place around)) =
        subst (λ s. ReadsIfThere (value (has c) when) (Some place) kind token inner s) (ap (λ a. becoming a (has c)) after_is ∙ becoming-Unbegun around (has c)) reads in
        let fits : IsTrue (unbegun (plain_place around)).fits = fits_arrived (value (has c) when) (Some place) kind token inner (unbegun (plain_place around)) left in
        reads_from (value (has c) when) outer kind token (within (plain_place place) inner (seen_in (has c) old)) (at_place (plain_place around) (seen_in (has c) old)) (stood state new (has c)) (λ left. cc left)
        (λ fits_in. around_fits_in (plain_place place) (plain_place around) (place_around outer)
        (inner_fits_in (plain_place place) (place_around outer) inner (unbegun (plain_place around)) (reads_fits_in (value (has c) when) (Some place) kind token inner (unbegun (plain_place around)) left) fits_in))
        (alike_behind (value (has c) when) outer kind token place inner (unbegun (plain_place around)) (at_place (plain_place around) (seen_in (has c) old)) (seen_in (has c) old) refl left (λ frames k t.
        ap (λ fs. outcome of_seen k t fs) (frames_inside (plain_place around) (values (seen_in (has c) old)) frames (around_inside (plain_place around) fits))))
        (next c admitted p h (record { fit = around_fits (plain_place around) (seen_in (has c) old) fits; clean = tt }))

-- one of two alternatives became of the part
pub after_split :
    (admits admits_behind when : Condition) (path here first_path first_here second_path second_here : List Formula) (f : Formula) (outer : Option Spot) (place : Spot) (kind : Terminal) (token : Seen) (old mid new : List (Choice Item))
    (after : After) (first second : Box After Global) (first_at second_at : After) (first_new second_new state : State) (outer_first outer_second : Option Spot) → outer_first ≡ outer → outer_second ≡ outer → after ≡ after_variant.Split f first second → first_at ≡ first.value → second_at ≡ second.value → admits_behind ≡ admits
    → Divides path f first_path second_path → Divides here f first_here second_here → SameElsewhere first_here old mid → SameElsewhere second_here mid new → StandsAsSplit f first_new second_new state
    → ReadsAfter admits first_path first_here when outer_first place kind token (becoming first_at) (λ on. seen_in on old) (stood first_new mid)
    → ReadsAfter admits_behind second_path second_here when outer_second place kind token (becoming second_at) (λ on. seen_in on mid) (stood second_new new)
    → ReadsAfter admits path here when outer place kind token (becoming after) (λ on. seen_in on old) (stood state new)
after_split admits admits_behind when path here first_path first_here second_path second_here f outer place kind token old mid new after first second first_at second_at first_new second_new state outer_first outer_second around around_too after_is first_is second_is kept paths heres one other is a b = λ c admitted p h inner sound reads.
    each_becomes (λ became parts now. IsSound (within (plain_place place) inner parts) → ReadsIfThere (value (has c) when) (Some place) kind token inner became → ReadsIfThere (value (has c) when) outer kind token (within (plain_place place) inner parts) now)
    (value (has c) (condition_of f)) (all_true (has c) (conditions_of path)) (all_true (has c) (conditions_of here)) (all_true (has c) (conditions_of first_path)) (all_true (has c) (conditions_of first_here))
    (all_true (has c) (conditions_of second_path)) (all_true (has c) (conditions_of second_here)) (seen_in (has c) old) (seen_in (has c) mid) (seen_in (has c) new)
    (becoming first_at (has c)) (becoming second_at (has c)) (standing first_new (has c)) (standing second_new (has c)) (becoming after (has c)) (stood state new (has c))
    (paths.first (has c)) (paths.second (has c)) (heres.first (has c)) (heres.second (has c)) (one (has c)) (other (has c))
    (ap (λ x. becoming x (has c)) after_is ∙ becoming-Split f first second (has c)
    ∙ ap (λ x. if value (has c) (condition_of f) then becoming x (has c) else becoming second.value (has c)) (sym first_is)
    ∙ ap (λ x. if value (has c) (condition_of f) then becoming first_at (has c) else becoming x (has c)) (sym second_is)) (is (has c) (seen_in (has c) new))
    (λ fp fh s r. subst (λ o. ReadsAfter admits first_path first_here when o place kind token (becoming first_at) (λ on. seen_in on old) (stood first_new mid)) around a c admitted fp fh inner s r)
    (λ sp sh s r. subst (λ o. ReadsAfter admits_behind second_path second_here when o place kind token (becoming second_at) (λ on. seen_in on mid) (stood second_new new)) around_too b c (ap (value (has c)) kept ∙ admitted) sp sh inner s r) p h sound reads
