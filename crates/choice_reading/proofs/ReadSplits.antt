-- Two alternatives, of which one is taken: what is said of the reading of each is said of both.
use Rattle.std.proofs.Common.{◌≡◌, ℕ, Bool, true, false, not, ◌&&◌, List, Option, IsTrue, refl, sym, ap, ◌∙◌, subst}
use Rattle.std.specs.Bool.{if◌then◌else◌}
use Rattle.cond_formula.specs.declared.formulas.Formula.{Formula}
use Rattle.cond_formula.specs.Features.{has}
use Rattle.cond_formula.specs.Conditions.{Condition, condition_of, conditions_of, value, all_true}
use Rattle.c_tree.specs.declared.terminals.Terminal.{Terminal}
use Rattle.path_conditions.specs.Presences.{IsEverywhere}
use Rattle.choice_trees.specs.declared.trees.Choice.{Choice}
use Rattle.choice_trees.specs.declared.trees.Item.{Item}
use Rattle.grammar_moves.specs.declared.places.Place.{Place as Spot}
use Rattle.choice_states.specs.Seen.{Seen, Parts, seen_in}
use Rattle.choice_states.specs.declared.states.State.{State}
use Rattle.choice_states.specs.States.{Standing, standing}
use Rattle.choice_states.specs.Alike.{StandsAsSplit}
use Rattle.choice_settling.specs.Leaving.{IsThere, spot_at}
use Rattle.choice_reading.specs.Pushing.{ReadsPlaces}
use Rattle.choice_settling.proofs.Divisions.{Divides}
use Rattle.choice_settling.specs.Steps.{stood, SameElsewhere, IsSound, ReadsThere, Keeps, ReadsIfThere, ReadsSo}

-- The alternatives are dealt with one after the other, and neither changes what is seen where the other is taken: what is said of each where it stands in a node is said of both
pub each_stands :
    (R : Standing → Standing → Type 0) (f path here first_path first_here second_path second_here : Bool) (old mid new : Parts)
    (first second first_new second_new : Parts → Standing) (before after : Standing)
    → first_path ≡ (path && f) → second_path ≡ (path && not f) → first_here ≡ (here && f) → second_here ≡ (here && not f)
    → (first_here ≡ false → mid ≡ old) → (second_here ≡ false → new ≡ mid)
    → before ≡ (if f then first old else second old) → after ≡ (if f then first_new new else second_new new)
    → (IsTrue first_path → IsTrue first_here → IsSound (first old) → R (first old) (first_new mid))
    → (IsTrue second_path → IsTrue second_here → IsSound (second mid) → R (second mid) (second_new new))
    → IsTrue path → IsTrue here → IsSound before → R before after
each_stands R true path here first_path first_here second_path second_here old mid new first second first_new second_new before after fp sp fh sh same_mid same_new was is one other p h sound =
    subst (λ s. R s after) (sym was) (subst (λ s. R (first old) s) (sym (is ∙ ap first_new (same_new (sh ∙ ap (λ b. b && false) h))))
    (one (fp ∙ ap (λ b. b && true) p) (fh ∙ ap (λ b. b && true) h) (subst IsSound was sound)))
each_stands R false path here first_path first_here second_path second_here old mid new first second first_new second_new before after fp sp fh sh same_mid same_new was is one other p h sound =
    let was_so : before ≡ second mid = was ∙ ap second (sym (same_mid (fh ∙ ap (λ b. b && false) h))) in
    subst (λ s. R s after) (sym was_so) (subst (λ s. R (second mid) s) (sym is)
    (other (sp ∙ ap (λ b. b && true) p) (sh ∙ ap (λ b. b && true) h) (subst IsSound was_so sound)))

-- what is said of each behind which a node goes on is said of both
pub each_becomes :
    (A : Standing → Parts → Standing → Type 0) (f path here first_path first_here second_path second_here : Bool) (old mid new : Parts)
    (first second : Standing) (first_new second_new : Parts → Standing) (before after : Standing)
    → first_path ≡ (path && f) → second_path ≡ (path && not f) → first_here ≡ (here && f) → second_here ≡ (here && not f)
    → (first_here ≡ false → mid ≡ old) → (second_here ≡ false → new ≡ mid)
    → before ≡ (if f then first else second) → after ≡ (if f then first_new new else second_new new)
    → (IsTrue first_path → IsTrue first_here → A first old (first_new mid))
    → (IsTrue second_path → IsTrue second_here → A second mid (second_new new))
    → IsTrue path → IsTrue here → A before old after
each_becomes A true path here first_path first_here second_path second_here old mid new first second first_new second_new before after fp sp fh sh same_mid same_new was is one other p h =
    subst (λ s. A s old after) (sym was) (subst (λ s. A first old s) (sym (is ∙ ap first_new (same_new (sh ∙ ap (λ b. b && false) h))))
    (one (fp ∙ ap (λ b. b && true) p) (fh ∙ ap (λ b. b && true) h)))
each_becomes A false path here first_path first_here second_path second_here old mid new first second first_new second_new before after fp sp fh sh same_mid same_new was is one other p h =
    subst (λ s. A s old after) (sym was) (subst (λ s. A second old s) (sym is) (subst (λ ps. A second ps (second_new new)) (same_mid (fh ∙ ap (λ b. b && false) h))
    (other (sp ∙ ap (λ b. b && true) p) (sh ∙ ap (λ b. b && true) h))))

-- ---- where a token is there, and elsewhere

pub keeps_same : (outer : Option Spot) (s : Standing) → IsSound s → Keeps outer s s
keeps_same outer s sound = record { sound = sound; fit_in = λ fits_in. fits_in; still = λ unleft. unleft; leads_are = λ frames around kind token. refl }

pub reads_present : (there : Bool) (outer : Option Spot) (kind : Terminal) (token : Seen) (before after : Standing) → there ≡ true → ReadsThere outer kind token before after
    → ReadsIfThere there outer kind token before after
reads_present there outer kind token before after is reads = subst (λ b. ReadsIfThere b outer kind token before after) (sym is) reads

pub reads_absent : (there : Bool) (outer : Option Spot) (kind : Terminal) (token : Seen) (before after : Standing) → there ≡ false → after ≡ before → IsSound before
    → ReadsIfThere there outer kind token before after
reads_absent there outer kind token before after is same sound =
    subst (λ b. ReadsIfThere b outer kind token before after) (sym is) (subst (λ s. Keeps outer before s) (sym same) (keeps_same outer before sound))

-- it is read where it is there
pub reads_divided :
    (outer : Option Spot) (kind : Terminal) (token : Seen) (when left path here path_there here_there : Bool) (old new : Parts) (there otherwise : Parts → Standing) (before after : Standing)
    → (IsTrue path → left ≡ when) → path_there ≡ (path && left) → here_there ≡ (here && left)
    → (here_there ≡ false → new ≡ old) → otherwise old ≡ before → after ≡ (if left then there new else otherwise new)
    → (IsTrue path_there → IsTrue here_there → IsSound before → ReadsThere outer kind token before (there new))
    → IsTrue path → IsTrue here → IsSound before → ReadsIfThere when outer kind token before after
reads_divided outer kind token when true path here path_there here_there old new there otherwise before after left_is pt ht same stood is reads p h sound =
    reads_present when outer kind token before after (sym (left_is p))
    (subst (λ s. ReadsThere outer kind token before s) (sym is) (reads (pt ∙ ap (λ b. b && true) p) (ht ∙ ap (λ b. b && true) h) sound))
reads_divided outer kind token when false path here path_there here_there old new there otherwise before after left_is pt ht same stood is reads p h sound =
    reads_absent when outer kind token before after (sym (left_is p)) (is ∙ ap otherwise (same (ht ∙ ap (λ b. b && false) h)) ∙ stood) sound

-- what is known not to be there
pub so_absent : (admits when : Condition) (path here : List Formula) (outer : Option Spot) (kind : Terminal) (token : Seen) (before after : (ℕ → Bool) → Standing)
    → IsEverywhere admits path when false → ((on : ℕ → Bool) → after on ≡ before on) → ReadsSo admits path here when outer kind token before after
so_absent admits when path here outer kind token before after is same = λ c admitted p h sound.
    reads_absent (value (has c) when) outer kind token (before (has c)) (after (has c)) (is c admitted p) (same (has c)) sound

-- ---- the same of states

never : {A : Type 0} → (path longer : Bool) → longer ≡ (path && false) → IsTrue longer → A
never true longer is h = absurd (cc (is, h))
never false longer is h = absurd (cc (is, h))

there_first : (f path longer : Bool) (found first second : Option Spot) → longer ≡ (path && f) → IsTrue longer → found ≡ (if f then first else second) → IsThere found → IsThere first
there_first true path longer found first second is h found_is there = subst IsThere found_is there
there_first false path longer found first second is h found_is there = never path longer is h

there_second : (f path longer : Bool) (found first second : Option Spot) → longer ≡ (path && not f) → IsTrue longer → found ≡ (if f then first else second) → IsThere found → IsThere second
there_second false path longer found first second is h found_is there = subst IsThere found_is there
there_second true path longer found first second is h found_is there = never path longer is h

module _
    (path here first_path first_here second_path second_here : List Formula) (f : Formula) (old mid new : List (Choice Item)) (outer : Option Spot) (kind : Terminal) (token : Seen)
    (state first second first_new second_new result : State)
    (paths : Divides path f first_path second_path) (heres : Divides here f first_here second_here)
    (one : SameElsewhere first_here old mid) (other : SameElsewhere second_here mid new)
    (was : StandsAsSplit f first second state) (is : StandsAsSplit f first_new second_new result)
  where
    -- each alternative is read where it is the one
    each_reads : (R : (ℕ → Bool) → Standing → Standing → Type 0) (on : ℕ → Bool)
        → (IsTrue (all_true on (conditions_of first_path)) → IsTrue (all_true on (conditions_of first_here)) → IsSound (stood first old on) → R on (stood first old on) (stood first_new mid on))
        → (IsTrue (all_true on (conditions_of second_path)) → IsTrue (all_true on (conditions_of second_here)) → IsSound (stood second mid on) → R on (stood second mid on) (stood second_new new on))
        → IsTrue (all_true on (conditions_of path)) → IsTrue (all_true on (conditions_of here)) → IsSound (stood state old on) → R on (stood state old on) (stood result new on)
    each_reads R on a b =
        each_stands (R on) (value on (condition_of f)) (all_true on (conditions_of path)) (all_true on (conditions_of here)) (all_true on (conditions_of first_path)) (all_true on (conditions_of first_here))
        (all_true on (conditions_of second_path)) (all_true on (conditions_of second_here)) (seen_in on old) (seen_in on mid) (seen_in on new)
        (standing first on) (standing second on) (standing first_new on) (standing second_new on) (stood state old on) (stood result new on)
        (paths.first on) (paths.second on) (heres.first on) (heres.second on) (one on) (other on) (was on (seen_in on old)) (is on (seen_in on new)) a b

    pub reads_so_split : (admits when : Condition) → ReadsSo admits first_path first_here when outer kind token (stood first old) (stood first_new mid)
        → ReadsSo admits second_path second_here when outer kind token (stood second mid) (stood second_new new) → ReadsSo admits path here when outer kind token (stood state old) (stood result new)
    reads_so_split admits when a b = λ c admitted. each_reads (λ on s t. ReadsIfThere (value on when) outer kind token s t) (has c) (a c admitted) (b c admitted)

    -- in each alternative that is at a place
    pub reads_places_split : ((on : ℕ → Bool) → spot_at state on ≡ (if value on (condition_of f) then spot_at first on else spot_at second on))
        → ReadsPlaces first first_path first_here outer kind token (stood first old) (stood first_new mid) → ReadsPlaces second second_path second_here outer kind token (stood second mid) (stood second_new new)
        → ReadsPlaces state path here outer kind token (stood state old) (stood result new)
    reads_places_split found a b = λ on there. each_reads (λ o s t. ReadsThere outer kind token s t) on
        (λ fp. a on (there_first (value on (condition_of f)) (all_true on (conditions_of path)) (all_true on (conditions_of first_path)) (spot_at state on) (spot_at first on) (spot_at second on) (paths.first on) fp (found on) there) fp)
        (λ sp. b on (there_second (value on (condition_of f)) (all_true on (conditions_of path)) (all_true on (conditions_of second_path)) (spot_at state on) (spot_at first on) (spot_at second on) (paths.second on) sp (found on) there) sp)

-- it is read where it is there
pub reads_where : (path here path_there here_there : List Formula) (f : Formula) (when : Condition) (old new : List (Choice Item)) (outer : Option Spot) (kind : Terminal) (token : Seen)
    (there otherwise result : State) (before : Standing) (on : ℕ → Bool)
    → (IsTrue (all_true on (conditions_of path)) → value on (condition_of f) ≡ value on when)
    → all_true on (conditions_of path_there) ≡ (all_true on (conditions_of path) && value on (condition_of f))
    → all_true on (conditions_of here_there) ≡ (all_true on (conditions_of here) && value on (condition_of f))
    → SameElsewhere here_there old new → stood otherwise old on ≡ before → StandsAsSplit f there otherwise result
    → (IsTrue (all_true on (conditions_of path_there)) → IsTrue (all_true on (conditions_of here_there)) → IsSound before → ReadsThere outer kind token before (stood there new on))
    → IsTrue (all_true on (conditions_of path)) → IsTrue (all_true on (conditions_of here)) → IsSound before → ReadsIfThere (value on when) outer kind token before (stood result new on)
reads_where path here path_there here_there f when old new outer kind token there otherwise result before on left pt ht same alike is =
    reads_divided outer kind token (value on when) (value on (condition_of f)) (all_true on (conditions_of path)) (all_true on (conditions_of here)) (all_true on (conditions_of path_there)) (all_true on (conditions_of here_there))
    (seen_in on old) (seen_in on new) (standing there on) (standing otherwise on) before (stood result new on) left pt ht (same on) alike (is on (seen_in on new))
