-- Alternatives that no unit goes on as, and what the others stand for.
use Rattle.std.proofs.Common.{◌≡◌, Bool, true, false, not, ◌&&◌, ◌||◌, List, ◌∷◌, Option, Some, None, IsTrue, refl, sym, ap, ◌∙◌}
use Rattle.std.specs.Bool.{if◌then◌else◌}
use Rattle.std.specs.declared.alloc.Global.{Global}
use Rattle.std.specs.Prelude.{Box, Vec}
use Rattle.cond_formula.specs.declared.formulas.Formula.{Formula}
use Rattle.cond_formula.specs.Conditions.{condition_of, conditions_of, value, all_true}
use Rattle.c_tree.specs.declared.terminals.Terminal.{Terminal}
use Rattle.c_tree.specs.Machine.{Frame, frame, is_wrong}
use Rattle.grammar_moves.specs.declared.places.Place.{Place}
use Rattle.grammar_moves.specs.PlainPlaces.{plain_place}
use Rattle.choice_trees.specs.declared.trees.Choice.{Choice}
use Rattle.choice_trees.specs.declared.trees.Item.{Item}
use Rattle.choice_states.specs.declared.states.State.{State, In, Split}
use Rattle.choice_states.specs.Seen.{Seen, seen_in}
use Rattle.choice_states.specs.Parts.{values}
use Rattle.choice_states.specs.States.{Standing, standing}
use Rattle.choice_states.specs.StateLaws.{standing-In, standing-Split}
use Rattle.choice_parser.specs.Deaths.{is_dead, DeadIsWrong, LivesIfSome, LivesAsSplit, IsRefused}
use Rattle.choice_parser.specs.DeathLaws.{is_dead-In, is_dead-Split}
use Rattle.choice_settling.proofs.Divisions.{Divides}

none_such : {A : Type 0} → true ≡ false → A
none_such h = cc

-- ---- what is refused

or_false : (b : Bool) → (b || false) ≡ b
or_false true = refl
or_false false = refl

pub split_refused : (f path first_path second_path first second whole refused soon new : Bool)
    → first_path ≡ (path && f) → second_path ≡ (path && not f) → whole ≡ (if f then first else second)
    → soon ≡ (refused || (first_path && first)) → new ≡ (soon || (second_path && second)) → new ≡ (refused || (path && whole))
split_refused true true first_path second_path first second whole refused soon new one other is was now =
    now ∙ ap (λ b. soon || (b && second)) other ∙ or_false soon ∙ was ∙ ap (λ b. refused || (b && first)) one ∙ ap (λ b. refused || b) (sym is)
split_refused false true first_path second_path first second whole refused soon new one other is was now =
    now ∙ ap (λ b. soon || (b && second)) other ∙ ap (λ b. b || second) was ∙ ap (λ b. (refused || (b && first)) || second) one
    ∙ ap (λ b. b || second) (or_false refused) ∙ ap (λ b. refused || b) (sym is)
split_refused f false first_path second_path first second whole refused soon new one other is was now =
    now ∙ ap (λ b. soon || (b && second)) other ∙ or_false soon ∙ was ∙ ap (λ b. refused || (b && first)) one

-- ---- what lives

-- the path of the one alternative or the other
on_path : (path longer b : Bool) → longer ≡ (path && b) → IsTrue path → IsTrue b → IsTrue longer
on_path true longer true is there holds = is
on_path true longer false is there holds = is ∙ holds
on_path false longer b is there holds = is ∙ there

both_die : (f path first_path second_path first second whole : Bool)
    → first_path ≡ (path && f) → second_path ≡ (path && not f) → whole ≡ (if f then first else second) → IsTrue path
    → (IsTrue first_path → first ≡ true) → (IsTrue second_path → second ≡ true) → whole ≡ true
both_die true path first_path second_path first second whole one other is there dies die = is ∙ dies (on_path path first_path true one there refl)
both_die false path first_path second_path first second whole one other is there dies die = is ∙ die (on_path path second_path true other there refl)

second_lives : (f path first_path second_path dies_first dies_second dies : Bool) (whole first second second_new new : Standing)
    → first_path ≡ (path && f) → second_path ≡ (path && not f) → dies ≡ (if f then dies_first else dies_second)
    → whole ≡ (if f then first else second) → IsTrue path → dies ≡ false
    → (IsTrue first_path → dies_first ≡ true) → (IsTrue second_path → dies_second ≡ false → second_new ≡ second)
    → (f ≡ false → new ≡ second_new) → new ≡ whole
second_lives true path first_path second_path dies_first dies_second dies whole first second second_new new one other is was there alive died lives same =
    none_such (sym (is ∙ died (on_path path first_path true one there refl)) ∙ alive)
second_lives false path first_path second_path dies_first dies_second dies whole first second second_new new one other is was there alive died lives same =
    same refl ∙ lives (on_path path second_path true other there refl) (sym is ∙ alive) ∙ sym was

first_lives : (f path first_path second_path dies_first dies_second dies : Bool) (whole first second first_new new : Standing)
    → first_path ≡ (path && f) → second_path ≡ (path && not f) → dies ≡ (if f then dies_first else dies_second)
    → whole ≡ (if f then first else second) → IsTrue path → dies ≡ false
    → (IsTrue first_path → dies_first ≡ false → first_new ≡ first) → (IsTrue second_path → dies_second ≡ true)
    → (IsTrue f → new ≡ first_new) → new ≡ whole
first_lives true path first_path second_path dies_first dies_second dies whole first second first_new new one other is was there alive lives died same =
    same refl ∙ lives (on_path path first_path true one there refl) (sym is ∙ alive) ∙ sym was
first_lives false path first_path second_path dies_first dies_second dies whole first second first_new new one other is was there alive lives died same =
    none_such (sym (is ∙ died (on_path path second_path true other there refl)) ∙ alive)

both_live : (f path first_path second_path dies_first dies_second dies : Bool) (whole first second first_new second_new new : Standing)
    → first_path ≡ (path && f) → second_path ≡ (path && not f) → dies ≡ (if f then dies_first else dies_second)
    → whole ≡ (if f then first else second) → IsTrue path → dies ≡ false
    → (IsTrue first_path → dies_first ≡ false → first_new ≡ first) → (IsTrue second_path → dies_second ≡ false → second_new ≡ second)
    → new ≡ (if f then first_new else second_new) → new ≡ whole
both_live true path first_path second_path dies_first dies_second dies whole first second first_new second_new new one other is was there alive lives live now =
    now ∙ lives (on_path path first_path true one there refl) (sym is ∙ alive) ∙ sym was
both_live false path first_path second_path dies_first dies_second dies whole first second first_new second_new new one other is was there alive lives live now =
    now ∙ live (on_path path second_path true other there refl) (sym is ∙ alive) ∙ sym was

pub lives_split :
    (path first_path second_path : List Formula) (f : Formula) (first second : Box State Global) (first_new second_new new : Option State)
    → Divides path f first_path second_path → LivesIfSome first_path first.value first_new → LivesIfSome second_path second.value second_new
    → LivesAsSplit f first_new second_new new → LivesIfSome path (Split f first second) new
lives_split path first_path second_path f first second None None None paths one other as_split = λ on there.
    both_die (value on (condition_of f)) (all_true on (conditions_of path)) (all_true on (conditions_of first_path)) (all_true on (conditions_of second_path))
    (is_dead first.value on) (is_dead second.value on) (is_dead (Split f first second) on)
    (paths.first on) (paths.second on) (is_dead-Split f first second on) there (one on) (other on)
lives_split path first_path second_path f first second None None (Some new) paths one other as_split = absurd as_split
lives_split path first_path second_path f first second None (Some second_new) None paths one other as_split = absurd as_split
lives_split path first_path second_path f first second None (Some second_new) (Some new) paths one other as_split = λ on parts there alive.
    second_lives (value on (condition_of f)) (all_true on (conditions_of path)) (all_true on (conditions_of first_path)) (all_true on (conditions_of second_path))
    (is_dead first.value on) (is_dead second.value on) (is_dead (Split f first second) on)
    (standing (Split f first second) on parts) (standing first.value on parts) (standing second.value on parts) (standing second_new on parts) (standing new on parts)
    (paths.first on) (paths.second on) (is_dead-Split f first second on) (standing-Split f first second on parts) there alive (one on) (other on parts) (as_split on parts)
lives_split path first_path second_path f first second (Some first_new) None None paths one other as_split = absurd as_split
lives_split path first_path second_path f first second (Some first_new) None (Some new) paths one other as_split = λ on parts there alive.
    first_lives (value on (condition_of f)) (all_true on (conditions_of path)) (all_true on (conditions_of first_path)) (all_true on (conditions_of second_path))
    (is_dead first.value on) (is_dead second.value on) (is_dead (Split f first second) on)
    (standing (Split f first second) on parts) (standing first.value on parts) (standing second.value on parts) (standing first_new on parts) (standing new on parts)
    (paths.first on) (paths.second on) (is_dead-Split f first second on) (standing-Split f first second on parts) there alive (one on parts) (other on) (as_split on parts)
lives_split path first_path second_path f first second (Some first_new) (Some second_new) None paths one other as_split = absurd as_split
lives_split path first_path second_path f first second (Some first_new) (Some second_new) (Some new) paths one other as_split = λ on parts there alive.
    both_live (value on (condition_of f)) (all_true on (conditions_of path)) (all_true on (conditions_of first_path)) (all_true on (conditions_of second_path))
    (is_dead first.value on) (is_dead second.value on) (is_dead (Split f first second) on)
    (standing (Split f first second) on parts) (standing first.value on parts) (standing second.value on parts) (standing first_new on parts) (standing second_new on parts) (standing new on parts)
    (paths.first on) (paths.second on) (is_dead-Split f first second on) (standing-Split f first second on parts) there alive (one on parts) (other on parts) (as_split on parts)

pub refused_split :
    (path first_path second_path : List Formula) (f : Formula) (first second : Box State Global) (refused soon new : Formula)
    → Divides path f first_path second_path → IsRefused first_path first.value refused soon → IsRefused second_path second.value soon new
    → IsRefused path (Split f first second) refused new
refused_split path first_path second_path f first second refused soon new paths one other = λ on.
    split_refused (value on (condition_of f)) (all_true on (conditions_of path)) (all_true on (conditions_of first_path)) (all_true on (conditions_of second_path))
    (is_dead first.value on) (is_dead second.value on) (is_dead (Split f first second) on)
    (value on (condition_of refused)) (value on (condition_of soon)) (value on (condition_of new))
    (paths.first on) (paths.second on) (is_dead-Split f first second on) (one on) (other on)

-- ---- what is dead

split_wrong : (f a b : Bool) (first second : Standing) (frames : List (Frame Seen)) (kind : Terminal) (token : Seen) → (if f then a else b) ≡ true
    → (a ≡ true → first.leads frames kind token ≡ is_wrong) → (b ≡ true → second.leads frames kind token ≡ is_wrong) → (if f then first else second).leads frames kind token ≡ is_wrong
split_wrong true a b first second frames kind token dies x y = x dies
split_wrong false a b first second frames kind token dies x y = y dies

pub dead_split : (f : Formula) (first second : Box State Global) → DeadIsWrong first.value → DeadIsWrong second.value → DeadIsWrong (Split f first second)
dead_split f first second one other = λ on parts dies frames kind token.
    ap (λ s. s.leads frames kind token) (standing-Split f first second on parts)
    ∙ split_wrong (value on (condition_of f)) (is_dead first.value on) (is_dead second.value on) (standing first.value on parts) (standing second.value on parts) frames kind token
    (sym (is_dead-Split f first second on) ∙ dies) (λ d. one on parts d frames kind token) (λ d. other on parts d frames kind token)

pub dead_within : (place : Place) (inner : Vec (Choice Item) Global) (rest : Box State Global) → DeadIsWrong rest.value → DeadIsWrong (In place inner rest)
dead_within place inner rest dead = λ on parts dies frames kind token.
    ap (λ s. s.leads frames kind token) (standing-In place inner rest on parts)
    ∙ dead on (seen_in on inner.items) (sym (is_dead-In place inner rest on) ∙ dies) (frame (plain_place place) (values parts) ∷ frames) kind token
