-- What is the same before and behind a settling step.
use Rattle.std.proofs.Common.{◌≡◌, ℕ, Bool, true, false, not, ◌&&◌, List, [], ◌∷◌, ◌++◌, Option, Some, None, IsTrue, refl, sym, ap, ◌∙◌, subst}
use Rattle.std.specs.Bool.{if◌then◌else◌}
use Rattle.std.specs.declared.alloc.Global.{Global}
use Rattle.std.specs.Prelude.{Vec, Box}
use Rattle.cond_formula.specs.declared.formulas.Formula.{Formula}
use Rattle.cond_formula.specs.Conditions.{condition_of, conditions_of, value, all_true}
use Rattle.choice_trees.specs.declared.trees.Choice.{Choice}
use Rattle.choice_trees.specs.declared.trees.Item.{Item}
use Rattle.cond_tokens.specs.declared.tokens.CondToken.{CondToken}
use Rattle.c_tree.specs.declared.kinds.Kind.{Kind}
use Rattle.c_tree.specs.declared.terminals.Terminal.{Terminal}
use Rattle.c_tree.specs.Places.{Place, move, back}
use Rattle.c_tree.specs.Machine.{Frame, frame, alone, moved, arrives, outcome}
use Rattle.grammar_moves.specs.declared.places.Place.{Place as Spot}
use Rattle.grammar_moves.specs.PlainPlaces.{plain_place}
use Rattle.grammar_moves.specs.PlainMoves.{skipping}
use Rattle.choice_lookahead.specs.declared.ahead.Ending.{Ending}
use Rattle.choice_lookahead.specs.Ahead.{next_kind, ended_by, EachEnds}
use Rattle.choice_states.specs.declared.states.State.{State, Dead, At, In, Unbegun, Split}
use Rattle.choice_states.specs.declared.states.After.{After}
use Rattle.choice_states.specs.declared.states.After.TheVariants as after_variant
use Rattle.choice_states.specs.Alike.{StandsAsSplit}
use Rattle.choice_states.specs.StateLaws.{standing-Dead, standing-At, standing-In, standing-Unbegun, standing-Split, becoming-Dead, becoming-Open, becoming-Whole, becoming-Unbegun, becoming-Split}
use Rattle.choice_states.specs.Seen.{Seen, Parts, of_seen, choice_seen, seen_in}
use Rattle.choice_states.specs.Parts.{is_empty, values, parts_fit, parts_fit_within, parts_are_whole, Pushed}
use Rattle.choice_states.specs.Lists.{around_of, is_around_list, without_list, frames_at, left_out, place_fits_in}
use Rattle.choice_states.specs.States.{Stay, stays, leaves, takes, astray, IsClean, stay_within, Standing, dead, at_place, within, arriving, arrived, made, closed, without_entry, unbegun, open_node, standing, becoming, Finishes, IsFinished}
use Rattle.choice_settling.specs.Around.{IsListAround}
use Rattle.choice_settling.specs.LeftOut.{nothings, LeavesOut, LeftOut}
use Rattle.choice_settling.specs.Leaving.{IsLeft}
use Rattle.choice_settling.specs.Steps.{stood, IsAround, place_around, IsSound, SameElsewhere, HasBegun, ClosesAlike, Settles, SettlesSo}
use Rattle.choice_settling.proofs.FrameLemmas.{frames_inside, begun_some, arrives_so, moved_skipping, back_left_out, arriving_alike}
use Rattle.choice_settling.proofs.Divisions.{Divides}
use Rattle.choice_settling.proofs.Splits.{both_true, not_true, not_false, one_false, in_each}
use Rattle.choice_settling.proofs.TableLaws.{Suits, within_back, moved_suits}
use Rattle.choice_settling.proofs.ListLaws.{AroundList, around_list, around_inside, around_fits}
use Rattle.choice_settling.proofs.UnitPlaces.{back_fits_in, around_fits_in, list_fits_in, before_list_fits_in, whole_fits_inside}

pub settles_same : (outer : Option Spot) (kind : Terminal) (s : Standing) → IsSound s → Settles outer kind s s
settles_same outer kind s sound = record { sound = sound; fit_in = λ fits_in. fits_in; still = λ none unleft. unleft; leads_are = λ frames around token. refl }

pub settles_then : (outer : Option Spot) (kind : Terminal) (a b c : Standing) → Settles outer kind a b → Settles outer kind b c → Settles outer kind a c
settles_then outer kind a b c one other = record {
  sound = other.sound;
  fit_in = λ fits_in. other.fit_in (one.fit_in fits_in);
  still = λ none unleft. other.still none (one.still none unleft);
  leads_are = λ frames around token. other.leads_are frames around token ∙ one.leads_are frames around token;
}

pub clean_within : (stay : Stay) → IsClean (stay_within stay) → IsClean stay
clean_within stays h = h
clean_within leaves h = tt
clean_within takes h = h
clean_within astray h = h

pub within_clean : (stay : Stay) → IsClean stay → IsClean (stay_within stay)
within_clean stays h = h
within_clean leaves h = tt
within_clean takes h = h
within_clean astray h = h

-- a node in a part of which one stands
pub never_left : (stay : Stay) → stay_within stay ≡ leaves → ⊥
never_left stays left = cc left
never_left leaves left = cc left
never_left takes left = cc left
never_left astray left = cc left

none_such : {A : Type 0} → false ≡ true → A
none_such h = cc

pub both_of : (a b : Bool) → IsTrue (a && b) → IsTrue a
both_of true b h = refl
both_of false b h = h

pub other_of : (a b : Bool) → IsTrue (a && b) → IsTrue b
other_of true b h = h
other_of false b h = none_such h

pub of_both : (a b : Bool) → IsTrue a → IsTrue b → IsTrue (a && b)
of_both true b x y = y
of_both false b x y = x

-- the part in which one stands
pub sound_in : (place : Place) (inner : Standing) (parts : Parts) → IsSound (within place inner parts) → IsSound inner
sound_in place inner parts sound = record {
  fit = other_of (parts_fit_within place parts) inner.fits sound.fit;
  clean = clean_within inner.stay sound.clean;
}

-- a part that may be there in a node, as the one before
pub inner_fits_in : (place : Place) (outer : Option Place) (inner after : Standing) → (IsTrue (inner.fits_in (Some place)) → IsTrue (after.fits_in (Some place)))
    → IsTrue (place_fits_in place outer && inner.fits_in (Some place)) → IsTrue (place_fits_in place outer && after.fits_in (Some place))
inner_fits_in place outer inner after fit_in fits_in =
    of_both (place_fits_in place outer) (after.fits_in (Some place)) (both_of (place_fits_in place outer) (inner.fits_in (Some place)) fits_in)
    (fit_in (other_of (place_fits_in place outer) (inner.fits_in (Some place)) fits_in))

pub settles_in : (outer : Option Spot) (kind : Terminal) (place : Spot) (inner after : Standing) (parts : Parts)
    → IsSound (within (plain_place place) inner parts) → Settles (Some place) kind inner after
    → Settles outer kind (within (plain_place place) inner parts) (within (plain_place place) after parts)
settles_in outer kind place inner after parts sound settles = record {
  sound = record {
    fit = of_both (parts_fit_within (plain_place place) parts) after.fits (both_of (parts_fit_within (plain_place place) parts) inner.fits sound.fit) settles.sound.fit;
    clean = within_clean after.stay settles.sound.clean;
  };
  fit_in = λ fits_in. inner_fits_in (plain_place place) (place_around outer) inner after settles.fit_in fits_in;
  still = λ none unleft. never_left after.stay;
  leads_are = λ frames around token. settles.leads_are (frame (plain_place place) (values parts) ∷ frames) refl token;
}

pub finished_clean : (before : Stay) (owed : Bool) (after : Stay) → IsClean before → IsFinished before owed after → IsClean after
finished_clean stays owed after clean is = subst IsClean (sym is) tt
finished_clean leaves true after clean is = subst IsClean (sym is) tt
finished_clean leaves false after clean is = is
finished_clean takes owed after clean is = absurd clean
finished_clean astray owed after clean is = absurd clean

pub finished_open : (before : Stay) (owed : Bool) (after : Stay) → IsClean before → IsFinished before owed after → (before ≡ leaves → ⊥) → after ≡ leaves → ⊥
finished_open stays owed after clean is unleft left = cc (is, left)
finished_open leaves true after clean is unleft left = unleft refl
finished_open leaves false after clean is unleft left = unleft refl
finished_open takes owed after clean is unleft left = absurd clean
finished_open astray owed after clean is unleft left = absurd clean

-- the node is finished behind it
pub settles_finished : (behind : Spot) (kind : Terminal) (a b c : Standing) (owed : Bool) → Settles (Some behind) kind a b → (IsTrue b.fits → Finishes b owed c) → Settles (Some behind) kind a c
settles_finished behind kind a b c owed settles finishes =
    let done : Finishes b owed c = finishes settles.sound.fit in
    record {
      sound = record { fit = done.fit; clean = finished_clean b.stay owed c.stay settles.sound.clean done.stay };
      fit_in = λ fits_in. done.fit_in (plain_place behind) (settles.fit_in fits_in);
      still = λ none unleft. finished_open b.stay owed c.stay settles.sound.clean done.stay (settles.still none unleft);
      leads_are = λ frames around token. done.leads_are frames kind token ∙ settles.leads_are frames around token;
    }

-- ---- what becomes of a part

opened_clean : (stay : Stay) → IsClean (stay_within (stay_within stay)) → IsClean (stay_within stay)
opened_clean stays h = h
opened_clean leaves h = h
opened_clean takes h = h
opened_clean astray h = h

-- no unit goes on so
pub settles_dead : (outer : Option Spot) (kind : Terminal) (place : Place) (parts : Parts) → Settles outer kind (within place dead parts) dead
settles_dead outer kind place parts = record { sound = record { fit = refl; clean = tt }; fit_in = λ fits_in. refl; still = λ none unleft left. cc left; leads_are = λ frames around token. refl }

-- one stays in it
pub settles_open : (outer : Option Spot) (kind : Terminal) (place : Place) (inner : Standing) (parts : Parts) → IsSound (within place (open_node inner) parts)
    → Settles outer kind (within place (open_node inner) parts) (within place inner parts)
settles_open outer kind place inner parts sound = record {
  sound = record { fit = sound.fit; clean = opened_clean inner.stay sound.clean };
  fit_in = λ fits_in. fits_in;
  still = λ none unleft. never_left inner.stay;
  leads_are = λ frames around token. refl;
}

settles_pushed : (outer : Option Spot) (kind : Terminal) (place ended : Place) (part : Seen) (old new : Parts) → Pushed (back place ended) old new part
    → Settles outer kind (within place (arrived (Some part) ended) old) (at_place (back place ended) new)
settles_pushed outer kind place ended part old new pushed = record {
  sound = record { fit = pushed.fit; clean = tt };
  fit_in = λ fits_in. back_fits_in place ended (place_around outer) (both_of (place_fits_in place (place_around outer)) true fits_in);
  still = λ none unleft left. cc left;
  leads_are = λ frames around token.
      ap (λ vs. outcome of_seen kind token (frames_at (back place ended) vs frames)) pushed.values_are ∙ arrives_so place ended (values old) part frames kind token;
}

-- it is whole, and a part of the node
pub settles_whole : (outer : Option Spot) (kind : Terminal) (place ended : Place) (part : Option Seen) (old new : Parts) → IsSound (within place (arrived part ended) old)
    → ((v : Seen) → part ≡ Some v → IsTrue (parts_fit_within (back place ended) old) → Pushed (back place ended) old new v)
    → Settles outer kind (within place (arrived part ended) old) (at_place (back place ended) new)
settles_whole outer kind place ended None old new sound pushes = none_such (other_of (parts_fit_within place old) false sound.fit)
settles_whole outer kind place ended (Some part) old new sound pushes =
    settles_pushed outer kind place ended part old new (pushes part refl (within_back place ended old ∙ both_of (parts_fit_within place old) true sound.fit))

-- it is a list that hasn't begun
pub settles_unbegun : (outer : Option Spot) (kind : Terminal) (place around : Place) (parts : Parts) → IsSound (within place (unbegun around) parts)
    → Settles outer kind (within place (unbegun around) parts) (at_place around parts)
settles_unbegun outer kind place around parts sound =
    let is : IsTrue (is_around_list around) = other_of (parts_fit_within place parts) (is_around_list around) sound.fit in
    record {
      sound = record { fit = around_fits around parts is; clean = tt };
      fit_in = λ fits_in. around_fits_in place around (place_around outer) fits_in;
      still = λ none unleft left. cc left;
      leads_are = λ frames in_frames token. ap (λ fs. outcome of_seen kind token fs) (frames_inside around (values parts) frames (around_inside around is));
    }

-- ---- lists that begin or don't

without_entries : (outer : Option Spot) (place : Spot) (around : Spot) (values : List Seen) (frames : List (Frame Seen)) (kind : Terminal) (token : Seen)
    → IsListAround place outer around → values ≡ [] → IsAround outer frames → without_entry (plain_place around) frames kind token ≡ outcome of_seen kind token (frames_at (plain_place place) values frames)
without_entries None place around values frames kind token list none in_frames = absurd list
without_entries (Some behind) place around values [] kind token list none in_frames = absurd in_frames
without_entries (Some behind) place around values (node ∷ frames) kind token list none in_frames =
    ap (λ places. outcome of_seen kind token (without_list places (plain_place place) node frames)) (sym list.0)
    ∙ ap (λ p. outcome of_seen kind token (without_list (around_of (plain_place place) p) (plain_place place) node frames)) (sym in_frames)
    ∙ ap (λ vs. outcome of_seen kind token (frames_at (plain_place place) vs (node ∷ frames))) (sym none)

list_around : (outer : Option Spot) (place around : Spot) → IsListAround place outer around → IsTrue (is_around_list (plain_place around))
list_around None place around list = absurd list
list_around (Some behind) place around list = list.1

-- such a list is in a node
in_node_around : (outer : Option Spot) (place around : Spot) → IsListAround place outer around → outer ≡ None → ⊥
in_node_around None place around list none = list
in_node_around (Some behind) place around list none = cc none

-- a list without entries hasn't begun
pub settles_without_entries : (outer : Option Spot) (kind : Terminal) (place around : Spot) (parts : Parts) → IsListAround place outer around → values parts ≡ []
    → Settles outer kind (at_place (plain_place place) parts) (unbegun (plain_place around))
settles_without_entries outer kind place around parts list none = record {
  sound = record { fit = list_around outer place around list; clean = tt };
  fit_in = λ fits_in. list_fits_in outer place around list;
  still = λ none. absurd (in_node_around outer place around list none);
  leads_are = λ frames in_frames token. without_entries outer place around (values parts) frames kind token list none in_frames;
}

-- before a list, or in it before its first entry
pub settles_before_list : (outer : Option Spot) (kind : Terminal) (place behind before : Place) (parts : Parts) → around_of before behind ≡ place ∷ [] → IsTrue (is_around_list place)
    → AroundList before behind place → Settles outer kind (at_place place parts) (within behind (at_place before []) parts)
settles_before_list outer kind place behind before parts list is laws = record {
  sound = record { fit = of_both (parts_fit_within behind parts) (parts_fit before []) (laws.fit_behind parts) (laws.fit_before []); clean = tt };
  fit_in = λ fits_in. before_list_fits_in place behind before (place_around outer) is fits_in;
  still = λ none unleft left. cc left;
  leads_are = λ frames around token.
      ap (λ places. outcome of_seen kind token (without_list places before (frame behind (values parts)) frames)) list
      ∙ ap (λ fs. outcome of_seen kind token fs) (sym (frames_inside place (values parts) frames (around_inside place is)));
}

-- ---- nodes that a token ends

alone_made : (values : List Seen) → IsTrue (not (is_empty values)) → made None values ≡ Some (alone of_seen values)
alone_made [] some = none_such some
alone_made (first ∷ rest) some = refl

-- what is made of the node's parts comes next
ends_so : (kind : Terminal) (place : Place) (end : Option Kind) (values : List Seen) (token : Seen) (frames : List (Frame Seen))
    → (end ≡ None → IsTrue (not (is_empty values)))
    → arriving (made end values) place frames kind token
    ≡ moved of_seen place values (ended_by end) token frames (λ whole. arrives of_seen kind token whole place frames)
ends_so kind place None values token frames some = ap (λ part. arriving part place frames kind token) (alone_made values (some refl))
ends_so kind place (Some end) values token frames some = refl

one_is_there : (end : Option Kind) (parts : Parts) → IsTrue (parts_are_whole end parts) → end ≡ None → IsTrue (not (is_empty (values parts)))
one_is_there None parts whole is = whole
one_is_there (Some kind) parts whole is = absurd (cc is)

ended_leads : (outer : Option Spot) (kind : Terminal) (place : Place) (count : ℕ) (end : Option Kind) (old new : Parts) (frames : List (Frame Seen)) (token : Seen)
    → frames_at place (values old) frames ≡ frame place (values old) ∷ frames → move place kind ≡ skipping count (ended_by end) → values new ≡ values old ++ nothings count
    → IsTrue (parts_are_whole end new)
    → arriving (made end (values new)) (left_out count place) frames kind token ≡ outcome of_seen kind token (frames_at place (values old) frames)
ended_leads outer kind place count end old new frames token begun moves grown whole =
    arriving_alike (made end (values new)) place (left_out count place) frames kind token (back_left_out count place)
    ∙ ends_so kind place end (values new) token frames (one_is_there end new whole)
    ∙ ap (λ vs. moved of_seen place vs (ended_by end) token frames (λ part. arrives of_seen kind token part place frames)) grown
    ∙ sym (moved_skipping place (values old) count (ended_by end) token frames (λ part. arrives of_seen kind token part place frames))
    ∙ ap (λ m. moved of_seen place (values old) m token frames (λ part. arrives of_seen kind token part place frames)) (sym moves)
    ∙ ap (λ fs. outcome of_seen kind token fs) (sym begun)

ends_whole : (end : Option Kind) (place : Place) (parts : Parts) → Suits place (ended_by end) → IsTrue (parts_fit place parts) → IsTrue (parts_are_whole end parts)
ends_whole None place parts suits fits = suits parts fits
ends_whole (Some end) place parts suits fits = suits parts fits

-- the token ends the node, behind parts that it leaves out
pub settles_ended : (outer : Option Spot) (kind : Terminal) (place : Spot) (count : ℕ) (end : Option Kind) (old new : Parts) (after : Standing)
    → (outer ≡ None → ⊥) → HasBegun outer (plain_place place) old → move (plain_place place) kind ≡ skipping count (ended_by end) → LeftOut count (plain_place place) old new
    → ClosesAlike (closed end (left_out count (plain_place place)) new) after → Settles outer kind (at_place (plain_place place) old) after
settles_ended outer kind place count end old new after inside begun moves out closes =
    let whole : IsTrue (parts_are_whole end new) = ends_whole end (left_out count (plain_place place)) new (moved_suits place kind count (ended_by end) moves) out.fit in
    record {
      sound = record { fit = closes.fits_are ∙ whole; clean = subst IsClean (sym closes.stay_is) tt };
      fit_in = λ fits_in. closes.fits_in_is (place_around outer) ∙ whole_fits_inside outer end inside;
      still = λ none. absurd (inside none);
      leads_are = λ frames around token.
          closes.leads_are frames kind token ∙ ended_leads outer kind (plain_place place) count end old new frames token (begun frames around) moves out.values_are whole;
    }

-- ---- the steps of a state

pub settles_as : (outer : Option Spot) (kind : Terminal) (a b : Standing) → b ≡ a → IsSound a → Settles outer kind a b
settles_as outer kind a b is sound = subst (λ s. Settles outer kind a s) (sym is) (settles_same outer kind a sound)

settles_left : (behind : Spot) (kind : Terminal) (path : List Formula) (when : Formula) (on : ℕ → Bool) (a b c : Standing) → Settles (Some behind) kind a b → IsLeft path when on b c
    → Settles (Some behind) kind a c
settles_left behind kind path when on a b c settles left =
    let l : (owed : Bool) × Finishes b owed c × (IsTrue (all_true on (conditions_of path)) → IsTrue (value on (condition_of when)) → b.stay ≡ leaves → owed ≡ true) = left settles.sound.fit in
    settles_finished behind kind a b c l.0 settles (λ fits. l.1)

-- in a node what is settled in the part is settled, and what becomes of the part then
pub settles_through : (outer : Option Spot) (kind : Terminal) (path : List Formula) (when : Formula) (on : ℕ → Bool) (place : Spot) (whole inner soon after new : Standing) (parts : Parts)
    → whole ≡ within (plain_place place) inner parts → (IsSound inner → Settles (Some place) kind inner soon) → IsLeft path when on soon after
    → (IsSound (within (plain_place place) after parts) → Settles outer kind (within (plain_place place) after parts) new) → IsSound whole → Settles outer kind whole new
settles_through outer kind path when on place whole inner soon after new parts was settles left behind sound =
    let sound_there : IsSound (within (plain_place place) inner parts) = subst IsSound was sound in
    let to_part : Settles (Some place) kind inner after =
    settles_left place kind path when on inner soon after (settles (sound_in (plain_place place) inner parts sound_there)) left in
    let to_node : Settles outer kind (within (plain_place place) inner parts) (within (plain_place place) after parts) =
    settles_in outer kind place inner after parts sound_there to_part in
    subst (λ s. Settles outer kind s new) (sym was)
    (settles_then outer kind (within (plain_place place) inner parts) (within (plain_place place) after parts) new to_node (behind to_node.sound))

-- ---- two alternatives

settles_each :
    (path first_path second_path here first_here second_here : List Formula) (f : Formula) (outer : Option Spot) (ahead : List CondToken)
    (old first first_soon first_new second second_soon second_new new : (ℕ → Bool) → Standing)
    → Divides path f first_path second_path → Divides here f first_here second_here
    → SettlesSo first_path first_here outer ahead first first_soon → SettlesSo second_path second_here outer ahead second_soon second_new
    → ((on : ℕ → Bool) → all_true on (conditions_of second_here) ≡ false → first_new on ≡ first_soon on)
    → ((on : ℕ → Bool) → all_true on (conditions_of first_here) ≡ false → second_soon on ≡ second on)
    → ((on : ℕ → Bool) → old on ≡ (if value on (condition_of f) then first on else second on))
    → ((on : ℕ → Bool) → new on ≡ (if value on (condition_of f) then first_new on else second_new on))
    → SettlesSo path here outer ahead old new
settles_each path first_path second_path here first_here second_here f outer ahead old first first_soon first_new second second_soon second_new new paths heres one other same_new same_soon was is =
    λ on there holds sound.
    in_each (Settles outer (next_kind on ahead)) (value on (condition_of f)) (first on) (first_soon on) (first_new on) (second on) (second_soon on) (second_new on) (old on) (new on)
    (λ taken sound_there. one on
    (both_true (all_true on (conditions_of path)) (value on (condition_of f)) (all_true on (conditions_of first_path)) (paths.first on) there taken)
    (both_true (all_true on (conditions_of here)) (value on (condition_of f)) (all_true on (conditions_of first_here)) (heres.first on) holds taken)
    sound_there)
    (λ fails sound_there. other on
    (both_true (all_true on (conditions_of path)) (not (value on (condition_of f))) (all_true on (conditions_of second_path)) (paths.second on) there (not_true (value on (condition_of f)) fails))
    (both_true (all_true on (conditions_of here)) (not (value on (condition_of f))) (all_true on (conditions_of second_here)) (heres.second on) holds (not_true (value on (condition_of f)) fails))
    sound_there)
    (λ taken. same_new on
    (one_false (all_true on (conditions_of here)) (not (value on (condition_of f))) (all_true on (conditions_of second_here)) (heres.second on) (not_false (value on (condition_of f)) taken)))
    (λ fails. same_soon on
    (one_false (all_true on (conditions_of here)) (value on (condition_of f)) (all_true on (conditions_of first_here)) (heres.first on) fails))
    (was on) (is on) sound

pub settles_split :
    (path first_path second_path here first_here second_here : List Formula) (f : Formula) (outer : Option Spot) (ahead : List CondToken)
    (first second : Box State Global) (first_new second_new new : State) (old soon parts : List (Choice Item))
    → Divides path f first_path second_path → Divides here f first_here second_here
    → SameElsewhere first_here old soon → SameElsewhere second_here soon parts
    → SettlesSo first_path first_here outer ahead (stood first.value old) (stood first_new soon)
    → SettlesSo second_path second_here outer ahead (stood second.value soon) (stood second_new parts)
    → StandsAsSplit f first_new second_new new → SettlesSo path here outer ahead (stood (Split f first second) old) (stood new parts)
settles_split path first_path second_path here first_here second_here f outer ahead first second first_new second_new new old soon parts paths heres same_soon same_new one other as_split =
    settles_each path first_path second_path here first_here second_here f outer ahead
    (stood (Split f first second) old) (stood first.value old) (stood first_new soon) (stood first_new parts) (stood second.value old) (stood second.value soon) (stood second_new parts) (stood new parts)
    paths heres one other
    (λ on off. ap (λ ps. standing first_new on ps) (same_new on off))
    (λ on off. ap (λ ps. standing second.value on ps) (same_soon on off))
    (λ on. standing-Split f first second on (seen_in on old))
    (λ on. as_split on (seen_in on parts))

if_within : (b : Bool) (place : Place) (parts : Parts) (first second : Standing) → within place (if b then first else second) parts ≡ (if b then within place first parts else within place second parts)
if_within true place parts first second = refl
if_within false place parts first second = refl

-- in a node with these parts, what becomes of the part
abbrev pub becomes_in : Spot → After → List (Choice Item) → (ℕ → Bool) → Standing
becomes_in place after parts on = within (plain_place place) (becoming after on) (seen_in on parts)

pub settles_after_split :
    (path first_path second_path here first_here second_here : List Formula) (f : Formula) (outer : Option Spot) (ahead : List CondToken) (place : Spot)
    (first second : Box After Global) (first_new second_new new : State) (old soon parts : List (Choice Item))
    → Divides path f first_path second_path → Divides here f first_here second_here
    → SameElsewhere first_here old soon → SameElsewhere second_here soon parts
    → SettlesSo first_path first_here outer ahead (becomes_in place first.value old) (stood first_new soon)
    → SettlesSo second_path second_here outer ahead (becomes_in place second.value soon) (stood second_new parts)
    → StandsAsSplit f first_new second_new new → SettlesSo path here outer ahead (becomes_in place (after_variant.Split f first second) old) (stood new parts)
settles_after_split path first_path second_path here first_here second_here f outer ahead place first second first_new second_new new old soon parts paths heres same_soon same_new one other as_split =
    settles_each path first_path second_path here first_here second_here f outer ahead
    (becomes_in place (after_variant.Split f first second) old) (becomes_in place first.value old) (stood first_new soon) (stood first_new parts)
    (becomes_in place second.value old) (becomes_in place second.value soon) (stood second_new parts) (stood new parts)
    paths heres one other
    (λ on off. ap (λ ps. standing first_new on ps) (same_new on off))
    (λ on off. ap (λ ps. within (plain_place place) (becoming second.value on) ps) (same_soon on off))
    (λ on.
    ap (λ s. within (plain_place place) s (seen_in on old)) (becoming-Split f first second on)
    ∙ if_within (value on (condition_of f)) (plain_place place) (seen_in on old) (becoming first.value on) (becoming second.value on))
    (λ on. as_split on (seen_in on parts))

-- ---- lists with entries or none

pub none_there : (values : List Seen) (some : Bool) → some ≡ not (is_empty values) → some ≡ false → values ≡ []
none_there [] some is none = refl
none_there (first ∷ rest) some is none = none_such (sym none ∙ is)

pub some_there : (values : List Seen) (some : Bool) → some ≡ not (is_empty values) → IsTrue some → is_empty values ≡ false
some_there [] some is there = none_such (sym is ∙ there)
some_there (first ∷ rest) some is there = refl

pub settles_either : (outer : Option Spot) (kind : Terminal) (b : Bool) (before first second new : Standing) → new ≡ (if b then first else second)
    → (IsTrue b → Settles outer kind before first) → (b ≡ false → Settles outer kind before second) → Settles outer kind before new
settles_either outer kind true before first second new is one other = subst (λ s. Settles outer kind before s) (sym is) (one refl)
settles_either outer kind false before first second new is one other = subst (λ s. Settles outer kind before s) (sym is) (other refl)

-- ---- the kinds of state

-- at a place behind these parts
abbrev pub at_spot : Spot → List (Choice Item) → (ℕ → Bool) → Standing
at_spot place parts on = at_place (plain_place place) (seen_in on parts)

-- the same, however it is said
settles_where : (outer : Option Spot) (kind : Terminal) (a as_a b as_b : Standing) → a ≡ as_a → b ≡ as_b → (IsSound as_a → Settles outer kind as_a as_b) → IsSound a → Settles outer kind a b
settles_where outer kind a as_a b as_b one other settles sound =
    subst (λ s. Settles outer kind s b) (sym one) (subst (λ s. Settles outer kind as_a s) (sym other) (settles (subst IsSound one sound)))

module _ (path here : List Formula) (outer : Option Spot) (ahead : List CondToken) where
  pub so_at : (place : Spot) (new : Bool) (parts : List (Choice Item)) → SettlesSo path here outer ahead (at_spot place parts) (stood (At place new) parts)
  so_at place new parts = λ on there holds sound.
      settles_as outer (next_kind on ahead) (at_spot place parts on) (stood (At place new) parts on) (standing-At place new on (seen_in on parts)) sound

  pub so_from_at : (place : Spot) (new : Bool) (parts : List (Choice Item)) (after : (ℕ → Bool) → Standing) → SettlesSo path here outer ahead (at_spot place parts) after
      → SettlesSo path here outer ahead (stood (At place new) parts) after
  so_from_at place new parts after settles = λ on there holds sound.
      settles_where outer (next_kind on ahead) (stood (At place new) parts on) (at_spot place parts on) (after on) (after on) (standing-At place new on (seen_in on parts)) refl
      (settles on there holds) sound

  pub so_in :
      (when : Formula) (nowhere : List Formula) (place : Spot) (inner : Vec (Choice Item) Global) (rest : Box State Global) (soon : State) (soon_parts : List (Choice Item)) (after : After)
      (parts : List (Choice Item)) (new : (ℕ → Bool) → Standing)
      → nowhere ≡ [] → SettlesSo path nowhere (Some place) ahead (stood rest.value inner.items) (stood soon soon_parts)
      → ((on : ℕ → Bool) → IsLeft path when on (stood soon soon_parts on) (becoming after on))
      → SettlesSo path here outer ahead (becomes_in place after parts) new → SettlesSo path here outer ahead (stood (In place inner rest) parts) new
  so_in when nowhere place inner rest soon soon_parts after parts new none settles left behind = λ on there holds.
      settles_through outer (next_kind on ahead) path when on place (stood (In place inner rest) parts on) (stood rest.value inner.items on) (stood soon soon_parts on) (becoming after on) (new on)
      (seen_in on parts) (standing-In place inner rest on (seen_in on parts)) (settles on there (ap (λ fs. all_true on (conditions_of fs)) none)) (left on) (behind on there holds)

  -- in a part that is settled and in which one stays
  pub so_in_part :
      (nowhere : List Formula) (place : Spot) (inner soon : Vec (Choice Item) Global) (rest soon_rest : Box State Global) (parts : List (Choice Item))
      → nowhere ≡ [] → SettlesSo path nowhere (Some place) ahead (stood rest.value inner.items) (stood soon_rest.value soon.items)
      → SettlesSo path here outer ahead (stood (In place inner rest) parts) (stood (In place soon soon_rest) parts)
  so_in_part nowhere place inner soon rest soon_rest parts none settles = λ on there holds.
      settles_where outer (next_kind on ahead) (stood (In place inner rest) parts on) (within (plain_place place) (stood rest.value inner.items on) (seen_in on parts))
      (stood (In place soon soon_rest) parts on) (within (plain_place place) (stood soon_rest.value soon.items on) (seen_in on parts))
      (standing-In place inner rest on (seen_in on parts)) (standing-In place soon soon_rest on (seen_in on parts))
      (λ sound. settles_in outer (next_kind on ahead) place (stood rest.value inner.items on) (stood soon_rest.value soon.items on) (seen_in on parts) sound
      (settles on there (ap (λ fs. all_true on (conditions_of fs)) none) (sound_in (plain_place place) (stood rest.value inner.items on) (seen_in on parts) sound)))

  pub so_dead : (place : Spot) (parts : List (Choice Item)) → SettlesSo path here outer ahead (becomes_in place after_variant.Dead parts) (stood Dead parts)
  so_dead place parts = λ on there holds sound.
      settles_where outer (next_kind on ahead) (becomes_in place after_variant.Dead parts on) (within (plain_place place) dead (seen_in on parts)) (stood Dead parts on) dead
      (ap (λ s. within (plain_place place) s (seen_in on parts)) (becoming-Dead on)) (standing-Dead on (seen_in on parts))
      (λ s. settles_dead outer (next_kind on ahead) (plain_place place) (seen_in on parts)) sound

  pub so_open : (place : Spot) (inner : Vec (Choice Item) Global) (rest : Box State Global) (parts : List (Choice Item))
      → SettlesSo path here outer ahead (becomes_in place (after_variant.Open inner rest) parts) (stood (In place inner rest) parts)
  so_open place inner rest parts = λ on there holds sound.
      settles_where outer (next_kind on ahead) (becomes_in place (after_variant.Open inner rest) parts on)
      (within (plain_place place) (open_node (standing rest.value on (seen_in on inner.items))) (seen_in on parts)) (stood (In place inner rest) parts on)
      (within (plain_place place) (standing rest.value on (seen_in on inner.items)) (seen_in on parts))
      (ap (λ s. within (plain_place place) s (seen_in on parts)) (becoming-Open inner rest on)) (standing-In place inner rest on (seen_in on parts))
      (settles_open outer (next_kind on ahead) (plain_place place) (standing rest.value on (seen_in on inner.items)) (seen_in on parts)) sound

  pub so_unbegun : (place around : Spot) (parts : List (Choice Item)) (new : (ℕ → Bool) → Standing) → SettlesSo path here outer ahead (at_spot around parts) new
      → SettlesSo path here outer ahead (becomes_in place (after_variant.Unbegun around) parts) new
  so_unbegun place around parts new behind = λ on there holds sound.
      settles_where outer (next_kind on ahead) (becomes_in place (after_variant.Unbegun around) parts on) (within (plain_place place) (unbegun (plain_place around)) (seen_in on parts)) (new on) (new on)
      (ap (λ s. within (plain_place place) s (seen_in on parts)) (becoming-Unbegun around on)) refl
      (λ s.
      let there_now : Settles outer (next_kind on ahead) (within (plain_place place) (unbegun (plain_place around)) (seen_in on parts)) (at_spot around parts on) =
      settles_unbegun outer (next_kind on ahead) (plain_place place) (plain_place around) (seen_in on parts) s in
      settles_then outer (next_kind on ahead) (within (plain_place place) (unbegun (plain_place around)) (seen_in on parts)) (at_spot around parts on) (new on) there_now
      (behind on there holds there_now.sound))
      sound

  pub so_whole : (place ended behind : Spot) (part : Choice Item) (parts soon : List (Choice Item)) (new : (ℕ → Bool) → Standing) → plain_place behind ≡ back (plain_place place) (plain_place ended)
      → ((on : ℕ → Bool) (v : Seen) → IsTrue (all_true on (conditions_of here)) → choice_seen on part ≡ Some v → IsTrue (parts_fit_within (plain_place behind) (seen_in on parts))
      → Pushed (plain_place behind) (seen_in on parts) (seen_in on soon) v)
      → SettlesSo path here outer ahead (at_spot behind soon) new → SettlesSo path here outer ahead (becomes_in place (after_variant.Whole part ended) parts) new
  so_whole place ended behind part parts soon new is pushes settles = λ on there holds sound.
      settles_where outer (next_kind on ahead) (becomes_in place (after_variant.Whole part ended) parts on)
      (within (plain_place place) (arrived (choice_seen on part) (plain_place ended)) (seen_in on parts)) (new on) (new on)
      (ap (λ s. within (plain_place place) s (seen_in on parts)) (becoming-Whole part ended on)) refl
      (λ s.
      let there_now : Settles outer (next_kind on ahead) (within (plain_place place) (arrived (choice_seen on part) (plain_place ended)) (seen_in on parts)) (at_place (plain_place behind) (seen_in on soon)) =
      subst (λ p. Settles outer (next_kind on ahead) (within (plain_place place) (arrived (choice_seen on part) (plain_place ended)) (seen_in on parts)) (at_place p (seen_in on soon))) (sym is)
      (settles_whole outer (next_kind on ahead) (plain_place place) (plain_place ended) (choice_seen on part) (seen_in on parts) (seen_in on soon) s
      (λ v some. subst (λ p. IsTrue (parts_fit_within p (seen_in on parts)) → Pushed p (seen_in on parts) (seen_in on soon) v) is (pushes on v holds some))) in
      settles_then outer (next_kind on ahead) (within (plain_place place) (arrived (choice_seen on part) (plain_place ended)) (seen_in on parts)) (at_spot behind soon on) (new on) there_now
      (settles on there holds there_now.sound))
      sound

  pub so_before_list : (place behind before : Spot) (inner : Vec (Choice Item) Global) (rest : Box State Global) (parts : List (Choice Item))
      → IsListAround before (Some behind) place → inner.items ≡ [] → rest.value ≡ At before false
      → SettlesSo path here outer ahead (at_spot place parts) (stood (In behind inner rest) parts)
  so_before_list place behind before inner rest parts list none at = λ on there holds sound.
      settles_where outer (next_kind on ahead) (at_spot place parts on) (at_spot place parts on) (stood (In behind inner rest) parts on)
      (within (plain_place behind) (at_place (plain_place before) []) (seen_in on parts)) refl
      (standing-In behind inner rest on (seen_in on parts)
      ∙ ap (λ s. within (plain_place behind) s (seen_in on parts))
      (ap (λ state. standing state on (seen_in on inner.items)) at ∙ standing-At before false on (seen_in on inner.items) ∙ ap (λ items. at_place (plain_place before) (seen_in on items)) none))
      (λ s. settles_before_list outer (next_kind on ahead) (plain_place place) (plain_place behind) (plain_place before) (seen_in on parts) list.0 list.1 (around_list (plain_place before) (plain_place behind) (plain_place place) list.0)) sound

  -- the next token on the path ends the node
  pub so_ended : (place ended : Spot) (ending : Ending) (old new : List (Choice Item)) (state : State)
      → EachEnds path (plain_place place) ahead ending → plain_place ended ≡ left_out ending.skipped (plain_place place)
      → (LeavesOut ending.skipped (plain_place place) → (on : ℕ → Bool) → IsTrue (all_true on (conditions_of here)) → IsTrue (parts_fit (plain_place place) (seen_in on old))
      → LeftOut ending.skipped (plain_place place) (seen_in on old) (seen_in on new))
      → ((on : ℕ → Bool) (parts : Parts) → ClosesAlike (closed ending.kind (plain_place ended) parts) (standing state on parts))
      → (outer ≡ None → ⊥) → (on : ℕ → Bool) → IsTrue (all_true on (conditions_of path)) → IsTrue (all_true on (conditions_of here)) → HasBegun outer (plain_place place) (seen_in on old)
      → IsSound (at_spot place old on) → Settles outer (next_kind on ahead) (at_spot place old on) (stood state new on)
  so_ended place ended ending old new state ends is leaves_out closes = λ inside on there holds begun sound.
      settles_ended outer (next_kind on ahead) place ending.skipped ending.kind (seen_in on old) (seen_in on new) (stood state new on) inside begun (ends on there)
      (leaves_out (record { token = next_kind on ahead; next = ended_by ending.kind; is = ends on there }) on holds sound.fit)
      (subst (λ p. ClosesAlike (closed ending.kind p (seen_in on new)) (stood state new on)) is (closes on (seen_in on new)))

  -- a list that has begun where some entry is there
  module _ (place around : Spot) (some : Formula) (parts : List (Choice Item)) (list : IsListAround place outer around)
      (some_are : (on : ℕ → Bool) → IsTrue (all_true on (conditions_of path)) → value on (condition_of some) ≡ not (is_empty (values (seen_in on parts))))
    where
      list_unbegun : (soon : List (Choice Item)) (on : ℕ → Bool) → IsTrue (all_true on (conditions_of path)) → value on (condition_of some) ≡ false
          → Settles outer (next_kind on ahead) (at_spot place parts on) (stood (Unbegun around false) soon on)
      list_unbegun soon on there none =
          subst (λ s. Settles outer (next_kind on ahead) (at_spot place parts on) s) (sym (standing-Unbegun around false on (seen_in on soon)))
          (settles_without_entries outer (next_kind on ahead) place around (seen_in on parts) list
          (none_there (values (seen_in on parts)) (value on (condition_of some)) (some_are on there) none))

      list_begun : (begun : State) (soon : List (Choice Item))
          → ((outer : Option Spot) → (outer ≡ None → ⊥) → (on : ℕ → Bool) → IsTrue (all_true on (conditions_of path)) → IsTrue (all_true on (conditions_of here)) → HasBegun outer (plain_place place) (seen_in on parts)
          → IsSound (at_spot place parts on) → Settles outer (next_kind on ahead) (at_spot place parts on) (stood begun soon on))
          → (on : ℕ → Bool) → IsTrue (all_true on (conditions_of path)) → IsTrue (all_true on (conditions_of here)) → IsSound (at_spot place parts on) → IsTrue (value on (condition_of some))
          → Settles outer (next_kind on ahead) (at_spot place parts on) (stood begun soon on)
      list_begun begun soon settles on there holds sound is =
          settles outer (in_node_around outer place around list) on there holds
          (begun_some outer (plain_place place) (seen_in on parts) (some_there (values (seen_in on parts)) (value on (condition_of some)) (some_are on there) is)) sound

      pub so_list_unbegun : ((on : ℕ → Bool) → IsTrue (all_true on (conditions_of path)) → value on (condition_of some) ≡ false)
          → SettlesSo path here outer ahead (at_spot place parts) (stood (Unbegun around false) parts)
      so_list_unbegun none = λ on there holds sound. list_unbegun parts on there (none on there)

      pub so_list_begun : (begun : State) (soon : List (Choice Item))
          → ((outer : Option Spot) → (outer ≡ None → ⊥) → (on : ℕ → Bool) → IsTrue (all_true on (conditions_of path)) → IsTrue (all_true on (conditions_of here)) → HasBegun outer (plain_place place) (seen_in on parts)
          → IsSound (at_spot place parts on) → Settles outer (next_kind on ahead) (at_spot place parts on) (stood begun soon on))
          → ((on : ℕ → Bool) → IsTrue (all_true on (conditions_of path)) → IsTrue (value on (condition_of some)))
          → SettlesSo path here outer ahead (at_spot place parts) (stood begun soon)
      so_list_begun begun soon settles is = λ on there holds sound. list_begun begun soon settles on there holds sound (is on there)

      pub so_list_either : (begun state : State) (soon : List (Choice Item))
          → ((outer : Option Spot) → (outer ≡ None → ⊥) → (on : ℕ → Bool) → IsTrue (all_true on (conditions_of path)) → IsTrue (all_true on (conditions_of here)) → HasBegun outer (plain_place place) (seen_in on parts)
          → IsSound (at_spot place parts on) → Settles outer (next_kind on ahead) (at_spot place parts on) (stood begun soon on))
          → StandsAsSplit some begun (Unbegun around false) state → SettlesSo path here outer ahead (at_spot place parts) (stood state soon)
      so_list_either begun state soon settles as_split = λ on there holds sound.
          settles_either outer (next_kind on ahead) (value on (condition_of some)) (at_spot place parts on) (stood begun soon on) (stood (Unbegun around false) soon on) (stood state soon on)
          (as_split on (seen_in on soon)) (list_begun begun soon settles on there holds sound) (list_unbegun soon on there)
