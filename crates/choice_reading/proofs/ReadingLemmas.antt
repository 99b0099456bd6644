-- What has been read, or is still to be read behind a node.
use Rattle.std.proofs.Common.{◌≡◌, Bool, true, false, List, ◌∷◌, Option, Some, None, IsTrue, refl, sym, ◌∙◌, subst}
use Rattle.c_tree.specs.declared.terminals.Terminal.{Terminal}
use Rattle.c_tree.specs.Places.{Place}
use Rattle.c_tree.specs.Machine.{Frame, frame, Outcome, goes_on, is_whole, is_wrong}
use Rattle.grammar_moves.specs.declared.places.Place.{Place as Spot}
use Rattle.grammar_moves.specs.PlainPlaces.{plain_place}
use Rattle.choice_states.specs.Seen.{Seen, Parts}
use Rattle.choice_states.specs.Parts.{is_there, values, parts_fit_within}
use Rattle.choice_states.specs.States.{Stay, stays, leaves, takes, astray, Standing, dead, open_node, within, Finishes, IsFinished}
use Rattle.choice_settling.specs.Steps.{IsAround, place_around, FitsAlike, IsSound, IsBehind, IsRead, ReadsThere, ReadsIfThere}
use Rattle.choice_settling.proofs.SettlingLemmas.{never_left, finished_clean, finished_open, both_of, of_both, inner_fits_in}

-- ---- where the next token is read

pub behind_same : (before : Outcome Seen) (next now : Terminal → Seen → Outcome Seen)
    → ((kind : Terminal) (token : Seen) → now kind token ≡ next kind token) → IsBehind before next → IsBehind before now
behind_same (goes_on frames) next now same behind = λ kind token. same kind token ∙ behind kind token
behind_same (is_whole whole) next now same behind = behind
behind_same is_wrong next now same behind = λ kind token. same kind token ∙ behind kind token

pub read_finished : (before : Outcome Seen) (kind : Terminal) (token : Seen) (next now : Terminal → Seen → Outcome Seen) (stay after : Stay) (owed : Bool)
    → ((kind : Terminal) (token : Seen) → now kind token ≡ next kind token) → (stay ≡ leaves → owed ≡ true) → IsFinished stay owed after
    → IsRead stay kind token before next → IsRead after kind token before now
read_finished before kind token next now stays after owed same owes is read =
    subst (λ s. IsRead s kind token before now) (sym is) (behind_same before next now same read)
read_finished before kind token next now takes after owed same owes is read =
    subst (λ s. IsRead s kind token before now) (sym is) (behind_same before next now same read)
read_finished before kind token next now leaves after true same owes is read =
    subst (λ s. IsRead s kind token before now) (sym is) (same kind token ∙ read)
read_finished before kind token next now leaves after false same owes is read = absurd (cc (owes refl))
read_finished before kind token next now astray after owed same owes is read = absurd read

-- a node is finished behind the token
pub reads_finished : (there : Bool) (behind : Spot) (kind : Terminal) (token : Seen) (a b c : Standing) (owed : Bool)
    → (IsTrue there → b.stay ≡ leaves → owed ≡ true) → (IsTrue b.fits → Finishes b owed c) → ReadsIfThere there (Some behind) kind token a b → ReadsIfThere there (Some behind) kind token a c
reads_finished true behind kind token a b c owed owes finishes reads =
    let done : Finishes b owed c = finishes reads.fit in
    record {
      fit = done.fit;
      fit_in = λ fits_in. done.fit_in (plain_place behind) (reads.fit_in fits_in);
      reads = λ frames around.
          read_finished (a.leads frames kind token) kind token (b.leads frames) (c.leads frames) b.stay c.stay owed (done.leads_are frames) (owes refl) done.stay
          (reads.reads frames around);
    }
reads_finished false behind kind token a b c owed owes finishes reads =
    let done : Finishes b owed c = finishes reads.sound.fit in
    record {
      sound = record { fit = done.fit; clean = finished_clean b.stay owed c.stay reads.sound.clean done.stay };
      fit_in = λ fits_in. done.fit_in (plain_place behind) (reads.fit_in fits_in);
      still = λ unleft. finished_open b.stay owed c.stay reads.sound.clean done.stay (reads.still unleft);
      leads_are = λ frames around kind token. done.leads_are frames kind token ∙ reads.leads_are frames around kind token;
    }

-- in a node in which one stays
pub reads_open : (there : Bool) (outer : Option Spot) (kind : Terminal) (token : Seen) (place : Spot) (inner rest : Standing) (parts : Parts)
    → IsSound (within (plain_place place) inner parts) → ReadsIfThere there (Some place) kind token inner (open_node rest)
    → ReadsIfThere there outer kind token (within (plain_place place) inner parts) (within (plain_place place) rest parts)
reads_open true outer kind token place inner rest parts sound reads = record {
  fit = of_both (parts_fit_within (plain_place place) parts) rest.fits (both_of (parts_fit_within (plain_place place) parts) inner.fits sound.fit) reads.fit;
  fit_in = λ fits_in. inner_fits_in (plain_place place) (place_around outer) inner rest reads.fit_in fits_in;
  reads = λ frames around. reads.reads (frame (plain_place place) (values parts) ∷ frames) refl;
}
reads_open false outer kind token place inner rest parts sound reads = record {
  sound = record {
    fit = of_both (parts_fit_within (plain_place place) parts) rest.fits (both_of (parts_fit_within (plain_place place) parts) inner.fits sound.fit) reads.sound.fit;
    clean = reads.sound.clean;
  };
  fit_in = λ fits_in. inner_fits_in (plain_place place) (place_around outer) inner rest reads.fit_in fits_in;
  still = λ unleft. never_left rest.stay;
  leads_are = λ frames around kind token. reads.leads_are (frame (plain_place place) (values parts) ∷ frames) refl kind token;
}

-- what a token leads to is the same: this one, if it is there, and any other elsewhere
abbrev pub LeadAlike : Bool → Terminal → Seen → (Terminal → Seen → Outcome Seen) → (Terminal → Seen → Outcome Seen) → Type 0
LeadAlike true kind token next now = now kind token ≡ next kind token
LeadAlike false kind token next now = (kind : Terminal) (token : Seen) → now kind token ≡ next kind token

-- a node that is left hasn't read the token
pub left_alike : (there : Bool) (outer : Option Spot) (kind : Terminal) (token : Seen) (inner after : Standing) → after.stay ≡ leaves → ReadsIfThere there outer kind token inner after
    → (frames : List (Frame Seen)) → IsAround outer frames → LeadAlike there kind token (inner.leads frames) (after.leads frames)
left_alike true outer kind token inner after left reads frames around =
    subst (λ s. IsRead s kind token (inner.leads frames kind token) (after.leads frames)) left (reads.reads frames around)
left_alike false outer kind token inner after left reads frames around = reads.leads_are frames around

-- so it is read behind it
pub reads_from : (there : Bool) (outer : Option Spot) (kind : Terminal) (token : Seen) (a b after : Standing)
    → (b.stay ≡ leaves → ⊥) → FitsAlike outer a b → ((frames : List (Frame Seen)) → IsAround outer frames → LeadAlike there kind token (a.leads frames) (b.leads frames))
    → ReadsIfThere there outer kind token b after → ReadsIfThere there outer kind token a after
reads_from true outer kind token a b after unleft fit_in same reads = record {
  fit = reads.fit;
  fit_in = λ fits_in. reads.fit_in (fit_in fits_in);
  reads = λ frames around. subst (λ before. IsRead after.stay kind token before (after.leads frames)) (same frames around) (reads.reads frames around);
}
reads_from false outer kind token a b after unleft fit_in same reads = record {
  sound = reads.sound;
  fit_in = λ fits_in. reads.fit_in (fit_in fits_in);
  still = λ left. reads.still unleft;
  leads_are = λ frames around kind token. reads.leads_are frames around kind token ∙ same frames around kind token;
}

-- ---- behind a part

-- no unit goes on so
pub reads_dead : (there : Bool) (outer : Option Spot) (kind : Terminal) (token : Seen) (place : Place) (inner : Standing) (parts : Parts) (spot : Spot) → place ≡ plain_place spot
    → ReadsIfThere there (Some spot) kind token inner dead → ReadsIfThere there outer kind token (within place inner parts) dead
reads_dead true outer kind token place inner parts spot is reads = record {
  fit = refl;
  fit_in = λ fits_in. refl;
  reads = λ frames around. reads.reads (frame place (values parts) ∷ frames) is;
}
reads_dead false outer kind token place inner parts spot is reads = record {
  sound = record { fit = refl; clean = tt };
  fit_in = λ fits_in. refl;
  still = λ unleft left. cc left;
  leads_are = λ frames around kind token. reads.leads_are (frame place (values parts) ∷ frames) is kind token;
}

-- the part is whole
pub fits_arrived : (there : Bool) (outer : Option Spot) (kind : Terminal) (token : Seen) (before after : Standing) → ReadsIfThere there outer kind token before after → IsTrue after.fits
fits_arrived true outer kind token before after reads = reads.fit
fits_arrived false outer kind token before after reads = reads.sound.fit

pub reads_fits_in : (there : Bool) (outer : Option Spot) (kind : Terminal) (token : Seen) (before after : Standing) → ReadsIfThere there outer kind token before after → FitsAlike outer before after
reads_fits_in true outer kind token before after reads = reads.fit_in
reads_fits_in false outer kind token before after reads = reads.fit_in

-- a node in which a part has been left behind: what it leads to is what is read where that part ended
pub alike_behind : (there : Bool) (outer : Option Spot) (kind : Terminal) (token : Seen) (spot : Spot) (inner after now : Standing) (parts : Parts) → after.stay ≡ leaves
    → ReadsIfThere there (Some spot) kind token inner after
    → ((frames : List (Frame Seen)) (kind : Terminal) (token : Seen) → now.leads frames kind token ≡ after.leads (frame (plain_place spot) (values parts) ∷ frames) kind token)
    → (frames : List (Frame Seen)) → IsAround outer frames → LeadAlike there kind token ((within (plain_place spot) inner parts).leads frames) (now.leads frames)
alike_behind true outer kind token spot inner after now parts left reads same frames around =
    same frames kind token ∙ left_alike true (Some spot) kind token inner after left reads (frame (plain_place spot) (values parts) ∷ frames) refl
alike_behind false outer kind token spot inner after now parts left reads same frames around = λ k t.
    same frames k t ∙ left_alike false (Some spot) kind token inner after left reads (frame (plain_place spot) (values parts) ∷ frames) refl k t

pub seen_there : (seen : Option Seen) → IsTrue (is_there seen) → (part : Seen) × (seen ≡ Some part)
seen_there None there = absurd (cc there)
seen_there (Some part) there = (part, refl)

-- what has left a node or can't go on is as it was
pub reads_left : (there : Bool) (outer : Option Spot) (kind : Terminal) (token : Seen) (s : Standing) → s.stay ≡ leaves → IsSound s → ReadsIfThere there outer kind token s s
reads_left true outer kind token s left sound = record {
  fit = sound.fit;
  fit_in = λ fits_in. fits_in;
  reads = λ frames around. subst (λ stay. IsRead stay kind token (s.leads frames kind token) (s.leads frames)) (sym left) refl;
}
reads_left false outer kind token s left sound = record { sound = sound; fit_in = λ fits_in. fits_in; still = λ unleft. unleft; leads_are = λ frames around kind token. refl }

pub reads_still_dead : (there : Bool) (outer : Option Spot) (kind : Terminal) (token : Seen) → ReadsIfThere there outer kind token dead dead
reads_still_dead true outer kind token = record { fit = refl; fit_in = λ fits_in. fits_in; reads = λ frames around k t. refl }
reads_still_dead false outer kind token = record { sound = record { fit = refl; clean = tt }; fit_in = λ fits_in. fits_in; still = λ unleft. unleft; leads_are = λ frames around kind token. refl }

-- ---- where a list may begin

-- what is read is the same where the token leads to the same
pub reads_there_from : (outer : Option Spot) (kind : Terminal) (token : Seen) (a b after : Standing)
    → FitsAlike outer a b → ((frames : List (Frame Seen)) → IsAround outer frames → a.leads frames kind token ≡ b.leads frames kind token)
    → ReadsThere outer kind token b after → ReadsThere outer kind token a after
reads_there_from outer kind token a b after fit_in same reads = record {
  fit = reads.fit;
  fit_in = λ fits_in. reads.fit_in (fit_in fits_in);
  reads = λ frames around. subst (λ before. IsRead after.stay kind token before (after.leads frames)) (sym (same frames around)) (reads.reads frames around);
}
