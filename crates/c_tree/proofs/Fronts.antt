-- Tokens that can be read begin a unit. And what follows where units are read as themselves: one unit at most spells tokens, and the
-- fronts of units are read.
use Rattle.std.proofs.Common.{◌≡◌, List, [], ◌∷◌, ◌++◌, Option, Some, None, refl, ap, ◌∙◌, sym, subst, append-nil, append_assoc}
use Rattle.std.specs.Prelude.{IsTrue}
use Rattle.c_text.specs.Token.{PlainToken}
use Rattle.c_tree.specs.declared.terminals.Terminal.TheVariants as t
use Rattle.c_tree.specs.Terminals.{terminal}
use Rattle.c_tree.specs.Trees.{PlainTree, leaf, written, all_written, trees}
use Rattle.c_tree.specs.Grammar.{is_unit}
use Rattle.c_tree.specs.Places.{Place, back}
use Rattle.c_tree.specs.Machine.{Making, Frame, Outcome, goes_on, is_whole, is_wrong, outcome, going_on, start, next, read_on, finished_of, of_trees}
use Rattle.c_tree.specs.ReadingLaws.{SpeltIsRead, TreesAreOne, FrontsBegin, FrontsAreRead, IsRead}
use Rattle.c_tree.proofs.Fits.{Aim, Yields, Open, text_of, Stands}
use Rattle.c_tree.proofs.Keeping.{all_written-append}
use Rattle.c_tree.proofs.Sound.{read_on-None, reads, start_stands}
use Rattle.c_tree.proofs.Wants.{Want, free, is_fit, Wanted, AreWanted, Fair, outcome_fair, rests_suits, rests_ready}
use Rattle.c_tree.proofs.PlacesLead.{all_lead}
use Rattle.c_tree.proofs.Completions.{Completes, completes}

pub read_on-append :
    {A : Type 0} (making : Making A) (state : Option (List (Frame A))) (front behind : List PlainToken)
    → read_on making state (front ++ behind) ≡ read_on making (read_on making state front) behind
read_on-append making state [] behind = refl
read_on-append making None (token ∷ front) behind = sym (read_on-None making behind)
read_on-append making (Some frames) (token ∷ front) behind = read_on-append making (next making frames token) front behind

-- units that tokens are read as are one
pub trees_are_one : SpeltIsRead → TreesAreOne
trees_are_one spelt_is_read tokens first second s z =
    let one = spelt_is_read tokens first s in let other = spelt_is_read tokens second z in cc

pub fronts_are_read : SpeltIsRead → FrontsAreRead
fronts_are_read spelt_is_read front b = by_state (read_on of_trees (Some start) front) refl
  where
    whole : finished_of of_trees (read_on of_trees (read_on of_trees (Some start) front) b.behind) ≡ Some b.tree
    whole =
        ap (finished_of of_trees) (sym (read_on-append of_trees (Some start) front b.behind)) ∙ spelt_is_read (front ++ b.behind) b.tree b.spells

    by_state : (x : Option (List (Frame PlainTree))) → read_on of_trees (Some start) front ≡ x → IsRead front
    by_state (Some frames) e = record { frames = frames; reads = e }
    by_state None e =
        let gone : finished_of of_trees (read_on of_trees None b.behind) ≡ Some b.tree =
        ap (λ x. finished_of of_trees (read_on of_trees x b.behind)) (sym e) ∙ whole in
        let stuck : finished_of of_trees (read_on of_trees None b.behind) ≡ None = ap (finished_of of_trees) (read_on-None of_trees b.behind) in
        absurd cc

-- ---- tokens that can be read begin a unit

-- a unit that begins with what has been read, and tokens
pub record Completed (frames : List (Frame PlainTree)) (seen : List PlainToken → List PlainToken) : Type 0 where
  pub whole : PlainTree
  pub further : List PlainToken
  pub unit : IsTrue (is_unit whole)
  pub text : (behind : List PlainToken) → written whole behind ≡ text_of frames (seen (further ++ behind))

-- a node that has been completed, and what is around it
node_completes :
    (frames : List (Frame PlainTree)) (parts : List PlainTree) (aim : Aim) (want : Want) (c : Completes parts aim want) → Completed frames (written c.tree)
    → Completed frames (all_written (trees parts))
node_completes frames parts aim want c d =
    record {
      whole = d.whole;
      further = c.further ++ d.further;
      unit = d.unit;
      text = λ behind.
          d.text behind ∙ ap (text_of frames) (c.text (d.further ++ behind))
          ∙ ap (λ l. text_of frames (all_written (trees parts) l)) (sym (append_assoc c.further d.further behind));
    }

last_part :
    (frames : List (Frame PlainTree)) (parts : List PlainTree) (tree : PlainTree) → Completed frames (all_written (trees (parts ++ tree ∷ [])))
    → Completed frames (λ behind. all_written (trees parts) (written tree behind))
last_part frames parts tree d =
    record {
      whole = d.whole;
      further = d.further;
      unit = d.unit;
      text = λ behind. d.text behind ∙ ap (text_of frames) (all_written-append parts tree (d.further ++ behind));
    }

-- the nodes around a value are completed one after the other
around_completes :
    (frames : List (Frame PlainTree)) (aim : Aim) (want : Want) (ended : Place) (tree : PlainTree) → Open frames aim → Wanted frames want
    → Yields aim ended tree → IsTrue (is_fit want ended) → Completed frames (written tree)
around_completes [] aim want ended tree o w y f =
    record { whole = tree; further = []; unit = o ended tree y; text = λ behind. refl }
around_completes (inner ∷ frames) aim want ended tree o w y f =
    let c : Completes (inner.parts ++ tree ∷ []) o.outer w.outer =
    completes (back inner.place ended) o.outer w.outer (inner.parts ++ tree ∷ [])
    (o.comes_back t.Other ended tree y (λ e. absurd cc)) (w.returns.suits ended) (w.returns.ready ended f) in
    outwards inner frames tree
    (last_part frames inner.parts tree
    (node_completes frames (inner.parts ++ tree ∷ []) o.outer w.outer c
    (around_completes frames o.outer w.outer c.ended c.tree o.around w.more c.yields c.fit)))
  where
    outwards :
        (inner : Frame PlainTree) (frames : List (Frame PlainTree)) (tree : PlainTree)
        → Completed frames (λ behind. all_written (trees inner.parts) (written tree behind)) → Completed (inner ∷ frames) (written tree)
    outwards inner frames tree d = record { whole = d.whole; further = d.further; unit = d.unit; text = d.text }

frames_complete : (frames : List (Frame PlainTree)) → Stands frames → AreWanted frames → Completed frames (λ behind. behind)
frames_complete [] s w = elim s [ ]
frames_complete (inner ∷ frames) s w =
    let c : Completes inner.parts s.aim w.want =
    completes inner.place s.aim w.want inner.parts (s.fits t.Other) (rests_suits inner.place w.want w.rests)
    (rests_ready inner.place w.want w.rests) in
    outwards inner frames
    (node_completes frames inner.parts s.aim w.want c (around_completes frames s.aim w.want c.ended c.tree s.around w.around c.yields c.fit))
  where
    outwards :
        (inner : Frame PlainTree) (frames : List (Frame PlainTree)) → Completed frames (all_written (trees inner.parts))
        → Completed (inner ∷ frames) (λ behind. behind)
    outwards inner frames d = record { whole = d.whole; further = d.further; unit = d.unit; text = d.text }

wanted_on :
    (tokens : List PlainToken) (frames after : List (Frame PlainTree)) → AreWanted frames → read_on of_trees (Some frames) tokens ≡ Some after → AreWanted after
wanted_on [] frames after w e = let same : frames ≡ after = cc in subst (λ (l : List (Frame PlainTree)). AreWanted l) same w
wanted_on (token ∷ tokens) frames after w e =
    by_outcome (outcome of_trees (terminal token) (leaf token) frames) (outcome_fair of_trees all_lead (terminal token) (leaf token) frames w) e
    (λ between w' e'. wanted_on tokens between after w' e')
  where
    by_outcome :
        (x : Outcome PlainTree) → Fair x → read_on of_trees (going_on x) tokens ≡ Some after
        → ((between : List (Frame PlainTree)) → AreWanted between → read_on of_trees (Some between) tokens ≡ Some after → AreWanted after)
        → AreWanted after
    by_outcome (goes_on between) g e later = later between g e
    by_outcome (is_whole tree) g e later = let f = read_on-None of_trees tokens in absurd cc
    by_outcome is_wrong g e later = let f = read_on-None of_trees tokens in absurd cc

start_wanted : AreWanted (start {A = PlainTree})
start_wanted = record { want = free; rests = refl; around = tt }

pub fronts_begin : FrontsBegin
fronts_begin front frames e =
    let r = reads front start frames start_stands e in
    let c = frames_complete frames r.stands (wanted_on front start frames start_wanted e) in
    record {
      behind = c.further;
      tree = c.whole;
      spells =
          record {
            unit = c.unit;
            text = c.text [] ∙ ap (text_of frames) (append-nil c.further) ∙ r.text c.further;
          };
    }
