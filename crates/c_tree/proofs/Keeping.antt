-- What is known of the nodes that have begun stays known, whatever the next token does, and no token is lost.
use Rattle.std.proofs.Common.{◌≡◌, Bool, true, false, List, [], ◌∷◌, ◌++◌, refl, ap, ◌∙◌, sym, subst}
use Rattle.std.specs.Prelude.{IsTrue}
use Rattle.c_text.specs.Token.{PlainToken}
use Rattle.c_tree.specs.declared.terminals.Terminal.{Terminal}
use Rattle.c_tree.specs.Terminals.{terminal}
use Rattle.c_tree.specs.Trees.{PlainTree, leaf, node, absent, written, all_written, trees}
use Rattle.c_tree.specs.Grammar.{is_unit}
use Rattle.c_tree.specs.Places.{Place, Beginning, no_beginning, begins, Move, shifts, enters, takes, skips, finishes, passes, fails, move, back}
use Rattle.c_tree.specs.Machine.{Frame, frame, Outcome, goes_on, is_whole, is_wrong, nested, begun, alone, moved, arrives, outcome, of_trees}
use Rattle.c_tree.proofs.Fits.{Aim, Yields, Closed, Fits, Open, text_of, Stands, first_parts, Starts, Begins, Moves}

pub all_written-append :
    (parts : List PlainTree) (tree : PlainTree) (behind : List PlainToken)
    → all_written (trees (parts ++ tree ∷ [])) behind ≡ all_written (trees parts) (written tree behind)
all_written-append [] tree behind = refl
all_written-append (first ∷ parts) tree behind = ap (written first) (all_written-append parts tree behind)

text_of-nested :
    (places : List Place) (frames : List (Frame PlainTree)) (behind : List PlainToken)
    → text_of (nested places frames) behind ≡ text_of frames behind
text_of-nested [] frames behind = refl
text_of-nested (first ∷ places) frames behind = text_of-nested places (frame first [] ∷ frames) behind

-- what is right of an outcome, where the text so far is T
pub record GoesOn (T : List PlainToken → List PlainToken) (token : PlainToken) (frames : List (Frame PlainTree)) : Type 0 where
  pub stands : Stands frames
  pub text : (behind : List PlainToken) → text_of frames behind ≡ T (token ∷ behind)

pub record IsWhole (T : List PlainToken → List PlainToken) (tree : PlainTree) : Type 0 where
  pub unit : IsTrue (is_unit tree)
  pub text : (behind : List PlainToken) → written tree behind ≡ T behind

abbrev pub Good : (List PlainToken → List PlainToken) → PlainToken → Outcome PlainTree → Type 0
Good T token (goes_on frames) = GoesOn T token frames
Good T token (is_whole tree) = IsWhole T tree
Good T token is_wrong = Unit {0}

starts_good :
    (places : List Place) (skipped : Bool) (inner : Place) (token : PlainToken) (aim : Aim) (frames : List (Frame PlainTree))
    → Starts places skipped inner token aim → Open frames aim
    → Stands (frame inner (first_parts skipped token) ∷ nested places frames)
starts_good [] skipped inner token aim frames s o = record { aim = aim; fits = s; around = o }
starts_good (place ∷ places) skipped inner token aim frames s o =
    starts_good places skipped inner token s.inner (frame place [] ∷ frames) s.more
    (record { outer = aim; comes_back = s.comes_back; around = o })

begun_good :
    (T : List PlainToken → List PlainToken) (token : PlainToken) (beginning : Beginning) (aim : Aim) (frames : List (Frame PlainTree))
    → Begins token beginning aim → Open frames aim → ((behind : List PlainToken) → T behind ≡ text_of frames behind)
    → Good T token (begun of_trees beginning (leaf token) frames)
begun_good T token no_beginning aim frames b o same = tt
begun_good T token (begins places false inner) aim frames b o same =
    record {
      stands = starts_good places false inner token aim frames b o;
      text = λ behind. text_of-nested places frames (token ∷ behind) ∙ sym (same (token ∷ behind));
    }
begun_good T token (begins places true inner) aim frames b o same =
    record {
      stands = starts_good places true inner token aim frames b o;
      text = λ behind. text_of-nested places frames (token ∷ behind) ∙ sym (same (token ∷ behind));
    }

moved_good :
    (T : List PlainToken → List PlainToken) (coming : Terminal) (token : PlainToken) (place : Place) (aim : Aim)
    (parts : List PlainTree) (what : Move) (frames : List (Frame PlainTree)) (ends : PlainTree → Outcome PlainTree)
    → Moves coming token place aim parts what → Open frames aim
    → ((behind : List PlainToken) → T behind ≡ text_of frames (all_written (trees parts) behind))
    → ((tree : PlainTree) → Yields aim place tree → Closed coming tree
    → ((behind : List PlainToken) → T behind ≡ text_of frames (written tree behind)) → Good T token (ends tree))
    → Good T token (moved of_trees place parts what (leaf token) frames ends)
moved_good T coming token place aim parts (shifts behind) frames ends m o same good =
    record {
      stands = record { aim = aim; fits = m; around = o };
      text = λ after. ap (text_of frames) (all_written-append parts (leaf token) after) ∙ sym (same (token ∷ after));
    }
moved_good T coming token place aim parts (enters behind beginning) frames ends m o same good =
    begun_good T token beginning m.inner (frame behind parts ∷ frames) m.more
    (record { outer = aim; comes_back = m.comes_back; around = o }) same
moved_good T coming token place aim parts (takes behind within) frames ends m o same good =
    record {
      stands = record {
        aim = m.inner;
        fits = m.more;
        around = record { outer = aim; comes_back = m.comes_back; around = o };
      };
      text = λ after. ap (text_of frames) (all_written-append parts (leaf token) after) ∙ sym (same (token ∷ after));
    }
moved_good T coming token place aim parts (skips other) frames ends m o same good =
    moved_good T coming token place aim (parts ++ absent ∷ []) other frames ends m o
    (λ behind. same behind ∙ ap (text_of frames) (sym (all_written-append parts absent behind))) good
moved_good T coming token place aim parts (finishes kind) frames ends m o same good =
    good (node kind (trees parts)) m.yields m.closed same
moved_good T coming token place aim parts passes frames ends m o same good =
    let P : List PlainTree → Type 0 = λ l. Good T token (ends (alone of_trees l)) in
    subst P (sym m.alone)
    (good m.tree m.yields m.closed
    (λ behind. same behind ∙ ap (λ l. text_of frames (all_written (trees l) behind)) m.alone))
moved_good T coming token place aim parts fails frames ends m o same good = tt

-- a place is kept to, whatever comes
unfoldable pub Keeps : Type 0
Keeps =
    (coming : Terminal) (token : PlainToken) → terminal token ≡ coming → (place : Place) (aim : Aim) (parts : List PlainTree)
    → Fits coming place (Yields aim) parts → Moves coming token place aim parts (move place coming)

module _ (keeps : Keeps) where
  arrives_good :
      (T : List PlainToken → List PlainToken) (coming : Terminal) (token : PlainToken) → terminal token ≡ coming
      → (tree : PlainTree) (ended : Place) (aim : Aim) (frames : List (Frame PlainTree))
      → Open frames aim → Yields aim ended tree → Closed coming tree
      → ((behind : List PlainToken) → T behind ≡ text_of frames (written tree behind))
      → Good T token (arrives of_trees coming (leaf token) tree ended frames)
  unfolding Keeps
  arrives_good T coming token e tree ended aim [] o y c same =
      record { unit = o ended tree y; text = λ behind. sym (same behind) }
  arrives_good T coming token e tree ended aim (inner ∷ frames) o y c same =
      moved_good T coming token (back inner.place ended) o.outer (inner.parts ++ tree ∷ []) (move (back inner.place ended) coming) frames
      (λ whole. arrives of_trees coming (leaf token) whole (back inner.place ended) frames)
      (keeps coming token e (back inner.place ended) o.outer (inner.parts ++ tree ∷ []) (o.comes_back coming ended tree y c))
      o.around
      (λ behind. same behind ∙ ap (text_of frames) (sym (all_written-append inner.parts tree behind)))
      (λ whole. λ y'. λ c'. λ same'. arrives_good T coming token e whole (back inner.place ended) o.outer frames o.around y' c' same')

  pub outcome_good :
      (coming : Terminal) (token : PlainToken) → terminal token ≡ coming → (frames : List (Frame PlainTree)) → Stands frames
      → Good (text_of frames) token (outcome of_trees coming (leaf token) frames)
  unfolding Keeps
  outcome_good coming token e [] s = elim s [ ]
  outcome_good coming token e (inner ∷ frames) s =
      moved_good (text_of (inner ∷ frames)) coming token inner.place s.aim inner.parts (move inner.place coming) frames
      (λ whole. arrives of_trees coming (leaf token) whole inner.place frames)
      (keeps coming token e inner.place s.aim inner.parts (s.fits coming))
      s.around
      (λ behind. refl)
      (λ whole y c same. arrives_good (text_of (inner ∷ frames)) coming token e whole inner.place s.aim frames s.around y c same)
