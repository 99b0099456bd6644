-- What is read is a unit that spells what was read.
use Rattle.std.proofs.Common.{◌≡◌, true, false, List, [], ◌∷◌, ◌++◌, Option, Some, None, refl, ◌∙◌, subst, append-nil}
use Rattle.c_text.specs.Token.{PlainToken}
use Rattle.c_tree.specs.declared.kinds.Kind.TheVariants as k
use Rattle.c_tree.specs.declared.terminals.Terminal.{Terminal}
use Rattle.c_tree.specs.declared.terminals.Terminal.TheVariants as t
use Rattle.c_tree.specs.Terminals.{terminal}
use Rattle.c_tree.specs.Trees.{PlainTree, leaf, absent}
use Rattle.c_tree.specs.Units.{Spells}
use Rattle.c_tree.specs.Places.{Place, inside, operand, operator, opened, in_texts, in_words, in_list, entered, separated_from, specifying, specified, declaring, declared, declarator_at, declarator_read, declarator_next, initialiser_next, initialiser_read, before_name, behind_name, in_brackets, parameters_next, parameters_read, behind_parameters, parameter_at, parameter_read, parameter_next, parameter_begins, parameter_typed, parameter_declared, Beginning, no_beginning, begins, Move, shifts, enters, takes, skips, finishes, passes, fails, move, back}
use Rattle.c_tree.specs.Machine.{Making, Frame, frame, Outcome, goes_on, is_whole, is_wrong, begun, alone, moved, arrives, outcome, going_on, read_on, start, whole, finished, finished_of, read, of_trees}
use Rattle.c_tree.proofs.Fits.{the_unit, Stands, text_of}
use Rattle.c_tree.proofs.Fillers.{a_token}
use Rattle.c_tree.proofs.Keeping.{IsWhole, Good, Keeps, outcome_good}
use Rattle.c_tree.proofs.RowMoves.{row_moves}
use Rattle.c_tree.proofs.ExpressionMoves.{operator_moves, opened_moves, texts_moves, words_moves, list_moves, entered_moves, comma_moves}
use Rattle.c_tree.proofs.FileMoves.{specified_moves, declared_moves}
use Rattle.c_tree.proofs.DeclaratorMoves.{declarator_read_moves, declarator_next_moves, initialiser_next_moves, initialiser_read_moves, before_name_moves, behind_name_moves}
use Rattle.c_tree.proofs.ParameterMoves.{parameters_next_moves, parameters_read_moves, parameter_read_moves, parameter_next_moves, parameter_typed_moves}

-- what is known in a place is enough, whatever comes
keeps : Keeps
unfolding Keeps
keeps coming token e (inside kind slots) aim parts f =
    row_moves kind (inside kind) (λ coming slots aim parts r. r) (λ slots ended. refl) slots coming token e aim parts f
keeps coming token e (operand wanted) aim parts f = tt
keeps coming token e (operator wanted own) aim parts f = operator_moves coming wanted own token e aim parts f
keeps coming token e (opened wanted) aim parts f = opened_moves wanted coming token e aim parts f
keeps coming token e in_texts aim parts f = texts_moves coming token e aim parts f
keeps coming token e (in_words wording words) aim parts f = words_moves wording words coming token e aim parts f
keeps coming token e (in_list kind category) aim parts f = list_moves kind category coming token e aim parts f
keeps coming token e (entered kind category) aim parts f = entered_moves coming kind category token e aim parts f
keeps coming token e (separated_from kind category) aim parts f = comma_moves kind category coming token e aim parts f
keeps coming token e specifying aim parts f = tt
keeps coming token e (specified by) aim parts f = specified_moves by coming token e aim parts f
keeps coming token e (declaring inline) aim parts f = tt
keeps coming token e (declared inline flavour) aim parts f = declared_moves coming inline flavour token e aim parts f
keeps coming token e (declarator_at role) aim parts f = tt
keeps coming token e (declarator_read role flavour) aim parts f = declarator_read_moves coming role flavour token e aim parts f
keeps coming token e (declarator_next role) aim parts f = declarator_next_moves role coming token e aim parts f
keeps coming token e (initialiser_next role) aim parts f = initialiser_next_moves role coming token e aim parts f
keeps coming token e (initialiser_read role) aim parts f = initialiser_read_moves coming role token e aim parts f
keeps coming token e (before_name role starred) aim parts f = before_name_moves role coming starred token e aim parts f
keeps coming token e (behind_name role) aim parts f = behind_name_moves role coming token e aim parts f
keeps coming token e (in_brackets has_name slots) aim parts f =
    row_moves k.ArrayDeclarator (in_brackets has_name) (λ coming slots aim parts r. r) (λ slots ended. refl) slots coming token e aim parts f
keeps coming token e (parameters_next role) aim parts f = parameters_next_moves role coming token e aim parts f
keeps coming token e (parameters_read role flavour) aim parts f = parameters_read_moves coming role flavour token e aim parts f
keeps coming token e (behind_parameters flavour) aim parts f = record { yields = f; closed = λ x. refl }
keeps coming token e (parameter_at inline before) aim parts f = tt
keeps coming token e (parameter_read inline naming) aim parts f = parameter_read_moves coming inline naming token e aim parts f
keeps coming token e (parameter_next inline naming) aim parts f = parameter_next_moves inline naming coming token e aim parts f
keeps coming token e (parameter_begins inline) aim parts f = tt
keeps coming token e (parameter_typed inline lone) aim parts f = parameter_typed_moves inline lone coming token e aim parts f
keeps coming token e (parameter_declared naming) aim parts f = record { yields = f; closed = λ x. refl }

-- ---- whether what has been read is whole doesn't hang on the token

module _ {A : Type 0} (making : Making A) where
  begun-whole :
      (beginning : Beginning) (token other : A) (frames : List (Frame A))
      → whole (begun making beginning token frames) ≡ whole (begun making beginning other frames)
  begun-whole no_beginning token other frames = refl
  begun-whole (begins places false inner) token other frames = refl
  begun-whole (begins places true inner) token other frames = refl

  moved-whole :
      (place : Place) (parts : List A) (what : Move) (token other : A) (frames : List (Frame A)) (ends ends_so : A → Outcome A)
      → ((value : A) → whole (ends value) ≡ whole (ends_so value))
      → whole (moved making place parts what token frames ends) ≡ whole (moved making place parts what other frames ends_so)
  moved-whole place parts (shifts behind) token other frames ends ends_so same = refl
  moved-whole place parts (enters behind beginning) token other frames ends ends_so same = begun-whole beginning token other (frame behind parts ∷ frames)
  moved-whole place parts (takes behind inner) token other frames ends ends_so same = refl
  moved-whole place parts (skips what) token other frames ends ends_so same =
      moved-whole place (parts ++ making.of_nothing ∷ []) what token other frames ends ends_so same
  moved-whole place parts (finishes kind) token other frames ends ends_so same = same (making.of_parts kind parts)
  moved-whole place parts passes token other frames ends ends_so same = same (alone making parts)
  moved-whole place parts fails token other frames ends ends_so same = refl

  arrives-whole :
      (kind : Terminal) (token other value : A) (ended : Place) (frames : List (Frame A))
      → whole (arrives making kind token value ended frames) ≡ whole (arrives making kind other value ended frames)
  arrives-whole kind token other value ended [] = refl
  arrives-whole kind token other value ended (inner ∷ frames) =
      moved-whole (back inner.place ended) (inner.parts ++ value ∷ []) (move (back inner.place ended) kind) token other frames
      (λ whole. arrives making kind token whole (back inner.place ended) frames)
      (λ whole. arrives making kind other whole (back inner.place ended) frames)
      (λ whole. arrives-whole kind token other whole (back inner.place ended) frames)

  pub outcome-whole :
      (kind : Terminal) (token other : A) (frames : List (Frame A)) → whole (outcome making kind token frames) ≡ whole (outcome making kind other frames)
  outcome-whole kind token other [] = refl
  outcome-whole kind token other (inner ∷ frames) =
      moved-whole inner.place inner.parts (move inner.place kind) token other frames
      (λ whole. arrives making kind token whole inner.place frames)
      (λ whole. arrives making kind other whole inner.place frames)
      (λ whole. arrives-whole kind token other whole inner.place frames)

-- ---- reading

-- what is known, once tokens have been read
pub record Reads (frames : List (Frame PlainTree)) (tokens : List PlainToken) (after : List (Frame PlainTree)) : Type 0 where
  pub stands : Stands after
  pub text : (behind : List PlainToken) → text_of after behind ≡ text_of frames (tokens ++ behind)

pub read_on-None : {A : Type 0} (making : Making A) (tokens : List PlainToken) → read_on making None tokens ≡ None
read_on-None making [] = refl
read_on-None making (token ∷ tokens) = refl

pub reads :
    (tokens : List PlainToken) (frames after : List (Frame PlainTree)) → Stands frames → read_on of_trees (Some frames) tokens ≡ Some after
    → Reads frames tokens after
reads [] frames after s e = let same : frames ≡ after = cc in subst (λ (l : List (Frame PlainTree)). Reads frames [] l) same (record { stands = s; text = λ behind. refl })
reads (token ∷ tokens) frames after s e =
    by_outcome (outcome of_trees (terminal token) (leaf token) frames) (outcome_good keeps (terminal token) token refl frames s) e
    (λ between s' e'. reads tokens between after s' e')
  where
    by_outcome :
        (x : Outcome PlainTree) → Good (text_of frames) token x → read_on of_trees (going_on x) tokens ≡ Some after
        → ((between : List (Frame PlainTree)) → Stands between → read_on of_trees (Some between) tokens ≡ Some after → Reads between tokens after)
        → Reads frames (token ∷ tokens) after
    by_outcome (goes_on between) g e later =
        let r = later between g.stands e in
        record { stands = r.stands; text = λ behind. r.text behind ∙ g.text (tokens ++ behind) }
    by_outcome (is_whole tree) g e later = let f = read_on-None of_trees tokens in absurd cc
    by_outcome is_wrong g e later = let f = read_on-None of_trees tokens in absurd cc

pub start_stands : Stands (start {A = PlainTree})
start_stands =
    record {
      aim = the_unit;
      fits = λ coming. record { readable = refl; shut = refl; completes = λ further h. h };
      around = λ ended tree h. h;
    }

whole_good :
    (T : List PlainToken → List PlainToken) (token : PlainToken) (x : Outcome PlainTree) (tree : PlainTree) → Good T token x → whole x ≡ Some tree
    → IsWhole T tree
whole_good T token (goes_on frames) tree g e = absurd cc
whole_good T token (is_whole other) tree g e = let same : other ≡ tree = cc in subst (λ (x : PlainTree). IsWhole T x) same g
whole_good T token is_wrong tree g e = absurd cc

pub finished_spells :
    (tokens : List PlainToken) (frames : List (Frame PlainTree)) (tree : PlainTree) → Reads start tokens frames → finished of_trees frames ≡ Some tree
    → Spells tokens tree
finished_spells tokens frames tree r e =
    let other = a_token t.Other in
    let ends : whole (outcome of_trees t.Other (leaf other.token) frames) ≡ Some tree =
    outcome-whole of_trees t.Other (leaf other.token) absent frames ∙ e in
    let w = whole_good (text_of frames) other.token (outcome of_trees t.Other (leaf other.token) frames) tree
    (outcome_good keeps t.Other other.token other.is frames r.stands) ends in
    record { unit = w.unit; text = w.text [] ∙ r.text [] ∙ append-nil tokens }

pub read_is_spelt : (tokens : List PlainToken) (tree : PlainTree) → read of_trees tokens ≡ Some tree → Spells tokens tree
read_is_spelt tokens tree e = by_state (read_on of_trees (Some start) tokens) refl e
  where
    by_state :
        (x : Option (List (Frame PlainTree))) → read_on of_trees (Some start) tokens ≡ x → finished_of of_trees x ≡ Some tree → Spells tokens tree
    by_state None f g = absurd cc
    by_state (Some frames) f g = finished_spells tokens frames tree (reads tokens start frames start_stands f) g
