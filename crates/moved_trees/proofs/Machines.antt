-- The reader of units on changed tokens of the same terminals: it goes the same way, and what it has read is changed.
use Rattle.std.proofs.Common.{◌≡◌, true, false, List, [], ◌∷◌, ◌++◌, map, Option, Some, None, option_map, All, refl, ap, sym, ◌∙◌}
use Rattle.std.proofs.lemmas.List.{map-append}
use Rattle.std.proofs.lemmas.List.Elements.{All-head, All-tail}
use Rattle.c_text.specs.Token.{PlainToken}
use Rattle.c_tree.specs.declared.terminals.Terminal.{Terminal}
use Rattle.c_tree.specs.declared.terminals.Terminal.TheVariants.{Other}
use Rattle.c_tree.specs.Terminals.{terminal}
use Rattle.c_tree.specs.Trees.{PlainTree, leaf, node, more, absent, trees}
use Rattle.c_tree.specs.Places.{Place, Beginning, no_beginning, begins, Move, shifts, enters, takes, skips, finishes, passes, fails, move, back}
use Rattle.c_tree.specs.Machine.{Frame, frame, Outcome, goes_on, is_whole, is_wrong, nested, begun, alone, moved, arrives, outcome, going_on, next, read_on, start, whole, finished_of, read, of_trees}
use Rattle.moved_programs.specs.Trees.{moved_tree, moved_trees}
use Rattle.moved_trees.specs.Laws.{Change, KeepsTerminal}

abbrev pub changed_frame : Change → Frame PlainTree → Frame PlainTree
changed_frame f at = frame at.place (map (moved_tree f) at.parts)

abbrev pub changed_frames : Change → List (Frame PlainTree) → List (Frame PlainTree)
changed_frames f frames = map (changed_frame f) frames

abbrev pub changed_outcome : Change → Outcome PlainTree → Outcome PlainTree
changed_outcome f (goes_on frames) = goes_on (changed_frames f frames)
changed_outcome f (is_whole value) = is_whole (moved_tree f value)
changed_outcome f is_wrong = is_wrong

trees_changed : (f : Change) (parts : List PlainTree) → trees (map (moved_tree f) parts) ≡ moved_trees f (trees parts)
trees_changed f [] = refl
trees_changed f (first ∷ rest) = ap (more (moved_tree f first)) (trees_changed f rest)

nested_changed : (f : Change) (places : List Place) (frames : List (Frame PlainTree)) → nested places (changed_frames f frames) ≡ changed_frames f (nested places frames)
nested_changed f [] frames = refl
nested_changed f (first ∷ places) frames = nested_changed f places (frame first [] ∷ frames)

begun_changed :
    (f : Change) (beginning : Beginning) (token : PlainTree) (frames : List (Frame PlainTree))
    → begun of_trees beginning (moved_tree f token) (changed_frames f frames) ≡ changed_outcome f (begun of_trees beginning token frames)
begun_changed f no_beginning token frames = refl
begun_changed f (begins places false inner) token frames =
    ap (λ fs. goes_on (frame inner (moved_tree f token ∷ []) ∷ fs)) (nested_changed f places frames)
begun_changed f (begins places true inner) token frames =
    ap (λ fs. goes_on (frame inner (absent ∷ moved_tree f token ∷ []) ∷ fs)) (nested_changed f places frames)

alone_changed : (f : Change) (parts : List PlainTree) → alone of_trees (map (moved_tree f) parts) ≡ moved_tree f (alone of_trees parts)
alone_changed f [] = refl
alone_changed f (first ∷ rest) = refl

-- what comes of a whole node is changed
abbrev pub EndsChanged : Change → (PlainTree → Outcome PlainTree) → (PlainTree → Outcome PlainTree) → Type 0
EndsChanged f ends after = (tree : PlainTree) → after (moved_tree f tree) ≡ changed_outcome f (ends tree)

added : (f : Change) (parts : List PlainTree) (part : PlainTree) → map (moved_tree f) parts ++ moved_tree f part ∷ [] ≡ map (moved_tree f) (parts ++ part ∷ [])
added f parts part = sym (map-append (moved_tree f) parts (part ∷ []))

moved_changed :
    (f : Change) (place : Place) (parts : List PlainTree) (m : Move) (token : PlainTree) (frames : List (Frame PlainTree)) (ends after : PlainTree → Outcome PlainTree)
    → EndsChanged f ends after
    → moved of_trees place (map (moved_tree f) parts) m (moved_tree f token) (changed_frames f frames) after
    ≡ changed_outcome f (moved of_trees place parts m token frames ends)
moved_changed f place parts (shifts behind) token frames ends after e =
    ap (λ ps. goes_on (frame behind ps ∷ changed_frames f frames)) (added f parts token)
moved_changed f place parts (enters behind beginning) token frames ends after e = begun_changed f beginning token (frame behind parts ∷ frames)
moved_changed f place parts (takes behind inner) token frames ends after e =
    ap (λ ps. goes_on (frame inner ps ∷ frame behind [] ∷ changed_frames f frames)) (added f parts token)
moved_changed f place parts (skips other) token frames ends after e =
    ap (λ ps. moved of_trees place ps other (moved_tree f token) (changed_frames f frames) after) (added f parts absent)
    ∙ moved_changed f place (parts ++ absent ∷ []) other token frames ends after e
moved_changed f place parts (finishes kind) token frames ends after e =
    ap (λ ps. after (node kind ps)) (trees_changed f parts) ∙ e (node kind (trees parts))
moved_changed f place parts passes token frames ends after e = ap after (alone_changed f parts) ∙ e (alone of_trees parts)
moved_changed f place parts fails token frames ends after e = refl

arrives_changed :
    (f : Change) (kind : Terminal) (token value : PlainTree) (ended : Place) (frames : List (Frame PlainTree))
    → arrives of_trees kind (moved_tree f token) (moved_tree f value) ended (changed_frames f frames)
    ≡ changed_outcome f (arrives of_trees kind token value ended frames)
arrives_changed f kind token value ended [] = refl
arrives_changed f kind token value ended (inner ∷ frames) =
    ap
    (λ ps. moved of_trees (back inner.place ended) ps (move (back inner.place ended) kind) (moved_tree f token) (changed_frames f frames)
    (λ whole. arrives of_trees kind (moved_tree f token) whole (back inner.place ended) (changed_frames f frames)))
    (added f inner.parts value)
    ∙ moved_changed f (back inner.place ended) (inner.parts ++ value ∷ []) (move (back inner.place ended) kind) token frames
    (λ whole. arrives of_trees kind token whole (back inner.place ended) frames)
    (λ whole. arrives of_trees kind (moved_tree f token) whole (back inner.place ended) (changed_frames f frames))
    (λ whole. arrives_changed f kind token whole (back inner.place ended) frames)

outcome_changed :
    (f : Change) (kind : Terminal) (token : PlainTree) (frames : List (Frame PlainTree))
    → outcome of_trees kind (moved_tree f token) (changed_frames f frames) ≡ changed_outcome f (outcome of_trees kind token frames)
outcome_changed f kind token [] = refl
outcome_changed f kind token (inner ∷ frames) =
    moved_changed f inner.place inner.parts (move inner.place kind) token frames
    (λ whole. arrives of_trees kind token whole inner.place frames)
    (λ whole. arrives of_trees kind (moved_tree f token) whole inner.place (changed_frames f frames))
    (λ whole. arrives_changed f kind token whole inner.place frames)

going_on_changed : (f : Change) (o : Outcome PlainTree) → going_on (changed_outcome f o) ≡ option_map (changed_frames f) (going_on o)
going_on_changed f (goes_on frames) = refl
going_on_changed f (is_whole value) = refl
going_on_changed f is_wrong = refl

next_changed :
    (f : Change) (frames : List (Frame PlainTree)) (token : PlainToken) → KeepsTerminal f token
    → next of_trees (changed_frames f frames) (f token) ≡ option_map (changed_frames f) (next of_trees frames token)
next_changed f frames token kept =
    ap (λ kind. going_on (outcome of_trees kind (leaf (f token)) (changed_frames f frames))) kept
    ∙ ap going_on (outcome_changed f (terminal token) (leaf token) frames)
    ∙ going_on_changed f (outcome of_trees (terminal token) (leaf token) frames)

pub read_on_changed :
    (f : Change) (state : Option (List (Frame PlainTree))) (tokens : List PlainToken) → All (KeepsTerminal f) tokens
    → read_on of_trees (option_map (changed_frames f) state) (map f tokens)
    ≡ option_map (changed_frames f) (read_on of_trees state tokens)
read_on_changed f state [] kept = refl
read_on_changed f None (token ∷ tokens) kept = refl
read_on_changed f (Some frames) (token ∷ tokens) kept =
    ap (λ state. read_on of_trees state (map f tokens)) (next_changed f frames token (All-head (KeepsTerminal f) token tokens kept))
    ∙ read_on_changed f (next of_trees frames token) tokens (All-tail (KeepsTerminal f) token tokens kept)

whole_changed : (f : Change) (o : Outcome PlainTree) → whole (changed_outcome f o) ≡ option_map (moved_tree f) (whole o)
whole_changed f (goes_on frames) = refl
whole_changed f (is_whole value) = refl
whole_changed f is_wrong = refl

finished_changed :
    (f : Change) (state : Option (List (Frame PlainTree)))
    → finished_of of_trees (option_map (changed_frames f) state) ≡ option_map (moved_tree f) (finished_of of_trees state)
finished_changed f None = refl
finished_changed f (Some frames) =
    ap whole (outcome_changed f Other absent frames) ∙ whole_changed f (outcome of_trees Other absent frames)

-- what changed tokens are read as is changed
pub read_changed :
    (f : Change) (tokens : List PlainToken) → All (KeepsTerminal f) tokens
    → read of_trees (map f tokens) ≡ option_map (moved_tree f) (read of_trees tokens)
read_changed f tokens kept =
    ap (finished_of of_trees) (read_on_changed f (Some start) tokens kept) ∙ finished_changed f (read_on of_trees (Some start) tokens)
