-- A model of the code, not part of the meaning:
-- The reader: what it keeps of the tokens so far, and what the next one does. It works on values of any type that stand for trees.
use Rattle.std.specs.Prelude.{true, false, List, [], ◌∷◌, ◌++◌, Option, Some, None}
use Rattle.c_text.specs.Token.{PlainToken}
use Rattle.c_tree.specs.declared.kinds.Kind.{Kind}
use Rattle.c_tree.specs.declared.kinds.Kind.TheVariants.{Unit}
use Rattle.c_tree.specs.declared.terminals.Terminal.{Terminal}
use Rattle.c_tree.specs.declared.terminals.Terminal.TheVariants.{Other}
use Rattle.c_tree.specs.Terminals.{terminal}
use Rattle.c_tree.specs.Trees.{PlainTree, leaf, node, absent, trees}
use Rattle.c_tree.specs.Grammar.{file_item}
use Rattle.c_tree.specs.Places.{Place, in_list, Beginning, no_beginning, begins, Move, shifts, enters, takes, skips, finishes, passes, fails, move, back}

-- how values are made that stand for trees
pub record Making (A : Type 0) : Type 0 where
  pub of_token : PlainToken → A
  pub of_parts : Kind → List A → A
  pub of_nothing : A

-- a node that has begun: the place in it, and its parts so far
pub record Frame (A : Type 0) : Type 0 where
  pub place : Place
  pub parts : List A

abbrev pub frame : {A : Type 0} → Place → List A → Frame A
frame place parts = record { place = place; parts = parts }

-- what a token leads to: nodes that have begun, the innermost first; or what has been read is whole without it; or it can't stand here
pub data Outcome (A : Type 0) : Type 0 where
  goes_on : List (Frame A) → Outcome A
  is_whole : A → Outcome A
  is_wrong : Outcome A

abbrev pub nested : {A : Type 0} → List Place → List (Frame A) → List (Frame A)
nested [] frames = frames
nested (first ∷ places) frames = nested places (frame first [] ∷ frames)

-- nodes that begin with a token
abbrev pub begun : {A : Type 0} → Making A → Beginning → A → List (Frame A) → Outcome A
begun making no_beginning token frames = is_wrong
begun making (begins places false inner) token frames = goes_on (frame inner (token ∷ []) ∷ nested places frames)
begun making (begins places true inner) token frames = goes_on (frame inner (making.of_nothing ∷ token ∷ []) ∷ nested places frames)

-- the one value of a list of one
abbrev pub alone : {A : Type 0} → Making A → List A → A
alone making [] = making.of_nothing
alone making (first ∷ rest) = first

-- What a move does with a token in the innermost node; `ends` says what comes of the whole node.
abbrev pub moved : {A : Type 0} → Making A → Place → List A → Move → A → List (Frame A) → (A → Outcome A) → Outcome A
moved making place parts (shifts behind) token frames ends = goes_on (frame behind (parts ++ token ∷ []) ∷ frames)
moved making place parts (enters behind beginning) token frames ends =
    begun making beginning token (frame behind parts ∷ frames)
moved making place parts (takes behind inner) token frames ends =
    goes_on (frame inner (parts ++ token ∷ []) ∷ frame behind [] ∷ frames)
moved making place parts (skips other) token frames ends =
    moved making place (parts ++ making.of_nothing ∷ []) other token frames ends
moved making place parts (finishes kind) token frames ends = ends (making.of_parts kind parts)
moved making place parts passes token frames ends = ends (alone making parts)
moved making place parts fails token frames ends = is_wrong

-- A value that ended at a place is the next part of the innermost node, and then comes the token.
abbrev pub arrives : {A : Type 0} → Making A → Terminal → A → A → Place → List (Frame A) → Outcome A
arrives making kind token value ended [] = is_whole value
arrives making kind token value ended (inner ∷ frames) =
    moved making (back inner.place ended) (inner.parts ++ value ∷ []) (move (back inner.place ended) kind) token frames
    (λ whole. arrives making kind token whole (back inner.place ended) frames)

abbrev pub outcome : {A : Type 0} → Making A → Terminal → A → List (Frame A) → Outcome A
outcome making kind token [] = is_wrong
outcome making kind token (inner ∷ frames) =
    moved making inner.place inner.parts (move inner.place kind) token frames
    (λ whole. arrives making kind token whole inner.place frames)

abbrev pub going_on : {A : Type 0} → Outcome A → Option (List (Frame A))
going_on (goes_on frames) = Some frames
going_on (is_whole value) = None
going_on is_wrong = None

-- what the next token leads to
abbrev pub next : {A : Type 0} → Making A → List (Frame A) → PlainToken → Option (List (Frame A))
next making frames token = going_on (outcome making (terminal token) (making.of_token token) frames)

abbrev pub read_on : {A : Type 0} → Making A → Option (List (Frame A)) → List PlainToken → Option (List (Frame A))
read_on making state [] = state
read_on making None (token ∷ tokens) = None
read_on making (Some frames) (token ∷ tokens) = read_on making (next making frames token) tokens

-- before the first token
abbrev pub start : {A : Type 0} → List (Frame A)
start = frame (in_list Unit file_item) [] ∷ []

abbrev pub whole : {A : Type 0} → Outcome A → Option A
whole (goes_on frames) = None
whole (is_whole value) = Some value
whole is_wrong = None

-- the unit, where the tokens end here
abbrev pub finished : {A : Type 0} → Making A → List (Frame A) → Option A
finished making frames = whole (outcome making Other making.of_nothing frames)

abbrev pub finished_of : {A : Type 0} → Making A → Option (List (Frame A)) → Option A
finished_of making None = None
finished_of making (Some frames) = finished making frames

-- what a list of tokens is read as
abbrev pub read : {A : Type 0} → Making A → List PlainToken → Option A
read making tokens = finished_of making (read_on making (Some start) tokens)

-- the trees themselves
abbrev pub of_trees : Making PlainTree
of_trees = record { of_token = leaf; of_parts = λ kind parts. node kind (trees parts); of_nothing = absent }
