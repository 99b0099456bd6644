-- What reading comes to from the nodes that have begun and the tokens that are still to come, one step at a time.
use Rattle.std.proofs.Common.{◌≡◌, Bool, true, false, List, [], ◌∷◌, ◌++◌, Option, Some, refl, ap, ◌∙◌}
use Rattle.c_text.specs.Token.{PlainToken}
use Rattle.c_tree.specs.declared.kinds.Kind.{Kind}
use Rattle.c_tree.specs.declared.terminals.Terminal.{Terminal}
use Rattle.c_tree.specs.declared.terminals.Terminal.TheVariants.{Other}
use Rattle.c_tree.specs.Terminals.{terminal}
use Rattle.c_tree.specs.Trees.{PlainTree, leaf, node, absent, trees}
use Rattle.c_tree.specs.Places.{Place, Beginning, no_beginning, begins, Move, shifts, enters, takes, skips, finishes, passes, move, back, around, or_fails}
use Rattle.c_tree.specs.Machine.{Frame, frame, Outcome, going_on, begun, moved, alone, arrives, outcome, read_on, finished_of, whole, of_trees}

abbrev pub is_beginning : Beginning → Bool
is_beginning no_beginning = false
is_beginning (begins places skipped inner) = true

-- the terminal and the value that the reader looks at next
abbrev pub ahead : List PlainToken → Terminal
ahead [] = Other
ahead (t ∷ ts) = terminal t

abbrev pub value_ahead : List PlainToken → PlainTree
value_ahead [] = absent
value_ahead (t ∷ ts) = leaf t

-- what comes of an outcome of the next token
abbrev pub after : Outcome PlainTree → List PlainToken → Option PlainTree
after o [] = whole o
after o (t ∷ ts) = finished_of of_trees (read_on of_trees (going_on o) ts)

-- what comes of the nodes that have begun
abbrev pub reading : List (Frame PlainTree) → List PlainToken → Option PlainTree
reading frames tokens = after (outcome of_trees (ahead tokens) (value_ahead tokens) frames) tokens

-- what comes of a value that ended at a place, where the next token doesn't belong to it
abbrev pub arriving : PlainTree → Place → List (Frame PlainTree) → List PlainToken → Option PlainTree
arriving value ended frames tokens = after (arrives of_trees (ahead tokens) (value_ahead tokens) value ended frames) tokens

-- what comes of a part that begins with the next token
abbrev pub entering : (Terminal → Beginning) → List (Frame PlainTree) → List PlainToken → Option PlainTree
entering beginning frames tokens = after (begun of_trees (beginning (ahead tokens)) (value_ahead tokens) frames) tokens

pub on :
    (frames : List (Frame PlainTree)) (ts : List PlainToken) → finished_of of_trees (read_on of_trees (Some frames) ts) ≡ reading frames ts
on frames [] = refl
on frames (t ∷ ts) = refl

-- a value that ended is the next part of the innermost node
pub arrived :
    (value : PlainTree) (ended place : Place) (parts : List PlainTree) (frames : List (Frame PlainTree)) (tokens : List PlainToken)
    → arriving value ended (frame place parts ∷ frames) tokens ≡ reading (frame (back place ended) (parts ++ value ∷ []) ∷ frames) tokens
arrived value ended place parts frames tokens = refl

-- the outcome of a known move
abbrev pub with_move : Place → List PlainTree → List (Frame PlainTree) → List PlainToken → Move → Option PlainTree
with_move place parts frames tokens m =
    after
    (moved of_trees place parts m (value_ahead tokens) frames
    (λ whole. arrives of_trees (ahead tokens) (value_ahead tokens) whole place frames))
    tokens

module _ (place : Place) (parts : List PlainTree) (frames : List (Frame PlainTree)) where
  moving :
      (tokens : List PlainToken) (m : Move) → move place (ahead tokens) ≡ m
      → reading (frame place parts ∷ frames) tokens ≡ with_move place parts frames tokens m
  moving tokens m e = ap (with_move place parts frames tokens) e

  pub shifting :
      (t : PlainToken) (ts : List PlainToken) (behind : Place) → move place (terminal t) ≡ shifts behind
      → reading (frame place parts ∷ frames) (t ∷ ts) ≡ reading (frame behind (parts ++ leaf t ∷ []) ∷ frames) ts
  shifting t ts behind e = moving (t ∷ ts) (shifts behind) e ∙ on (frame behind (parts ++ leaf t ∷ []) ∷ frames) ts

  pub taking :
      (t : PlainToken) (ts : List PlainToken) (behind inner : Place) → move place (terminal t) ≡ takes behind inner
      → reading (frame place parts ∷ frames) (t ∷ ts)
      ≡ reading (frame inner (parts ++ leaf t ∷ []) ∷ frame behind [] ∷ frames) ts
  taking t ts behind inner e =
      moving (t ∷ ts) (takes behind inner) e ∙ on (frame inner (parts ++ leaf t ∷ []) ∷ frame behind [] ∷ frames) ts

  pub finishing :
      (tokens : List PlainToken) (kind : Kind) → move place (ahead tokens) ≡ finishes kind
      → reading (frame place parts ∷ frames) tokens ≡ arriving (node kind (trees parts)) place frames tokens
  finishing tokens kind e = moving tokens (finishes kind) e

  pub passing :
      (tokens : List PlainToken) → move place (ahead tokens) ≡ passes
      → reading (frame place parts ∷ frames) tokens ≡ arriving (alone of_trees parts) place frames tokens
  passing tokens e = moving tokens passes e

  -- a part is left out
  pub skipping :
      (tokens : List PlainToken) (m : Move) → move place (ahead tokens) ≡ skips m
      → reading (frame place parts ∷ frames) tokens ≡ with_move place (parts ++ absent ∷ []) frames tokens m
  skipping tokens m e = moving tokens (skips m) e

  -- a part begins
  pub beginning_part :
      (tokens : List PlainToken) (behind : Place) (b : Beginning) → move place (ahead tokens) ≡ enters behind b
      → reading (frame place parts ∷ frames) tokens
      ≡ after (begun of_trees b (value_ahead tokens) (frame behind parts ∷ frames)) tokens
  beginning_part tokens behind b e = moving tokens (enters behind b) e

  or_fails_enters :
      (tokens : List PlainToken) (behind : Place) (b : Beginning)
      → with_move place parts frames tokens (or_fails behind b)
      ≡ after (begun of_trees b (value_ahead tokens) (frame behind parts ∷ frames)) tokens
  or_fails_enters tokens behind no_beginning = refl
  or_fails_enters tokens behind (begins places skipped inner) = refl

  -- a part that is needed begins, or nothing fits
  pub needing :
      (tokens : List PlainToken) (behind : Place) (beginning : Terminal → Beginning)
      → move place (ahead tokens) ≡ or_fails behind (beginning (ahead tokens))
      → reading (frame place parts ∷ frames) tokens ≡ entering beginning (frame behind parts ∷ frames) tokens
  needing tokens behind beginning e =
      moving tokens (or_fails behind (beginning (ahead tokens))) e ∙ or_fails_enters tokens behind (beginning (ahead tokens))

-- a part within a part begins
around_begun :
    (outer : Place) (b : Beginning) (value : PlainTree) (frames : List (Frame PlainTree)) (tokens : List PlainToken)
    → after (begun of_trees (around outer b) value frames) tokens ≡ after (begun of_trees b value (frame outer [] ∷ frames)) tokens
around_begun outer no_beginning value frames tokens = refl
around_begun outer (begins places false inner) value frames tokens = refl
around_begun outer (begins places true inner) value frames tokens = refl

pub entering_around :
    (outer : Place) (full beginning : Terminal → Beginning) (frames : List (Frame PlainTree)) (tokens : List PlainToken)
    → full (ahead tokens) ≡ around outer (beginning (ahead tokens))
    → entering full frames tokens ≡ entering beginning (frame outer [] ∷ frames) tokens
entering_around outer full beginning frames tokens e =
    ap (λ b. after (begun of_trees b (value_ahead tokens) frames) tokens) e
    ∙ around_begun outer (beginning (ahead tokens)) (value_ahead tokens) frames tokens

-- the beginning depends on the terminal alone
pub entering_by :
    (full beginning : Terminal → Beginning) (frames : List (Frame PlainTree)) (tokens : List PlainToken)
    → full (ahead tokens) ≡ beginning (ahead tokens) → entering full frames tokens ≡ entering beginning frames tokens
entering_by full beginning frames tokens e = ap (λ b. after (begun of_trees b (value_ahead tokens) frames) tokens) e

-- one node begins, of which the token is the first part
pub entering_node :
    (beginning : Terminal → Beginning) (inner : Place) (frames : List (Frame PlainTree)) (t : PlainToken) (ts : List PlainToken)
    → beginning (terminal t) ≡ begins [] false inner
    → entering beginning frames (t ∷ ts) ≡ reading (frame inner (leaf t ∷ []) ∷ frames) ts
entering_node beginning inner frames t ts e =
    ap (λ b. after (begun of_trees b (leaf t) frames) (t ∷ ts)) e ∙ on (frame inner (leaf t ∷ []) ∷ frames) ts

-- the same within a part
pub entering_inner :
    (beginning : Terminal → Beginning) (outer inner : Place) (frames : List (Frame PlainTree)) (t : PlainToken) (ts : List PlainToken)
    → beginning (terminal t) ≡ begins (outer ∷ []) false inner
    → entering beginning frames (t ∷ ts) ≡ reading (frame inner (leaf t ∷ []) ∷ frame outer [] ∷ frames) ts
entering_inner beginning outer inner frames t ts e =
    ap (λ b. after (begun of_trees b (leaf t) frames) (t ∷ ts)) e ∙ on (frame inner (leaf t ∷ []) ∷ frame outer [] ∷ frames) ts
