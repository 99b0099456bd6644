-- What the parser of all configurations says of a unit's tokens.
use Rattle.std.specs.Prelude.{◌≡◌, ℕ, suc, nat_lt, Bool, true, false, ◌&&◌, ◌||◌, List, [], ◌∷◌, Option, Some, None, drop, IsTrue, if◌then◌else◌}
use Rattle.cond_formula.specs.Conditions.{condition_of, value}
use Rattle.c_text.specs.Token.{plain_token}
use Rattle.c_tree.specs.declared.terminals.Terminal.{Terminal}
use Rattle.c_tree.specs.Trees.{PlainTree}
use Rattle.c_tree.specs.Heights.{height_of, most_high}
use Rattle.c_tree.specs.Units.{IsTreeOf}
use Rattle.c_tree.specs.Machine.{Frame, Outcome, is_whole, is_wrong, outcome, going_on, whole, start}
use Rattle.choice_trees.specs.declared.trees.Forest.{Forest}
use Rattle.choice_trees.specs.ChoiceTrees.{forest_at}
use Rattle.choice_trees.specs.Leaves.{Leaf, forest_leaves}
use Rattle.exclusive_forests.specs.Apart.{ForestApart}
use Rattle.cond_tokens.specs.declared.tokens.CondToken.{CondToken}
use Rattle.cond_tokens.specs.Streams.{tokens_at}
use Rattle.choice_lookahead.specs.Ahead.{next_kind}
use Rattle.c_tree.specs.declared.kinds.Kind.TheVariants as k
use Rattle.choice_states.specs.Seen.{Seen, Parts, of_seen, node_seen}
use Rattle.choice_states.specs.Parts.{values}
use Rattle.choice_states.specs.States.{Standing, stays, leaves, takes}
use Rattle.choice_states.specs.Reading.{read_seen, finished_seen}
use Rattle.choice_parser.specs.declared.parser.Parsed.{Parsed}
use Rattle.choice_settling.specs.Steps.{IsSound, IsRead}
use Rattle.choice_parser.specs.Deaths.{within_unit}

-- the tokens that are present, with their numbers in the stream, from this one on
abbrev pub numbered_at : (ℕ → Bool) → ℕ → List CondToken → List Leaf
numbered_at on number [] = []
numbered_at on number (first ∷ rest) =
    if value on (condition_of first.when) then record { number = Some number; text = plain_token first.token } ∷ numbered_at on (suc number) rest
    else numbered_at on (suc number) rest

-- The tokens that are present have no tree, or the tree that is seen of the forest, whose leaves have their numbers.
abbrev pub IsParsed : (ℕ → Bool) → List CondToken → Bool → Forest → Type 0
IsParsed on tokens true forest = (tree : PlainTree) → IsTreeOf (tokens_at on tokens) tree → ⊥
IsParsed on tokens false forest = IsTreeOf (tokens_at on tokens) (forest_at on forest) × (forest_leaves on forest ≡ numbered_at on 0 tokens)

-- ---- while tokens are read

-- nodes that have begun behind the tokens so far; none, if no unit begins with them
abbrev pub Nodes : Type 0
Nodes = Option (List (Frame Seen))

-- what the next token leads to behind them
abbrev pub leading : Nodes → Terminal → Seen → Outcome Seen
leading None kind token = is_wrong
leading (Some frames) kind token = outcome of_seen kind token frames

-- one stands in a unit behind some tokens: by the next of those ahead one goes on as the reader does
pub record StandsBehind (on : ℕ → Bool) (ahead : List CondToken) (nodes : Nodes) (standing : Standing) : Type 0 where
  pub sound : IsSound standing
  pub fit_in : IsTrue (standing.fits_in None)
  pub still : standing.stay ≡ stays
  pub leads_are : (token : Seen) → standing.leads [] (next_kind on ahead) token ≡ leading nodes (next_kind on ahead) token

-- what has been read behind one token more, if it is present
abbrev pub nodes_behind : (ℕ → Bool) → ℕ → CondToken → Nodes → Nodes
nodes_behind on number entry nodes = read_seen nodes (numbered_at on number (entry ∷ []))

-- a token has been read, or is still to be read behind the unit
pub record HasRead (nodes : Nodes) (kind : Terminal) (token : Seen) (standing : Standing) : Type 0 where
  pub fit : IsTrue standing.fits
  pub fit_in : IsTrue (standing.fits_in None)
  pub reads : IsRead standing.stay kind token (leading nodes kind token) (standing.leads [])

-- one stands still in a unit: one that has been left is dead
pub record IsInUnit (old new : Standing) : Type 0 where
  pub new_is : new ≡ within_unit old
  pub ends : old.stay ≡ leaves → (kind : Terminal) (token : Seen) → going_on (old.leads [] kind token) ≡ None
  pub takes_none : IsTrue (old.fits_in None) → old.stay ≡ takes → ⊥

-- one stands behind some tokens, or it is known that they and those ahead are those of no unit
abbrev pub IsSoFar : (ℕ → Bool) → ℕ → List CondToken → Nodes → Bool → Standing → Type 0
IsSoFar on number ahead nodes true standing = finished_seen (read_seen nodes (numbered_at on number ahead)) ≡ None
IsSoFar on number ahead nodes false standing = StandsBehind on ahead nodes standing

-- behind so many of the tokens
pub record Progress (on : ℕ → Bool) (tokens : List CondToken) (number : ℕ) (refused : Bool) (standing : Standing) : Type 0 where
  pub nodes : Nodes
  pub reads : read_seen nodes (numbered_at on number (drop number tokens)) ≡ read_seen (Some start) (numbered_at on 0 tokens)
  pub so_far : IsSoFar on number (drop number tokens) nodes refused standing

-- what the tokens are read as at their end: no unit, or one of these parts
abbrev pub IsEnded : Nodes → Bool → List Seen → Type 0
IsEnded nodes true parts = finished_seen nodes ≡ None
IsEnded nodes false parts = finished_seen nodes ≡ Some (node_seen k.Unit parts)

-- ---- where the text ends

pub record EndsNoUnit (standing : Standing) : Type 0 where
  pub leaving : IsTrue (standing.fits_in None) → standing.stay ≡ leaves → (kind : Terminal) (token : Seen) → whole (standing.leads [] kind token) ≡ None
  pub taking : IsTrue (standing.fits_in None) → standing.stay ≡ takes → ⊥

-- a unit with these parts is whole
pub record EndsUnit (standing : Standing) (parts : Parts) : Type 0 where
  pub left : standing.stay ≡ leaves
  pub leads_are : (kind : Terminal) (token : Seen) → standing.leads [] kind token ≡ is_whole (node_seen k.Unit (values parts))

abbrev pub IsEndOfUnit : Bool → Standing → Parts → Type 0
IsEndOfUnit true standing parts = EndsNoUnit standing
IsEndOfUnit false standing parts = EndsUnit standing parts

-- on the path refused also where no unit ends
abbrev pub IsRefusedHere : Standing → Parts → Bool → Bool → Bool → Type 0
IsRefusedHere standing parts on_path old new = (here : Bool) × (new ≡ (old || (on_path && here))) × IsEndOfUnit here standing parts

-- refused also where the tree is too high
pub record IsLowPart (parsed low : Parsed) : Type 0 where
  pub forest_is : low.forest ≡ parsed.forest
  pub refused_is :
      (on : ℕ → Bool)
      → value on (condition_of low.refused) ≡ (value on (condition_of parsed.refused) || nat_lt most_high (height_of (forest_at on parsed.forest)))

-- the same, with alternatives that exclude each other
pub record IsSetApart (parsed apart : Parsed) : Type 0 where
  pub forest_is : (on : ℕ → Bool) → ForestApart on parsed.forest apart.forest
  pub refused_is : apart.refused ≡ parsed.refused
