-- What tokens with numbers are read as; each law is the contract of a function of this crate.
use Rattle.std.specs.Prelude.{◌≡◌, ℕ, Bool, List, [], ◌∷◌, Option, Some, None, option_map}
use Rattle.c_tree.specs.Terminals.{terminal}
use Rattle.c_tree.specs.Machine.{Frame, outcome, going_on, start, finished_of, of_trees, read}
use Rattle.choice_trees.specs.declared.trees.Forest.{Forest}
use Rattle.choice_trees.specs.ChoiceTrees.{forest_at}
use Rattle.choice_trees.specs.Leaves.{Leaf, texts, forest_leaves}
use Rattle.c_tree.specs.declared.kinds.Kind.TheVariants.{Unit}
use Rattle.choice_states.specs.Seen.{Seen, token_seen, of_seen, node_seen, seen_in}
use Rattle.choice_states.specs.Parts.{values}

abbrev pub leaf_seen : Leaf → Seen
leaf_seen leaf = token_seen leaf.number leaf.text

abbrev pub next_seen : List (Frame Seen) → Leaf → Option (List (Frame Seen))
next_seen frames leaf = going_on (outcome of_seen (terminal leaf.text) (leaf_seen leaf) frames)

abbrev pub read_seen : Option (List (Frame Seen)) → List Leaf → Option (List (Frame Seen))
read_seen state [] = state
read_seen None (leaf ∷ leaves) = None
read_seen (Some frames) (leaf ∷ leaves) = read_seen (next_seen frames leaf) leaves

abbrev pub finished_seen : Option (List (Frame Seen)) → Option Seen
finished_seen state = finished_of of_seen state

-- what a list of tokens with numbers is read as
abbrev pub seen_of : List Leaf → Option Seen
seen_of leaves = finished_seen (read_seen (Some start) leaves)

-- it is the tree that the tokens are read as
abbrev pub TreesAreRead : Type 0
TreesAreRead = (leaves : List Leaf) → option_map (λ seen. seen.tree) (seen_of leaves) ≡ read of_trees (texts leaves)

-- its leaves are the tokens
abbrev pub LeavesAreTheTokens : Type 0
LeavesAreTheTokens = (leaves : List Leaf) (seen : Seen) → seen_of leaves ≡ Some seen → seen.leaves ≡ leaves

-- what is seen of a unit is made of what is seen of its items
abbrev pub UnitsAreSeen : Type 0
UnitsAreSeen =
    (on : ℕ → Bool) (forest : Forest) →
    record { tree = forest_at on forest; leaves = forest_leaves on forest } ≡ node_seen Unit (values (seen_in on forest.items.items))
