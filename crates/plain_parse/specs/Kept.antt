-- A model of the code, not part of the meaning:
-- What the parser keeps of trees: those that are low enough. A part that is too high makes each tree around it so.
use Rattle.std.specs.Prelude.{nat_le, List, [], ◌∷◌, ◌++◌, Option, Some, None, if◌then◌else◌, option_map, option_and_then}
use Rattle.c_tree.specs.Trees.{PlainTree, leaf, node, absent, trees}
use Rattle.c_tree.specs.Heights.{height_of, most_high}
use Rattle.c_tree.specs.Machine.{Making}

-- the tree, if it is low enough
abbrev pub kept : PlainTree → Option PlainTree
kept tree = if nat_le (height_of tree) most_high then Some tree else None

-- the parts, if all of them are
abbrev pub all_kept : List (Option PlainTree) → Option (List PlainTree)
all_kept [] = Some []
all_kept (None ∷ rest) = None
all_kept (Some first ∷ rest) = option_map (λ parts. first ∷ parts) (all_kept rest)

-- one part more
abbrev pub with_kept : Option (List PlainTree) → Option PlainTree → Option (List PlainTree)
with_kept None part = None
with_kept (Some parts) None = None
with_kept (Some parts) (Some part) = Some (parts ++ part ∷ [])

abbrev pub of_kept : Making (Option PlainTree)
of_kept = record {
  of_token = λ token. Some (leaf token);
  of_parts = λ kind parts. option_and_then (λ low. kept (node kind (trees low))) (all_kept parts);
  of_nothing = Some absent;
}
