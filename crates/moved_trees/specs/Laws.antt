-- Trees whose tokens are changed, none in its terminal; each law is the contract of a function of this crate.
use Rattle.std.specs.Prelude.{◌≡◌, List, map, option_map, All}
use Rattle.c_text.specs.Token.{PlainToken}
use Rattle.c_tree.specs.Terminals.{terminal}
use Rattle.c_tree.specs.Trees.{PlainTree}
use Rattle.c_tree.specs.Grammar.{is_unit}
use Rattle.c_tree.specs.Machine.{read, of_trees}
use Rattle.moved_programs.specs.Trees.{moved_tree}

-- what a token becomes
abbrev pub Change : Type 0
Change = PlainToken → PlainToken

-- it is to the grammar what it was
abbrev pub KeepsTerminal : Change → PlainToken → Type 0
KeepsTerminal f token = terminal (f token) ≡ terminal token

-- The changed tokens of a unit are read as its tree with each token changed, and as nothing where they were no unit's.
abbrev pub ChangedAreRead : Type 0
ChangedAreRead = (f : Change) (tokens : List PlainToken) → All (KeepsTerminal f) tokens → read of_trees (map f tokens) ≡ option_map (moved_tree f) (read of_trees tokens)

-- A tree so changed is a unit exactly where it was one.
abbrev pub UnitsStayUnits : Type 0
UnitsStayUnits = (f : Change) → ((token : PlainToken) → KeepsTerminal f token) → (tree : PlainTree) → is_unit (moved_tree f tree) ≡ is_unit tree
