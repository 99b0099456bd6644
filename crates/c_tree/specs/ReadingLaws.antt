-- What holds of reading tokens as a unit; each is the contract of a function of this crate.
use Rattle.std.specs.Prelude.{◌≡◌, List, Some}
use Rattle.c_text.specs.Token.{PlainToken}
use Rattle.c_tree.specs.Trees.{PlainTree}
use Rattle.c_tree.specs.Units.{Spells, BeginsUnit}
use Rattle.c_tree.specs.Machine.{Frame, start, read_on, read, of_trees}

-- what tokens are read as is a unit that spells them
abbrev pub ReadIsSpelt : Type 0
ReadIsSpelt = (tokens : List PlainToken) (tree : PlainTree) → read of_trees tokens ≡ Some tree → Spells tokens tree

-- what a unit spells is read as that unit
abbrev pub SpeltIsRead : Type 0
SpeltIsRead = (tokens : List PlainToken) (tree : PlainTree) → Spells tokens tree → read of_trees tokens ≡ Some tree

-- tokens spell one unit at most
abbrev pub TreesAreOne : Type 0
TreesAreOne = (tokens : List PlainToken) (first second : PlainTree) → Spells tokens first → Spells tokens second → first ≡ second

-- tokens that can be read begin some unit
abbrev pub FrontsBegin : Type 0
FrontsBegin =
    (front : List PlainToken) (frames : List (Frame PlainTree)) → read_on of_trees (Some start) front ≡ Some frames → BeginsUnit front

-- the nodes that have begun behind tokens that can be read
pub record IsRead (front : List PlainToken) : Type 0 where
  pub frames : List (Frame PlainTree)
  pub reads : read_on of_trees (Some start) front ≡ Some frames

-- the first tokens of a unit can be read
abbrev pub FrontsAreRead : Type 0
FrontsAreRead = (front : List PlainToken) → BeginsUnit front → IsRead front
