-- What is seen of trees with other tokens, and what is judged of them; each is the contract of a function of this crate.
use Rattle.std.specs.Prelude.{◌≡◌, ℕ, Bool, List, map}
use Rattle.c_text.specs.declared.origin.FileToken.{FileToken}
use Rattle.c_tree.specs.Trees.{PlainTree}
use Rattle.choice_trees.specs.declared.trees.Forest.{Forest}
use Rattle.choice_trees.specs.ChoiceTrees.{forest_at}
use Rattle.choice_trees.specs.Leaves.{forest_leaves}
use Rattle.core_meaning.specs.Checking.{Binding, fine}
use Rattle.core_meaning.specs.Entities.{Struct, Numbers}
use Rattle.core_meaning.specs.UnitNames.{UnitState, judged_unit}
use Rattle.core_meaning.specs.Linking.{Units, judged_units, judged_program}
use Rattle.changed_forests.specs.Changed.{Change, IsChanged, changed_leaf}
use Rattle.changed_forests.specs.Renamed.{renamed_tree, IsRenamed}
use Rattle.changed_forests.specs.Numbered.{IsNumbered, SameButSites, AreSameButSites}

-- Each configuration sees the changed tokens of what it saw, under their numbers.
abbrev pub ChangesAreSeen : Type 0
ChangesAreSeen =
    (change : Change) (old new : Forest) → IsChanged change old new → (on : ℕ → Bool)
    → forest_leaves on new ≡ map (changed_leaf change) (forest_leaves on old)

-- It sees the renamed tree of what it saw.
abbrev pub RenamingsAreSeen : Type 0
RenamingsAreSeen =
    (class : List FileToken) (name : List ℕ) (old new : Forest) → IsRenamed class name old new → (on : ℕ → Bool)
    → forest_at on new ≡ renamed_tree class name (forest_at on old)

-- Where tokens tell their numbers it sees the same tree, but for the sites of tokens.
abbrev pub NumberingsAreSeen : Type 0
NumberingsAreSeen = (old new : Forest) → IsNumbered old new → (on : ℕ → Bool) → SameButSites (forest_at on old) (forest_at on new)

-- Units that are the same but for the sites of their tokens are judged the same.
pub record SitesDontMatter : Type 0 where
  pub units :
      (tree other : PlainTree) → SameButSites tree other → (globals : ℕ) (structs : List Struct) (numbers : Numbers) (unit : UnitState) (bindings : List Binding)
      → judged_unit globals structs numbers tree ≡ fine unit bindings → judged_unit globals structs numbers other ≡ fine unit bindings
  pub all_units :
      (trees others : List PlainTree) → AreSameButSites trees others → (numbers : ℕ → Numbers) (globals index : ℕ) (structs : List Struct) (linked : Units) (bindings : List Binding)
      → judged_units numbers globals index structs trees ≡ fine linked bindings → judged_units numbers globals index structs others ≡ fine linked bindings
  pub programs :
      (trees others : List PlainTree) → AreSameButSites trees others → (linked : Units) (bindings : List Binding)
      → judged_program trees ≡ fine linked bindings → judged_program others ≡ fine linked bindings
