-- What comes of the items of a unit, as a configuration sees them (ISO/IEC 9899:2011, 6.9).
use Rattle.std.specs.Prelude.{ℕ, Bool}
use Rattle.c_tree.specs.Trees.{PlainTree, PlainTrees}
use Rattle.c_tree.specs.Grammar.{file_item}
use Rattle.tree_derivations.specs.Derivations.{Each}
use Rattle.core_meaning.specs.Checking.{Checked}
use Rattle.core_meaning.specs.UnitNames.{UnitState, judged_item, judged_file_items}
use Rattle.cond_units.specs.Seen.{SeenUnit}
use Rattle.cond_units.specs.Items.{DeclaresItem}

-- what is judged of an item, before the rest of a unit
abbrev pub one_item : ℕ → PlainTree → PlainTrees → UnitState → Checked UnitState
one_item globals tree rest unit = judged_item globals unit tree rest

-- what is judged of items, one after the other
abbrev pub all_items : ℕ → PlainTrees → UnitState → Checked UnitState
all_items globals parts unit = judged_file_items globals unit parts

-- it is declared
abbrev pub DeclaresItems : ℕ → PlainTrees → SeenUnit → SeenUnit → Bool → Type 0
DeclaresItems globals parts = DeclaresItem (all_items globals parts) (Each file_item parts)
