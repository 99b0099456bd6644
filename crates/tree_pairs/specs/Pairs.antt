-- Which tokens stand next to each other in units, and the law, the contract of a function of this crate.
use Rattle.std.specs.Prelude.{◌≡◌, Bool, false, ◌&&◌, ◌||◌, List, [], ◌∷◌, IsTrue}
use Rattle.c_text.specs.Token.{PlainToken}
use Rattle.c_tree.specs.declared.terminals.Terminal.TheVariants.{Int, Number}
use Rattle.c_tree.specs.Terminals.{terminal, same}
use Rattle.c_tree.specs.Trees.{PlainTree, spelled}
use Rattle.c_tree.specs.Grammar.{is_unit}

-- whether the first token is a number
abbrev pub begin_with_number : List PlainToken → Bool
begin_with_number [] = false
begin_with_number (first ∷ rest) = same Number (terminal first)

-- whether a number stands right behind `int`
abbrev pub declare_number : List PlainToken → Bool
declare_number [] = false
declare_number (first ∷ rest) = (same Int (terminal first) && begin_with_number rest) || declare_number rest

-- no unit declares a number
abbrev pub UnitsDeclareNoNumber : Type 0
UnitsDeclareNoNumber = (tree : PlainTree) → IsTrue (is_unit tree) → declare_number (spelled tree) ≡ false
