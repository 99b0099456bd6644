-- The laws, each the contract of a function of this crate.
use Rattle.std.specs.Prelude.{◌≡◌, ℕ, Bool, List, [], ◌∷◌, None, IsTrue, All}
use Rattle.c_tree.specs.Trees.{PlainTree}
use Rattle.c_tree.specs.Units.{Spells, IsTreeOf}
use Rattle.core_meaning.specs.Program.{PlainProgram}
use Rattle.core_meaning.specs.Linking.{built_in_named, IsElaborated}
use Rattle.quick_form.specs.Words.{is_name, is_number}
use Rattle.quick_form.specs.Form.{Items, Reads}
use Rattle.quick_form.specs.Program.{program, object_names, IsAccepted}
use Rattle.quick_form.specs.Run as quick
use Rattle.core_meaning.specs.Run as core
use Rattle.quick_core.specs.Laws.{core_answer}
use Rattle.quick_core.specs.Present.{Item, present_items, declarations, item_numbers}
use Rattle.quick_core.specs.CoreProgram.{core_program}
use Rattle.quick_trees.specs.Tokens.{Seats, tokens_of, write_unit}
use Rattle.quick_trees.specs.UnitTree.{unit_tree}

abbrev pub TreesAreSpelled : Type 0
TreesAreSpelled = (items : List Item) (seats : Seats) → Spells (tokens_of (write_unit items) seats) (unit_tree items seats)

-- the names and the numbers are words of the quick form
pub record IsSpelled (items : List Item) : Type 0 where
  pub names : All (λ x. IsTrue (is_name x)) (object_names (declarations items))
  pub numbers : All (λ d. IsTrue (is_number d)) (item_numbers items)

abbrev pub ElaboratesToCore : Type 0
ElaboratesToCore =
    (items : List Item) (seats : Seats) → IsSpelled items → IsAccepted (declarations items)
    → (p : PlainProgram) → IsElaborated (unit_tree items seats ∷ []) p → p ≡ core_program items

-- The tree of accepted items is elaborated, unless an object has the name of a built-in function, which doesn't link.
abbrev pub CoreIsElaborated : Type 0
CoreIsElaborated =
    (items : List Item) (seats : Seats) → IsSpelled items → IsAccepted (declarations items)
    → All (λ x. built_in_named x ≡ None) (object_names (declarations items)) → IsElaborated (unit_tree items seats ∷ []) (core_program items)

abbrev pub NamesAreRead : Type 0
NamesAreRead =
    (on : List ℕ → Bool) (bytes : List ℕ) (items : Items)
    → Reads bytes items → All (λ x. IsTrue (is_name x)) (object_names (declarations (present_items on items)))

-- The tokens of a file's present items behind `int putchar(int);`, whatever their seats: where they have a tree, and that a core
-- program, this runs as the quick form says.
abbrev pub TokensRunAlike : Type 0
TokensRunAlike =
    (on : List ℕ → Bool) (bytes : List ℕ) (items : Items) → Reads bytes items → IsAccepted (program on items)
    → (seats : Seats) (tree : PlainTree) (p : PlainProgram)
    → IsTreeOf (tokens_of (write_unit (present_items on items)) seats) tree → IsElaborated (tree ∷ []) p
    → (input : List ℕ) (bound : ℕ) → core.run p input bound ≡ core_answer (quick.run (program on items) input bound)
