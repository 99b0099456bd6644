-- What numbers leave as it is: units are judged with the numbers of their names, and which names have one doesn't depend on them.
use Rattle.std.specs.Prelude.{◌≡◌, ℕ, Bool, List, []}
use Rattle.c_tree.specs.Trees.{PlainTree}
use Rattle.c_text.specs.Token.{PlainToken}
use Rattle.core_meaning.specs.Checking.{Binding, fine, broken}
use Rattle.core_meaning.specs.Entities.{Numbers}
use Rattle.core_meaning.specs.declared.refusals.TypeKind.{TypeKind}
use Rattle.core_meaning.specs.declared.refusals.LinkKind.{LinkKind}
use Rattle.core_meaning.specs.Program.{PlainProgram}
use Rattle.core_meaning.specs.Linking.{Units, judged_units, judged_program, listed, IsElaborated, IsBadlyTyped, IsBadlyLinked}

-- Units that are judged with other numbers list the same objects and functions.
abbrev pub JudgingsListAlike : Type 0
JudgingsListAlike =
    (numbers others : ℕ → Numbers) (globals count : ℕ) (trees : List PlainTree) (a b : Units) (bindings behind : List Binding)
    → judged_units numbers globals 0 [] trees ≡ fine a bindings → judged_units others count 0 [] trees ≡ fine b behind
    → (functions : Bool) → listed a.units functions ≡ listed b.units functions

-- Of each list of trees one holds: it has a core program, a type is refused, its units don't link, or a tree is none of the grammar.
abbrev pub NoUnitsAreLeftOut : Type 0
NoUnitsAreLeftOut =
    (trees : List PlainTree)
    → ((p : PlainProgram) → IsElaborated trees p → ⊥)
    → ((kind : TypeKind) → (token : PlainToken) → IsBadlyTyped trees kind token → ⊥)
    → ((kind : LinkKind) → (name : List ℕ) → IsBadlyLinked trees kind name → ⊥)
    → (judged_program trees ≡ broken → ⊥) → ⊥
