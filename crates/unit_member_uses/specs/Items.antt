-- The uses of members in the items of a unit, one item after the other, so that a reader of all configurations at once, in which an item may be
-- there or not, notes them in the same way (ISO/IEC 9899:2011, 6.9).
use Rattle.std.specs.Prelude.{ℕ, Bool, true, false, List, [], ◌++◌}
use Rattle.c_tree.specs.declared.kinds.Kind.TheVariants as k
use Rattle.c_tree.specs.Trees.{PlainTree, PlainTrees, node, none, more}
use Rattle.core_meaning.specs.Checking.{Checked, fine}
use Rattle.core_meaning.specs.Entities.{Scope}
use Rattle.core_meaning.specs.Declarations.{Parameter, with_block}
use Rattle.core_meaning.specs.UnitNames.{UnitState, parameter_types, with_parameters, judged_item}
use Rattle.statement_readings.specs.Walks.{State}
use Rattle.statement_readings.specs.Laws.{starting}
use Rattle.member_uses.specs.Uses.{Use, uses_in}

-- what is known behind an item; one that is refused leaves nothing
abbrev pub behind_item : UnitState → Checked UnitState → UnitState
behind_item before (fine unit bindings) = unit
behind_item before other = before

-- each item is judged behind those before it, with what stands behind it in the unit
abbrev pub uses_in_items : (ℕ → ℕ) → ℕ → UnitState → PlainTrees → List Use
uses_in_items by globals unit none = []
uses_in_items by globals unit (more tree rest) =
    uses_in by tree (judged_item globals unit tree rest)
    ++ uses_in_items by globals (behind_item unit (judged_item globals unit tree rest)) rest

-- the definition of a function: the words of its result, its declarator and its block
abbrev pub definition : PlainTrees → PlainTrees → PlainTree → PlainTree
definition words parts body =
    node k.Function (more (node k.Specifiers words) (more (node k.Declarators (more (node k.FunctionDeclarator parts) none)) (more body none)))

-- where its block begins: its name is visible in this scope, and it has these parameters
abbrev pub in_body : Scope → List Parameter → State
in_body scope parameters = starting (with_parameters (with_block scope) 0 parameters) (parameter_types parameters)

-- what declares or defines a struct and nothing else
abbrev pub is_struct : PlainTree → Bool
is_struct (node k.StructDefinition parts) = true
is_struct (node k.StructDeclaration parts) = true
is_struct tree = false
