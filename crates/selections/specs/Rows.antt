-- Worked examples, no part of the definitions: expressions in a function, written with a blank between two tokens, and the structs in which
-- their identifiers select members by the standard (ISO/IEC 9899:2011, 6.5.2.3).
use Rattle.std.specs.Prelude.{◌≡◌, ℕ, ◌==◌, true, List, [], ◌∷◌, ◌++◌, codes, Option, Some, None, if◌then◌else◌}
use Rattle.std.specs.Str.{bytes_eq}
use Rattle.c_types.specs.Types.{int, pointer_to, array_of, structure}
use Rattle.c_tree.specs.Trees.{PlainTree}
use Rattle.c_tree.specs.Machine.{read, of_trees}
use Rattle.bindings.specs.Rows.{tokens_of}
use Rattle.operand_types.specs.OperandTypes.{OperandType, rvalue, lvalue}
use Rattle.expression_types.specs.Known.{Denoted, a_function, Known}
use Rattle.expression_types.specs.Rows.{type_as, object, expression_in_unit}
use Rattle.selections.specs.Selections.{structures_selected}

-- struct 0 s; struct 0 *p; struct 1 a[4]; struct 1 f(int);
abbrev pub denoted : List ℕ → Option Denoted
denoted name =
    if bytes_eq name (codes "s") then object (structure 0)
    else if bytes_eq name (codes "p") then object (pointer_to (structure 0))
    else if bytes_eq name (codes "a") then object (array_of (structure 1) 4)
    else if bytes_eq name (codes "f") then Some (a_function (record { result = type_as rvalue true (structure 1); parameters = int ∷ [] }))
    else None

-- struct 0 { int m; struct 0 *n; struct 1 b[2]; };
abbrev pub first_member : List ℕ → Option OperandType
first_member name =
    if bytes_eq name (codes "m") then Some (type_as (lvalue true) true int)
    else if bytes_eq name (codes "n") then Some (type_as (lvalue true) true (pointer_to (structure 0)))
    else if bytes_eq name (codes "b") then Some (type_as (lvalue true) true (array_of (structure 1) 2))
    else None

-- struct 1 { int m; struct 0 *n; };
abbrev pub second_member : List ℕ → Option OperandType
second_member name =
    if bytes_eq name (codes "m") then Some (type_as (lvalue true) true int)
    else if bytes_eq name (codes "n") then Some (type_as (lvalue true) true (pointer_to (structure 0)))
    else None

abbrev pub known : Known
known = record {
  ordinary = denoted;
  members = λ number name. if number == 0 then first_member name else if number == 1 then second_member name else None;
}

abbrev pub selected_in_unit : Option PlainTree → List (Option ℕ)
selected_in_unit None = []
selected_in_unit (Some tree) = structures_selected known tree

abbrev pub selected_if_any : Option PlainTree → List (Option ℕ)
selected_if_any None = []
selected_if_any (Some tree) = selected_in_unit (expression_in_unit tree)

abbrev pub selected_by : List ℕ → List (Option ℕ)
selected_by text = selected_if_any (read of_trees (tokens_of (codes "void h ( void ) { " ++ text ++ codes " ; }")))

-- the identifiers of the expression select in these structs
abbrev pub Select : List ℕ → List (Option ℕ) → Type 0
Select text expected = selected_by text ≡ expected

-- ---- rows

abbrev pub StructsAreSelectedIn : Type 0
StructsAreSelectedIn = Select (codes "s . m") (None ∷ Some 0 ∷ []) × Select (codes "( s ) . n") (None ∷ Some 0 ∷ []) × Select (codes "f ( 1 ) . m") (None ∷ Some 1 ∷ [])

abbrev pub PointersAreSelectedThrough : Type 0
PointersAreSelectedThrough =
    Select (codes "p -> n -> m") (None ∷ Some 0 ∷ Some 0 ∷ []) × Select (codes "a -> n -> b -> m") (None ∷ Some 1 ∷ Some 0 ∷ Some 1 ∷ []) × Select (codes "( * p ) . m") (None ∷ Some 0 ∷ [])

-- a selection stands among others in the order of the text
abbrev pub SelectionsStandInOthers : Type 0
SelectionsStandInOthers =
    Select (codes "a [ s . m ] . n -> b [ p -> m ] . m") (None ∷ None ∷ Some 0 ∷ Some 1 ∷ Some 0 ∷ None ∷ Some 0 ∷ Some 1 ∷ [])
    × Select (codes "f ( s . m ) . n") (None ∷ None ∷ Some 0 ∷ Some 1 ∷ []) × Select (codes "s . m = a -> m + 1") (None ∷ Some 0 ∷ None ∷ Some 1 ∷ [])

-- what has no type selects in no struct
abbrev pub NothingIsSelectedElsewhere : Type 0
NothingIsSelectedElsewhere =
    Select (codes "s + m") (None ∷ None ∷ []) × Select (codes "s -> m") (None ∷ None ∷ []) × Select (codes "p . m") (None ∷ None ∷ []) × Select (codes "s . x . m") (None ∷ Some 0 ∷ None ∷ [])
