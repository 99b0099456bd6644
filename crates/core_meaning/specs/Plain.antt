-- The plain form of core programs.
use Rattle.std.specs.Prelude.{ℕ, ◌+◌, List, [], ◌∷◌, length, map, reverse, Vec}
use Rattle.std.specs.declared.alloc.Global.{Global as Allocator}
use Rattle.c_types.specs.Types.{PlainType, plain_type}
use Rattle.core_meaning.specs.declared.expressions.Expression.{Expression}
use Rattle.core_meaning.specs.declared.expressions.Place.{Place}
use Rattle.core_meaning.specs.declared.expressions.Expression.TheOpen.{Expression-F, Place-F}
use Rattle.core_meaning.specs.declared.expressions.Expression.TheOpen as expression
use Rattle.core_meaning.specs.declared.expressions.Expression.TheFolds.{fold-Expression, fold-Place}
use Rattle.core_meaning.specs.declared.statements.Item.{Item}
use Rattle.core_meaning.specs.declared.statements.Statement.{Statement}
use Rattle.core_meaning.specs.declared.statements.Part.{Part}
use Rattle.core_meaning.specs.declared.statements.Item.TheOpen.{Item-F, Statement-F}
use Rattle.core_meaning.specs.declared.statements.Item.TheOpen as statement
use Rattle.core_meaning.specs.declared.statements.Item.TheFolds.{fold-Item, fold-Statement}
use Rattle.core_meaning.specs.declared.program.CoreProgram.{CoreProgram}
use Rattle.core_meaning.specs.declared.program.Layout.{Layout}
use Rattle.core_meaning.specs.declared.program.Function.{Function}
use Rattle.core_meaning.specs.declared.program.Function.TheVariants as function
use Rattle.core_meaning.specs.declared.program.Global.{Global}
use Rattle.core_meaning.specs.declared.program.ConstantPart.{ConstantPart}
use Rattle.core_meaning.specs.declared.program.Constant.{Constant}
use Rattle.core_meaning.specs.declared.program.Constant.TheVariants as constant_kind
use Rattle.core_meaning.specs.Values.{part, Path, null, at, Scalar, number, pointer}
use Rattle.core_meaning.specs.Program.{PlainExpression, constant, null_constant, read, address, first_element, convert, binary, logical_not, logical_and, logical_or, choose, assign, update, update_after, call, discard, PlainPlace, slot, global, literal, target, member, temporary, PlainArguments, no_argument, argument, PlainPart, PlainStatement, block, evaluate, selection, loop, break_loop, continue_loop, return_nothing, return_value, PlainItems, no_item, local, statement_item, PlainFunction, defined, built_in, PlainConstantPart, PlainGlobal, PlainProgram}

-- ---- expressions

abbrev pub arguments_from : List PlainExpression → PlainArguments
arguments_from [] = no_argument
arguments_from (e ∷ rest) = argument e (arguments_from rest)

-- one node, with the plain form of each part in its place
abbrev pub expression_level : Expression-F PlainExpression PlainPlace → PlainExpression
expression_level (expression.Number z) = constant z
expression_level expression.Null = null_constant
expression_level (expression.Read place) = read place.value
expression_level (expression.Address place) = address place.value
expression_level (expression.FirstElement place) = first_element place.value
expression_level (expression.Convert t e) = convert t e.value
expression_level (expression.Binary op a b) = binary op a.value b.value
expression_level (expression.Not e) = logical_not e.value
expression_level (expression.And a b) = logical_and a.value b.value
expression_level (expression.Or a b) = logical_or a.value b.value
expression_level (expression.Choose c a b) = choose c.value a.value b.value
expression_level (expression.Assign place e) = assign place.value e.value
expression_level (expression.Update change place e) = update change place.value e.value
expression_level (expression.UpdateAfter change place e) = update_after change place.value e.value
expression_level (expression.Call f arguments) = call f (arguments_from arguments.items)
expression_level (expression.Discard e) = discard e.value

abbrev pub place_level : Place-F PlainExpression PlainPlace → PlainPlace
place_level (expression.Slot k) = slot k
place_level (expression.Global k) = global k
place_level (expression.Literal k) = literal k
place_level (expression.Target e) = target e.value
place_level (expression.Member place k) = member place.value k
place_level (expression.Temporary t e) = temporary (plain_type t) e.value

unfoldable pub plain_expression : Expression → PlainExpression
plain_expression = fold-Expression PlainExpression PlainPlace expression_level place_level

unfoldable pub plain_place : Place → PlainPlace
plain_place = fold-Place PlainExpression PlainPlace expression_level place_level

abbrev pub plain_arguments : List Expression → PlainArguments
plain_arguments es = arguments_from (map plain_expression es)

-- ---- statements

-- the elements and members that lead to a part, from the outside in
abbrev pub path_from : List ℕ → Path
path_from numbers = reverse (map part numbers)

abbrev pub plain_part : Part → PlainPart
plain_part x = record { path = path_from x.path.items; value = plain_expression x.value }

-- an item is put before those that follow it
abbrev pub items_from : List (PlainItems → PlainItems) → PlainItems
items_from [] = no_item
items_from (item ∷ rest) = item (items_from rest)

abbrev pub item_level : Item-F (PlainItems → PlainItems) PlainStatement → PlainItems → PlainItems
item_level (statement.Local k parts) = local k (map plain_part parts.items)
item_level (statement.Statement s) = statement_item s

abbrev pub statement_level : Statement-F (PlainItems → PlainItems) PlainStatement → PlainStatement
statement_level (statement.Block items) = block (items_from items.items)
statement_level (statement.Expression e) = evaluate (plain_expression e)
statement_level (statement.If c a b) = selection (plain_expression c) a.value b.value
statement_level (statement.Loop asks_first c step body) = loop asks_first (plain_expression c) (plain_expression step) body.value
statement_level statement.Break = break_loop
statement_level statement.Continue = continue_loop
statement_level statement.Return = return_nothing
statement_level (statement.ReturnValue e) = return_value (plain_expression e)

unfoldable pub plain_item : Item → PlainItems → PlainItems
plain_item = fold-Item (PlainItems → PlainItems) PlainStatement item_level statement_level

unfoldable pub plain_statement : Statement → PlainStatement
plain_statement = fold-Statement (PlainItems → PlainItems) PlainStatement item_level statement_level

abbrev pub plain_items : List Item → PlainItems
plain_items items = items_from (map plain_item items)

-- ---- programs

abbrev pub plain_function : Function → PlainFunction
plain_function (function.Defined d) = defined (map plain_type d.slots.items) (plain_items d.body.items)
plain_function (function.BuiltIn b) = built_in b

-- the first value of a scalar, where so many globals are numbered before the texts
abbrev pub plain_constant : ℕ → Constant → Scalar
plain_constant globals (constant_kind.Number z) = number z
plain_constant globals constant_kind.Null = pointer null
plain_constant globals (constant_kind.Global k) = pointer (at k [])
plain_constant globals (constant_kind.GlobalElement k) = pointer (at k (part 0 ∷ []))
plain_constant globals (constant_kind.Literal k) = pointer (at (globals + k) (part 0 ∷ []))

abbrev pub plain_constant_part : ℕ → ConstantPart → PlainConstantPart
plain_constant_part globals x = record { path = path_from x.path.items; value = plain_constant globals x.value }

abbrev pub plain_global : ℕ → Global → PlainGlobal
plain_global globals g = record { ty = plain_type g.ty; parts = map (plain_constant_part globals) g.parts.items }

abbrev pub plain_layout : Layout → List PlainType
plain_layout layout = map plain_type layout.members.items

abbrev pub plain_program : CoreProgram → PlainProgram
plain_program p = record {
  structs = map plain_layout p.structs.items;
  functions = map plain_function p.functions.items;
  globals = map (plain_global (length p.globals.items)) p.globals.items;
  literals = map (λ (bytes : Vec ℕ Allocator). bytes.items) p.literals.items;
  main = p.main;
}
