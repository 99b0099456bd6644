-- Steps in judging expressions.
use Rattle.std.specs.Prelude.{◌+◌, Bool, true, false, length, Option, Some, None}
use Rattle.c_text.specs.Token.{PlainToken}
use Rattle.c_tree.specs.declared.kinds.Kind.{Kind}
use Rattle.c_tree.specs.declared.kinds.Kind.TheVariants as k
use Rattle.c_types.specs.Types.{PlainType, char, array_of}
use Rattle.c_tree.specs.Trees.{PlainTree, PlainTrees, leaf, node, none, more}
use Rattle.plain_scope.specs.Parts.{parts_in}
use Rattle.core_meaning.specs.declared.refusals.TypeKind.TheVariants.{BadOperand}
use Rattle.core_meaning.specs.Program.{PlainPlace, PlainExpression, literal, update, update_after}
use Rattle.core_meaning.specs.Checking.{Checked, broken, refused, file_entity, ◌>>=◌, found_or, give, or_broken, uses}
use Rattle.core_meaning.specs.Entities.{Scope, entity_number}
use Rattle.core_meaning.specs.Typing.{Operand, Typed, of_object, fits_into}
use Rattle.core_meaning.specs.Expressions.{Callee, number_operand, text_bytes, first_text, first_token, judged, valued, count_entries, judged_arguments, may_be_called, result_of_call, written_place, assignment, stepped, prefixed, indexed, combined_by, cast_to, arithmetic_words}

abbrev pub text_operand : Scope → PlainTrees → Checked Operand
text_operand scope parts = do
  bytes ← or_broken (text_bytes parts)
  first ← or_broken (first_text parts)
  give (of_object first (array_of char (length bytes + 1)) (literal (entity_number scope.numbers.literals bytes)) true)

abbrev pub number_answer : PlainToken → Checked Operand
number_answer token = give (number_operand token)

-- ---- operators with one operand

-- what an operator behind or before an operand makes of it
abbrev pub operated : Scope → Kind → PlainToken → Operand → Checked Operand
operated scope k.PostfixStep sign operand = stepped scope update_after sign operand
operated scope k.PrefixStep sign operand = stepped scope update sign operand
operated scope kind sign operand = prefixed scope sign operand

abbrev pub on_operand : Scope → Kind → PlainToken → PlainTree → Checked Operand
on_operand scope kind sign inner = judged scope inner >>= operated scope kind sign

abbrev pub is_of_two : Kind → Bool
is_of_two k.PostfixStep = true
is_of_two k.PrefixStep = true
is_of_two k.Prefix = true
is_of_two other = false

abbrev pub cast_value : Scope → PlainToken → PlainTree → PlainTree → Checked Operand
cast_value scope bracket words inner = do
  parts ← or_broken (parts_in words)
  x ← valued scope inner
  cast_to bracket x (arithmetic_words parts)

-- ---- operators with more operands

pub record TwoValues : Type 0 where
  pub a : Typed
  pub b : Typed

abbrev pub both : Typed → Typed → TwoValues
both a b = record { a = a; b = b }

-- two values, one after the other
abbrev pub two_values : Scope → PlainTree → PlainTree → Checked TwoValues
two_values scope first second = do
  a ← valued scope first
  b ← valued scope second
  give (both a b)

-- the values of the first and the third part
abbrev pub two_in : Scope → PlainTrees → Checked TwoValues
two_in scope (more first (more sign (more second rest))) = two_values scope first second
two_in scope other = broken

-- an element of an array, or what an operator gives of two values
abbrev pub joined_values : Scope → Kind → PlainToken → Typed → Typed → Checked Operand
joined_values scope k.Index sign a b = indexed scope sign a b
joined_values scope kind sign a b = combined_by scope kind sign a b

abbrev pub joined_two : Scope → Kind → PlainToken → TwoValues → Checked Operand
joined_two scope kind sign two = joined_values scope kind sign two.a two.b

abbrev pub on_two : Scope → Kind → PlainToken → PlainTrees → Checked Operand
on_two scope kind sign parts = two_in scope parts >>= joined_two scope kind sign

-- the kinds of an operator between two values
abbrev pub is_between : Kind → Bool
is_between k.LogicalOr = true
is_between k.LogicalAnd = true
is_between k.Or = true
is_between k.Xor = true
is_between k.And = true
is_between k.Equality = true
is_between k.Relation = true
is_between k.Shift = true
is_between k.Sum = true
is_between k.Product = true
is_between other = false

-- an object that is written to
pub record Written : Type 0 where
  pub ty : PlainType
  pub place : PlainPlace

abbrev pub written_object : Scope → PlainTree → PlainToken → Checked Written
written_object scope tree sign = do
  operand ← judged scope tree
  place ← written_place scope sign operand
  give (record { ty = operand.ty; place = place })

abbrev pub assigned_to : Scope → PlainToken → Written → Typed → Checked Operand
assigned_to scope sign left right = assignment scope sign (of_object sign left.ty left.place true) left.place right

abbrev pub assigned_in : Scope → PlainToken → PlainTrees → Checked Operand
assigned_in scope sign (more first (more middle (more second none))) = do
  left ← written_object scope first sign
  right ← valued scope second
  assigned_to scope sign left right
assigned_in scope sign other = broken

-- ---- calls

abbrev pub passed_argument : Scope → PlainType → PlainTree → PlainToken → Checked PlainExpression
passed_argument scope ty tree bracket = do
  x ← valued scope tree
  found_or (fits_into ty x) BadOperand (first_token tree bracket)

-- a call of a function with the parts of its arguments
abbrev pub called_with : Scope → Callee → PlainTrees → PlainToken → Checked Operand
called_with scope f parts bracket = do
  bound ← uses (file_entity f.name.text)
  callable ← may_be_called scope f.signature (count_entries parts) bracket
  arguments ← judged_arguments scope f.signature.parameters parts bracket
  give (result_of_call scope f bracket arguments)

-- a call with a list of arguments, or one that is left out
abbrev pub called_by : Scope → Callee → PlainToken → PlainTree → Checked Operand
called_by scope f bracket (node k.Arguments parts) = called_with scope f parts bracket
called_by scope f bracket (node k.Absent none) = called_with scope f none bracket
called_by scope f bracket other = broken

-- what stands between the brackets of a call
abbrev pub is_list : PlainTree → Bool
is_list (leaf token) = false
is_list (node k.Arguments parts) = true
is_list (node k.Absent none) = true
is_list (node kind parts) = false

-- a call of what is no function's name
abbrev pub not_called : Scope → PlainToken → PlainTree → Checked Operand
not_called scope bracket first = valued scope first >>= (λ x. refused BadOperand bracket)

abbrev pub call_of : Scope → PlainToken → PlainTree → PlainTree → Option Callee → Checked Operand
call_of scope bracket first list (Some f) = called_by scope f bracket list
call_of scope bracket first list None = not_called scope bracket first
