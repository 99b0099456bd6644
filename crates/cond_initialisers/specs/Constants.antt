-- What may be the first value of an object of file scope (ISO/IEC 9899:2011, 6.6, 6.7.9).
use Rattle.std.specs.Prelude.{Bool, true, false, not, ◌||◌, List, [], ◌∷◌, is_some}
use Rattle.c_types.specs.Types.{PlainType, array_of}
use Rattle.c_tree.specs.Trees.{PlainTree}
use Rattle.core_meaning.specs.Checking as judged
use Rattle.core_meaning.specs.Typing.{Typed}
use Rattle.core_meaning.specs.Expressions.{valued}
use Rattle.core_meaning.specs.Constancy.{value_if_constant}
use Rattle.conditional.specs.Judgements.{bind}
use Rattle.operand_types.specs.OperandTypes.{OperandType, scope_with}
use Rattle.operand_rules.specs.PlainOperandTypes.{accepted}
use Rattle.expression_types.specs.Known.{Known}
use Rattle.expression_types.specs.Reading.{read_expression}
use Rattle.cond_initialisers.specs.Refusals.{Test, is_refusal, RefusedFor, Asked, is_unfit, without_room}
use Rattle.cond_initialisers.specs.declared.forms.Form.{Form}
use Rattle.cond_initialisers.specs.declared.forms.Form.TheVariants.{Name, Address, Other}
use Rattle.cond_initialisers.specs.Forms.{form_of}

-- an arithmetic constant expression that has a value
abbrev pub is_number : judged.Checked Typed → Bool
is_number (judged.fine x bindings) = is_some (value_if_constant x.core)
is_number (judged.refused kind token) = false
is_number judged.broken = false

-- such an expression names nothing
abbrev pub has_number : PlainTree → Bool
has_number tree = is_number (valued (scope_with []) tree)

abbrev pub is_array : PlainType → Bool
is_array (array_of element count) = true
is_array ty = false

abbrev pub an_array : OperandType → Test
an_array o = accepted (is_array o.ty)

-- a name gives an address where it is that of an array (6.3.2.1)
abbrev pub gives_address : Bool → Form → Bool
gives_address names_array Name = names_array
gives_address names_array Address = true
gives_address names_array Other = false

abbrev pub is_constant_if : Bool → PlainTree → Bool
is_constant_if names_array tree = has_number tree || gives_address names_array (form_of tree)

-- one of these is constant
abbrev pub some_constant : Bool → List PlainTree → Bool
some_constant names_array [] = false
some_constant names_array (tree ∷ trees) = is_constant_if names_array tree || some_constant names_array trees

module _ (known : Known) where
  abbrev pub is_of_array : PlainTree → Bool
  is_of_array tree = not (is_refusal (bind (read_expression known tree).outcome an_array))

  abbrev pub is_constant : PlainTree → Bool
  is_constant tree = is_constant_if (is_of_array tree) tree

  abbrev pub is_unfit_or_variable : PlainTree → RefusedFor
  is_unfit_or_variable tree ty = is_unfit known tree ty || not (is_constant tree)

  abbrev pub by_constants : Asked
  by_constants = record { unfit = is_unfit_or_variable; without_room = without_room known }
