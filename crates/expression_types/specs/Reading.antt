-- The types of expressions by the kinds of nodes and the order of their parts, whatever their places, so that a reader of all configurations
-- at once, in which a part may be there or not, reads them in the same way (ISO/IEC 9899:2011, 6.5).
use Rattle.std.specs.Prelude.{ℕ, ◌+◌, Bool, true, false, not, ◌&&◌, ◌||◌, codes, List, [], ◌∷◌, ◌++◌, length, get_or, Option, Some, None, if◌then◌else◌}
use Rattle.std.specs.Str.{bytes_eq}
use Rattle.c_text.specs.Token.{PlainToken}
use Rattle.c_types.specs.Types.{PlainType, void, char, array_of, pointer_to, structure}
use Rattle.c_tree.specs.declared.kinds.Kind.{Kind}
use Rattle.c_tree.specs.declared.kinds.Kind.TheVariants as k
use Rattle.c_tree.specs.declared.terminals.Terminal.{Terminal}
use Rattle.c_tree.specs.declared.terminals.Terminal.TheVariants as t
use Rattle.c_tree.specs.Terminals.{terminal, is_one_of}
use Rattle.c_tree.specs.Trees.{PlainTree, PlainTrees, leaf, node, none, more}
use Rattle.core_meaning.specs.Typing.{is_complete}
use Rattle.core_meaning.specs.Expressions.{number_operand, character_operand, text_bytes, first_text, arithmetic_words, is_void}
use Rattle.conditional.specs.Judgements.{Checked, fine, refused, bind}
use Rattle.choice_trees.specs.ChoiceTrees.{semicolon}
use Rattle.operand_types.specs.OperandTypes.{OperandType, Category, rvalue, lvalue, type_of_operand, outcome_as, structs_for}
use Rattle.operand_types.specs.Operators.{same_number, loaded_type, prefixed_type, stepped_type, cast_type, combined_type, indexed_type, assigned_type, chosen_type, tested_type, fitted_type}
use Rattle.expression_types.specs.Known.{Callable, Denoted, an_object, a_function, Known}

abbrev pub Outcome : Type 0
Outcome = Checked OperandType (Unit {0})

-- what is read of an expression: its type, and the function that it names, perhaps in parentheses
pub record Read : Type 0 where
  pub outcome : Outcome
  pub callee : Option Callable

-- what has been read of a node: the expressions and the other tokens among its parts, in their order
pub record Parts : Type 0 where
  pub operands : List Read
  pub signs : List PlainToken
  -- the type of a cast
  pub words : PlainType
  -- the arguments of a call
  pub arguments : List Read

abbrev pub no_outcome : Outcome
no_outcome = refused tt

abbrev pub no_expression : Read
no_expression = record { outcome = no_outcome; callee = None }

abbrev pub nothing_read : Parts
nothing_read = record { operands = []; signs = []; words = void; arguments = [] }

-- the operand and the token with these numbers
abbrev pub operand : ℕ → Parts → Outcome
operand n p = (get_or p.operands n no_expression).outcome

abbrev pub value : ℕ → Parts → Outcome
value n p = bind (operand n p) (loaded_type semicolon)

abbrev pub sign : ℕ → Parts → PlainToken
sign n p = get_or p.signs n semicolon

-- an expression that names no function
abbrev pub typed : Outcome → Read
typed outcome = record { outcome = outcome; callee = None }

-- ---- names, constants and texts

abbrev pub callee_in : Option Denoted → Option Callable
callee_in None = None
callee_in (Some (an_object o)) = None
callee_in (Some (a_function f)) = Some f

abbrev pub object_in : Option Denoted → Outcome
object_in None = no_outcome
object_in (Some (an_object o)) = fine o
object_in (Some (a_function f)) = no_outcome

abbrev pub single_outcome : Known → PlainToken → Terminal → Outcome
single_outcome known token t.Name = object_in (known.ordinary token.text)
single_outcome known token t.Number = fine (type_of_operand same_number [] (number_operand token))
single_outcome known token t.Character = outcome_as (type_of_operand same_number []) (character_operand token)
single_outcome known token _ = no_outcome

abbrev pub single : Known → PlainToken → Read
single known token = record { outcome = single_outcome known token (terminal token); callee = callee_in (known.ordinary token.text) }

abbrev pub text_outcome : Option (List ℕ) → Option PlainToken → Outcome
text_outcome (Some bytes) (Some first) =
    fine (record { ty = array_of char (length bytes + 1); category = lvalue true; is_null = false; has_complete_struct = true })
text_outcome bytes first = no_outcome

-- ---- members (6.5.2.3)

abbrev pub member_of_category : Category → Option OperandType → Outcome
member_of_category category None = no_outcome
member_of_category category (Some m) = fine (record m { category = category })

-- the member of a struct, if it is one that is complete
abbrev pub member_in : Known → OperandType → Category → PlainType → List ℕ → Outcome
member_in known o category (structure n) name = if o.has_complete_struct then member_of_category category (known.members n name) else no_outcome
member_in known o category other name = no_outcome

-- a struct that is no object has members that aren't assigned to
abbrev pub category_of_members : Category → Category
category_of_members rvalue = lvalue false
category_of_members (lvalue free) = lvalue free

abbrev pub member_of_target : Known → OperandType → PlainType → List ℕ → Outcome
member_of_target known o (pointer_to ty) name = member_in known o (lvalue true) ty name
member_of_target known o other name = no_outcome

abbrev pub selected : Known → PlainToken → List ℕ → OperandType → Outcome
selected known select name o =
    if bytes_eq select.text (codes ".") then member_in known o (category_of_members o.category) o.ty name
    else bind (loaded_type semicolon o) (λ v. member_of_target known v v.ty name)

-- ---- calls (6.5.2.2)

-- each argument fits its parameter, and there are as many
abbrev pub all_fit : List PlainType → List Read → Checked (Unit {0}) (Unit {0})
all_fit [] [] = fine tt
all_fit (ty ∷ types) (argument ∷ rest) = bind (bind argument.outcome (fitted_type semicolon ty)) (λ fits. all_fit types rest)
all_fit types arguments = refused tt

abbrev pub is_result : OperandType → Bool
is_result o = is_void o.ty || is_complete (structs_for o) o.ty

abbrev pub called : Option Callable → List Read → Outcome
called None arguments = no_outcome
called (Some f) arguments = if is_result f.result then bind (all_fit f.parameters arguments) (λ fit. fine f.result) else no_outcome

-- ---- nodes

-- what the node is, by what has been read of its parts
abbrev pub node_read : Known → Kind → Parts → Read
node_read known k.Parenthesized p = get_or p.operands 0 no_expression
node_read known k.PostfixStep p = typed (bind (operand 0 p) (stepped_type (sign 0 p)))
node_read known k.PrefixStep p = typed (bind (operand 0 p) (stepped_type (sign 0 p)))
node_read known k.Prefix p = typed (bind (operand 0 p) (prefixed_type (sign 0 p)))
node_read known k.Cast p = typed (bind (value 0 p) (cast_type (sign 0 p) p.words))
node_read known k.Selection p = typed (bind (operand 0 p) (selected known (sign 0 p) (sign 1 p).text))
node_read known k.Index p = typed (bind (value 0 p) (λ a. bind (value 1 p) (indexed_type (sign 0 p) a)))
node_read known k.Call p = typed (called (get_or p.operands 0 no_expression).callee p.arguments)
node_read known k.Assignment p = typed (bind (operand 0 p) (λ left. bind (value 1 p) (assigned_type (sign 0 p) left)))
node_read known k.Conditional p =
    typed (bind (bind (operand 0 p) (tested_type semicolon)) (λ test. bind (value 1 p) (λ a. bind (value 2 p) (chosen_type (sign 0 p) a))))
node_read known kind p = typed (bind (value 0 p) (λ a. bind (value 1 p) (combined_type kind (sign 0 p) a)))

-- texts in a row are told by all of them
abbrev pub expression_of : Known → Kind → PlainTrees → Parts → Read
expression_of known k.Texts parts p = typed (text_outcome (text_bytes parts) (first_text parts))
expression_of known kind parts p = node_read known kind p

-- ---- parts

abbrev pub is_operand : PlainToken → Bool
is_operand token = is_one_of (t.Name ∷ t.Number ∷ t.Character ∷ []) (terminal token)

-- the name behind `.` or `->` is no operand
abbrev pub is_selected : Kind → List PlainToken → Bool
is_selected k.Selection (select ∷ rest) = true
is_selected kind signs = false

abbrev pub with_operand : Read → Parts → Parts
with_operand r p = record p { operands = p.operands ++ r ∷ [] }

abbrev pub with_sign : PlainToken → Parts → Parts
with_sign token p = record p { signs = p.signs ++ token ∷ [] }

abbrev pub with_leaf : Known → Kind → PlainToken → Parts → Parts
with_leaf known kind token p =
    if is_operand token && not (is_selected kind p.signs) then with_operand (single known token) p else with_sign token p

-- a node among the parts, by what has been read of its own
abbrev pub with_node : Known → Kind → PlainTrees → Parts → Parts → Parts
with_node known k.Arguments parts inner p = record p { arguments = inner.operands }
with_node known k.Specifiers parts inner p = record p { words = arithmetic_words parts }
with_node known k.Absent parts inner p = p
with_node known kind parts inner p = with_operand (expression_of known kind parts inner) p

module _ (known : Known) where
  -- the parts of a node, one after the other
  abbrev pub read_parts : Kind → PlainTrees → Parts → Parts
  read_parts kind none p = p
  read_parts kind (more (leaf token) rest) p = read_parts kind rest (with_leaf known kind token p)
  read_parts kind (more (node inner parts) rest) p = read_parts kind rest (with_node known inner parts (read_parts inner parts nothing_read) p)

  abbrev pub read_expression : PlainTree → Read
  read_expression (leaf token) = single known token
  read_expression (node kind parts) = expression_of known kind parts (read_parts kind parts nothing_read)
