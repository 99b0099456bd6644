-- The types of expressions, and what they are in a core program (ISO/IEC 9899:2011, 6.4.4, 6.5).
use Rattle.std.specs.Prelude.{ℕ, ◌+◌, ◌-◌, ◌==◌, Bool, true, false, ◌&&◌, ◌||◌, ℤ, pos, negsuc, List, [], ◌∷◌, ◌++◌, length, take, codes, Option, Some, None, slice_get, if◌then◌else◌}
use Rattle.std.specs.List.{list_any}
use Rattle.std.specs.Str.{bytes_eq}
use Rattle.c_text.specs.Token.{PlainToken}
use Rattle.c_text.specs.Constants.{number_value, digits_of, suffix_of, is_unsigned, is_one_of, quoted_values}
use Rattle.c_types.specs.declared.arithmetic.BinaryOp.{BinaryOp}
use Rattle.c_types.specs.declared.arithmetic.BinaryOp.TheVariants.{Mul, Div, Rem, Add, Sub, Shl, Shr, Lt, Gt, Le, Ge, Eq, Ne, BitAnd, BitXor, BitOr}
use Rattle.c_types.specs.Types.{PlainType, void, char, unsigned_char, int, unsigned_int, long, unsigned_long, pointer_to, array_of, structure}
use Rattle.c_types.specs.Integers.{is_integer, is_in_range, converted}
use Rattle.c_tree.specs.declared.kinds.Kind.{Kind}
use Rattle.c_tree.specs.declared.kinds.Kind.TheVariants as k
use Rattle.c_tree.specs.declared.terminals.Terminal.{Terminal}
use Rattle.c_tree.specs.declared.terminals.Terminal.TheVariants as t
use Rattle.c_tree.specs.Terminals.{terminal, same}
use Rattle.c_tree.specs.Trees.{PlainTree, PlainTrees, leaf, node, none, more}
use Rattle.core_meaning.specs.declared.expressions.Operation.{Operation}
use Rattle.core_meaning.specs.declared.expressions.Operation.TheVariants as operation
use Rattle.core_meaning.specs.declared.expressions.Change.{Change}
use Rattle.core_meaning.specs.declared.expressions.Change.TheVariants as change
use Rattle.core_meaning.specs.declared.refusals.TypeKind.TheVariants.{Undeclared, BadOperand, NotAssignable, Incomplete, ArgumentCount, NoMember, Misplaced}
use Rattle.core_meaning.specs.Program.{PlainExpression, constant, null_constant, read, address, convert, binary, logical_not, logical_and, logical_or, choose, assign, update, update_after, call, discard, PlainPlace, slot, global, literal, target, member, temporary, PlainArguments, no_argument, argument}
use Rattle.core_meaning.specs.Checking.{local_entity, file_entity, member_entity, Checked, refused, broken, ◌>>=◌, give, unless_so, uses, found_or, or_broken}
use Rattle.core_meaning.specs.Entities.{Struct, Local, Signature, Sort, variable, function, FileName, Scope, local_in, entity_number}
use Rattle.c_types.specs.Tags.{PlainMember}
use Rattle.core_meaning.specs.Typing.{promoted, common, integer_type, same_type, is_complete, is_struct, is_pointer, is_scalar_type, is_movable, Designation, value, object, Operand, Typed, typed, of_value, of_object, loaded, fits_into}

-- ---- trees

-- the first token of a tree, or of what stands behind it if it has none
abbrev mutual
  pub first_token : PlainTree → PlainToken → PlainToken
  first_token (leaf token) behind = token
  first_token (node kind parts) behind = first_token_in parts behind

  pub first_token_in : PlainTrees → PlainToken → PlainToken
  first_token_in none behind = behind
  first_token_in (more tree rest) behind = first_token tree (first_token_in rest behind)

-- ---- constants

-- the types that a number may have, the first that holds it is its type (6.4.4.1)
abbrev pub has_long : List ℕ → Bool
has_long text = list_any (is_one_of (codes "lL")) (suffix_of text)

abbrev pub number_types : Bool → Bool → Bool → List PlainType
number_types true true decimal = unsigned_long ∷ []
number_types true false decimal = unsigned_int ∷ unsigned_long ∷ []
number_types false true true = long ∷ []
number_types false true false = long ∷ unsigned_long ∷ []
number_types false false true = int ∷ long ∷ []
number_types false false false = int ∷ unsigned_int ∷ long ∷ unsigned_long ∷ []

abbrev pub first_type : List PlainType → ℤ → PlainType
first_type [] z = unsigned_long
first_type (first ∷ rest) z = if is_in_range first z then first else first_type rest z

abbrev pub number_type : List ℕ → PlainType
number_type text =
    first_type (number_types (is_unsigned text) (has_long text) ((digits_of text).base == 10)) (pos (number_value text))

abbrev pub is_zero_number : List ℕ → Bool
is_zero_number text = number_value text == 0

abbrev pub number_operand : PlainToken → Operand
number_operand token = record {
  ty = number_type token.text;
  designates = value (constant (pos (number_value token.text)));
  is_null = is_zero_number token.text;
  stands_at = token;
}

-- the value of a character is that of its byte as a `char` (6.4.4.4)
abbrev pub character_value : Option (List ℕ) → Option ℤ
character_value (Some (byte ∷ [])) = Some (converted char (pos byte))
character_value other = None

abbrev pub character_operand : PlainToken → Checked Operand
character_operand token = do
  z ← or_broken (character_value (quoted_values token.text))
  give (of_value token int (constant z))

-- the bytes of texts in a row (6.4.5)
abbrev pub joined_bytes : Option (List ℕ) → Option (List ℕ) → Option (List ℕ)
joined_bytes (Some first) (Some rest) = Some (first ++ rest)
joined_bytes first rest = None

abbrev pub text_bytes : PlainTrees → Option (List ℕ)
text_bytes none = Some []
text_bytes (more (leaf token) rest) = joined_bytes (quoted_values token.text) (text_bytes rest)
text_bytes (more (node kind parts) rest) = None

-- ---- names

abbrev pub file_operand : Scope → PlainToken → Sort → Checked Operand
file_operand scope token (variable ty) = do
  bound ← uses (file_entity token.text)
  give (of_object token ty (global (entity_number scope.numbers.globals token.text)) true)
file_operand scope token (function signature) = refused Misplaced token

abbrev pub file_name_operand : Scope → PlainToken → Option FileName → Checked Operand
file_name_operand scope token None = refused Undeclared token
file_name_operand scope token (Some found) = file_operand scope token found.sort

abbrev pub name_operand : Scope → PlainToken → Option Local → Checked Operand
name_operand scope token (Some found) = do
  bound ← uses (local_entity found.slot)
  give (of_object token found.ty (slot found.slot) true)
name_operand scope token None = file_name_operand scope token (scope.file_names token.text)

abbrev pub single_operand : Scope → PlainToken → Terminal → Checked Operand
single_operand scope token t.Name = name_operand scope token (local_in scope.blocks token.text)
single_operand scope token t.Number = give (number_operand token)
single_operand scope token t.Character = character_operand token
single_operand scope token kind = broken

-- ---- operators

abbrev pub operator_named : List ℕ → Option BinaryOp
operator_named text =
    if bytes_eq text (codes "*") then Some Mul else if bytes_eq text (codes "/") then Some Div
    else if bytes_eq text (codes "%") then Some Rem else if bytes_eq text (codes "+") then Some Add
    else if bytes_eq text (codes "-") then Some Sub else if bytes_eq text (codes "<<") then Some Shl
    else if bytes_eq text (codes ">>") then Some Shr else if bytes_eq text (codes "<") then Some Lt
    else if bytes_eq text (codes ">") then Some Gt else if bytes_eq text (codes "<=") then Some Le
    else if bytes_eq text (codes ">=") then Some Ge else if bytes_eq text (codes "==") then Some Eq
    else if bytes_eq text (codes "!=") then Some Ne else if bytes_eq text (codes "&") then Some BitAnd
    else if bytes_eq text (codes "^") then Some BitXor else if bytes_eq text (codes "|") then Some BitOr else None

-- the operator of a compound assignment is its spelling without `=`; `++` and `--` are `+=` and `-=` of 1
abbrev pub compound_operator : List ℕ → Option BinaryOp
compound_operator text = operator_named (take (length text - 1) text)

abbrev pub is_shift_operator : BinaryOp → Bool
is_shift_operator Shl = true
is_shift_operator Shr = true
is_shift_operator other = false

abbrev pub is_order : BinaryOp → Bool
is_order Lt = true
is_order Gt = true
is_order Le = true
is_order Ge = true
is_order other = false

abbrev pub is_equality : BinaryOp → Bool
is_equality Eq = true
is_equality Ne = true
is_equality other = false

-- the type in which two numbers are computed with, and that of the result (6.5.5 to 6.5.12)
abbrev pub computing_type : BinaryOp → PlainType → PlainType → PlainType
computing_type op a b = if is_shift_operator op then promoted a else common a b

abbrev pub result_type : BinaryOp → PlainType → PlainType → PlainType
result_type op a b = if is_order op || is_equality op then int else computing_type op a b

abbrev pub on_numbers : BinaryOp → PlainType → PlainType → Operation
on_numbers op a b = operation.Numbers op (integer_type (computing_type op a b))

abbrev pub is_any_pointer : PlainType → Bool
is_any_pointer (pointer_to t) = true
is_any_pointer other = false

-- pointers are compared with pointers to the same type, and for equality with the null constant
abbrev pub are_comparable : BinaryOp → Typed → Typed → Bool
are_comparable op a b =
    (is_order op || is_equality op) && is_any_pointer a.ty && same_type a.ty b.ty
    || is_equality op && (is_any_pointer a.ty && b.is_null || a.is_null && is_any_pointer b.ty)

abbrev pub pointer_core : Typed → PlainExpression
pointer_core x = if x.is_null then null_constant else x.core

-- what two operands one of which is no number may be: the operation, and the type of its result
abbrev pub pointer_operation : List Struct → BinaryOp → Typed → Typed → Option Operation
pointer_operation structs Add a b =
    if is_movable structs a.ty && is_integer b.ty then Some operation.Forward
    else if is_integer a.ty && is_movable structs b.ty then Some operation.ForwardBy else None
pointer_operation structs Sub a b =
    if is_movable structs a.ty && is_integer b.ty then Some operation.Back
    else if is_movable structs a.ty && same_type a.ty b.ty then Some operation.Distance else None
pointer_operation structs op a b = if are_comparable op a b then Some (operation.Pointers op) else None

abbrev pub operation_type : Operation → PlainType → PlainType → PlainType
operation_type operation.Forward a b = a
operation_type operation.ForwardBy a b = b
operation_type operation.Back a b = a
operation_type operation.Distance a b = long
operation_type (operation.Pointers op) a b = int
operation_type (operation.Numbers op ty) a b = result_type op a b

abbrev pub operation_on : List Struct → BinaryOp → Typed → Typed → Option Operation
operation_on structs op a b =
    if is_integer a.ty && is_integer b.ty then Some (on_numbers op a.ty b.ty) else pointer_operation structs op a b

-- the core of an operand: that of a comparison of pointers may be the null constant
abbrev pub operand_core : Operation → Typed → PlainExpression
operand_core (operation.Pointers op) x = pointer_core x
operand_core other x = x.core

abbrev pub combined : Scope → PlainToken → Typed → Typed → BinaryOp → Checked Operand
combined scope sign a b op = do
  o ← found_or (operation_on scope.structs op a b) BadOperand sign
  give (of_value sign (operation_type o a.ty b.ty) (binary o (operand_core o a) (operand_core o b)))

-- what a compound assignment does: its result must be one of the left operand's type (6.5.16.2)
abbrev pub change_by : PlainType → Option Operation → Option Change
change_by place_type (Some (operation.Numbers op ty)) = Some (change.Numbers op ty (integer_type place_type))
change_by place_type (Some operation.Forward) = Some change.Forward
change_by place_type (Some operation.Back) = Some change.Back
change_by place_type other = None

-- ---- places

abbrev pub may_be_assigned : PlainType → Bool
may_be_assigned void = false
may_be_assigned (array_of t count) = false
may_be_assigned other = true

abbrev pub place_in : Operand → PlainToken → Designation → Checked PlainPlace
place_in operand sign (object place true) =
    if may_be_assigned operand.ty then give place else refused NotAssignable sign
place_in operand sign other = refused NotAssignable sign

-- the place that an assignment operator writes to (6.5.16)
abbrev pub assigned_place : Operand → PlainToken → Checked PlainPlace
assigned_place operand sign = place_in operand sign operand.designates

abbrev pub is_plain_assignment : PlainToken → Bool
is_plain_assignment sign = bytes_eq sign.text (codes "=")

-- the same; what an operator changes has a value, so its type is complete
abbrev pub written_place : Scope → PlainToken → Operand → Checked PlainPlace
written_place scope sign operand = do
  place ← assigned_place operand sign
  complete ← unless_so (is_plain_assignment sign || is_complete scope.structs operand.ty) Incomplete operand.stands_at
  give place

abbrev pub left_value : Operand → PlainPlace → Typed
left_value operand place = typed operand.ty (read place)

abbrev pub updated : Scope → (Change → PlainPlace → PlainExpression → PlainExpression) → PlainToken → Operand → PlainPlace → Typed → Checked Operand
updated scope make sign left place right = do
  op ← or_broken (compound_operator sign.text)
  c ← found_or (change_by left.ty (operation_on scope.structs op (left_value left place) right)) BadOperand sign
  give (of_value sign left.ty (make c place right.core))

abbrev pub one : Typed
one = typed int (constant (pos 1))

-- `++` and `--` (6.5.2.4, 6.5.3.1)
abbrev pub stepped : Scope → (Change → PlainPlace → PlainExpression → PlainExpression) → PlainToken → Operand → Checked Operand
stepped scope make sign operand = do
  place ← written_place scope sign operand
  updated scope make sign operand place one

abbrev pub assignment : Scope → PlainToken → Operand → PlainPlace → Typed → Checked Operand
assignment scope sign left place right =
    if is_plain_assignment sign then (do
      core ← found_or (fits_into left.ty right) BadOperand sign
      give (of_value sign left.ty (assign place core)))
    else updated scope update sign left place right

-- ---- unary operators (6.5.3)

abbrev pub pointed_at : PlainToken → PlainType → Designation → Checked Operand
pointed_at sign ty (object place true) = give (of_value sign (pointer_to ty) (address place))
pointed_at sign ty other = refused BadOperand sign

abbrev pub dereferenced : PlainToken → Typed → PlainType → Checked Operand
dereferenced sign x (pointer_to ty) = give (of_object sign ty (target x.core) true)
dereferenced sign x other = refused BadOperand sign

-- `+`, `-` and `~` compute in the promoted type
abbrev pub signed_core : List ℕ → PlainType → Typed → PlainExpression
signed_core text ty x =
    if bytes_eq text (codes "-") then binary (operation.Numbers Sub (integer_type ty)) (constant (pos 0)) x.core
    else if bytes_eq text (codes "~") then binary (operation.Numbers BitXor (integer_type ty)) x.core (constant (negsuc 0))
    else convert (integer_type ty) x.core

abbrev pub signed : PlainToken → Typed → Checked Operand
signed sign x =
    if is_integer x.ty then give (of_value sign (promoted x.ty) (signed_core sign.text (promoted x.ty) x)) else refused BadOperand sign

abbrev pub negated : PlainToken → Typed → Checked Operand
negated sign x = if is_scalar_type x.ty then give (of_value sign int (logical_not x.core)) else refused BadOperand sign

abbrev pub prefixed : Scope → PlainToken → Operand → Checked Operand
prefixed scope sign operand =
    if bytes_eq sign.text (codes "&") then pointed_at sign operand.ty operand.designates
    else if bytes_eq sign.text (codes "*") then loaded scope operand >>= (λ x. dereferenced sign x x.ty)
    else if bytes_eq sign.text (codes "!") then loaded scope operand >>= negated sign
    else loaded scope operand >>= signed sign

-- the type of a cast by its words, which are those of an integer type or `void` (6.5.4)
abbrev pub has_terminal : Terminal → PlainTrees → Bool
has_terminal wanted none = false
has_terminal wanted (more (leaf token) rest) = same wanted (terminal token) || has_terminal wanted rest
has_terminal wanted (more (node kind parts) rest) = has_terminal wanted rest

abbrev pub words_type : Bool → Bool → Bool → Bool → PlainType
words_type true unsigned is_char is_long = void
words_type false true true is_long = unsigned_char
words_type false false true is_long = char
words_type false true false true = unsigned_long
words_type false false false true = long
words_type false true false false = unsigned_int
words_type false false false false = int

abbrev pub arithmetic_words : PlainTrees → PlainType
arithmetic_words words =
    words_type (has_terminal t.Void words) (has_terminal t.Unsigned words) (has_terminal t.Char words) (has_terminal t.Long words)

-- An expression whose value isn't used (6.8.3): neither are the results of `?:`, which aren't converted then. Each number that is a result
-- of `?:` stands in one conversion.
abbrev pub unused_part : Bool → PlainExpression → PlainExpression
unused_part true (convert ty e) = unused_part false e
unused_part is_result (choose c a b) = choose c (unused_part true a) (unused_part true b)
unused_part is_result e = e

abbrev pub unused : PlainExpression → PlainExpression
unused e = unused_part false e

abbrev pub cast_to : PlainToken → Typed → PlainType → Checked Operand
cast_to sign x void = give (of_value sign void (discard (unused x.core)))
cast_to sign x ty = if is_integer x.ty then give (of_value sign ty (convert (integer_type ty) x.core)) else refused BadOperand sign

-- ---- subscripts and members (6.5.2.1, 6.5.2.3)

abbrev pub element_target : Scope → PlainToken → PlainType → PlainExpression → Checked Operand
element_target scope sign (pointer_to ty) core =
    if is_complete scope.structs ty then give (of_object sign ty (target core) true) else refused Incomplete sign
element_target scope sign other core = refused BadOperand sign

abbrev pub indexed : Scope → PlainToken → Typed → Typed → Checked Operand
indexed scope sign a b =
    if is_pointer a.ty && is_integer b.ty then element_target scope sign a.ty (binary operation.Forward a.core b.core)
    else if is_integer a.ty && is_pointer b.ty then element_target scope sign b.ty (binary operation.ForwardBy a.core b.core)
    else refused BadOperand sign

abbrev pub member_operand : PlainToken → PlainPlace → Bool → ℕ → Option PlainMember → ℕ → Checked Operand
member_operand name place free struct_number None number = broken
member_operand name place free struct_number (Some found) number = do
  bound ← uses (member_entity struct_number number)
  give (of_object name found.ty (member place number) free)

abbrev pub member_in : PlainToken → PlainToken → PlainPlace → Bool → ℕ → Option Struct → Checked Operand
member_in sign name place free struct_number None = broken
member_in sign name place free struct_number (Some s) = do
  complete ← unless_so s.complete Incomplete sign
  number ← found_or (s.numbers name.text) NoMember name
  member_operand name place free struct_number (slice_get s.members number) number

abbrev pub member_of : Scope → PlainToken → PlainToken → PlainType → PlainPlace → Bool → Checked Operand
member_of scope sign name (structure number) place free = member_in sign name place free number (slice_get scope.structs number)
member_of scope sign name other place free = refused BadOperand sign

-- a struct that is no object, as that of a call, is kept in one of its own, to which nothing is assigned (6.2.4)
abbrev pub struct_place : PlainType → Designation → PlainPlace
struct_place ty (value core) = temporary ty core
struct_place ty (object place free) = place

abbrev pub is_free : Designation → Bool
is_free (value core) = false
is_free (object place free) = free

abbrev pub member_of_target : Scope → PlainToken → PlainToken → Typed → PlainType → Checked Operand
member_of_target scope sign name x (pointer_to ty) = member_of scope sign name ty (target x.core) true
member_of_target scope sign name x other = refused BadOperand sign

abbrev pub selected : Scope → PlainToken → PlainToken → Operand → Checked Operand
selected scope sign name operand =
    if bytes_eq sign.text (codes ".")
    then member_of scope sign name operand.ty (struct_place operand.ty operand.designates) (is_free operand.designates)
    else loaded scope operand >>= (λ x. member_of_target scope sign name x x.ty)

-- ---- conditions (6.5.13 to 6.5.15)

abbrev pub logical : (PlainExpression → PlainExpression → PlainExpression) → PlainToken → Typed → Typed → Checked Operand
logical make sign a b =
    if is_scalar_type a.ty && is_scalar_type b.ty then give (of_value sign int (make a.core b.core)) else refused BadOperand sign

abbrev pub is_void : PlainType → Bool
is_void void = true
is_void other = false

abbrev pub chosen_core : PlainToken → PlainExpression → PlainType → PlainExpression → PlainExpression → Checked Operand
chosen_core sign condition ty a b = give (of_value sign ty (choose condition a b))

abbrev pub converted_to : PlainType → Typed → PlainExpression
converted_to ty x = convert (integer_type ty) x.core

-- the two results of `?:`
abbrev pub chosen : PlainToken → PlainExpression → Typed → Typed → Checked Operand
chosen sign condition a b =
    if is_integer a.ty && is_integer b.ty
    then chosen_core sign condition (common a.ty b.ty) (converted_to (common a.ty b.ty) a) (converted_to (common a.ty b.ty) b)
    else if is_void a.ty && is_void b.ty then chosen_core sign condition void a.core b.core
    else if (is_struct a.ty || is_pointer a.ty) && same_type a.ty b.ty then chosen_core sign condition a.ty a.core b.core
    else if is_pointer a.ty && b.is_null then chosen_core sign condition a.ty a.core null_constant
    else if a.is_null && is_pointer b.ty then chosen_core sign condition b.ty null_constant b.core
    else refused BadOperand sign

-- ---- calls (6.5.2.2)

-- a called function, by its name in parentheses or not
pub record Callee : Type 0 where
  pub name : PlainToken
  pub signature : Signature

abbrev pub callee_of_sort : PlainToken → Sort → Option Callee
callee_of_sort token (variable ty) = None
callee_of_sort token (function signature) = Some (record { name = token; signature = signature })

abbrev pub callee_of_name : PlainToken → Option FileName → Option Callee
callee_of_name token None = None
callee_of_name token (Some found) = callee_of_sort token found.sort

abbrev pub callee_unless_local : Scope → PlainToken → Option Local → Option Callee
callee_unless_local scope token (Some found) = None
callee_unless_local scope token None = callee_of_name token (scope.file_names token.text)

abbrev pub callee : Scope → PlainTree → Option Callee
callee scope (leaf token) = callee_unless_local scope token (local_in scope.blocks token.text)
callee scope (node k.Parenthesized (more bracket (more inner (more close none)))) = callee scope inner
callee scope (node kind parts) = None

abbrev pub count_entries : PlainTrees → ℕ
count_entries none = 0
count_entries (more tree none) = 1
count_entries (more tree (more comma rest)) = 1 + count_entries rest

-- what a call gives has a complete type or none, and there are as many arguments as parameters
abbrev pub may_be_called : Scope → Signature → ℕ → PlainToken → Checked (Unit {0})
may_be_called scope signature count bracket = do
  complete ← unless_so (is_void signature.result || is_complete scope.structs signature.result) Incomplete bracket
  unless_so (count == length signature.parameters) ArgumentCount bracket

abbrev pub result_of_call : Scope → Callee → PlainToken → PlainArguments → Operand
result_of_call scope f bracket arguments =
    of_value bracket f.signature.result (call (entity_number scope.numbers.functions f.name.text) arguments)

abbrev pub passed : Scope → PlainType → Operand → PlainToken → Checked PlainExpression
passed scope ty operand first = do
  x ← loaded scope operand
  found_or (fits_into ty x) BadOperand first

-- the operators that are no operation on two values are `&&` and `||`
abbrev pub combined_by : Scope → Kind → PlainToken → Typed → Typed → Checked Operand
combined_by scope k.LogicalAnd sign a b = logical logical_and sign a b
combined_by scope k.LogicalOr sign a b = logical logical_or sign a b
combined_by scope kind sign a b = or_broken (operator_named sign.text) >>= combined scope sign a b

abbrev pub first_text : PlainTrees → Option PlainToken
first_text (more (leaf token) rest) = Some token
first_text other = None

-- a condition is a scalar
abbrev pub condition_value : Scope → PlainToken → Operand → Checked PlainExpression
condition_value scope first operand = do
  x ← loaded scope operand
  if is_scalar_type x.ty then give x.core else refused BadOperand first

-- ---- expressions

module _ (scope : Scope) where
  abbrev mutual
    -- What an expression is.
    pub judged : PlainTree → Checked Operand
    judged (leaf token) = single_operand scope token (terminal token)
    judged (node k.Texts parts) = do
      bytes ← or_broken (text_bytes parts)
      first ← or_broken (first_text parts)
      give (of_object first (array_of char (length bytes + 1)) (literal (entity_number scope.numbers.literals bytes)) true)
    judged (node k.Parenthesized (more bracket (more inner (more close none)))) = judged inner
    judged (node k.PostfixStep (more inner (more (leaf sign) none))) =
        judged inner >>= stepped scope update_after sign
    judged (node k.PrefixStep (more (leaf sign) (more inner none))) =
        judged inner >>= stepped scope update sign
    judged (node k.Prefix (more (leaf sign) (more inner none))) = judged inner >>= prefixed scope sign
    judged (node k.Cast (more (leaf bracket) (more (node words_kind words) (more close (more inner none))))) = do
      operand ← judged inner
      x ← loaded scope operand
      cast_to bracket x (arithmetic_words words)
    judged (node k.Selection (more first (more (leaf sign) (more (leaf name) none)))) =
        judged first >>= selected scope sign name
    judged (node k.Index (more first (more (leaf bracket) (more second (more close none))))) = do
      left ← judged first
      a ← loaded scope left
      right ← judged second
      b ← loaded scope right
      indexed scope bracket a b
    judged (node k.Call (more first (more (leaf bracket) (more (node k.Arguments parts) (more close none))))) =
        elim (callee scope first) as (λ x. Checked Operand) [
          | Some f ↦ (do
            bound ← uses (file_entity f.name.text)
            callable ← may_be_called scope f.signature (count_entries parts) bracket
            arguments ← judged_arguments f.signature.parameters parts bracket
            give (result_of_call scope f bracket arguments))
          | None ↦ (do
            operand ← judged first
            x ← loaded scope operand
            refused BadOperand bracket)
        ]
    judged (node k.Call (more first (more (leaf bracket) (more (node k.Absent none) (more close none))))) =
        elim (callee scope first) as (λ x. Checked Operand) [
          | Some f ↦ (do
            bound ← uses (file_entity f.name.text)
            callable ← may_be_called scope f.signature 0 bracket
            give (result_of_call scope f bracket no_argument))
          | None ↦ (do
            operand ← judged first
            x ← loaded scope operand
            refused BadOperand bracket)
        ]
    judged (node k.Assignment (more first (more (leaf sign) (more second none)))) = do
      left ← judged first
      place ← written_place scope sign left
      operand ← judged second
      right ← loaded scope operand
      assignment scope sign left place right
    judged (node k.Conditional (more first (more (leaf question) (more second (more colon (more third none)))))) = do
      condition ← judged first >>= condition_value scope (first_token first question)
      left ← judged second
      a ← loaded scope left
      right ← judged third
      b ← loaded scope right
      chosen question condition a b
    judged (node kind (more first (more (leaf sign) (more second none)))) = do
      left ← judged first
      a ← loaded scope left
      right ← judged second
      b ← loaded scope right
      combined_by scope kind sign a b
    judged (node kind parts) = broken

    pub judged_arguments : List PlainType → PlainTrees → PlainToken → Checked PlainArguments
    judged_arguments (ty ∷ types) (more tree none) bracket = do
      operand ← judged tree
      core ← passed scope ty operand (first_token tree bracket)
      give (argument core no_argument)
    judged_arguments (ty ∷ types) (more tree (more comma rest)) bracket = do
      operand ← judged tree
      core ← passed scope ty operand (first_token tree bracket)
      others ← judged_arguments types rest bracket
      give (argument core others)
    judged_arguments types none bracket = give no_argument
    judged_arguments [] trees bracket = broken

  -- the value of an expression
  abbrev pub valued : PlainTree → Checked Typed
  valued tree = judged tree >>= loaded scope

  abbrev pub judged_condition : PlainTree → PlainToken → Checked PlainExpression
  judged_condition tree behind = judged tree >>= condition_value scope (first_token tree behind)
