-- What operators make of operands that stand elsewhere.
use Rattle.std.proofs.Common.{ℕ, Bool, true, false, refl}
use Rattle.std.specs.Prelude.{Option, Some, None, codes, slice_get, ◌&&◌, ◌||◌}
use Rattle.std.specs.Str.{bytes_eq}
use Rattle.c_text.specs.Token.{PlainToken}
use Rattle.c_types.specs.declared.arithmetic.BinaryOp.{BinaryOp}
use Rattle.c_types.specs.Types.{PlainType, void, array_of, pointer_to, structure}
use Rattle.c_types.specs.Integers.{is_integer}
use Rattle.c_types.specs.Tags.{PlainMember}
use Rattle.c_tree.specs.declared.kinds.Kind.{Kind}
use Rattle.c_tree.specs.declared.kinds.Kind.TheVariants as k
use Rattle.c_tree.specs.declared.terminals.Terminal.{Terminal}
use Rattle.c_tree.specs.declared.terminals.Terminal.TheVariants as t
use Rattle.core_meaning.specs.declared.expressions.Change.{Change}
use Rattle.core_meaning.specs.declared.refusals.TypeKind.TheVariants.{BadOperand}
use Rattle.core_meaning.specs.Program.{PlainExpression, PlainPlace, null_constant, choose, logical_and, logical_or}
use Rattle.core_meaning.specs.Entities.{Struct, Local, Signature, Sort, variable, function, FileName, Scope}
use Rattle.core_meaning.specs.Typing.{common, same_type, is_struct, is_pointer, Designation, value, object, Operand, Typed, of_value, loaded, loaded_from}
use Rattle.core_meaning.specs.Expressions.{place_in, assigned_place, written_place, updated, stepped, assignment, pointed_at, dereferenced, signed, negated, prefixed, cast_to, element_target, indexed, logical, is_void, chosen, chosen_core, converted_to, combined_by, combined, may_be_called, passed, condition_value, file_operand, file_name_operand, name_operand, character_operand, single_operand, member_operand, member_in, member_of, member_of_target, selected}
use Rattle.moved_programs.proofs.Moves.{elsewhere, Moves, stays, moved_operand, move_rules, given, same_then, if_moves, refused_moves}

module _ (h : PlainToken → PlainToken) (s : Scope) where
  -- ---- values and places

  loads_from : (o : Operand) (ty : PlainType) (d : Designation) → Moves h stays (loaded_from s.structs o ty d) (loaded_from s.structs (moved_operand h o) ty d)
  loads_from o ty (value core) = search move_rules
  loads_from o (array_of element count) (object place free) = search move_rules
  loads_from o void (object place free) = search move_rules
  loads_from o ty (object place free) = search move_rules

  pub loads : (o : Operand) → Moves h stays (loaded s o) (loaded s (moved_operand h o))
  loads o = loads_from o o.ty o.designates

  place_moves : (o : Operand) (sign : PlainToken) (d : Designation) → Moves h stays (place_in o sign d) (place_in (moved_operand h o) (elsewhere h sign) d)
  place_moves o sign (object place true) = search move_rules
  place_moves o sign (object place false) = search move_rules
  place_moves o sign (value core) = search move_rules

  assigned_moves : (sign : PlainToken) (o : Operand) → Moves h stays (assigned_place o sign) (assigned_place (moved_operand h o) (elsewhere h sign))
  assigned_moves sign o = place_moves o sign o.designates

  pub written_moves : (sign : PlainToken) (o : Operand) → Moves h stays (written_place s sign o) (written_place s (elsewhere h sign) (moved_operand h o))
  written_moves sign o = search (move_rules, assigned_moves)

  updated_moves :
      (make : Change → PlainPlace → PlainExpression → PlainExpression) (sign : PlainToken) (left : Operand) (place : PlainPlace) (right : Typed)
      → Moves h (moved_operand h) (updated s make sign left place right) (updated s make (elsewhere h sign) (moved_operand h left) place right)
  updated_moves make sign left place right = search move_rules

  pub stepped_moves :
      (make : Change → PlainPlace → PlainExpression → PlainExpression) (sign : PlainToken) (o : Operand) → Moves h (moved_operand h) (stepped s make sign o) (stepped s make (elsewhere h sign) (moved_operand h o))
  stepped_moves make sign o = search (move_rules, written_moves, updated_moves)

  pub assignment_moves :
      (sign : PlainToken) (left : Operand) (place : PlainPlace) (right : Typed)
      → Moves h (moved_operand h) (assignment s sign left place right) (assignment s (elsewhere h sign) (moved_operand h left) place right)
  assignment_moves sign left place right = search (move_rules, updated_moves)

  -- ---- unary operators

  pointed_moves : (sign : PlainToken) (ty : PlainType) (d : Designation) → Moves h (moved_operand h) (pointed_at sign ty d) (pointed_at (elsewhere h sign) ty d)
  pointed_moves sign ty (object place true) = search move_rules
  pointed_moves sign ty (object place false) = search move_rules
  pointed_moves sign ty (value core) = search move_rules

  dereferenced_moves : (sign : PlainToken) (x : Typed) (ty : PlainType) → Moves h (moved_operand h) (dereferenced sign x ty) (dereferenced (elsewhere h sign) x ty)
  dereferenced_moves sign x (pointer_to ty) = search move_rules
  dereferenced_moves sign x _ = search move_rules

  negated_moves : (sign : PlainToken) (x : Typed) → Moves h (moved_operand h) (negated sign x) (negated (elsewhere h sign) x)
  negated_moves sign x = search move_rules

  signed_moves : (sign : PlainToken) (x : Typed) → Moves h (moved_operand h) (signed sign x) (signed (elsewhere h sign) x)
  signed_moves sign x = search move_rules

  pub prefixed_moves : (sign : PlainToken) (o : Operand) → Moves h (moved_operand h) (prefixed s sign o) (prefixed s (elsewhere h sign) (moved_operand h o))
  prefixed_moves sign o =
      if_moves h (moved_operand h) (bytes_eq sign.text (codes "&")) _ _ _ _ (pointed_moves sign o.ty o.designates)
      (if_moves h (moved_operand h) (bytes_eq sign.text (codes "*")) _ _ _ _
      (same_then h (moved_operand h) (loaded s o) (loaded s (moved_operand h o)) _ _ (loads o) (λ x. dereferenced_moves sign x x.ty))
      (if_moves h (moved_operand h) (bytes_eq sign.text (codes "!")) _ _ _ _
      (same_then h (moved_operand h) (loaded s o) (loaded s (moved_operand h o)) _ _ (loads o) (λ x. negated_moves sign x))
      (same_then h (moved_operand h) (loaded s o) (loaded s (moved_operand h o)) _ _ (loads o) (λ x. signed_moves sign x))))

  pub cast_moves : (sign : PlainToken) (x : Typed) (ty : PlainType) → Moves h (moved_operand h) (cast_to sign x ty) (cast_to (elsewhere h sign) x ty)
  cast_moves sign x void = search move_rules
  cast_moves sign x _ = search move_rules

  -- ---- subscripts and members

  element_moves : (sign : PlainToken) (ty : PlainType) (core : PlainExpression) → Moves h (moved_operand h) (element_target s sign ty core) (element_target s (elsewhere h sign) ty core)
  element_moves sign (pointer_to ty) core = search move_rules
  element_moves sign _ core = search move_rules

  pub indexed_moves : (sign : PlainToken) (a b : Typed) → Moves h (moved_operand h) (indexed s sign a b) (indexed s (elsewhere h sign) a b)
  indexed_moves sign a b = search (move_rules, element_moves)

  member_moves :
      (name : PlainToken) (place : PlainPlace) (free : Bool) (n : ℕ) (found : Option PlainMember) (number : ℕ)
      → Moves h (moved_operand h) (member_operand name place free n found number) (member_operand (elsewhere h name) place free n found number)
  member_moves name place free n None number = search move_rules
  member_moves name place free n (Some found) number = search move_rules

  member_in_moves :
      (sign name : PlainToken) (place : PlainPlace) (free : Bool) (n : ℕ) (found : Option Struct)
      → Moves h (moved_operand h) (member_in sign name place free n found) (member_in (elsewhere h sign) (elsewhere h name) place free n found)
  member_in_moves sign name place free n None = search move_rules
  member_in_moves sign name place free n (Some found) = search (move_rules, member_moves)

  member_of_moves :
      (sign name : PlainToken) (ty : PlainType) (place : PlainPlace) (free : Bool)
      → Moves h (moved_operand h) (member_of s sign name ty place free) (member_of s (elsewhere h sign) (elsewhere h name) ty place free)
  member_of_moves sign name (structure number) place free = member_in_moves sign name place free number (slice_get s.structs number)
  member_of_moves sign name _ place free = search move_rules

  target_moves : (sign name : PlainToken) (x : Typed) (ty : PlainType) → Moves h (moved_operand h) (member_of_target s sign name x ty) (member_of_target s (elsewhere h sign) (elsewhere h name) x ty)
  target_moves sign name x (pointer_to ty) = search member_of_moves
  target_moves sign name x _ = search move_rules

  pub selected_moves : (sign name : PlainToken) (o : Operand) → Moves h (moved_operand h) (selected s sign name o) (selected s (elsewhere h sign) (elsewhere h name) (moved_operand h o))
  selected_moves sign name o =
      if_moves h (moved_operand h) (bytes_eq sign.text (codes ".")) _ _ _ _ (member_of_moves sign name o.ty _ _)
      (same_then h (moved_operand h) (loaded s o) (loaded s (moved_operand h o)) _ _ (loads o) (λ x. target_moves sign name x x.ty))

  -- ---- operators on two operands

  combined_moves : (sign : PlainToken) (a b : Typed) (op : BinaryOp) → Moves h (moved_operand h) (combined s sign a b op) (combined s (elsewhere h sign) a b op)
  combined_moves sign a b op = search move_rules

  logical_moves :
      (make : PlainExpression → PlainExpression → PlainExpression) (sign : PlainToken) (a b : Typed) → Moves h (moved_operand h) (logical make sign a b) (logical make (elsewhere h sign) a b)
  logical_moves make sign a b = search move_rules

  pub combined_by_moves : (kind : Kind) (sign : PlainToken) (a b : Typed) → Moves h (moved_operand h) (combined_by s kind sign a b) (combined_by s kind (elsewhere h sign) a b)
  combined_by_moves k.LogicalAnd sign a b = logical_moves logical_and sign a b
  combined_by_moves k.LogicalOr sign a b = logical_moves logical_or sign a b
  combined_by_moves _ sign a b = search (move_rules, combined_moves)

  core_moves : (sign : PlainToken) (c : PlainExpression) (ty : PlainType) (a b : PlainExpression) → Moves h (moved_operand h) (chosen_core sign c ty a b) (chosen_core (elsewhere h sign) c ty a b)
  core_moves sign c ty a b = given h (moved_operand h) (of_value sign ty (choose c a b))

  pub chosen_moves : (sign : PlainToken) (c : PlainExpression) (a b : Typed) → Moves h (moved_operand h) (chosen sign c a b) (chosen (elsewhere h sign) c a b)
  chosen_moves sign c a b =
      if_moves h (moved_operand h) (is_integer a.ty && is_integer b.ty) _ _ _ _ (core_moves sign c (common a.ty b.ty) (converted_to (common a.ty b.ty) a) (converted_to (common a.ty b.ty) b))
      (if_moves h (moved_operand h) (is_void a.ty && is_void b.ty) _ _ _ _ (core_moves sign c void a.core b.core)
      (if_moves h (moved_operand h) ((is_struct a.ty || is_pointer a.ty) && same_type a.ty b.ty) _ _ _ _ (core_moves sign c a.ty a.core b.core)
      (if_moves h (moved_operand h) (is_pointer a.ty && b.is_null) _ _ _ _ (core_moves sign c a.ty a.core null_constant)
      (if_moves h (moved_operand h) (a.is_null && is_pointer b.ty) _ _ _ _ (core_moves sign c b.ty null_constant b.core)
      (refused_moves h (moved_operand h) BadOperand sign (elsewhere h sign) refl)))))

  -- ---- calls and conditions

  pub callable_moves : (signature : Signature) (count : ℕ) (bracket : PlainToken) → Moves h stays (may_be_called s signature count bracket) (may_be_called s signature count (elsewhere h bracket))
  callable_moves signature count bracket = search move_rules

  pub passed_moves : (ty : PlainType) (o : Operand) (first : PlainToken) → Moves h stays (passed s ty o first) (passed s ty (moved_operand h o) (elsewhere h first))
  passed_moves ty o first = search (move_rules, loads)

  pub condition_moves : (first : PlainToken) (o : Operand) → Moves h stays (condition_value s first o) (condition_value s (elsewhere h first) (moved_operand h o))
  condition_moves first o = search (move_rules, loads)

  -- ---- single tokens

  file_moves : (token : PlainToken) (sort : Sort) → Moves h (moved_operand h) (file_operand s token sort) (file_operand s (elsewhere h token) sort)
  file_moves token (variable ty) = search move_rules
  file_moves token (function signature) = search move_rules

  file_name_moves : (token : PlainToken) (found : Option FileName) → Moves h (moved_operand h) (file_name_operand s token found) (file_name_operand s (elsewhere h token) found)
  file_name_moves token None = search move_rules
  file_name_moves token (Some found) = file_moves token found.sort

  name_moves : (token : PlainToken) (found : Option Local) → Moves h (moved_operand h) (name_operand s token found) (name_operand s (elsewhere h token) found)
  name_moves token (Some found) = search move_rules
  name_moves token None = file_name_moves token (s.file_names token.text)

  character_moves : (token : PlainToken) → Moves h (moved_operand h) (character_operand token) (character_operand (elsewhere h token))
  character_moves token = search move_rules

  pub single_moves : (token : PlainToken) (x : Terminal) → Moves h (moved_operand h) (single_operand s token x) (single_operand s (elsewhere h token) x)
  single_moves token t.Name = name_moves token _
  single_moves token t.Number = search move_rules
  single_moves token t.Character = character_moves token
  single_moves token _ = search move_rules
