-- That operators bind nothing, whatever the types of their operands are. This holds of all trees.
use Rattle.std.proofs.Common.{ℕ, true, false, List, length}
use Rattle.std.specs.Prelude.{codes, ◌==◌, ◌&&◌, ◌||◌}
use Rattle.std.specs.Str.{bytes_eq}
use Rattle.c_text.specs.Token.{PlainToken}
use Rattle.c_types.specs.Types.{PlainType, void, pointer_to, array_of}
use Rattle.c_types.specs.Integers.{is_integer}
use Rattle.c_tree.specs.declared.kinds.Kind.{Kind}
use Rattle.c_tree.specs.declared.kinds.Kind.TheVariants as k
use Rattle.core_meaning.specs.declared.refusals.TypeKind.TheVariants.{BadOperand, Incomplete, ArgumentCount}
use Rattle.core_meaning.specs.declared.expressions.Change.{Change}
use Rattle.core_meaning.specs.Program.{PlainExpression, PlainPlace, update, read, binary}
use Rattle.core_meaning.specs.declared.expressions.Operation.TheVariants as operation
use Rattle.core_meaning.specs.Checking.{Entity, Checked, refused, give, ◌>>=◌, or_broken}
use Rattle.core_meaning.specs.Entities.{Struct, Signature, Scope}
use Rattle.core_meaning.specs.Typing.{Designation, value, object, Operand, Typed, typed, loaded, loaded_from, is_complete, fits_into, is_scalar_type, is_pointer, is_struct, same_type}
use Rattle.core_meaning.specs.Expressions.{may_be_assigned, place_in, assigned_place, is_plain_assignment, written_place, left_value, updated, one, stepped, assignment, operation_on, change_by, compound_operator, combined, pointed_at, dereferenced, signed, negated, prefixed, cast_to, element_target, indexed, is_void, chosen, may_be_called, passed, combined_by, operator_named, condition_value}
use Rattle.entity_numbers.proofs.Uses.{Binds, then_binds, if_binds, gives, found_binds, unless_binds, some_then, found_then, unless_then}

module _ (K : Entity → Type 0) where
  -- ---- operators bind nothing

  loads_from : (structs : List Struct) (o : Operand) (ty : PlainType) (d : Designation) → Binds K (loaded_from structs o ty d)
  loads_from structs o ty (value core) = record { all = tt }
  loads_from structs o (array_of element count) (object place free) = record { all = tt }
  loads_from structs o void (object place free) = record { all = tt }
  loads_from structs o ty (object place free) = if_binds K (is_complete structs ty) (give (typed ty (read place))) (refused Incomplete o.stands_at) (record { all = tt }) (record { all = tt })

  pub loads : (s : Scope) (o : Operand) → Binds K (loaded s o)
  loads s o = loads_from s.structs o o.ty o.designates

  pub load_then : {B : Type 0} (s : Scope) (o : Operand) (f : Typed → Checked B) → ((x : Typed) → Binds K (f x)) → Binds K (loaded s o >>= f)
  load_then s o f g = then_binds K (loaded s o) f (loads s o) g

  place_binds : (o : Operand) (sign : PlainToken) (d : Designation) → Binds K (place_in o sign d)
  place_binds o sign (object place true) = if_binds K (may_be_assigned o.ty) _ _ (record { all = tt }) (record { all = tt })
  place_binds o sign (object place false) = record { all = tt }
  place_binds o sign (value core) = record { all = tt }

  pub written_binds : (s : Scope) (sign : PlainToken) (o : Operand) → Binds K (written_place s sign o)
  written_binds s sign o =
      then_binds K (assigned_place o sign) _ (place_binds o sign o.designates)
      (λ place. unless_then K (is_plain_assignment sign || is_complete s.structs o.ty) Incomplete o.stands_at _ (λ x. gives K place))

  updated_binds :
      (s : Scope) (make : Change → PlainPlace → PlainExpression → PlainExpression) (sign : PlainToken) (left : Operand) (place : PlainPlace) (right : Typed)
      → Binds K (updated s make sign left place right)
  updated_binds s make sign left place right =
      some_then K (compound_operator sign.text) _ (λ op. found_then K (change_by left.ty (operation_on s.structs op (left_value left place) right)) BadOperand sign _ (λ c. record { all = tt }))

  pub stepped_binds : (s : Scope) (make : Change → PlainPlace → PlainExpression → PlainExpression) (sign : PlainToken) (o : Operand) → Binds K (stepped s make sign o)
  stepped_binds s make sign o = then_binds K (written_place s sign o) _ (written_binds s sign o) (λ place. updated_binds s make sign o place one)

  pub assignment_binds : (s : Scope) (sign : PlainToken) (left : Operand) (place : PlainPlace) (right : Typed) → Binds K (assignment s sign left place right)
  assignment_binds s sign left place right =
      if_binds K (is_plain_assignment sign) _ _ (found_then K (fits_into left.ty right) BadOperand sign _ (λ core. record { all = tt })) (updated_binds s update sign left place right)

  pointed_binds : (sign : PlainToken) (ty : PlainType) (d : Designation) → Binds K (pointed_at sign ty d)
  pointed_binds sign ty (object place true) = record { all = tt }
  pointed_binds sign ty (object place false) = record { all = tt }
  pointed_binds sign ty (value core) = record { all = tt }

  dereferenced_binds : (sign : PlainToken) (x : Typed) (ty : PlainType) → Binds K (dereferenced sign x ty)
  dereferenced_binds sign x (pointer_to ty) = record { all = tt }
  dereferenced_binds sign x _ = record { all = tt }

  pub prefixed_binds : (s : Scope) (sign : PlainToken) (o : Operand) → Binds K (prefixed s sign o)
  prefixed_binds s sign o =
      if_binds K (bytes_eq sign.text (codes "&")) _ _ (pointed_binds sign o.ty o.designates)
      (if_binds K (bytes_eq sign.text (codes "*")) _ _ (load_then s o (λ x. dereferenced sign x x.ty) (λ x. dereferenced_binds sign x x.ty))
      (if_binds K (bytes_eq sign.text (codes "!")) _ _ (load_then s o (negated sign) (λ x. if_binds K (is_scalar_type x.ty) _ _ (record { all = tt }) (record { all = tt })))
      (load_then s o (signed sign) (λ x. if_binds K (is_integer x.ty) _ _ (record { all = tt }) (record { all = tt })))))

  pub cast_binds : (sign : PlainToken) (x : Typed) (ty : PlainType) → Binds K (cast_to sign x ty)
  cast_binds sign x void = record { all = tt }
  cast_binds sign x ty = if_binds K (is_integer x.ty) _ _ (record { all = tt }) (record { all = tt })

  element_binds : (s : Scope) (sign : PlainToken) (ty : PlainType) (core : PlainExpression) → Binds K (element_target s sign ty core)
  element_binds s sign (pointer_to ty) core = if_binds K (is_complete s.structs ty) _ _ (record { all = tt }) (record { all = tt })
  element_binds s sign _ core = record { all = tt }

  pub indexed_binds : (s : Scope) (sign : PlainToken) (a b : Typed) → Binds K (indexed s sign a b)
  indexed_binds s sign a b =
      if_binds K (is_pointer a.ty && is_integer b.ty) _ _ (element_binds s sign a.ty (binary operation.Forward a.core b.core))
      (if_binds K (is_integer a.ty && is_pointer b.ty) _ _ (element_binds s sign b.ty (binary operation.ForwardBy a.core b.core)) (record { all = tt }))

  pub chosen_binds : (sign : PlainToken) (condition : PlainExpression) (a b : Typed) → Binds K (chosen sign condition a b)
  chosen_binds sign condition a b =
      if_binds K (is_integer a.ty && is_integer b.ty) _ _ (record { all = tt })
      (if_binds K (is_void a.ty && is_void b.ty) _ _ (record { all = tt })
      (if_binds K ((is_struct a.ty || is_pointer a.ty) && same_type a.ty b.ty) _ _ (record { all = tt })
      (if_binds K (is_pointer a.ty && b.is_null) _ _ (record { all = tt })
      (if_binds K (a.is_null && is_pointer b.ty) _ _ (record { all = tt }) (record { all = tt })))))

  pub callable_binds : (s : Scope) (f : Signature) (count : ℕ) (bracket : PlainToken) → Binds K (may_be_called s f count bracket)
  callable_binds s f count bracket =
      unless_then K (is_void f.result || is_complete s.structs f.result) Incomplete bracket _ (λ x. unless_binds K (count == length f.parameters) ArgumentCount bracket)

  pub passed_binds : (s : Scope) (ty : PlainType) (o : Operand) (first : PlainToken) → Binds K (passed s ty o first)
  passed_binds s ty o first = load_then s o _ (λ x. found_binds K (fits_into ty x) BadOperand first)

  named_binds : (s : Scope) (sign : PlainToken) (a b : Typed) → Binds K (or_broken (operator_named sign.text) >>= combined s sign a b)
  named_binds s sign a b = some_then K (operator_named sign.text) _ (λ op. found_then K (operation_on s.structs op a b) BadOperand sign _ (λ o. record { all = tt }))

  pub combined_binds : (s : Scope) (kind : Kind) (sign : PlainToken) (a b : Typed) → Binds K (combined_by s kind sign a b)
  combined_binds s k.LogicalAnd sign a b = if_binds K (is_scalar_type a.ty && is_scalar_type b.ty) _ _ (record { all = tt }) (record { all = tt })
  combined_binds s k.LogicalOr sign a b = if_binds K (is_scalar_type a.ty && is_scalar_type b.ty) _ _ (record { all = tt }) (record { all = tt })
  combined_binds s _ sign a b = named_binds s sign a b

  pub condition_binds : (s : Scope) (first : PlainToken) (o : Operand) → Binds K (condition_value s first o)
  condition_binds s first o = load_then s o _ (λ x. if_binds K (is_scalar_type x.ty) _ _ (record { all = tt }) (record { all = tt }))
