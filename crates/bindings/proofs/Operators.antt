-- What operators make of operands binds nothing, isn't refused as undeclared, and has a type that is made of theirs.
use Rattle.std.proofs.Common.{◌≡◌, ℕ, Bool, true, false, List, refl, sym, length}
use Rattle.std.specs.Prelude.{Option, Some, None, is_some, codes, ◌&&◌, ◌||◌, ◌==◌, if◌then◌else◌}
use Rattle.std.specs.Str.{bytes_eq}
use Rattle.std.proofs.lemmas.Bool.{false≢true}
use Rattle.c_text.specs.Token.{PlainToken}
use Rattle.c_types.specs.Types.{PlainType, void, int, pointer_to, array_of}
use Rattle.c_types.specs.Integers.{is_integer}
use Rattle.c_tree.specs.declared.kinds.Kind.TheVariants as k
use Rattle.core_meaning.specs.declared.refusals.TypeKind.{TypeKind}
use Rattle.core_meaning.specs.declared.refusals.TypeKind.TheVariants.{BadOperand, NotAssignable, Incomplete, ArgumentCount}
use Rattle.core_meaning.specs.declared.expressions.Change.{Change}
use Rattle.core_meaning.specs.Program.{PlainExpression, PlainPlace, null_constant, read, address, first_element, logical_not, logical_and, logical_or, target, discard, convert, update, assign}
use Rattle.core_meaning.specs.Checking.{refused, ◌>>=◌, give, unless_so, found_or, or_broken}
use Rattle.core_meaning.specs.Entities.{Table, Struct, Signature, Scope}
use Rattle.core_meaning.specs.Typing.{same_type, is_complete, is_struct, is_pointer, is_scalar_type, promoted, common, Designation, value, object, Operand, Typed, typed, of_value, of_object, loaded, loaded_from, fits_into}
use Rattle.core_meaning.specs.Expressions.{operator_named, compound_operator, may_be_assigned, place_in, assigned_place, is_plain_assignment, written_place, left_value, updated, one, stepped, assignment, operation_on, change_by, combined, operation_type, operand_core, pointed_at, dereferenced, signed, signed_core, negated, prefixed, cast_to, unused, element_target, indexed, logical, is_void, chosen, chosen_core, converted_to, combined_by, may_be_called, passed, condition_value}
use Rattle.bindings.proofs.Follows.{Yields, yields, yields_both, yields_as, yields_if}
use Rattle.bindings.proofs.Types.{Made, made_promoted, made_common, made_operation}

abbrev pub Anything : {A : Type 0} → A → Type 0
Anything x = Unit {0}

-- refused, but not as undeclared
abbrev pub Milder : TypeKind → Type 0
Milder kind = Rattle.bindings.proofs.Follows.IfUndeclared kind ⊥

pub yields_unless : (b : Bool) (kind : TypeKind) (token : PlainToken) → Milder kind → Yields (λ x. b ≡ true) (unless_so b kind token)
yields_unless true kind token milder = record { none = refl; value = refl }
yields_unless false kind token milder = milder

pub yields_found : {A : Type 0} (found : Option A) (kind : TypeKind) (token : PlainToken) → Milder kind → Yields (λ x. found ≡ Some x) (found_or found kind token)
yields_found (Some x) kind token milder = record { none = refl; value = refl }
yields_found None kind token milder = milder

pub yields_some : {A : Type 0} (found : Option A) → is_some found ≡ true → Yields (λ x. found ≡ Some x) (or_broken found)
yields_some (Some x) h = record { none = refl; value = refl }
yields_some None h = absurd (false≢true h)

module _ (tags : Table ℕ) where
  abbrev pub MadeOperand : Operand → Type 0
  MadeOperand o = Made tags o.ty

  abbrev pub MadeTyped : Typed → Type 0
  MadeTyped x = Made tags x.ty

  loads_object :
      (structs : List Struct) (operand : Operand) (ty : PlainType) (place : PlainPlace) (free : Bool) → Made tags ty
      → Yields MadeTyped (loaded_from structs operand ty (object place free))
  loads_object structs operand (array_of element count) place free h = yields MadeTyped (typed (pointer_to element) (first_element place)) h
  loads_object structs operand void place free h = yields MadeTyped (typed void (read place)) tt
  loads_object structs operand ty place free h =
      yields_if MadeTyped (is_complete structs ty) (give (typed ty (read place))) (refused Incomplete operand.stands_at) (λ e. yields MadeTyped (typed ty (read place)) h) (λ e. tt)

  loads_from : (structs : List Struct) (operand : Operand) (ty : PlainType) (d : Designation) → Made tags ty → Yields MadeTyped (loaded_from structs operand ty d)
  loads_from structs operand ty (value core) h = yields MadeTyped (record { ty = ty; core = core; is_null = operand.is_null }) h
  loads_from structs operand ty (object place free) h = loads_object structs operand ty place free h

  pub loads : (scope : Scope) (operand : Operand) → MadeOperand operand → Yields MadeTyped (loaded scope operand)
  loads scope operand h = loads_from scope.structs operand operand.ty operand.designates h

  -- ---- assignments

  place_yields : (operand : Operand) (sign : PlainToken) (d : Designation) → Yields Anything (place_in operand sign d)
  place_yields operand sign (object place true) =
      yields_if Anything (may_be_assigned operand.ty) (give place) (refused NotAssignable sign) (λ e. yields Anything place tt) (λ e. tt)
  place_yields operand sign (object place false) = tt
  place_yields operand sign (value core) = tt

  pub written_yields : (scope : Scope) (sign : PlainToken) (operand : Operand) → Yields Anything (written_place scope sign operand)
  written_yields scope sign operand =
      yields_both Anything Anything (assigned_place operand sign)
      (λ place. unless_so (is_plain_assignment sign || is_complete scope.structs operand.ty) Incomplete operand.stands_at >>= (λ complete. give place))
      (place_yields operand sign operand.designates)
      (λ place h. yields_both (λ x. (is_plain_assignment sign || is_complete scope.structs operand.ty) ≡ true) Anything (unless_so (is_plain_assignment sign || is_complete scope.structs operand.ty) Incomplete operand.stands_at) (λ complete. give place)
      (yields_unless (is_plain_assignment sign || is_complete scope.structs operand.ty) Incomplete operand.stands_at tt) (λ x g. yields Anything place tt))

  updated_yields :
      (scope : Scope) (make : Change → PlainPlace → PlainExpression → PlainExpression) (sign : PlainToken) (left : Operand) (place : PlainPlace) (right : Typed)
      → is_some (compound_operator sign.text) ≡ true → MadeOperand left → Yields MadeOperand (updated scope make sign left place right)
  updated_yields scope make sign left place right named h =
      yields_both (λ op. compound_operator sign.text ≡ Some op) MadeOperand (or_broken (compound_operator sign.text))
      (λ op. found_or (change_by left.ty (operation_on scope.structs op (left_value left place) right)) BadOperand sign >>= (λ c. give (of_value sign left.ty (make c place right.core))))
      (yields_some (compound_operator sign.text) named)
      (λ op e. yields_both (λ c. change_by left.ty (operation_on scope.structs op (left_value left place) right) ≡ Some c) MadeOperand
      (found_or (change_by left.ty (operation_on scope.structs op (left_value left place) right)) BadOperand sign) (λ c. give (of_value sign left.ty (make c place right.core)))
      (yields_found (change_by left.ty (operation_on scope.structs op (left_value left place) right)) BadOperand sign tt)
      (λ c g. yields MadeOperand (of_value sign left.ty (make c place right.core)) h))

  pub stepped_yields :
      (scope : Scope) (make : Change → PlainPlace → PlainExpression → PlainExpression) (sign : PlainToken) (operand : Operand)
      → is_some (compound_operator sign.text) ≡ true → MadeOperand operand → Yields MadeOperand (stepped scope make sign operand)
  stepped_yields scope make sign operand named h =
      yields_both Anything MadeOperand (written_place scope sign operand) (λ place. updated scope make sign operand place one) (written_yields scope sign operand)
      (λ place g. updated_yields scope make sign operand place one named h)

  by_spelling : (a b : Bool) → (a || b) ≡ true → a ≡ false → b ≡ true
  by_spelling true b h e = absurd (false≢true (sym e))
  by_spelling false b h e = h

  pub assignment_yields :
      (scope : Scope) (sign : PlainToken) (left : Operand) (place : PlainPlace) (right : Typed)
      → (bytes_eq sign.text (codes "=") || is_some (compound_operator sign.text)) ≡ true → MadeOperand left
      → Yields MadeOperand (assignment scope sign left place right)
  assignment_yields scope sign left place right named h =
      yields_if MadeOperand (is_plain_assignment sign)
      (found_or (fits_into left.ty right) BadOperand sign >>= (λ core. give (of_value sign left.ty (assign place core))))
      (updated scope update sign left place right)
      (λ e. yields_both (λ core. fits_into left.ty right ≡ Some core) MadeOperand (found_or (fits_into left.ty right) BadOperand sign) (λ core. give (of_value sign left.ty (assign place core)))
      (yields_found (fits_into left.ty right) BadOperand sign tt) (λ core g. yields MadeOperand (of_value sign left.ty (assign place core)) h))
      (λ e. updated_yields scope update sign left place right (by_spelling (is_plain_assignment sign) (is_some (compound_operator sign.text)) named e) h)

  -- ---- unary operators

  pointed_yields : (sign : PlainToken) (ty : PlainType) (d : Designation) → Made tags ty → Yields MadeOperand (pointed_at sign ty d)
  pointed_yields sign ty (object place true) h = yields MadeOperand (of_value sign (pointer_to ty) (address place)) h
  pointed_yields sign ty (object place false) h = tt
  pointed_yields sign ty (value core) h = tt

  dereferenced_yields : (sign : PlainToken) (x : Typed) (ty : PlainType) → Made tags ty → Yields MadeOperand (dereferenced sign x ty)
  dereferenced_yields sign x (pointer_to ty) h = yields MadeOperand (of_object sign ty (target x.core) true) h
  dereferenced_yields sign x _ h = tt

  negated_yields : (sign : PlainToken) (x : Typed) → Yields MadeOperand (negated sign x)
  negated_yields sign x =
      yields_if MadeOperand (is_scalar_type x.ty) (give (of_value sign int (logical_not x.core))) (refused BadOperand sign)
      (λ e. yields MadeOperand (of_value sign int (logical_not x.core)) tt) (λ e. tt)

  signed_yields : (sign : PlainToken) (x : Typed) → MadeTyped x → Yields MadeOperand (signed sign x)
  signed_yields sign x h =
      yields_if MadeOperand (is_integer x.ty) (give (of_value sign (promoted x.ty) (signed_core sign.text (promoted x.ty) x))) (refused BadOperand sign)
      (λ e. yields MadeOperand (of_value sign (promoted x.ty) (signed_core sign.text (promoted x.ty) x)) (made_promoted tags x.ty h)) (λ e. tt)

  pub prefixed_yields : (scope : Scope) (sign : PlainToken) (operand : Operand) → MadeOperand operand → Yields MadeOperand (prefixed scope sign operand)
  prefixed_yields scope sign operand h =
      yields_if MadeOperand (bytes_eq sign.text (codes "&")) (pointed_at sign operand.ty operand.designates)
      (if bytes_eq sign.text (codes "*") then loaded scope operand >>= (λ x. dereferenced sign x x.ty)
      else if bytes_eq sign.text (codes "!") then loaded scope operand >>= negated sign
      else loaded scope operand >>= signed sign)
      (λ e. pointed_yields sign operand.ty operand.designates h)
      (λ e. yields_if MadeOperand (bytes_eq sign.text (codes "*")) (loaded scope operand >>= (λ x. dereferenced sign x x.ty))
      (if bytes_eq sign.text (codes "!") then loaded scope operand >>= negated sign else loaded scope operand >>= signed sign)
      (λ e. yields_both MadeTyped MadeOperand (loaded scope operand) (λ x. dereferenced sign x x.ty) (loads scope operand h) (λ x g. dereferenced_yields sign x x.ty g))
      (λ e. yields_if MadeOperand (bytes_eq sign.text (codes "!")) (loaded scope operand >>= negated sign) (loaded scope operand >>= signed sign)
      (λ e. yields_both MadeTyped MadeOperand (loaded scope operand) (negated sign) (loads scope operand h) (λ x g. negated_yields sign x))
      (λ e. yields_both MadeTyped MadeOperand (loaded scope operand) (signed sign) (loads scope operand h) (λ x g. signed_yields sign x g))))

  pub cast_yields : (sign : PlainToken) (x : Typed) (ty : PlainType) → Made tags ty → Yields MadeOperand (cast_to sign x ty)
  cast_yields sign x void h = yields MadeOperand (of_value sign void (discard (unused x.core))) tt
  cast_yields sign x ty h =
      yields_if MadeOperand (is_integer x.ty) (give (of_value sign ty (convert (Rattle.core_meaning.specs.Typing.integer_type ty) x.core))) (refused BadOperand sign)
      (λ e. yields MadeOperand (of_value sign ty (convert (Rattle.core_meaning.specs.Typing.integer_type ty) x.core)) h) (λ e. tt)

  -- ---- subscripts

  element_yields : (scope : Scope) (sign : PlainToken) (ty : PlainType) (core : PlainExpression) → Made tags ty → Yields MadeOperand (element_target scope sign ty core)
  element_yields scope sign (pointer_to ty) core h =
      yields_if MadeOperand (is_complete scope.structs ty) (give (of_object sign ty (target core) true)) (refused Incomplete sign)
      (λ e. yields MadeOperand (of_object sign ty (target core) true) h) (λ e. tt)
  element_yields scope sign _ core h = tt

  pub indexed_yields : (scope : Scope) (sign : PlainToken) (a b : Typed) → MadeTyped a → MadeTyped b → Yields MadeOperand (indexed scope sign a b)
  indexed_yields scope sign a b f g = by (is_pointer a.ty && is_integer b.ty) (is_integer a.ty && is_pointer b.ty)
    where
      by :
          (x y : Bool)
          → Yields MadeOperand (if x then element_target scope sign a.ty (Rattle.core_meaning.specs.Program.binary Rattle.core_meaning.specs.declared.expressions.Operation.TheVariants.Forward a.core b.core) else if y then element_target scope sign b.ty (Rattle.core_meaning.specs.Program.binary Rattle.core_meaning.specs.declared.expressions.Operation.TheVariants.ForwardBy a.core b.core) else refused BadOperand sign)
      by true y = element_yields scope sign a.ty (Rattle.core_meaning.specs.Program.binary Rattle.core_meaning.specs.declared.expressions.Operation.TheVariants.Forward a.core b.core) f
      by false true = element_yields scope sign b.ty (Rattle.core_meaning.specs.Program.binary Rattle.core_meaning.specs.declared.expressions.Operation.TheVariants.ForwardBy a.core b.core) g
      by false false = tt

  -- ---- operators on two values

  logical_yields : (make : PlainExpression → PlainExpression → PlainExpression) (sign : PlainToken) (a b : Typed) → Yields MadeOperand (logical make sign a b)
  logical_yields make sign a b =
      yields_if MadeOperand (is_scalar_type a.ty && is_scalar_type b.ty) (give (of_value sign int (make a.core b.core))) (refused BadOperand sign)
      (λ e. yields MadeOperand (of_value sign int (make a.core b.core)) tt) (λ e. tt)

  pub logical_and_yields : (scope : Scope) (sign : PlainToken) (a b : Typed) → Yields MadeOperand (combined_by scope k.LogicalAnd sign a b)
  logical_and_yields scope sign a b = logical_yields logical_and sign a b

  pub logical_or_yields : (scope : Scope) (sign : PlainToken) (a b : Typed) → Yields MadeOperand (combined_by scope k.LogicalOr sign a b)
  logical_or_yields scope sign a b = logical_yields logical_or sign a b

  pub combined_yields :
      (scope : Scope) (sign : PlainToken) (a b : Typed) → is_some (operator_named sign.text) ≡ true → MadeTyped a → MadeTyped b
      → Yields MadeOperand (or_broken (operator_named sign.text) >>= combined scope sign a b)
  combined_yields scope sign a b named f g =
      yields_both (λ op. operator_named sign.text ≡ Some op) MadeOperand (or_broken (operator_named sign.text)) (combined scope sign a b)
      (yields_some (operator_named sign.text) named)
      (λ op e. yields_both (λ o. operation_on scope.structs op a b ≡ Some o) MadeOperand (found_or (operation_on scope.structs op a b) BadOperand sign)
      (λ o. give (of_value sign (operation_type o a.ty b.ty) (Rattle.core_meaning.specs.Program.binary o (operand_core o a) (operand_core o b))))
      (yields_found (operation_on scope.structs op a b) BadOperand sign tt)
      (λ o h. yields MadeOperand (of_value sign (operation_type o a.ty b.ty) (Rattle.core_meaning.specs.Program.binary o (operand_core o a) (operand_core o b))) (made_operation tags o a.ty b.ty f g)))

  pub chosen_yields : (sign : PlainToken) (condition : PlainExpression) (a b : Typed) → MadeTyped a → MadeTyped b → Yields MadeOperand (chosen sign condition a b)
  chosen_yields sign condition a b f g =
      by (is_integer a.ty && is_integer b.ty) (is_void a.ty && is_void b.ty) ((is_struct a.ty || is_pointer a.ty) && same_type a.ty b.ty) (is_pointer a.ty && b.is_null) (a.is_null && is_pointer b.ty)
    where
      by :
          (x y z v w : Bool)
          → Yields MadeOperand (if x then chosen_core sign condition (common a.ty b.ty) (converted_to (common a.ty b.ty) a) (converted_to (common a.ty b.ty) b)
          else if y then chosen_core sign condition void a.core b.core
          else if z then chosen_core sign condition a.ty a.core b.core
          else if v then chosen_core sign condition a.ty a.core null_constant
          else if w then chosen_core sign condition b.ty null_constant b.core
          else refused BadOperand sign)
      by true y z v w = record { none = refl; value = made_common tags a.ty b.ty f g }
      by false true z v w = record { none = refl; value = tt }
      by false false true v w = record { none = refl; value = f }
      by false false false true w = record { none = refl; value = f }
      by false false false false true = record { none = refl; value = g }
      by false false false false false = tt

  -- ---- calls, conditions

  pub called_yields : (scope : Scope) (signature : Signature) (count : ℕ) (bracket : PlainToken) → Yields (λ x. (count == length signature.parameters) ≡ true) (may_be_called scope signature count bracket)
  called_yields scope signature count bracket =
      yields_both (λ x. (is_void signature.result || is_complete scope.structs signature.result) ≡ true) (λ x. (count == length signature.parameters) ≡ true)
      (unless_so (is_void signature.result || is_complete scope.structs signature.result) Incomplete bracket)
      (λ complete. unless_so (count == length signature.parameters) ArgumentCount bracket)
      (yields_unless (is_void signature.result || is_complete scope.structs signature.result) Incomplete bracket tt)
      (λ x h. yields_unless (count == length signature.parameters) ArgumentCount bracket tt)

  pub passed_yields : (scope : Scope) (ty : PlainType) (operand : Operand) (first : PlainToken) → MadeOperand operand → Yields Anything (passed scope ty operand first)
  passed_yields scope ty operand first h =
      yields_both MadeTyped Anything (loaded scope operand) (λ x. found_or (fits_into ty x) BadOperand first) (loads scope operand h)
      (λ x g. yields_as (λ core. fits_into ty x ≡ Some core) Anything (found_or (fits_into ty x) BadOperand first) (yields_found (fits_into ty x) BadOperand first tt) (λ core e. tt))

  pub condition_yields : (scope : Scope) (first : PlainToken) (operand : Operand) → MadeOperand operand → Yields Anything (condition_value scope first operand)
  condition_yields scope first operand h =
      yields_both MadeTyped Anything (loaded scope operand) (λ x. if is_scalar_type x.ty then give x.core else refused BadOperand first) (loads scope operand h)
      (λ x g. yields_if Anything (is_scalar_type x.ty) (give x.core) (refused BadOperand first) (λ e. yields Anything x.core tt) (λ e. tt))
