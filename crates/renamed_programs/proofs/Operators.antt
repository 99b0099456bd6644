-- What operators make of operands that are alike.
use Rattle.std.proofs.Common.{◌≡◌, ℕ, Bool, true, false, List, refl, ap, ◌∙◌}
use Rattle.std.specs.Prelude.{Some, None, codes, ◌&&◌, if◌then◌else◌}
use Rattle.std.specs.Str.{bytes_eq}
use Rattle.c_text.specs.Token.{PlainToken}
use Rattle.c_types.specs.declared.arithmetic.BinaryOp.{BinaryOp}
use Rattle.c_types.specs.declared.arithmetic.BinaryOp.TheVariants.{Add, Sub}
use Rattle.c_types.specs.Types.{PlainType, void, pointer_to, array_of}
use Rattle.c_types.specs.Integers.{is_integer}
use Rattle.c_tree.specs.declared.kinds.Kind.{Kind}
use Rattle.c_tree.specs.declared.kinds.Kind.TheVariants as k
use Rattle.core_meaning.specs.declared.refusals.TypeKind.TheVariants.{BadOperand}
use Rattle.core_meaning.specs.declared.expressions.Operation.TheVariants as operation
use Rattle.core_meaning.specs.declared.expressions.Change.{Change}
use Rattle.core_meaning.specs.Program.{PlainExpression, PlainPlace, logical_and, logical_or, update}
use Rattle.core_meaning.specs.Checking.{◌>>=◌, or_broken}
use Rattle.core_meaning.specs.Entities.{Struct, Signature, Scope}
use Rattle.core_meaning.specs.Typing.{same_type, is_movable, promoted, Designation, value, object, Operand, Typed, of_value, loaded, loaded_from, fits_into}
use Rattle.core_meaning.specs.Expressions.{operator_named, compound_operator, place_in, assigned_place, is_plain_assignment, written_place, left_value, updated, stepped, assignment, operation_on, on_numbers, pointer_operation, change_by, combined, pointed_at, dereferenced, signed, signed_core, negated, prefixed, cast_to, element_target, indexed, logical, chosen, combined_by, may_be_called, passed, condition_value}
use Rattle.renamed_programs.proofs.Alike.{Naming, Alike, Equal, Anything, SameOperand, alike_rules, alike_equal, alike_finds_same, alike_somes_same, alike_if, alike_if_else, alike_give, alike_any}
use Rattle.renamed_programs.proofs.Scopes.{SameStructs, same_movable}

-- ---- operations

pointers_same : (structs others : List Struct) (op : BinaryOp) (a b : Typed) → SameStructs structs others → pointer_operation structs op a b ≡ pointer_operation others op a b
pointers_same structs others Add a b h =
    ap (λ x. if x && is_integer b.ty then Some operation.Forward else if is_integer a.ty && is_movable structs b.ty then Some operation.ForwardBy else None) (same_movable structs others a.ty h)
    ∙ ap (λ x. if is_movable others a.ty && is_integer b.ty then Some operation.Forward else if is_integer a.ty && x then Some operation.ForwardBy else None) (same_movable structs others b.ty h)
pointers_same structs others Sub a b h =
    ap (λ x. if x && is_integer b.ty then Some operation.Back else if x && same_type a.ty b.ty then Some operation.Distance else None) (same_movable structs others a.ty h)
pointers_same structs others op a b h = refl

pub operation_same : (structs others : List Struct) (op : BinaryOp) (a b : Typed) → SameStructs structs others → operation_on structs op a b ≡ operation_on others op a b
operation_same structs others op a b h =
    ap (λ x. if is_integer a.ty && is_integer b.ty then Some (on_numbers op a.ty b.ty) else x) (pointers_same structs others op a b h)

module _ (named : Naming) (s u : Scope) (structs : SameStructs s.structs u.structs) where
  -- ---- values

  object_loads :
      (o p : Operand) (ty : PlainType) (place : PlainPlace) (free : Bool) → Alike named Equal (loaded_from s.structs o ty (object place free)) (loaded_from u.structs p ty (object place free))
  object_loads o p (array_of element count) place free = search alike_rules
  object_loads o p void place free = search alike_rules
  object_loads o p ty place free = search alike_rules

  loads_from : (o p : Operand) (ty : PlainType) (d : Designation) → o.is_null ≡ p.is_null → Alike named Equal (loaded_from s.structs o ty d) (loaded_from u.structs p ty d)
  loads_from o p ty (value core) e = alike_give named Equal _ _ (ap (λ b. let x : Typed = record { ty = ty; core = core; is_null = b } in x) e)
  loads_from o p ty (object place free) e = object_loads o p ty place free

  pub loads : (o : Operand) (token : PlainToken) → Alike named Equal (loaded s o) (loaded u (record o { stands_at = token }))
  loads o token = loads_from o (record o { stands_at = token }) o.ty o.designates refl

  -- ---- places and assignments

  place_alike : (o p : Operand) (sign other : PlainToken) (d : Designation) → Alike named Equal (place_in o sign d) (place_in p other d)
  place_alike o p sign other (object place true) = search alike_rules
  place_alike o p sign other (object place false) = search alike_rules
  place_alike o p sign other (value core) = search alike_rules

  pub assigned_alike : (o : Operand) (token sign other : PlainToken) → Alike named Equal (assigned_place o sign) (assigned_place (record o { stands_at = token }) other)
  assigned_alike o token sign other = place_alike o (record o { stands_at = token }) sign other o.designates

  pub written_alike : (sign other : PlainToken) (o : Operand) (token : PlainToken) → Alike named Equal (written_place s sign o) (written_place u other (record o { stands_at = token }))
  written_alike sign other o token = search (alike_rules, assigned_alike)

  pub updated_alike :
      (make : Change → PlainPlace → PlainExpression → PlainExpression) (sign other : PlainToken) → sign.text ≡ other.text → (left : Operand) (token : PlainToken) (place : PlainPlace) (right : Typed)
      → Alike named SameOperand (updated s make sign left place right) (updated u make other (record left { stands_at = token }) place right)
  updated_alike make sign other e left token place right =
      alike_somes_same named SameOperand (compound_operator sign.text) (compound_operator other.text) _ _ (ap compound_operator e)
      (λ op. alike_finds_same named SameOperand (change_by left.ty (operation_on s.structs op (left_value left place) right)) (change_by left.ty (operation_on u.structs op (left_value left place) right)) BadOperand BadOperand sign other _ _
      (ap (change_by left.ty) (operation_same s.structs u.structs op (left_value left place) right structs)) (λ c. alike_give named SameOperand _ _ refl))

  pub stepped_alike :
      (make : Change → PlainPlace → PlainExpression → PlainExpression) (sign other : PlainToken) → sign.text ≡ other.text → (o : Operand) (token : PlainToken)
      → Alike named SameOperand (stepped s make sign o) (stepped u make other (record o { stands_at = token }))
  stepped_alike make sign other e o token = search (alike_rules, written_alike, updated_alike)

  pub assignment_alike :
      (sign other : PlainToken) → sign.text ≡ other.text → (left : Operand) (token : PlainToken) (place : PlainPlace) (right : Typed)
      → Alike named SameOperand (assignment s sign left place right) (assignment u other (record left { stands_at = token }) place right)
  assignment_alike sign other e left token place right =
      alike_if named SameOperand (is_plain_assignment sign) (is_plain_assignment other) _ _ _ _ (ap (λ x. bytes_eq x (codes "=")) e)
      (alike_finds_same named SameOperand (fits_into left.ty right) (fits_into left.ty right) BadOperand BadOperand sign other _ _ refl (λ core. alike_give named SameOperand _ _ refl))
      (updated_alike update sign other e left token place right)

  -- ---- unary operators

  pointed_alike : (sign other : PlainToken) (ty : PlainType) (d : Designation) → Alike named SameOperand (pointed_at sign ty d) (pointed_at other ty d)
  pointed_alike sign other ty (object place true) = search alike_rules
  pointed_alike sign other ty (object place false) = search alike_rules
  pointed_alike sign other ty (value core) = search alike_rules

  dereferenced_alike : (sign other : PlainToken) (x : Typed) (ty : PlainType) → Alike named SameOperand (dereferenced sign x ty) (dereferenced other x ty)
  dereferenced_alike sign other x (pointer_to ty) = search alike_rules
  dereferenced_alike sign other x _ = search alike_rules

  negated_alike : (sign other : PlainToken) (x : Typed) → Alike named SameOperand (negated sign x) (negated other x)
  negated_alike sign other x = search alike_rules

  signed_same : (a b : List ℕ) (sign other : PlainToken) (x : Typed) → a ≡ b → SameOperand (of_value sign (promoted x.ty) (signed_core a (promoted x.ty) x)) (of_value other (promoted x.ty) (signed_core b (promoted x.ty) x))
  signed_same a b sign other x e = ap (λ t. of_value other (promoted x.ty) (signed_core t (promoted x.ty) x)) e

  signed_alike : (sign other : PlainToken) → sign.text ≡ other.text → (x : Typed) → Alike named SameOperand (signed sign x) (signed other x)
  signed_alike sign other e x =
      alike_if_else named SameOperand (is_integer x.ty) (is_integer x.ty) _ _ BadOperand BadOperand sign other (alike_give named SameOperand _ _ (signed_same sign.text other.text sign other x e))

  pub prefixed_alike : (sign other : PlainToken) → sign.text ≡ other.text → (o : Operand) (token : PlainToken) → Alike named SameOperand (prefixed s sign o) (prefixed u other (record o { stands_at = token }))
  prefixed_alike sign other e o token =
      alike_if named SameOperand (bytes_eq sign.text (codes "&")) (bytes_eq other.text (codes "&")) _ _ _ _ (ap (λ x. bytes_eq x (codes "&")) e) (pointed_alike sign other o.ty o.designates)
      (alike_if named SameOperand (bytes_eq sign.text (codes "*")) (bytes_eq other.text (codes "*")) _ _ _ _ (ap (λ x. bytes_eq x (codes "*")) e)
      (alike_equal named SameOperand (loaded s o) (loaded u (record o { stands_at = token })) _ _ (loads o token) (λ x. dereferenced_alike sign other x x.ty))
      (alike_if named SameOperand (bytes_eq sign.text (codes "!")) (bytes_eq other.text (codes "!")) _ _ _ _ (ap (λ x. bytes_eq x (codes "!")) e)
      (alike_equal named SameOperand (loaded s o) (loaded u (record o { stands_at = token })) _ _ (loads o token) (λ x. negated_alike sign other x))
      (alike_equal named SameOperand (loaded s o) (loaded u (record o { stands_at = token })) _ _ (loads o token) (λ x. signed_alike sign other e x))))

  pub cast_alike : (sign other : PlainToken) (x : Typed) (ty : PlainType) → Alike named SameOperand (cast_to sign x ty) (cast_to other x ty)
  cast_alike sign other x void = search alike_rules
  cast_alike sign other x ty = search alike_rules

  -- ---- operators on two values

  pub combined_alike : (sign other : PlainToken) (a b : Typed) (op : BinaryOp) → Alike named SameOperand (combined s sign a b op) (combined u other a b op)
  combined_alike sign other a b op =
      alike_finds_same named SameOperand (operation_on s.structs op a b) (operation_on u.structs op a b) BadOperand BadOperand sign other _ _ (operation_same s.structs u.structs op a b structs)
      (λ o. alike_give named SameOperand _ _ refl)

  logical_alike : (make : PlainExpression → PlainExpression → PlainExpression) (sign other : PlainToken) (a b : Typed) → Alike named SameOperand (logical make sign a b) (logical make other a b)
  logical_alike make sign other a b = search alike_rules

  named_alike : (sign other : PlainToken) → sign.text ≡ other.text → (a b : Typed) → Alike named SameOperand (or_broken (operator_named sign.text) >>= combined s sign a b) (or_broken (operator_named other.text) >>= combined u other a b)
  named_alike sign other e a b =
      alike_somes_same named SameOperand (operator_named sign.text) (operator_named other.text) _ _ (ap operator_named e) (λ op. combined_alike sign other a b op)

  pub combined_by_alike : (kind : Kind) (sign other : PlainToken) → sign.text ≡ other.text → (a b : Typed) → Alike named SameOperand (combined_by s kind sign a b) (combined_by u kind other a b)
  combined_by_alike k.LogicalAnd sign other e a b = logical_alike logical_and sign other a b
  combined_by_alike k.LogicalOr sign other e a b = logical_alike logical_or sign other a b
  combined_by_alike kind sign other e a b = named_alike sign other e a b

  element_alike : (sign other : PlainToken) (ty : PlainType) (core : PlainExpression) → Alike named SameOperand (element_target s sign ty core) (element_target u other ty core)
  element_alike sign other (pointer_to ty) core = search alike_rules
  element_alike sign other _ core = search alike_rules

  pub indexed_alike : (sign other : PlainToken) (a b : Typed) → Alike named SameOperand (indexed s sign a b) (indexed u other a b)
  indexed_alike sign other a b = search (alike_rules, alike_if, element_alike)

  pub chosen_alike : (sign other : PlainToken) (condition : PlainExpression) (a b : Typed) → Alike named SameOperand (chosen sign condition a b) (chosen other condition a b)
  chosen_alike sign other condition a b = search (alike_rules, alike_if) depth 12

  pub passed_alike : (ty : PlainType) (o : Operand) (token first other : PlainToken) → Alike named Equal (passed s ty o first) (passed u ty (record o { stands_at = token }) other)
  passed_alike ty o token first other = search (alike_rules, loads)

  pub condition_alike : (first other : PlainToken) (o : Operand) (token : PlainToken) → Alike named Equal (condition_value s first o) (condition_value u other (record o { stands_at = token }))
  condition_alike first other o token = search (alike_rules, loads)

  pub callable_alike : (signature : Signature) (count others : ℕ) (bracket other : PlainToken) → Alike named Anything (may_be_called s signature count bracket) (may_be_called u signature others other)
  callable_alike signature count others bracket other = search (alike_rules, alike_any)
