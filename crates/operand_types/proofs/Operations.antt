-- Operations between two values, where structs have other numbers.
use Rattle.std.proofs.Common.{◌≡◌, ℕ, Bool, true, false, List, refl}
use Rattle.std.specs.Prelude.{◌&&◌, ◌||◌, Option, Some, None, if◌then◌else◌}
use Rattle.std.proofs.lemmas.Bool.{and_parts}
use Rattle.c_types.specs.Types.{PlainType, int}
use Rattle.c_types.specs.Integers.{is_integer}
use Rattle.c_types.specs.declared.arithmetic.BinaryOp.{BinaryOp}
use Rattle.c_types.specs.declared.arithmetic.BinaryOp.TheVariants.{Mul, Div, Rem, Add, Sub, Shl, Shr, Lt, Gt, Le, Ge, Eq, Ne, BitAnd, BitXor, BitOr}
use Rattle.core_meaning.specs.declared.expressions.Operation.{Operation}
use Rattle.core_meaning.specs.declared.expressions.Operation.TheVariants as operation
use Rattle.core_meaning.specs.Program.{PlainExpression}
use Rattle.core_meaning.specs.Entities.{Struct}
use Rattle.core_meaning.specs.Typing.{Typed, promoted, common, is_movable, same_type}
use Rattle.core_meaning.specs.Expressions.{is_shift_operator, is_order, is_equality, computing_type, result_type, on_numbers, are_comparable, pointer_operation, operation_on}
use Rattle.operand_types.specs.OperandTypes.{struct_in, renumbered}
use Rattle.operand_types.specs.Laws.{KeepsApart}
use Rattle.operand_types.proofs.Renumbered.{promoted_no_struct, integer_by, any_pointer_by, promoted_by, common_by, same_by, Alike, movable_alike}
use Rattle.operand_types.proofs.Both.{both_if}

and_alike : (b c d : Bool) → (b ≡ true → c ≡ d) → (b && c) ≡ (b && d)
and_alike true c d h = h refl
and_alike false c d h = refl

-- a value of the same type where structs have other numbers, whatever it computes
abbrev pub other_value : (ℕ → ℕ) → PlainExpression → Typed → Typed
other_value by core x = record { ty = renumbered by x.ty; core = core; is_null = x.is_null }

pub computing_by : (by : ℕ → ℕ) (op : BinaryOp) (s t : PlainType)
    → computing_type op (renumbered by s) (renumbered by t) ≡ renumbered by (computing_type op s t)
computing_by by op s t = elim (is_shift_operator op) as (λ b. (if b then promoted (renumbered by s) else common (renumbered by s) (renumbered by t)) ≡ renumbered by (if b then promoted s else common s t)) [
  | true ↦ promoted_by by s
  | false ↦ common_by by s t
]

pub result_by : (by : ℕ → ℕ) (op : BinaryOp) (s t : PlainType)
    → result_type op (renumbered by s) (renumbered by t) ≡ renumbered by (result_type op s t)
result_by by op s t = elim (is_order op || is_equality op) as (λ b. (if b then int else computing_type op (renumbered by s) (renumbered by t)) ≡ renumbered by (if b then int else computing_type op s t)) [
  | true ↦ refl
  | false ↦ computing_by by op s t
]

pub common_no_struct : (s t : PlainType) → struct_in s ≡ None → struct_in t ≡ None → struct_in (common s t) ≡ None
common_no_struct s t f g = elim (Rattle.std.specs.Prelude.nat_le (Rattle.core_meaning.specs.Typing.rank (promoted s)) (Rattle.core_meaning.specs.Typing.rank (promoted t)))
    as (λ b. struct_in (if b then promoted t else promoted s) ≡ None) [ true ↦ promoted_no_struct t g | false ↦ promoted_no_struct s f ]

computing_no_struct : (op : BinaryOp) (s t : PlainType) → struct_in s ≡ None → struct_in t ≡ None → struct_in (computing_type op s t) ≡ None
computing_no_struct op s t f g = elim (is_shift_operator op) as (λ b. struct_in (if b then promoted s else common s t) ≡ None) [
  | true ↦ promoted_no_struct s f
  | false ↦ common_no_struct s t f g
]

pub result_no_struct : (op : BinaryOp) (s t : PlainType) → struct_in s ≡ None → struct_in t ≡ None → struct_in (result_type op s t) ≡ None
result_no_struct op s t f g = elim (is_order op || is_equality op) as (λ b. struct_in (if b then int else computing_type op s t) ≡ None) [
  | true ↦ refl
  | false ↦ computing_no_struct op s t f g
]

module _ (by : ℕ → ℕ) (keeps : KeepsApart by) (structs others : List Struct) where
  comparable_by : (op : BinaryOp) (c d : PlainExpression) (x y : Typed) → are_comparable op (other_value by c x) (other_value by d y) ≡ are_comparable op x y
  comparable_by op c d x y = rw (any_pointer_by by x.ty) (rw (any_pointer_by by y.ty) (rw (same_by by keeps x.ty y.ty) refl))

  pub moves_second : (x y : Typed) → (is_integer x.ty ≡ true → Alike by structs others y.ty)
      → (is_integer (renumbered by x.ty) && is_movable others (renumbered by y.ty)) ≡ (is_integer x.ty && is_movable structs y.ty)
  moves_second x y second =
      rw (integer_by by x.ty) (and_alike (is_integer x.ty) (is_movable others (renumbered by y.ty)) (is_movable structs y.ty) (λ h. movable_alike by structs others y.ty (second h)))

  -- What is shown of each operation that two values may have, of nothing too, is shown of that which they have.
  pub record OfEach (C : Option Operation → Option Operation → Type 0) (op : BinaryOp) (x y : Typed) : Type 0 where
    pub numbers : is_integer x.ty ≡ true → is_integer y.ty ≡ true → C (Some (on_numbers op x.ty y.ty)) (Some (on_numbers op (renumbered by x.ty) (renumbered by y.ty)))
    pub forward : C (Some operation.Forward) (Some operation.Forward)
    pub forward_by : C (if is_integer x.ty && is_movable structs y.ty then Some operation.ForwardBy else None)
        (if is_integer (renumbered by x.ty) && is_movable others (renumbered by y.ty) then Some operation.ForwardBy else None)
    pub back : C (Some operation.Back) (Some operation.Back)
    pub distance : C (Some operation.Distance) (Some operation.Distance)
    pub pointers : C (Some (operation.Pointers op)) (Some (operation.Pointers op))
    pub nothing : C None None

  module _ (C : Option Operation → Option Operation → Type 0) (c d : PlainExpression) (x y : Typed) (first : Alike by structs others x.ty) where
    integers : (is_integer (renumbered by x.ty) && is_integer (renumbered by y.ty)) ≡ (is_integer x.ty && is_integer y.ty)
    integers = rw (integer_by by x.ty) (rw (integer_by by y.ty) refl)

    moves_first : (is_movable others (renumbered by x.ty) && is_integer (renumbered by y.ty)) ≡ (is_movable structs x.ty && is_integer y.ty)
    moves_first = rw (movable_alike by structs others x.ty first) (rw (integer_by by y.ty) refl)

    differs : (is_movable others (renumbered by x.ty) && same_type (renumbered by x.ty) (renumbered by y.ty)) ≡ (is_movable structs x.ty && same_type x.ty y.ty)
    differs = rw (movable_alike by structs others x.ty first) (rw (same_by by keeps x.ty y.ty) refl)

    compared : (op : BinaryOp) → OfEach C op x y
        → C (if are_comparable op x y then Some (operation.Pointers op) else None) (if are_comparable op (other_value by c x) (other_value by d y) then Some (operation.Pointers op) else None)
    compared op each = both_if C (are_comparable op x y) (are_comparable op (other_value by c x) (other_value by d y)) (Some (operation.Pointers op)) None (Some (operation.Pointers op)) None
        (comparable_by op c d x y) (λ h. each.pointers) (λ h. each.nothing)

    on_pointers : (op : BinaryOp) → OfEach C op x y → C (pointer_operation structs op x y) (pointer_operation others op (other_value by c x) (other_value by d y))
    on_pointers Add each =
        both_if C (is_movable structs x.ty && is_integer y.ty) (is_movable others (renumbered by x.ty) && is_integer (renumbered by y.ty))
        (Some operation.Forward) (if is_integer x.ty && is_movable structs y.ty then Some operation.ForwardBy else None)
        (Some operation.Forward) (if is_integer (renumbered by x.ty) && is_movable others (renumbered by y.ty) then Some operation.ForwardBy else None)
        moves_first (λ h. each.forward)
        (λ h. each.forward_by)
    on_pointers Sub each =
        both_if C (is_movable structs x.ty && is_integer y.ty) (is_movable others (renumbered by x.ty) && is_integer (renumbered by y.ty))
        (Some operation.Back) (if is_movable structs x.ty && same_type x.ty y.ty then Some operation.Distance else None)
        (Some operation.Back) (if is_movable others (renumbered by x.ty) && same_type (renumbered by x.ty) (renumbered by y.ty) then Some operation.Distance else None)
        moves_first (λ h. each.back)
        (λ h. both_if C (is_movable structs x.ty && same_type x.ty y.ty) (is_movable others (renumbered by x.ty) && same_type (renumbered by x.ty) (renumbered by y.ty))
        (Some operation.Distance) None (Some operation.Distance) None differs (λ e. each.distance) (λ e. each.nothing))
    on_pointers Mul each = compared Mul each
    on_pointers Div each = compared Div each
    on_pointers Rem each = compared Rem each
    on_pointers Shl each = compared Shl each
    on_pointers Shr each = compared Shr each
    on_pointers Lt each = compared Lt each
    on_pointers Gt each = compared Gt each
    on_pointers Le each = compared Le each
    on_pointers Ge each = compared Ge each
    on_pointers Eq each = compared Eq each
    on_pointers Ne each = compared Ne each
    on_pointers BitAnd each = compared BitAnd each
    on_pointers BitXor each = compared BitXor each
    on_pointers BitOr each = compared BitOr each

    pub of_each : (op : BinaryOp) → OfEach C op x y → C (operation_on structs op x y) (operation_on others op (other_value by c x) (other_value by d y))
    of_each op each =
        both_if C (is_integer x.ty && is_integer y.ty) (is_integer (renumbered by x.ty) && is_integer (renumbered by y.ty))
        (Some (on_numbers op x.ty y.ty)) (pointer_operation structs op x y)
        (Some (on_numbers op (renumbered by x.ty) (renumbered by y.ty))) (pointer_operation others op (other_value by c x) (other_value by d y))
        integers (λ h. each.numbers ((and_parts (is_integer x.ty) (is_integer y.ty) h).0) ((and_parts (is_integer x.ty) (is_integer y.ty) h).1)) (λ h. on_pointers op each)
