-- What is constant of a judgement, and what operators make of it.
use Rattle.std.proofs.Common.{◌≡◌, ℕ, Bool, true, false, ◌&&◌, ◌||◌, List, refl, sym, ap, ◌∙◌}
use Rattle.std.specs.Prelude.{pos, negsuc, Option, Some, None, if◌then◌else◌, codes}
use Rattle.std.specs.Str.{bytes_eq}
use Rattle.c_text.specs.Token.{PlainToken}
use Rattle.c_types.specs.declared.arithmetic.BinaryOp.{BinaryOp}
use Rattle.c_types.specs.declared.arithmetic.BinaryOp.TheVariants.{Add, Sub, BitXor}
use Rattle.c_types.specs.Types.{PlainType, void, array_of, pointer_to}
use Rattle.c_types.specs.Integers.{is_integer}
use Rattle.c_tree.specs.declared.kinds.Kind.{Kind}
use Rattle.c_tree.specs.declared.kinds.Kind.TheVariants as k
use Rattle.c_tree.specs.declared.terminals.Terminal.{Terminal}
use Rattle.c_tree.specs.declared.terminals.Terminal.TheVariants as t
use Rattle.core_meaning.specs.declared.expressions.Operation.{Operation}
use Rattle.core_meaning.specs.declared.expressions.Operation.TheVariants as operation
use Rattle.core_meaning.specs.declared.refusals.TypeKind.TheVariants.{BadOperand, Incomplete}
use Rattle.core_meaning.specs.Program.{PlainExpression, PlainPlace, constant, convert, read, binary, logical_and, logical_or, choose, null_constant}
use Rattle.core_meaning.specs.Checking.{Binding, Checked, fine, refused, broken, with_bindings, ◌>>=◌, give, found_or, or_broken}
use Rattle.core_meaning.specs.Entities.{Struct, Local, Sort, variable, function, FileName, Scope, local_in}
use Rattle.core_meaning.specs.Typing.{promoted, common, integer_type, Designation, value, object, Operand, Typed, typed, of_value, loaded_from, loaded, is_complete, is_pointer, is_movable, is_scalar_type, same_type, is_struct}
use Rattle.core_meaning.specs.Expressions as spec
use Rattle.core_meaning.specs.Constancy.{is_constant}

-- ---- what is constant of a judgement

abbrev pub if_constant : {A : Type 0} → (A → Bool) → Checked A → Option A
if_constant test (fine x bindings) = if test x then Some x else None
if_constant test (refused kind token) = None
if_constant test broken = None

abbrev pub designates_constant : Designation → Bool
designates_constant (value core) = is_constant core
designates_constant (object place free) = false

abbrev pub has_constant : Operand → Bool
has_constant x = designates_constant x.designates

abbrev pub is_constant_value : Typed → Bool
is_constant_value x = is_constant x.core

abbrev pub constant_operand : Checked Operand → Option Operand
constant_operand c = if_constant has_constant c

abbrev pub constant_typed : Checked Typed → Option Typed
constant_typed c = if_constant is_constant_value c

module _ {A B : Type 0} (test : A → Bool) (goal : B → Bool) where
  after : (before : List Binding) (c : Checked B) → if_constant goal (with_bindings before c) ≡ if_constant goal c
  after before (fine x bindings) = refl
  after before (refused kind token) = refl
  after before broken = refl

  -- nothing constant comes of what leads to nothing constant
  pub leads_nowhere : (f : A → Checked B) → ((x : A) → if_constant goal (f x) ≡ None) → (c : Checked A) → if_constant goal (c >>= f) ≡ None
  leads_nowhere f none (fine x bindings) = after bindings (f x) ∙ none x
  leads_nowhere f none (refused kind token) = refl
  leads_nowhere f none broken = refl

  -- nothing constant leads to anything constant
  pub IsStrict : (A → Checked B) → Type 0
  IsStrict f = (x : A) → test x ≡ false → if_constant goal (f x) ≡ None

  abbrev then_constant : (A → Checked B) → Option A → Option B
  then_constant f None = None
  then_constant f (Some x) = if_constant goal (f x)

  by_value : (f : A → Checked B) → ((x : A) → test x ≡ false → if_constant goal (f x) ≡ None) → (c : Checked A) → if_constant goal (c >>= f) ≡ then_constant f (if_constant test c)
  by_value f strict (fine x bindings) = after bindings (f x) ∙ by_test (test x) (strict x) where
    by_test : (b : Bool) → (b ≡ false → if_constant goal (f x) ≡ None) → if_constant goal (f x) ≡ then_constant f (if b then Some x else None)
    by_test true off = refl
    by_test false off = off refl
  by_value f strict (refused kind token) = refl
  by_value f strict broken = refl

  pub strictly : (f : A → Checked B) → ((x : A) → test x ≡ false → if_constant goal (f x) ≡ None) → (c : Checked A) → if_constant test c ≡ None → if_constant goal (c >>= f) ≡ None
  strictly f strict c none = by_value f strict c ∙ ap (then_constant f) none

  -- the same comes of judgements of which the same is constant
  pub alike :
      (f g : A → Checked B) → ((x : A) → test x ≡ false → if_constant goal (f x) ≡ None) → ((x : A) → test x ≡ false → if_constant goal (g x) ≡ None)
      → ((x : A) → if_constant goal (f x) ≡ if_constant goal (g x))
      → (c d : Checked A) → if_constant test c ≡ if_constant test d → if_constant goal (c >>= f) ≡ if_constant goal (d >>= g)
  alike f g strict strict_too same c d is = by_value f strict c ∙ (ap (then_constant f) is ∙ (each (if_constant test d) ∙ sym (by_value g strict_too d))) where
    each : (o : Option A) → then_constant f o ≡ then_constant g o
    each None = refl
    each (Some x) = same x

-- ---- tests

pub neither : {A : Type 0} (b : Bool) (x y none : A) → x ≡ none → y ≡ none → (if b then x else y) ≡ none
neither true x y none is_x is_y = is_x
neither false x y none is_x is_y = is_y

-- the same of both ways of a test
pub none_of_both : {A : Type 0} (test : A → Bool) (b : Bool) (c d : Checked A) → if_constant test c ≡ None → if_constant test d ≡ None → if_constant test (if b then c else d) ≡ None
none_of_both test true c d is_c is_d = is_c
none_of_both test false c d is_c is_d = is_d

pub same_of_both :
    {A : Type 0} (test : A → Bool) (b : Bool) (c d e f : Checked A) → if_constant test c ≡ if_constant test e → if_constant test d ≡ if_constant test f
    → if_constant test (if b then c else d) ≡ if_constant test (if b then e else f)
same_of_both test true c d e f is_c is_d = is_c
same_of_both test false c d e f is_c is_d = is_d

given_or_not : {A : Type 0} (test : A → Bool) (b : Bool) (x : A) (c : Checked A) → test x ≡ false → if_constant test c ≡ None → if_constant test (if b then give x else c) ≡ None
given_or_not test true x c off none = ap (λ t. if t then Some x else None) off
given_or_not test false x c off none = none

left_off : (a b : Bool) → a ≡ false → (a && b) ≡ false
left_off a b off = ap (λ t. t && b) off

right_off : (a b : Bool) → b ≡ false → (a && b) ≡ false
right_off true b off = off
right_off false b off = refl

-- ---- names, and values (6.3.2.1)

of_sort : (scope : Scope) (token : PlainToken) (sort : Sort) → constant_operand (spec.file_operand scope token sort) ≡ None
of_sort scope token (variable ty) = refl
of_sort scope token (function signature) = refl

of_file_name : (scope : Scope) (token : PlainToken) (found : Option FileName) → constant_operand (spec.file_name_operand scope token found) ≡ None
of_file_name scope token None = refl
of_file_name scope token (Some found) = of_sort scope token found.sort

of_name : (scope : Scope) (token : PlainToken) (found : Option Local) → constant_operand (spec.name_operand scope token found) ≡ None
of_name scope token (Some found) = refl
of_name scope token None = of_file_name scope token (scope.file_names token.text)

pub single_alike : (scope other : Scope) (token : PlainToken) (kind : Terminal) → constant_operand (spec.single_operand scope token kind) ≡ constant_operand (spec.single_operand other token kind)
single_alike scope other token t.Name = of_name scope token (local_in scope.blocks token.text) ∙ sym (of_name other token (local_in other.blocks token.text))
single_alike scope other token kind = refl

loaded_object : (structs : List Struct) (x : Operand) (ty : PlainType) (place : PlainPlace) (free : Bool) → constant_typed (loaded_from structs x ty (object place free)) ≡ None
loaded_object structs x (array_of element count) place free = refl
loaded_object structs x void place free = refl
loaded_object structs x ty place free = none_of_both is_constant_value (is_complete structs ty) (give (typed ty (read place))) (refused Incomplete x.stands_at) refl refl

loaded_from_strict : (structs : List Struct) (x : Operand) (ty : PlainType) (d : Designation) → designates_constant d ≡ false → constant_typed (loaded_from structs x ty d) ≡ None
loaded_from_strict structs x ty (value core) off = ap (λ (t : Bool). if t then Some (record { ty = ty; core = core; is_null = x.is_null }) else None) off
loaded_from_strict structs x ty (object place free) off = loaded_object structs x ty place free

pub loaded_strict : (scope : Scope) (x : Operand) → has_constant x ≡ false → constant_typed (loaded scope x) ≡ None
loaded_strict scope x off = loaded_from_strict scope.structs x x.ty x.designates off

loaded_from_alike : (structs others : List Struct) (x : Operand) (ty : PlainType) (d : Designation) → constant_typed (loaded_from structs x ty d) ≡ constant_typed (loaded_from others x ty d)
loaded_from_alike structs others x ty (value core) = refl
loaded_from_alike structs others x ty (object place free) = loaded_object structs x ty place free ∙ sym (loaded_object others x ty place free)

pub loaded_alike : (scope other : Scope) (x : Operand) → constant_typed (loaded scope x) ≡ constant_typed (loaded other x)
loaded_alike scope other x = loaded_from_alike scope.structs other.structs x x.ty x.designates

-- ---- one operand (6.5.3, 6.5.4)

pointed_none : (sign : PlainToken) (ty : PlainType) (d : Designation) → constant_operand (spec.pointed_at sign ty d) ≡ None
pointed_none sign ty (object place true) = refl
pointed_none sign ty (object place false) = refl
pointed_none sign ty (value core) = refl

dereferenced_none : (sign : PlainToken) (x : Typed) (ty : PlainType) → constant_operand (spec.dereferenced sign x ty) ≡ None
dereferenced_none sign x (pointer_to ty) = refl
dereferenced_none sign x ty = refl

negated_strict : (sign : PlainToken) (x : Typed) → is_constant x.core ≡ false → constant_operand (spec.negated sign x) ≡ None
negated_strict sign x off = given_or_not has_constant (is_scalar_type x.ty) _ (refused BadOperand sign) off refl

signed_core_strict : (text : List ℕ) (ty : PlainType) (x : Typed) → is_constant x.core ≡ false → is_constant (spec.signed_core text ty x) ≡ false
signed_core_strict text ty x off = by_test (bytes_eq text (codes "-")) (bytes_eq text (codes "~")) where
  by_test : (a b : Bool)
      → is_constant (if a then binary (operation.Numbers Sub (integer_type ty)) (constant (pos 0)) x.core
      else if b then binary (operation.Numbers BitXor (integer_type ty)) x.core (constant (negsuc 0))
      else convert (integer_type ty) x.core) ≡ false
  by_test true b = off
  by_test false true = left_off (is_constant x.core) true off
  by_test false false = off

signed_strict : (sign : PlainToken) (x : Typed) → is_constant x.core ≡ false → constant_operand (spec.signed sign x) ≡ None
signed_strict sign x off =
    given_or_not has_constant (is_integer x.ty) _ (refused BadOperand sign) (signed_core_strict sign.text (promoted x.ty) x off) refl

pub prefixed_strict : (scope : Scope) (sign : PlainToken) (x : Operand) → has_constant x ≡ false → constant_operand (spec.prefixed scope sign x) ≡ None
prefixed_strict scope sign x off =
    none_of_both has_constant (bytes_eq sign.text (codes "&")) _ _ (pointed_none sign x.ty x.designates)
    (none_of_both has_constant (bytes_eq sign.text (codes "*")) _ _ (leads_nowhere is_constant_value has_constant (λ v. spec.dereferenced sign v v.ty) (λ v. dereferenced_none sign v v.ty) (loaded scope x))
    (none_of_both has_constant (bytes_eq sign.text (codes "!")) _ _
    (strictly is_constant_value has_constant (spec.negated sign) (negated_strict sign) (loaded scope x) (loaded_strict scope x off))
    (strictly is_constant_value has_constant (spec.signed sign) (signed_strict sign) (loaded scope x) (loaded_strict scope x off))))

pub prefixed_alike : (scope other : Scope) (sign : PlainToken) (x : Operand) → constant_operand (spec.prefixed scope sign x) ≡ constant_operand (spec.prefixed other sign x)
prefixed_alike scope other sign x =
    same_of_both has_constant (bytes_eq sign.text (codes "&")) _ _ _ _ refl
    (same_of_both has_constant (bytes_eq sign.text (codes "*")) _ _ _ _
    (leads_nowhere is_constant_value has_constant (λ v. spec.dereferenced sign v v.ty) (λ v. dereferenced_none sign v v.ty) (loaded scope x)
    ∙ sym (leads_nowhere is_constant_value has_constant (λ v. spec.dereferenced sign v v.ty) (λ v. dereferenced_none sign v v.ty) (loaded other x)))
    (same_of_both has_constant (bytes_eq sign.text (codes "!")) _ _ _ _
    (alike is_constant_value has_constant (spec.negated sign) (spec.negated sign) (negated_strict sign) (negated_strict sign) (λ v. refl) (loaded scope x) (loaded other x) (loaded_alike scope other x))
    (alike is_constant_value has_constant (spec.signed sign) (spec.signed sign) (signed_strict sign) (signed_strict sign) (λ v. refl) (loaded scope x) (loaded other x) (loaded_alike scope other x))))

cast_strict : (sign : PlainToken) (ty : PlainType) (x : Typed) → is_constant x.core ≡ false → constant_operand (spec.cast_to sign x ty) ≡ None
cast_strict sign void x off = refl
cast_strict sign ty x off = given_or_not has_constant (is_integer x.ty) _ (refused BadOperand sign) off refl

pub cast_operand_strict : (scope : Scope) (sign : PlainToken) (ty : PlainType) (x : Operand) → has_constant x ≡ false → constant_operand (loaded scope x >>= (λ v. spec.cast_to sign v ty)) ≡ None
cast_operand_strict scope sign ty x off = strictly is_constant_value has_constant (λ v. spec.cast_to sign v ty) (cast_strict sign ty) (loaded scope x) (loaded_strict scope x off)

pub cast_operand_alike : (scope other : Scope) (sign : PlainToken) (ty : PlainType) (x : Operand)
    → constant_operand (loaded scope x >>= (λ v. spec.cast_to sign v ty)) ≡ constant_operand (loaded other x >>= (λ v. spec.cast_to sign v ty))
cast_operand_alike scope other sign ty x =
    alike is_constant_value has_constant (λ v. spec.cast_to sign v ty) (λ v. spec.cast_to sign v ty) (cast_strict sign ty) (cast_strict sign ty) (λ v. refl) (loaded scope x) (loaded other x) (loaded_alike scope other x)

-- ---- two operands (6.5.5 to 6.5.14)

logical_strict : (make : PlainExpression → PlainExpression → PlainExpression) → ((x y : PlainExpression) → is_constant (make x y) ≡ (is_constant x && is_constant y))
    → (sign : PlainToken) (a b : Typed) → (is_constant a.core && is_constant b.core) ≡ false → constant_operand (spec.logical make sign a b) ≡ None
logical_strict make made sign a b off =
    given_or_not has_constant (is_scalar_type a.ty && is_scalar_type b.ty) _ (refused BadOperand sign) (made a.core b.core ∙ off) refl

abbrev on_both : (a b : Typed) → PlainToken → Operation → Checked Operand
on_both a b sign o = give (of_value sign (spec.operation_type o a.ty b.ty) (binary o (spec.operand_core o a) (spec.operand_core o b)))

operation_strict : (sign : PlainToken) (a b : Typed) → (is_constant a.core && is_constant b.core) ≡ false → (o : Operation) → constant_operand (on_both a b sign o) ≡ None
operation_strict sign a b off (operation.Numbers op ty) = ap (λ (t : Bool). if t then Some (of_value sign (spec.operation_type (operation.Numbers op ty) a.ty b.ty) (binary (operation.Numbers op ty) a.core b.core)) else None) off
operation_strict sign a b off o = refl

combined_strict : (scope : Scope) (sign : PlainToken) (a b : Typed) → (is_constant a.core && is_constant b.core) ≡ false → (op : BinaryOp) → constant_operand (spec.combined scope sign a b op) ≡ None
combined_strict scope sign a b off op =
    leads_nowhere (λ o. true) has_constant (on_both a b sign) (operation_strict sign a b off) (found_or (spec.operation_on scope.structs op a b) BadOperand sign)

pub combined_by_strict : (scope : Scope) (kind : Kind) (sign : PlainToken) (a b : Typed) → (is_constant a.core && is_constant b.core) ≡ false → constant_operand (spec.combined_by scope kind sign a b) ≡ None
combined_by_strict scope k.LogicalAnd sign a b off = logical_strict logical_and (λ x y. refl) sign a b off
combined_by_strict scope k.LogicalOr sign a b off = logical_strict logical_or (λ x y. refl) sign a b off
combined_by_strict scope kind sign a b off = leads_nowhere (λ op. true) has_constant (spec.combined scope sign a b) (combined_strict scope sign a b off) (or_broken (spec.operator_named sign.text))

-- an operation with a pointer has no constant value
abbrev of_operation : (a b : Typed) → PlainToken → Option Operation → Option Operand
of_operation a b sign o = constant_operand (found_or o BadOperand sign >>= on_both a b sign)

pointers_none : (a b : Typed) (sign : PlainToken) (structs : List Struct) (op : BinaryOp) → of_operation a b sign (spec.pointer_operation structs op a b) ≡ None
pointers_none a b sign structs Add = by_test (is_movable structs a.ty && is_integer b.ty) (is_integer a.ty && is_movable structs b.ty) where
  by_test : (s t : Bool) → of_operation a b sign (if s then Some operation.Forward else if t then Some operation.ForwardBy else None) ≡ None
  by_test true t = refl
  by_test false true = refl
  by_test false false = refl
pointers_none a b sign structs Sub = by_test (is_movable structs a.ty && is_integer b.ty) (is_movable structs a.ty && same_type a.ty b.ty) where
  by_test : (s t : Bool) → of_operation a b sign (if s then Some operation.Back else if t then Some operation.Distance else None) ≡ None
  by_test true t = refl
  by_test false true = refl
  by_test false false = refl
pointers_none a b sign structs op = by_test (spec.are_comparable op a b) where
  by_test : (s : Bool) → of_operation a b sign (if s then Some (operation.Pointers op) else None) ≡ None
  by_test true = refl
  by_test false = refl

combined_alike : (scope other : Scope) (sign : PlainToken) (a b : Typed) (op : BinaryOp) → constant_operand (spec.combined scope sign a b op) ≡ constant_operand (spec.combined other sign a b op)
combined_alike scope other sign a b op = by_test (is_integer a.ty && is_integer b.ty) where
  by_test : (s : Bool)
      → of_operation a b sign (if s then Some (spec.on_numbers op a.ty b.ty) else spec.pointer_operation scope.structs op a b)
      ≡ of_operation a b sign (if s then Some (spec.on_numbers op a.ty b.ty) else spec.pointer_operation other.structs op a b)
  by_test true = refl
  by_test false = pointers_none a b sign scope.structs op ∙ sym (pointers_none a b sign other.structs op)

pub combined_by_alike : (scope other : Scope) (kind : Kind) (sign : PlainToken) (a b : Typed) → constant_operand (spec.combined_by scope kind sign a b) ≡ constant_operand (spec.combined_by other kind sign a b)
combined_by_alike scope other k.LogicalAnd sign a b = refl
combined_by_alike scope other k.LogicalOr sign a b = refl
combined_by_alike scope other kind sign a b =
    alike (λ op. true) has_constant (spec.combined scope sign a b) (spec.combined other sign a b) (λ op h. cc) (λ op h. cc) (combined_alike scope other sign a b)
    (or_broken (spec.operator_named sign.text)) (or_broken (spec.operator_named sign.text)) refl

-- two values, one after the other, and what is made of them
module _ (scope : Scope) where
  abbrev pub on_second : (Typed → Checked Operand) → Checked Operand → Checked Operand
  on_second f second = second >>= (λ right. loaded scope right >>= f)

  abbrev pub on_two : (Typed → Typed → Checked Operand) → Checked Operand → Checked Operand → Checked Operand
  on_two f first second = first >>= (λ left. loaded scope left >>= (λ a. second >>= (λ right. loaded scope right >>= (λ b. f a b))))

  module _ (f : Typed → Typed → Checked Operand) (strict : (a b : Typed) → (is_constant a.core && is_constant b.core) ≡ false → constant_operand (f a b) ≡ None) where
    pub right_strict : (a : Typed) (x : Operand) → has_constant x ≡ false → constant_operand (loaded scope x >>= (λ b. f a b)) ≡ None
    right_strict a x off =
        strictly is_constant_value has_constant (λ b. f a b) (λ b off. strict a b (right_off (is_constant a.core) (is_constant b.core) off)) (loaded scope x) (loaded_strict scope x off)

    pub second_strict : (second : Checked Operand) (a : Typed) → is_constant a.core ≡ false → constant_operand (second >>= (λ right. loaded scope right >>= (λ b. f a b))) ≡ None
    second_strict second a off =
        leads_nowhere has_constant has_constant (λ right. loaded scope right >>= (λ b. f a b))
        (λ right. leads_nowhere is_constant_value has_constant (λ b. f a b) (λ b. strict a b (left_off (is_constant a.core) (is_constant b.core) off)) (loaded scope right)) second

    pub left_strict : (second : Checked Operand) (x : Operand) → has_constant x ≡ false
        → constant_operand (loaded scope x >>= (λ a. second >>= (λ right. loaded scope right >>= (λ b. f a b)))) ≡ None
    left_strict second x off =
        strictly is_constant_value has_constant (λ a. second >>= (λ right. loaded scope right >>= (λ b. f a b))) (second_strict second) (loaded scope x) (loaded_strict scope x off)

pub two_alike :
    (scope other : Scope) (f g : Typed → Typed → Checked Operand)
    → ((a b : Typed) → (is_constant a.core && is_constant b.core) ≡ false → constant_operand (f a b) ≡ None)
    → ((a b : Typed) → (is_constant a.core && is_constant b.core) ≡ false → constant_operand (g a b) ≡ None)
    → ((a b : Typed) → constant_operand (f a b) ≡ constant_operand (g a b))
    → (first other_first second other_second : Checked Operand) → constant_operand first ≡ constant_operand other_first → constant_operand second ≡ constant_operand other_second
    → constant_operand (on_two scope f first second) ≡ constant_operand (on_two other g other_first other_second)
two_alike scope other f g strict strict_too same first other_first second other_second is_first is_second =
    alike has_constant has_constant (λ left. loaded scope left >>= (λ a. second >>= (λ right. loaded scope right >>= (λ b. f a b)))) (λ left. loaded other left >>= (λ a. other_second >>= (λ right. loaded other right >>= (λ b. g a b))))
    (left_strict scope f strict second) (left_strict other g strict_too other_second) on_left first other_first is_first where
      on_right : (a : Typed) (x : Operand) → constant_operand (loaded scope x >>= (λ b. f a b)) ≡ constant_operand (loaded other x >>= (λ b. g a b))
      on_right a x =
          alike is_constant_value has_constant (λ b. f a b) (λ b. g a b) (λ b off. strict a b (right_off (is_constant a.core) (is_constant b.core) off)) (λ b off. strict_too a b (right_off (is_constant a.core) (is_constant b.core) off))
          (same a) (loaded scope x) (loaded other x) (loaded_alike scope other x)

      on_value : (a : Typed) → constant_operand (second >>= (λ right. loaded scope right >>= (λ b. f a b))) ≡ constant_operand (other_second >>= (λ right. loaded other right >>= (λ b. g a b)))
      on_value a =
          alike has_constant has_constant (λ right. loaded scope right >>= (λ b. f a b)) (λ right. loaded other right >>= (λ b. g a b)) (right_strict scope f strict a) (right_strict other g strict_too a)
          (on_right a) second other_second is_second

      on_left : (x : Operand) → constant_operand (loaded scope x >>= (λ a. second >>= (λ right. loaded scope right >>= (λ b. f a b)))) ≡ constant_operand (loaded other x >>= (λ a. other_second >>= (λ right. loaded other right >>= (λ b. g a b))))
      on_left x =
          alike is_constant_value has_constant (λ a. second >>= (λ right. loaded scope right >>= (λ b. f a b))) (λ a. other_second >>= (λ right. loaded other right >>= (λ b. g a b)))
          (second_strict scope f strict second) (second_strict other g strict_too other_second) on_value (loaded scope x) (loaded other x) (loaded_alike scope other x)

-- ---- `?:` (6.5.15)

condition_strict : (first : PlainToken) (x : Typed) → is_constant x.core ≡ false → if_constant is_constant (if is_scalar_type x.ty then give x.core else refused BadOperand first) ≡ None
condition_strict first x off = given_or_not is_constant (is_scalar_type x.ty) x.core (refused BadOperand first) off refl

pub condition_value_strict : (scope : Scope) (first : PlainToken) (x : Operand) → has_constant x ≡ false → if_constant is_constant (spec.condition_value scope first x) ≡ None
condition_value_strict scope first x off =
    strictly is_constant_value is_constant (λ v. if is_scalar_type v.ty then give v.core else refused BadOperand first) (condition_strict first) (loaded scope x) (loaded_strict scope x off)

pub condition_value_alike : (scope other : Scope) (first : PlainToken) (x : Operand) → if_constant is_constant (spec.condition_value scope first x) ≡ if_constant is_constant (spec.condition_value other first x)
condition_value_alike scope other first x =
    alike is_constant_value is_constant (λ v. if is_scalar_type v.ty then give v.core else refused BadOperand first) (λ v. if is_scalar_type v.ty then give v.core else refused BadOperand first)
    (condition_strict first) (condition_strict first) (λ v. refl) (loaded scope x) (loaded other x) (loaded_alike scope other x)

chosen_core_strict : (question : PlainToken) (condition : PlainExpression) (ty : PlainType) (a b : PlainExpression) → is_constant (choose condition a b) ≡ false
    → constant_operand (spec.chosen_core question condition ty a b) ≡ None
chosen_core_strict question condition ty a b off = ap (λ (t : Bool). if t then Some (of_value question ty (choose condition a b)) else None) off

pub chosen_strict : (question : PlainToken) (condition : PlainExpression) (a b : Typed) → (is_constant condition && is_constant a.core && is_constant b.core) ≡ false
    → constant_operand (spec.chosen question condition a b) ≡ None
chosen_strict question condition a b off =
    none_of_both has_constant (is_integer a.ty && is_integer b.ty) _ _
    (chosen_core_strict question condition (common a.ty b.ty) (spec.converted_to (common a.ty b.ty) a) (spec.converted_to (common a.ty b.ty) b) off)
    (none_of_both has_constant (spec.is_void a.ty && spec.is_void b.ty) _ _ (chosen_core_strict question condition void a.core b.core off)
    (none_of_both has_constant ((is_struct a.ty || is_pointer a.ty) && same_type a.ty b.ty) _ _ (chosen_core_strict question condition a.ty a.core b.core off)
    (none_of_both has_constant (is_pointer a.ty && b.is_null) _ _ (chosen_core_strict question condition a.ty a.core null_constant (second_null (is_constant condition) (is_constant a.core)))
    (none_of_both has_constant (a.is_null && is_pointer b.ty) _ _ (chosen_core_strict question condition b.ty null_constant b.core (first_null (is_constant condition) (is_constant b.core))) refl)))) where
      second_null : (s t : Bool) → (s && t && false) ≡ false
      second_null true true = refl
      second_null true false = refl
      second_null false t = refl

      first_null : (s t : Bool) → (s && false && t) ≡ false
      first_null true t = refl
      first_null false t = refl

condition_off : (s t u : Bool) → s ≡ false → (s && t && u) ≡ false
condition_off s t u off = ap (λ b. b && t && u) off

results_off : (s t u : Bool) → (t && u) ≡ false → (s && t && u) ≡ false
results_off true t u off = off
results_off false t u off = refl

-- what is made of the results where the condition isn't constant
pub results_strict : (scope : Scope) (question : PlainToken) (first second : Checked Operand) (condition : PlainExpression) → is_constant condition ≡ false
    → constant_operand (on_two scope (spec.chosen question condition) first second) ≡ None
results_strict scope question first second condition off =
    leads_nowhere has_constant has_constant (λ left. loaded scope left >>= (λ a. second >>= (λ right. loaded scope right >>= (λ b. spec.chosen question condition a b))))
    (λ left. leads_nowhere is_constant_value has_constant (λ a. second >>= (λ right. loaded scope right >>= (λ b. spec.chosen question condition a b)))
    (λ a. leads_nowhere has_constant has_constant (λ right. loaded scope right >>= (λ b. spec.chosen question condition a b))
    (λ right. leads_nowhere is_constant_value has_constant (λ b. spec.chosen question condition a b)
    (λ b. chosen_strict question condition a b (condition_off (is_constant condition) (is_constant a.core) (is_constant b.core) off)) (loaded scope right)) second) (loaded scope left)) first

pub results_alike :
    (scope other : Scope) (question : PlainToken) (first other_first second other_second : Checked Operand) → constant_operand first ≡ constant_operand other_first
    → constant_operand second ≡ constant_operand other_second → (condition : PlainExpression)
    → constant_operand (on_two scope (spec.chosen question condition) first second) ≡ constant_operand (on_two other (spec.chosen question condition) other_first other_second)
results_alike scope other question first other_first second other_second is_first is_second condition =
    two_alike scope other (spec.chosen question condition) (spec.chosen question condition) strict strict (λ a b. refl) first other_first second other_second is_first is_second where
      strict : (a b : Typed) → (is_constant a.core && is_constant b.core) ≡ false → constant_operand (spec.chosen question condition a b) ≡ None
      strict a b off = chosen_strict question condition a b (results_off (is_constant condition) (is_constant a.core) (is_constant b.core) off)
