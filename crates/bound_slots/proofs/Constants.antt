-- What is constant binds nothing, whatever is visible (6.6). This holds of all trees.
use Rattle.std.proofs.Common.{◌≡◌, ℕ, Bool, true, false, ◌&&◌, ◌||◌, List, [], ◌++◌, refl, sym, ap, ◌∙◌}
use Rattle.std.specs.Prelude.{Option, Some, None, pos, negsuc, codes, if◌then◌else◌}
use Rattle.std.specs.Str.{bytes_eq}
use Rattle.std.proofs.lemmas.Bool.{and_parts, false≢true}
use Rattle.c_text.specs.Token.{PlainToken}
use Rattle.c_types.specs.declared.arithmetic.BinaryOp.{BinaryOp}
use Rattle.c_types.specs.declared.arithmetic.BinaryOp.TheVariants.{Sub, BitXor}
use Rattle.c_types.specs.Types.{PlainType, void, pointer_to, array_of}
use Rattle.c_types.specs.Integers.{is_integer}
use Rattle.c_tree.specs.declared.kinds.Kind.{Kind}
use Rattle.c_tree.specs.declared.kinds.Kind.TheVariants as k
use Rattle.core_meaning.specs.declared.expressions.Operation.{Operation}
use Rattle.core_meaning.specs.declared.expressions.Operation.TheVariants as operation
use Rattle.core_meaning.specs.declared.refusals.TypeKind.{TypeKind}
use Rattle.core_meaning.specs.declared.refusals.TypeKind.TheVariants.{BadOperand, Incomplete}
use Rattle.core_meaning.specs.Program.{PlainExpression, constant, convert, read, binary, logical_not, logical_and, logical_or}
use Rattle.core_meaning.specs.Checking.{Binding, Checked, fine, refused, broken, with_bindings, ◌>>=◌, give, found_or, or_broken}
use Rattle.core_meaning.specs.Entities.{Struct, Scope}
use Rattle.core_meaning.specs.Typing.{promoted, integer_type, Designation, value, object, Operand, Typed, typed, of_value, loaded_from, loaded, is_complete, is_pointer, is_struct, is_scalar_type, same_type}
use Rattle.core_meaning.specs.Expressions as spec
use Rattle.core_meaning.specs.Constancy.{is_constant}

-- ---- what holds where what comes of a judgement passes a test: this, and nothing is bound

abbrev pub OnlyOf : {A : Type 0} → Type 0 → (A → Bool) → Checked A → Type 0
OnlyOf P test (fine x js) = test x ≡ true → P × (js ≡ [])
OnlyOf P test (refused kind token) = Unit {0}
OnlyOf P test broken = Unit {0}

pub record Only {A : Type 0} (P : Type 0) (test : A → Bool) (c : Checked A) : Type 0 where
  pub only : OnlyOf P test c

pub weaker : {A : Type 0} (P Q : Type 0) (test : A → Bool) (c : Checked A) → (P → Q) → Only P test c → Only Q test c
weaker P Q test (fine x js) f h = record { only = λ e. (f (h.only e).0, (h.only e).1) }
weaker P Q test (refused kind token) f h = record { only = tt }
weaker P Q test broken f h = record { only = tt }

-- nothing comes of it that passes the test
abbrev pub Never : {A : Type 0} → (A → Bool) → Checked A → Type 0
Never test c = Only ⊥ test c

pub never : {A : Type 0} (P : Type 0) (test : A → Bool) (c : Checked A) → Never test c → Only P test c
never P test c h = weaker ⊥ P test c (λ x. absurd x) h

module _ {A B : Type 0} (test : A → Bool) (goal : B → Bool) where
  only_behind : (P R : Type 0) (x : A) (js : List Binding) (d : Checked B) → (test x ≡ true → P × (js ≡ [])) → OnlyOf ((test x ≡ true) × R) goal d → OnlyOf (P × R) goal (with_bindings js d)
  only_behind P R x js (fine y ks) h g = λ e.
      let behind = g e in let before = h behind.0.0 in
      ((before.0, behind.0.1), ap (λ l. l ++ ks) before.1 ∙ behind.1)
  only_behind P R x js (refused kind token) h g = tt
  only_behind P R x js broken h g = tt

  -- one judgement, and then what its result leads to
  pub only_then : (P R : Type 0) (c : Checked A) (f : A → Checked B) → Only P test c → ((x : A) → Only ((test x ≡ true) × R) goal (f x)) → Only (P × R) goal (c >>= f)
  only_then P R (fine x js) f h g = record { only = only_behind P R x js (f x) h.only (g x).only }
  only_then P R (refused kind token) f h g = record { only = tt }
  only_then P R broken f h g = record { only = tt }

never_behind : {B : Type 0} (goal : B → Bool) (js : List Binding) (d : Checked B) → OnlyOf ⊥ goal d → OnlyOf ⊥ goal (with_bindings js d)
never_behind goal js (fine y ks) g = λ e. absurd (g e).0
never_behind goal js (refused kind token) g = tt
never_behind goal js broken g = tt

pub never_then : {A B : Type 0} (goal : B → Bool) (c : Checked A) (f : A → Checked B) → ((x : A) → Never goal (f x)) → Never goal (c >>= f)
never_then goal (fine x js) f g = record { only = never_behind goal js (f x) (g x).only }
never_then goal (refused kind token) f g = record { only = tt }
never_then goal broken f g = record { only = tt }

pub never_given : {A : Type 0} (test : A → Bool) (x : A) → test x ≡ false → Never test (give x)
never_given test x off = record { only = λ e. absurd (false≢true (sym off ∙ e)) }

never_refused : {A : Type 0} (test : A → Bool) (kind : TypeKind) (token : PlainToken) → Never {A = A} test (refused kind token)
never_refused test kind token = record { only = tt }

pub only_if : {A : Type 0} (P : Type 0) (test : A → Bool) (b : Bool) (c d : Checked A) → Only P test c → Only P test d → Only P test (if b then c else d)
only_if P test true c d f g = f
only_if P test false c d f g = g

-- where what is given passes the test only if this holds, or it is refused
only_given : {A : Type 0} (P : Type 0) (test : A → Bool) (b : Bool) (x : A) (kind : TypeKind) (token : PlainToken) → (test x ≡ true → P) → Only P test (if b then give x else refused kind token)
only_given P test true x kind token f = record { only = λ e. (f e, refl) }
only_given P test false x kind token f = record { only = tt }

-- ---- operators

abbrev pub designates_constant : Designation → Bool
designates_constant (value core) = is_constant core
designates_constant (object place free) = false

abbrev pub has_constant : Operand → Bool
has_constant o = designates_constant o.designates

abbrev pub is_constant_value : Typed → Bool
is_constant_value x = is_constant x.core

loads_from : (structs : List Struct) (o : Operand) (ty : PlainType) (d : Designation) → Only (designates_constant d ≡ true) is_constant_value (loaded_from structs o ty d)
loads_from structs o ty (value core) = record { only = λ e. (e, refl) }
loads_from structs o (array_of element count) (object place free) = record { only = λ e. absurd (false≢true e) }
loads_from structs o void (object place free) = record { only = λ e. absurd (false≢true e) }
loads_from structs o ty (object place free) = only_given (designates_constant (object place free) ≡ true) is_constant_value (is_complete structs ty) (typed ty (read place)) Incomplete o.stands_at (λ e. absurd (false≢true e))

pub loads : (s : Scope) (o : Operand) → Only (has_constant o ≡ true) is_constant_value (loaded s o)
loads s o = loads_from s.structs o o.ty o.designates

load_then : {B : Type 0} (goal : B → Bool) (s : Scope) (o : Operand) (f : Typed → Checked B) → ((x : Typed) → Only (is_constant_value x ≡ true) goal (f x)) → Only (has_constant o ≡ true) goal (loaded s o >>= f)
load_then goal s o f g =
    weaker ((has_constant o ≡ true) × Unit {0}) (has_constant o ≡ true) goal (loaded s o >>= f) (λ h. h.0)
    (only_then is_constant_value goal (has_constant o ≡ true) (Unit {0}) (loaded s o) f (loads s o) (λ x. weaker (is_constant_value x ≡ true) ((is_constant_value x ≡ true) × Unit {0}) goal (f x) (λ h. (h, tt)) (g x)))

pointed_never : (sign : PlainToken) (ty : PlainType) (d : Designation) → Never has_constant (spec.pointed_at sign ty d)
pointed_never sign ty (object place true) = never_given has_constant _ refl
pointed_never sign ty (object place false) = record { only = tt }
pointed_never sign ty (value core) = record { only = tt }

dereferenced_never : (sign : PlainToken) (x : Typed) (ty : PlainType) → Never has_constant (spec.dereferenced sign x ty)
dereferenced_never sign x (pointer_to ty) = never_given has_constant _ refl
dereferenced_never sign x _ = record { only = tt }

signed_constant : (text : List ℕ) (ty : PlainType) (x : Typed) → is_constant (spec.signed_core text ty x) ≡ true → is_constant x.core ≡ true
signed_constant text ty x = by (bytes_eq text (codes "-")) (bytes_eq text (codes "~"))
  where
    by : (a b : Bool)
        → is_constant (if a then binary (operation.Numbers Sub (integer_type ty)) (constant (pos 0)) x.core
        else if b then binary (operation.Numbers BitXor (integer_type ty)) x.core (constant (negsuc 0))
        else convert (integer_type ty) x.core) ≡ true → is_constant x.core ≡ true
    by true b e = e
    by false true e = (and_parts (is_constant x.core) true e).0
    by false false e = e

abbrev IsConstantOperand : Operand → Type 0
IsConstantOperand o = has_constant o ≡ true

pub prefixed_only : (s : Scope) (sign : PlainToken) (o : Operand) → Only (has_constant o ≡ true) has_constant (spec.prefixed s sign o)
prefixed_only s sign o =
    only_if (IsConstantOperand o) has_constant (bytes_eq sign.text (codes "&")) _ _ (never (IsConstantOperand o) has_constant _ (pointed_never sign o.ty o.designates))
    (only_if (IsConstantOperand o) has_constant (bytes_eq sign.text (codes "*")) _ _ (never (IsConstantOperand o) has_constant _ (never_then has_constant (loaded s o) (λ x. spec.dereferenced sign x x.ty) (λ x. dereferenced_never sign x x.ty)))
    (only_if (IsConstantOperand o) has_constant (bytes_eq sign.text (codes "!")) _ _
    (load_then has_constant s o (spec.negated sign) (λ x. only_given (is_constant_value x ≡ true) has_constant (is_scalar_type x.ty) (of_value sign Rattle.c_types.specs.Types.int (logical_not x.core)) BadOperand sign (λ e. e)))
    (load_then has_constant s o (spec.signed sign)
    (λ x. only_given (is_constant_value x ≡ true) has_constant (is_integer x.ty) (of_value sign (promoted x.ty) (spec.signed_core sign.text (promoted x.ty) x)) BadOperand sign (signed_constant sign.text (promoted x.ty) x)))))

cast_only : (sign : PlainToken) (x : Typed) (ty : PlainType) → Only (is_constant_value x ≡ true) has_constant (spec.cast_to sign x ty)
cast_only sign x void = record { only = λ e. absurd (false≢true e) }
cast_only sign x ty = only_given (is_constant_value x ≡ true) has_constant (is_integer x.ty) (of_value sign ty (convert (integer_type ty) x.core)) BadOperand sign (λ e. e)

pub cast_operand_only : (s : Scope) (sign : PlainToken) (ty : PlainType) (o : Operand) → Only (has_constant o ≡ true) has_constant (loaded s o >>= (λ x. spec.cast_to sign x ty))
cast_operand_only s sign ty o = load_then has_constant s o (λ x. spec.cast_to sign x ty) (λ x. cast_only sign x ty)

pub condition_only : (s : Scope) (first : PlainToken) (o : Operand) → Only (has_constant o ≡ true) is_constant (spec.condition_value s first o)
condition_only s first o =
    load_then is_constant s o (λ x. if is_scalar_type x.ty then give x.core else refused BadOperand first)
    (λ x. only_given (is_constant_value x ≡ true) is_constant (is_scalar_type x.ty) x.core BadOperand first (λ e. e))

-- ---- two operands: constant where both are

abbrev pub AreConstant : Typed → Typed → Type 0
AreConstant a b = (is_constant_value b ≡ true) × (is_constant_value a ≡ true)

both_constant : (a b : Typed) → (is_constant a.core && is_constant b.core) ≡ true → AreConstant a b
both_constant a b e = let h = and_parts (is_constant a.core) (is_constant b.core) e in (h.1, h.0)

operation_only : (sign : PlainToken) (a b : Typed) (o : Operation) → has_constant (of_value sign (spec.operation_type o a.ty b.ty) (binary o (spec.operand_core o a) (spec.operand_core o b))) ≡ true → AreConstant a b
operation_only sign a b (operation.Numbers op ty) e = both_constant a b e
operation_only sign a b (operation.Pointers op) e = absurd (false≢true e)
operation_only sign a b operation.Forward e = absurd (false≢true e)
operation_only sign a b operation.ForwardBy e = absurd (false≢true e)
operation_only sign a b operation.Back e = absurd (false≢true e)
operation_only sign a b operation.Distance e = absurd (false≢true e)

combined_only : (s : Scope) (sign : PlainToken) (a b : Typed) (op : BinaryOp) → Only (AreConstant a b) has_constant (spec.combined s sign a b op)
combined_only s sign a b op = by (spec.operation_on s.structs op a b)
  where
    by : (o : Option Operation) → Only (AreConstant a b) has_constant (found_or o BadOperand sign >>= (λ o. give (of_value sign (spec.operation_type o a.ty b.ty) (binary o (spec.operand_core o a) (spec.operand_core o b)))))
    by (Some o) = record { only = λ e. (operation_only sign a b o e, refl) }
    by None = record { only = tt }

named_only : (s : Scope) (sign : PlainToken) (a b : Typed) (o : Option BinaryOp) → Only (AreConstant a b) has_constant (or_broken o >>= spec.combined s sign a b)
named_only s sign a b (Some op) = by (spec.combined s sign a b op) (combined_only s sign a b op)
  where
    by : (c : Checked Operand) → Only (AreConstant a b) has_constant c → Only (AreConstant a b) has_constant (with_bindings [] c)
    by (fine x js) h = record { only = h.only }
    by (refused kind token) h = record { only = tt }
    by broken h = record { only = tt }
named_only s sign a b None = record { only = tt }

pub combined_by_only : (s : Scope) (kind : Kind) (sign : PlainToken) (a b : Typed) → Only (AreConstant a b) has_constant (spec.combined_by s kind sign a b)
combined_by_only s k.LogicalAnd sign a b =
    only_given (AreConstant a b) has_constant (is_scalar_type a.ty && is_scalar_type b.ty) (of_value sign Rattle.c_types.specs.Types.int (logical_and a.core b.core)) BadOperand sign (both_constant a b)
combined_by_only s k.LogicalOr sign a b =
    only_given (AreConstant a b) has_constant (is_scalar_type a.ty && is_scalar_type b.ty) (of_value sign Rattle.c_types.specs.Types.int (logical_or a.core b.core)) BadOperand sign (both_constant a b)
combined_by_only s kind sign a b = named_only s sign a b (spec.operator_named sign.text)

-- `?:` is constant where all three are
abbrev pub AllConstant : PlainExpression → Typed → Typed → Type 0
AllConstant condition a b = (is_constant_value b ≡ true) × ((is_constant_value a ≡ true) × (is_constant condition ≡ true))

all_constant : (condition : PlainExpression) (a b : Typed) → (is_constant condition && is_constant a.core && is_constant b.core) ≡ true → AllConstant condition a b
all_constant condition a b e =
    let h = and_parts (is_constant condition && is_constant a.core) (is_constant b.core) e in
    let i = and_parts (is_constant condition) (is_constant a.core) h.0 in (h.1, (i.1, i.0))

left_null : (x y : Bool) → (x && false && y) ≡ true → ⊥
left_null true y e = false≢true e
left_null false y e = false≢true e

right_null : (x y : Bool) → (x && y && false) ≡ true → ⊥
right_null true true e = false≢true e
right_null true false e = false≢true e
right_null false y e = false≢true e

pub chosen_only : (question : PlainToken) (condition : PlainExpression) (a b : Typed) → Only (AllConstant condition a b) has_constant (spec.chosen question condition a b)
chosen_only question condition a b =
    only_if (AllConstant condition a b) has_constant (is_integer a.ty && is_integer b.ty) _ _ (record { only = λ e. (all_constant condition a b e, refl) })
    (only_if (AllConstant condition a b) has_constant (spec.is_void a.ty && spec.is_void b.ty) _ _ (record { only = λ e. (all_constant condition a b e, refl) })
    (only_if (AllConstant condition a b) has_constant ((is_struct a.ty || is_pointer a.ty) && same_type a.ty b.ty) _ _ (record { only = λ e. (all_constant condition a b e, refl) })
    (only_if (AllConstant condition a b) has_constant (is_pointer a.ty && b.is_null) _ _ (record { only = λ e. absurd (right_null (is_constant condition) (is_constant a.core) e) })
    (only_if (AllConstant condition a b) has_constant (a.is_null && is_pointer b.ty) _ _ (record { only = λ e. absurd (left_null (is_constant condition) (is_constant b.core) e) }) (record { only = tt })))))

-- one operand after the other
module _ (s : Scope) (R : Type 0) (f : Typed → Typed → Checked Operand) (h : (a b : Typed) → Only ((is_constant_value b ≡ true) × ((is_constant_value a ≡ true) × R)) has_constant (f a b)) where
  second_only : (a : Typed) (second : Checked Operand) → Only (Unit {0}) has_constant second → Only ((is_constant_value a ≡ true) × R) has_constant (second >>= (λ right. loaded s right >>= (λ b. f a b)))
  second_only a second given =
      weaker (Unit {0} × ((is_constant_value a ≡ true) × R)) ((is_constant_value a ≡ true) × R) has_constant (second >>= (λ right. loaded s right >>= (λ b. f a b))) (λ x. x.1)
      (only_then has_constant has_constant (Unit {0}) ((is_constant_value a ≡ true) × R) second (λ right. loaded s right >>= (λ b. f a b)) given
      (λ right. only_then is_constant_value has_constant (has_constant right ≡ true) ((is_constant_value a ≡ true) × R) (loaded s right) (λ b. f a b) (loads s right) (λ b. h a b)))

  pub two_only : (first second : Checked Operand) → Only (Unit {0}) has_constant first → Only (Unit {0}) has_constant second → Only R has_constant (first >>= (λ left. loaded s left >>= (λ a. second >>= (λ right. loaded s right >>= (λ b. f a b)))))
  two_only first second is_first is_second =
      weaker (Unit {0} × R) R has_constant (first >>= (λ left. loaded s left >>= (λ a. second >>= (λ right. loaded s right >>= (λ b. f a b))))) (λ x. x.1)
      (only_then has_constant has_constant (Unit {0}) R first (λ left. loaded s left >>= (λ a. second >>= (λ right. loaded s right >>= (λ b. f a b)))) is_first
      (λ left. only_then is_constant_value has_constant (has_constant left ≡ true) R (loaded s left) (λ a. second >>= (λ right. loaded s right >>= (λ b. f a b))) (loads s left) (λ a. second_only a second is_second)))
