-- What operators make of operands and of operands of their types.
use Rattle.std.proofs.Common.{◌≡◌, ℕ, Bool, true, false, List, refl, sym, ap, subst, ◌∙◌}
use Rattle.std.specs.Prelude.{◌&&◌, ◌||◌, codes, Option, Some, None, if◌then◌else◌}
use Rattle.std.specs.Str.{bytes_eq}
use Rattle.std.proofs.lemmas.Bool.{and_parts}
use Rattle.c_text.specs.Token.{PlainToken}
use Rattle.c_types.specs.Types.{PlainType, void, char, unsigned_char, int, unsigned_int, long, unsigned_long, pointer_to, array_of, structure}
use Rattle.c_types.specs.Integers.{is_integer}
use Rattle.c_types.specs.declared.arithmetic.BinaryOp.{BinaryOp}
use Rattle.c_tree.specs.declared.kinds.Kind.{Kind}
use Rattle.c_tree.specs.declared.kinds.Kind.TheVariants as k
use Rattle.core_meaning.specs.declared.refusals.TypeKind.{TypeKind}
use Rattle.core_meaning.specs.declared.refusals.TypeKind.TheVariants.{BadOperand, NotAssignable, Incomplete}
use Rattle.core_meaning.specs.declared.expressions.Operation.{Operation}
use Rattle.core_meaning.specs.declared.expressions.Change.{Change}
use Rattle.core_meaning.specs.Program.{PlainExpression, PlainPlace, null_constant, read, address, logical_not, logical_and, logical_or, target, convert, binary, update, assign, choose}
use Rattle.core_meaning.specs.Checking.{refused, ◌>>=◌, give, unless_so, found_or, or_broken}
use Rattle.core_meaning.specs.Entities.{Struct, Scope}
use Rattle.core_meaning.specs.Typing.{integer_type, is_movable, common, promoted, same_type, is_complete, is_struct, is_pointer, is_scalar_type, Designation, value, object, Operand, Typed, typed, of_value, of_object, loaded, loaded_from, fits_into, number_in_type}
use Rattle.core_meaning.specs.Expressions.{computing_type, result_type, on_numbers, operator_named, compound_operator, may_be_assigned, place_in, assigned_place, is_plain_assignment, written_place, left_value, updated, one, stepped, assignment, operation_on, change_by, combined, operation_type, operand_core, pointed_at, dereferenced, signed, signed_core, negated, prefixed, cast_to, element_target, indexed, logical, is_void, chosen, chosen_core, converted_to, combined_by, passed, condition_value}
use Rattle.core_meaning.specs.declared.expressions.Operation.TheVariants as operation
use Rattle.core_meaning.specs.declared.expressions.Change.TheVariants as change
use Rattle.operand_types.specs.OperandTypes.{struct_in, renumbered, category_of, designates_as, type_of_operand, type_of_value, any_core, any_place, scope_with}
use Rattle.operand_types.specs.Operators.{same_number}
use Rattle.operand_types.specs.Laws.{KeepsApart, IsNumberIfNull}
use Rattle.operand_types.proofs.Renumbered.{renumbered_same, integer_no_struct, promoted_no_struct, kept, integer_by, pointer_by, scalar_by, struct_type_by, void_by, assignable_by, promoted_by, common_by, same_by, Alike, alike_none, complete_alike}
use Rattle.operand_types.proofs.Both.{Both, both_then, Any, both_unless, both_same, both_if}
use Rattle.operand_types.proofs.Operations.{other_value, result_by, result_no_struct, common_no_struct, moves_second, of_each}

is_number : (x : Typed) → IsNumberIfNull x → x.is_null ≡ true → is_integer x.ty ≡ true
is_number x null h = null h

-- an operand of the same type where structs have other numbers
abbrev pub other_operand : (ℕ → ℕ) → PlainToken → Operand → Operand
other_operand by at x = record { ty = renumbered by x.ty; designates = designates_as (category_of x.designates); is_null = x.is_null; stands_at = at }

module _ (by : ℕ → ℕ) (scope : Scope) (others : List Struct) where
  abbrev structs : List Struct
  structs = scope.structs

  abbrev other : Scope
  other = scope_with others

  abbrev pub SameOperand : Operand → Operand → Type 0
  SameOperand x y = type_of_operand by structs x ≡ type_of_operand same_number others y

  -- values of one type
  pub record SameValue (x y : Typed) : Type 0 where
    pub ty : y.ty ≡ renumbered by x.ty
    pub null : y.is_null ≡ x.is_null
    pub alike : Alike by structs others x.ty

  abbrev Known : PlainType → Type 0
  Known t = Alike by structs others t

  pub value_same : (x y : Typed) → SameValue x y → type_of_value by structs x ≡ type_of_value same_number others y
  value_same x y h = rw h.ty (rw (renumbered_same (renumbered by x.ty)) (rw h.null (rw h.alike.known refl)))

  value_is : (x y : Typed) → SameValue x y → y ≡ other_value by y.core x
  value_is x y h = rw (sym h.ty) (rw (sym h.null) refl)

  -- a value or an object of a type, whatever it is
  of_value_same : (t u : PlainType) (a b : PlainToken) (c d : PlainExpression) → u ≡ renumbered by t → Known t
      → SameOperand (of_value a t c) (of_value b u d)
  of_value_same t u a b c d h known = rw h (rw (renumbered_same (renumbered by t)) (rw known.known refl))

  of_object_same : (t : PlainType) (a b : PlainToken) (p q : PlainPlace) (free : Bool) → Known t
      → SameOperand (of_object a t p free) (of_object b (renumbered by t) q free)
  of_object_same t a b p q free known = rw (renumbered_same (renumbered by t)) (rw known.known refl)

  -- ---- values of operands

  read_same : (x y : Operand) (t : PlainType) (p q : PlainPlace) → Known t
      → Both SameValue (if is_complete structs t then give (typed t (read p)) else refused Incomplete x.stands_at)
      (if is_complete others (renumbered by t) then give (typed (renumbered by t) (read q)) else refused Incomplete y.stands_at)
  read_same x y t p q known =
      both_if (Both SameValue) (is_complete structs t) (is_complete others (renumbered by t)) (give (typed t (read p))) (refused Incomplete x.stands_at)
      (give (typed (renumbered by t) (read q))) (refused Incomplete y.stands_at) (complete_alike by structs others t known)
      (λ h. record { ty = refl; null = refl; alike = known }) (λ h. tt)

  object_loads : (x y : Operand) (t : PlainType) (p q : PlainPlace) (f g : Bool) → Known t
      → Both SameValue (loaded_from structs x t (object p f)) (loaded_from others y (renumbered by t) (object q g))
  object_loads x y void p q f g known = record { ty = refl; null = refl; alike = known }
  object_loads x y char p q f g known = read_same x y char p q known
  object_loads x y unsigned_char p q f g known = read_same x y unsigned_char p q known
  object_loads x y int p q f g known = read_same x y int p q known
  object_loads x y unsigned_int p q f g known = read_same x y unsigned_int p q known
  object_loads x y long p q f g known = read_same x y long p q known
  object_loads x y unsigned_long p q f g known = read_same x y unsigned_long p q known
  object_loads x y (pointer_to t) p q f g known = read_same x y (pointer_to t) p q known
  object_loads x y (array_of t count) p q f g known = record { ty = refl; null = refl; alike = record { known = known.known } }
  object_loads x y (structure n) p q f g known = read_same x y (structure n) p q known

  loads_from : (x y : Operand) (t : PlainType) (d : Designation) → y.is_null ≡ x.is_null → Known t
      → Both SameValue (loaded_from structs x t d) (loaded_from others y (renumbered by t) (designates_as (category_of d)))
  loads_from x y t (value core) null known = record { ty = refl; null = null; alike = known }
  loads_from x y t (object place free) null known = object_loads x y t place any_place free free known

  pub loads_same : (at : PlainToken) (x : Operand) → Known x.ty → Both SameValue (loaded scope x) (loaded other (other_operand by at x))
  loads_same at x known = loads_from x (other_operand by at x) x.ty x.designates refl known

  -- ---- operators before an operand, `++` and `--`, casts

  pointed_same : (a b : PlainToken) (t : PlainType) (d : Designation) → Known t
      → Both SameOperand (pointed_at a t d) (pointed_at b (renumbered by t) (designates_as (category_of d)))
  pointed_same a b t (value core) known = tt
  pointed_same a b t (object place true) known = of_value_same (pointer_to t) (pointer_to (renumbered by t)) a b (address place) (address any_place) refl (record { known = known.known })
  pointed_same a b t (object place false) known = tt

  dereferenced_same : (a b : PlainToken) (x y : Typed) (t : PlainType) → Known t → Both SameOperand (dereferenced a x t) (dereferenced b y (renumbered by t))
  dereferenced_same a b x y void known = tt
  dereferenced_same a b x y char known = tt
  dereferenced_same a b x y unsigned_char known = tt
  dereferenced_same a b x y int known = tt
  dereferenced_same a b x y unsigned_int known = tt
  dereferenced_same a b x y long known = tt
  dereferenced_same a b x y unsigned_long known = tt
  dereferenced_same a b x y (pointer_to t) known = of_object_same t a b (target x.core) (target y.core) true (record { known = known.known })
  dereferenced_same a b x y (array_of t count) known = tt
  dereferenced_same a b x y (structure n) known = tt

  negated_same : (a b : PlainToken) (x y : Typed) → SameValue x y → Both SameOperand (negated a x) (negated b y)
  negated_same a b x y h =
      both_if (Both SameOperand) (is_scalar_type x.ty) (is_scalar_type y.ty) (give (of_value a int (logical_not x.core))) (refused BadOperand a)
      (give (of_value b int (logical_not y.core))) (refused BadOperand b) (ap is_scalar_type h.ty ∙ scalar_by by x.ty)
      (λ e. refl) (λ e. tt)

  signed_same : (a b : PlainToken) (x y : Typed) → SameValue x y → Both SameOperand (signed a x) (signed b y)
  signed_same a b x y h =
      both_if (Both SameOperand) (is_integer x.ty) (is_integer y.ty) (give (of_value a (promoted x.ty) (signed_core a.text (promoted x.ty) x))) (refused BadOperand a)
      (give (of_value b (promoted y.ty) (signed_core b.text (promoted y.ty) y))) (refused BadOperand b) (ap is_integer h.ty ∙ integer_by by x.ty)
      (λ e. of_value_same (promoted x.ty) (promoted y.ty) a b (signed_core a.text (promoted x.ty) x) (signed_core b.text (promoted y.ty) y)
      (ap promoted h.ty ∙ promoted_by by x.ty) (alike_none by structs others (promoted x.ty) (promoted_no_struct x.ty (integer_no_struct x.ty e))))
      (λ e. tt)

  pub prefixes_same : (sign : PlainToken) (x : Operand) → Known x.ty → Both SameOperand (prefixed scope sign x) (prefixed other sign (other_operand by sign x))
  prefixes_same sign x known =
      both_if (Both SameOperand) (bytes_eq sign.text (codes "&")) (bytes_eq sign.text (codes "&"))
      (pointed_at sign x.ty x.designates) (if bytes_eq sign.text (codes "*") then loaded scope x >>= (λ x. dereferenced sign x x.ty)
      else if bytes_eq sign.text (codes "!") then loaded scope x >>= negated sign else loaded scope x >>= signed sign)
      (pointed_at sign (renumbered by x.ty) (designates_as (category_of x.designates)))
      (if bytes_eq sign.text (codes "*") then loaded other (other_operand by sign x) >>= (λ x. dereferenced sign x x.ty)
      else if bytes_eq sign.text (codes "!") then loaded other (other_operand by sign x) >>= negated sign else loaded other (other_operand by sign x) >>= signed sign)
      refl (λ e. pointed_same sign sign x.ty x.designates known)
      (λ e. both_if (Both SameOperand) (bytes_eq sign.text (codes "*")) (bytes_eq sign.text (codes "*"))
      (loaded scope x >>= (λ x. dereferenced sign x x.ty)) (if bytes_eq sign.text (codes "!") then loaded scope x >>= negated sign else loaded scope x >>= signed sign)
      (loaded other (other_operand by sign x) >>= (λ x. dereferenced sign x x.ty))
      (if bytes_eq sign.text (codes "!") then loaded other (other_operand by sign x) >>= negated sign else loaded other (other_operand by sign x) >>= signed sign)
      refl
      (λ f. both_then SameValue SameOperand (loaded scope x) (loaded other (other_operand by sign x)) (λ x. dereferenced sign x x.ty) (λ x. dereferenced sign x x.ty)
      (loads_same sign x known)
      (λ v w h. subst (λ t. Both SameOperand (dereferenced sign v v.ty) (dereferenced sign w t)) (sym h.ty) (dereferenced_same sign sign v w v.ty h.alike)))
      (λ f. both_if (Both SameOperand) (bytes_eq sign.text (codes "!")) (bytes_eq sign.text (codes "!"))
      (loaded scope x >>= negated sign) (loaded scope x >>= signed sign)
      (loaded other (other_operand by sign x) >>= negated sign) (loaded other (other_operand by sign x) >>= signed sign) refl
      (λ g. both_then SameValue SameOperand (loaded scope x) (loaded other (other_operand by sign x)) (negated sign) (negated sign) (loads_same sign x known) (negated_same sign sign))
      (λ g. both_then SameValue SameOperand (loaded scope x) (loaded other (other_operand by sign x)) (signed sign) (signed sign) (loads_same sign x known) (signed_same sign sign))))

  place_same : (sign : PlainToken) (x y : Operand) (d : Designation) → y.ty ≡ renumbered by x.ty → Both Any (place_in x sign d) (place_in y sign (designates_as (category_of d)))
  place_same sign x y (value core) h = tt
  place_same sign x y (object place true) h =
      both_if (Both Any) (may_be_assigned x.ty) (may_be_assigned y.ty) (give place) (refused NotAssignable sign) (give any_place) (refused NotAssignable sign)
      (ap may_be_assigned h ∙ assignable_by by x.ty) (λ e. tt) (λ e. tt)
  place_same sign x y (object place false) h = tt

  written_same : (sign at : PlainToken) (x : Operand) → Known x.ty → Both Any (written_place scope sign x) (written_place other sign (other_operand by at x))
  written_same sign at x known =
      both_then Any Any (assigned_place x sign) (assigned_place (other_operand by at x) sign)
      (λ place. unless_so (is_plain_assignment sign || is_complete structs x.ty) Incomplete x.stands_at >>= (λ complete. give place))
      (λ place. unless_so (is_plain_assignment sign || is_complete others (renumbered by x.ty)) Incomplete at >>= (λ complete. give place))
      (place_same sign x (other_operand by at x) x.designates refl)
      (λ p q h. both_then Any Any (unless_so (is_plain_assignment sign || is_complete structs x.ty) Incomplete x.stands_at)
      (unless_so (is_plain_assignment sign || is_complete others (renumbered by x.ty)) Incomplete at) (λ complete. give p) (λ complete. give q)
      (both_unless (is_plain_assignment sign || is_complete structs x.ty) (is_plain_assignment sign || is_complete others (renumbered by x.ty)) Incomplete Incomplete x.stands_at at
      (ap (λ b. is_plain_assignment sign || b) (sym (complete_alike by structs others x.ty known))))
      (λ a b e. tt))

  abbrev Changed : PlainToken → PlainToken → PlainType → Option Operation → Option Operation → Type 0
  Changed a b t u v = (f g : Change → PlainExpression)
      → Both SameOperand (found_or (change_by t u) BadOperand a >>= (λ c. give (of_value a t (f c)))) (found_or (change_by (renumbered by t) v) BadOperand b >>= (λ c. give (of_value b (renumbered by t) (g c))))

  module _ (keeps : KeepsApart by) where
    -- adding a pointer to a number changes nothing
    unchanged : (a b : PlainToken) (t : PlainType) (c d : Bool) → Changed a b t (if c then Some operation.ForwardBy else None) (if d then Some operation.ForwardBy else None)
    unchanged a b t true true f g = tt
    unchanged a b t true false f g = tt
    unchanged a b t false true f g = tt
    unchanged a b t false false f g = tt

    change_same : (a b : PlainToken) (t : PlainType) (p q : PlainPlace) (d : PlainExpression) (op : BinaryOp) (y : Typed) → Known t
        → Changed a b t (operation_on structs op (typed t (read p)) y) (operation_on others op (typed (renumbered by t) (read q)) (other_value by d y))
    change_same a b t p q d op y known =
        of_each by keeps structs others (Changed a b t) (read q) d (typed t (read p)) y known op (record {
          numbers = λ h e f g. of_value_same t (renumbered by t) a b (f (change.Numbers op (integer_type (computing_type op t y.ty)) (integer_type t)))
              (g (change.Numbers op (integer_type (computing_type op (renumbered by t) (renumbered by y.ty))) (integer_type (renumbered by t)))) refl known;
          forward = λ f g. of_value_same t (renumbered by t) a b (f change.Forward) (g change.Forward) refl known;
          forward_by = λ f g. unchanged a b t (is_integer t && is_movable structs y.ty) (is_integer (renumbered by t) && is_movable others (renumbered by y.ty)) f g;
          back = λ f g. of_value_same t (renumbered by t) a b (f change.Back) (g change.Back) refl known;
          distance = λ f g. tt;
          pointers = λ f g. tt;
          nothing = λ f g. tt;
        })

    updates_same : (make other_make : Change → PlainPlace → PlainExpression → PlainExpression) (sign at : PlainToken) (x : Operand) (p q : PlainPlace) (d : PlainExpression) (y : Typed)
        → Known x.ty
        → Both SameOperand (updated scope make sign x p y) (updated other other_make sign (other_operand by at x) q (other_value by d y))
    updates_same make other_make sign at x p q d y known =
        both_then (λ a b. a ≡ b) SameOperand (or_broken (compound_operator sign.text)) (or_broken (compound_operator sign.text))
        (λ op. found_or (change_by x.ty (operation_on structs op (left_value x p) y)) BadOperand sign >>= (λ c. give (of_value sign x.ty (make c p y.core))))
        (λ op. found_or (change_by (renumbered by x.ty) (operation_on others op (typed (renumbered by x.ty) (read q)) (other_value by d y))) BadOperand sign
        >>= (λ c. give (of_value sign (renumbered by x.ty) (other_make c q d))))
        (both_same (compound_operator sign.text))
        (λ op same h. subst (λ b. Both SameOperand (found_or (change_by x.ty (operation_on structs op (left_value x p) y)) BadOperand sign >>= (λ c. give (of_value sign x.ty (make c p y.core))))
        (found_or (change_by (renumbered by x.ty) (operation_on others b (typed (renumbered by x.ty) (read q)) (other_value by d y))) BadOperand sign
        >>= (λ c. give (of_value sign (renumbered by x.ty) (other_make c q d))))) h
        (change_same sign sign x.ty p q d op y known (λ c. make c p y.core) (λ c. other_make c q d)))

    pub steps_same : (make other_make : Change → PlainPlace → PlainExpression → PlainExpression) (sign at : PlainToken) (x : Operand) → Known x.ty
        → Both SameOperand (stepped scope make sign x) (stepped other other_make sign (other_operand by at x))
    steps_same make other_make sign at x known =
        both_then Any SameOperand (written_place scope sign x) (written_place other sign (other_operand by at x))
        (λ place. updated scope make sign x place one) (λ place. updated other other_make sign (other_operand by at x) place one)
        (written_same sign at x known)
        (λ p q h. updates_same make other_make sign at x p q one.core one known)

    -- ---- values that fit a type

    number_fits : (t : PlainType) (x y : Typed) → Both Any (or_broken (Some (number_in_type t x))) (or_broken (Some (number_in_type (renumbered by t) y)))
    number_fits t x y = tt

    fits_same : (kind_1 kind_2 : TypeKind) (a b : PlainToken) (t : PlainType) (d : PlainExpression) (x : Typed)
        → Both Any (found_or (fits_into t x) kind_1 a) (found_or (fits_into (renumbered by t) (other_value by d x)) kind_2 b)
    fits_same kind_1 kind_2 a b t d x =
        both_if (λ u v. Both Any (found_or u kind_1 a) (found_or v kind_2 b)) (is_integer t && is_integer x.ty) (is_integer (renumbered by t) && is_integer (renumbered by x.ty))
        (Some (number_in_type t x)) (if is_pointer t && x.is_null then Some null_constant else if (is_pointer t || is_struct t) && same_type t x.ty then Some x.core else None)
        (Some (number_in_type (renumbered by t) (other_value by d x)))
        (if is_pointer (renumbered by t) && x.is_null then Some null_constant
        else if (is_pointer (renumbered by t) || is_struct (renumbered by t)) && same_type (renumbered by t) (renumbered by x.ty) then Some d else None)
        (rw (integer_by by t) (rw (integer_by by x.ty) refl)) (λ h. tt)
        (λ h. both_if (λ u v. Both Any (found_or u kind_1 a) (found_or v kind_2 b)) (is_pointer t && x.is_null) (is_pointer (renumbered by t) && x.is_null)
        (Some null_constant) (if (is_pointer t || is_struct t) && same_type t x.ty then Some x.core else None)
        (Some null_constant) (if (is_pointer (renumbered by t) || is_struct (renumbered by t)) && same_type (renumbered by t) (renumbered by x.ty) then Some d else None)
        (rw (pointer_by by t) refl) (λ e. tt)
        (λ e. both_if (λ u v. Both Any (found_or u kind_1 a) (found_or v kind_2 b)) ((is_pointer t || is_struct t) && same_type t x.ty)
        ((is_pointer (renumbered by t) || is_struct (renumbered by t)) && same_type (renumbered by t) (renumbered by x.ty)) (Some x.core) None (Some d) None
        (rw (pointer_by by t) (rw (struct_type_by by t) (rw (same_by by keeps t x.ty) refl))) (λ f. tt) (λ f. tt)))

    pub assigns_same : (sign : PlainToken) (x : Operand) (d : PlainExpression) (y : Typed) → Known x.ty
        → Both SameOperand (written_place scope sign x >>= (λ place. assignment scope sign x place y))
        (written_place other sign (other_operand by sign x) >>= (λ place. assignment other sign (other_operand by sign x) place (other_value by d y)))
    assigns_same sign x d y known =
        both_then Any SameOperand (written_place scope sign x) (written_place other sign (other_operand by sign x))
        (λ place. assignment scope sign x place y) (λ place. assignment other sign (other_operand by sign x) place (other_value by d y))
        (written_same sign sign x known)
        (λ p q h. both_if (Both SameOperand) (is_plain_assignment sign) (is_plain_assignment sign)
        (found_or (fits_into x.ty y) BadOperand sign >>= (λ core. give (of_value sign x.ty (assign p core)))) (updated scope update sign x p y)
        (found_or (fits_into (renumbered by x.ty) (other_value by d y)) BadOperand sign >>= (λ core. give (of_value sign (renumbered by x.ty) (assign q core))))
        (updated other update sign (other_operand by sign x) q (other_value by d y)) refl
        (λ e. both_then Any SameOperand (found_or (fits_into x.ty y) BadOperand sign) (found_or (fits_into (renumbered by x.ty) (other_value by d y)) BadOperand sign)
        (λ core. give (of_value sign x.ty (assign p core))) (λ core. give (of_value sign (renumbered by x.ty) (assign q core)))
        (fits_same BadOperand BadOperand sign sign x.ty d y) (λ c b f. of_value_same x.ty (renumbered by x.ty) sign sign (assign p c) (assign q b) refl known))
        (λ e. updates_same update update sign sign x p q d y known))

    -- ---- operators between two values

    abbrev Combined : PlainToken → Typed → Typed → PlainExpression → PlainExpression → Option Operation → Option Operation → Type 0
    Combined sign x y c d u v =
        Both SameOperand (found_or u BadOperand sign >>= (λ o. give (of_value sign (operation_type o x.ty y.ty) (binary o (operand_core o x) (operand_core o y)))))
        (found_or v BadOperand sign >>= (λ o. give (of_value sign (operation_type o (renumbered by x.ty) (renumbered by y.ty)) (binary o (operand_core o (other_value by c x)) (operand_core o (other_value by d y))))))

    combined_same : (sign : PlainToken) (c d : PlainExpression) (op : BinaryOp) (x y : Typed) → Known x.ty → (is_integer x.ty ≡ true → Known y.ty)
        → Both SameOperand (combined scope sign x y op) (combined other sign (other_value by c x) (other_value by d y) op)
    combined_same sign c d op x y known second =
        of_each by keeps structs others (Combined sign x y c d) c d x y known op (record {
          numbers = λ h e. of_value_same (result_type op x.ty y.ty) (result_type op (renumbered by x.ty) (renumbered by y.ty)) sign sign
              (binary (on_numbers op x.ty y.ty) x.core y.core) (binary (on_numbers op (renumbered by x.ty) (renumbered by y.ty)) c d)
              (result_by by op x.ty y.ty) (alike_none by structs others (result_type op x.ty y.ty) (result_no_struct op x.ty y.ty (integer_no_struct x.ty h) (integer_no_struct y.ty e)));
          forward = of_value_same x.ty (renumbered by x.ty) sign sign (binary operation.Forward x.core y.core) (binary operation.Forward c d) refl known;
          forward_by = both_if (Combined sign x y c d) (is_integer x.ty && is_movable structs y.ty) (is_integer (renumbered by x.ty) && is_movable others (renumbered by y.ty))
              (Some operation.ForwardBy) None (Some operation.ForwardBy) None (moves_second by keeps structs others x y second)
              (λ h. of_value_same y.ty (renumbered by y.ty) sign sign (binary operation.ForwardBy x.core y.core) (binary operation.ForwardBy c d) refl (second ((and_parts (is_integer x.ty) (is_movable structs y.ty) h).0))) (λ h. tt);
          back = of_value_same x.ty (renumbered by x.ty) sign sign (binary operation.Back x.core y.core) (binary operation.Back c d) refl known;
          distance = refl;
          pointers = refl;
          nothing = tt;
        })

    operator_same : (sign : PlainToken) (c d : PlainExpression) (x y : Typed) → Known x.ty → (is_integer x.ty ≡ true → Known y.ty)
        → Both SameOperand (or_broken (operator_named sign.text) >>= combined scope sign x y) (or_broken (operator_named sign.text) >>= combined other sign (other_value by c x) (other_value by d y))
    operator_same sign c d x y known second =
        both_then (λ a b. a ≡ b) SameOperand (or_broken (operator_named sign.text)) (or_broken (operator_named sign.text)) (combined scope sign x y) (combined other sign (other_value by c x) (other_value by d y))
        (both_same (operator_named sign.text))
        (λ op same h. subst (λ b. Both SameOperand (combined scope sign x y op) (combined other sign (other_value by c x) (other_value by d y) b)) h (combined_same sign c d op x y known second))

    logical_same : (make : PlainExpression → PlainExpression → PlainExpression) (sign : PlainToken) (c d : PlainExpression) (x y : Typed)
        → Both SameOperand (logical make sign x y) (logical make sign (other_value by c x) (other_value by d y))
    logical_same make sign c d x y =
        both_if (Both SameOperand) (is_scalar_type x.ty && is_scalar_type y.ty) (is_scalar_type (renumbered by x.ty) && is_scalar_type (renumbered by y.ty))
        (give (of_value sign int (make x.core y.core))) (refused BadOperand sign) (give (of_value sign int (make c d))) (refused BadOperand sign)
        (rw (scalar_by by x.ty) (rw (scalar_by by y.ty) refl)) (λ h. refl) (λ h. tt)

    pub combines_same : (kind : Kind) (sign : PlainToken) (c d : PlainExpression) (x y : Typed) → Known x.ty → (is_integer x.ty ≡ true → Known y.ty)
        → Both SameOperand (combined_by scope kind sign x y) (combined_by other kind sign (other_value by c x) (other_value by d y))
    combines_same k.LogicalAnd sign c d x y known second = logical_same logical_and sign c d x y
    combines_same k.LogicalOr sign c d x y known second = logical_same logical_or sign c d x y
    combines_same kind sign c d x y known second = operator_same sign c d x y known second

    element_same : (sign : PlainToken) (t : PlainType) (c d : PlainExpression) → Known t → Both SameOperand (element_target scope sign t c) (element_target other sign (renumbered by t) d)
    element_same sign void c d known = tt
    element_same sign char c d known = tt
    element_same sign unsigned_char c d known = tt
    element_same sign int c d known = tt
    element_same sign unsigned_int c d known = tt
    element_same sign long c d known = tt
    element_same sign unsigned_long c d known = tt
    element_same sign (pointer_to t) c d known =
        both_if (Both SameOperand) (is_complete structs t) (is_complete others (renumbered by t)) (give (of_object sign t (target c) true)) (refused Incomplete sign)
        (give (of_object sign (renumbered by t) (target d) true)) (refused Incomplete sign) (complete_alike by structs others t (record { known = known.known }))
        (λ h. of_object_same t sign sign (target c) (target d) true (record { known = known.known })) (λ h. tt)
    element_same sign (array_of t count) c d known = tt
    element_same sign (structure n) c d known = tt

    pub indexes_same : (sign : PlainToken) (c d : PlainExpression) (x y : Typed) → Known x.ty → (is_integer x.ty ≡ true → Known y.ty)
        → Both SameOperand (indexed scope sign x y) (indexed other sign (other_value by c x) (other_value by d y))
    indexes_same sign c d x y known second =
        both_if (Both SameOperand) (is_pointer x.ty && is_integer y.ty) (is_pointer (renumbered by x.ty) && is_integer (renumbered by y.ty))
        (element_target scope sign x.ty (binary operation.Forward x.core y.core))
        (if is_integer x.ty && is_pointer y.ty then element_target scope sign y.ty (binary operation.ForwardBy x.core y.core) else refused BadOperand sign)
        (element_target other sign (renumbered by x.ty) (binary operation.Forward c d))
        (if is_integer (renumbered by x.ty) && is_pointer (renumbered by y.ty) then element_target other sign (renumbered by y.ty) (binary operation.ForwardBy c d) else refused BadOperand sign)
        (rw (pointer_by by x.ty) (rw (integer_by by y.ty) refl)) (λ h. element_same sign x.ty (binary operation.Forward x.core y.core) (binary operation.Forward c d) known)
        (λ h. both_if (Both SameOperand) (is_integer x.ty && is_pointer y.ty) (is_integer (renumbered by x.ty) && is_pointer (renumbered by y.ty))
        (element_target scope sign y.ty (binary operation.ForwardBy x.core y.core)) (refused BadOperand sign)
        (element_target other sign (renumbered by y.ty) (binary operation.ForwardBy c d)) (refused BadOperand sign)
        (rw (integer_by by x.ty) (rw (pointer_by by y.ty) refl))
        (λ e. element_same sign y.ty (binary operation.ForwardBy x.core y.core) (binary operation.ForwardBy c d) (second ((and_parts (is_integer x.ty) (is_pointer y.ty) e).0))) (λ e. tt))

    -- ---- conditions, the results of `?:`, casts, and what is passed

    pub tests_same : (a b at : PlainToken) (x : Operand) → Known x.ty → Both Any (condition_value scope a x) (condition_value other b (other_operand by at x))
    tests_same a b at x known =
        both_then SameValue Any (loaded scope x) (loaded other (other_operand by at x))
        (λ v. if is_scalar_type v.ty then give v.core else refused BadOperand a) (λ v. if is_scalar_type v.ty then give v.core else refused BadOperand b)
        (loads_same at x known)
        (λ v w h. both_if (Both Any) (is_scalar_type v.ty) (is_scalar_type w.ty) (give v.core) (refused BadOperand a) (give w.core) (refused BadOperand b)
        (ap is_scalar_type h.ty ∙ scalar_by by v.ty) (λ e. tt) (λ e. tt))

    pub passes_same : (a b at : PlainToken) (t : PlainType) (x : Operand) → Known x.ty → Both Any (passed scope t x a) (passed other (renumbered by t) (other_operand by at x) b)
    passes_same a b at t x known =
        both_then SameValue Any (loaded scope x) (loaded other (other_operand by at x)) (λ v. found_or (fits_into t v) BadOperand a) (λ v. found_or (fits_into (renumbered by t) v) BadOperand b)
        (loads_same at x known)
        (λ v w h. subst (λ z. Both Any (found_or (fits_into t v) BadOperand a) (found_or (fits_into (renumbered by t) z) BadOperand b)) (sym (value_is v w h)) (fits_same BadOperand BadOperand a b t w.core v))

    number_casts : (bracket : PlainToken) (t : PlainType) (d : PlainExpression) (x : Typed) → struct_in t ≡ None
        → Both SameOperand (if is_integer x.ty then give (of_value bracket t (convert (integer_type t) x.core)) else refused BadOperand bracket)
        (if is_integer (renumbered by x.ty) then give (of_value bracket t (convert (integer_type t) d)) else refused BadOperand bracket)
    number_casts bracket t d x h =
        both_if (Both SameOperand) (is_integer x.ty) (is_integer (renumbered by x.ty)) (give (of_value bracket t (convert (integer_type t) x.core))) (refused BadOperand bracket)
        (give (of_value bracket t (convert (integer_type t) d))) (refused BadOperand bracket) (integer_by by x.ty)
        (λ e. of_value_same t t bracket bracket (convert (integer_type t) x.core) (convert (integer_type t) d) (sym (kept by t h)) (alike_none by structs others t h)) (λ e. tt)

    pub casts_same : (bracket : PlainToken) (t : PlainType) (d : PlainExpression) (x : Typed) → struct_in t ≡ None
        → Both SameOperand (cast_to bracket x t) (cast_to bracket (other_value by d x) t)
    casts_same bracket void d x h = refl
    casts_same bracket char d x h = number_casts bracket char d x h
    casts_same bracket unsigned_char d x h = number_casts bracket unsigned_char d x h
    casts_same bracket int d x h = number_casts bracket int d x h
    casts_same bracket unsigned_int d x h = number_casts bracket unsigned_int d x h
    casts_same bracket long d x h = number_casts bracket long d x h
    casts_same bracket unsigned_long d x h = number_casts bracket unsigned_long d x h
    casts_same bracket (pointer_to t) d x h = number_casts bracket (pointer_to t) d x h
    casts_same bracket (array_of t count) d x h = number_casts bracket (array_of t count) d x h
    casts_same bracket (structure n) d x h = number_casts bracket (structure n) d x h

    pub chooses_same : (question : PlainToken) (condition c d : PlainExpression) (x y : Typed) → Known x.ty → (struct_in x.ty ≡ None → Known y.ty) → IsNumberIfNull x
        → Both SameOperand (chosen question condition x y) (chosen question any_core (other_value by c x) (other_value by d y))
    chooses_same question condition c d x y known second null =
        both_if (Both SameOperand) (is_integer x.ty && is_integer y.ty) (is_integer (renumbered by x.ty) && is_integer (renumbered by y.ty))
        (chosen_core question condition (common x.ty y.ty) (converted_to (common x.ty y.ty) x) (converted_to (common x.ty y.ty) y))
        (if is_void x.ty && is_void y.ty then chosen_core question condition void x.core y.core
        else if (is_struct x.ty || is_pointer x.ty) && same_type x.ty y.ty then chosen_core question condition x.ty x.core y.core
        else if is_pointer x.ty && y.is_null then chosen_core question condition x.ty x.core null_constant
        else if x.is_null && is_pointer y.ty then chosen_core question condition y.ty null_constant y.core
        else refused BadOperand question)
        (chosen_core question any_core (common (renumbered by x.ty) (renumbered by y.ty)) (converted_to (common (renumbered by x.ty) (renumbered by y.ty)) (other_value by c x)) (converted_to (common (renumbered by x.ty) (renumbered by y.ty)) (other_value by d y)))
        (if is_void (renumbered by x.ty) && is_void (renumbered by y.ty) then chosen_core question any_core void c d
        else if (is_struct (renumbered by x.ty) || is_pointer (renumbered by x.ty)) && same_type (renumbered by x.ty) (renumbered by y.ty) then chosen_core question any_core (renumbered by x.ty) c d
        else if is_pointer (renumbered by x.ty) && y.is_null then chosen_core question any_core (renumbered by x.ty) c null_constant
        else if x.is_null && is_pointer (renumbered by y.ty) then chosen_core question any_core (renumbered by y.ty) null_constant d
        else refused BadOperand question)
        (rw (integer_by by x.ty) (rw (integer_by by y.ty) refl))
        (λ h. of_value_same (common x.ty y.ty) (common (renumbered by x.ty) (renumbered by y.ty)) question question
        (choose condition (converted_to (common x.ty y.ty) x) (converted_to (common x.ty y.ty) y))
        (choose any_core (converted_to (common (renumbered by x.ty) (renumbered by y.ty)) (other_value by c x)) (converted_to (common (renumbered by x.ty) (renumbered by y.ty)) (other_value by d y)))
        (common_by by x.ty y.ty)
        (alike_none by structs others (common x.ty y.ty) (common_no_struct x.ty y.ty (integer_no_struct x.ty ((and_parts (is_integer x.ty) (is_integer y.ty) h).0)) (integer_no_struct y.ty ((and_parts (is_integer x.ty) (is_integer y.ty) h).1)))))
        (λ h. both_if (Both SameOperand) (is_void x.ty && is_void y.ty) (is_void (renumbered by x.ty) && is_void (renumbered by y.ty))
        (chosen_core question condition void x.core y.core)
        (if (is_struct x.ty || is_pointer x.ty) && same_type x.ty y.ty then chosen_core question condition x.ty x.core y.core
        else if is_pointer x.ty && y.is_null then chosen_core question condition x.ty x.core null_constant
        else if x.is_null && is_pointer y.ty then chosen_core question condition y.ty null_constant y.core
        else refused BadOperand question)
        (chosen_core question any_core void c d)
        (if (is_struct (renumbered by x.ty) || is_pointer (renumbered by x.ty)) && same_type (renumbered by x.ty) (renumbered by y.ty) then chosen_core question any_core (renumbered by x.ty) c d
        else if is_pointer (renumbered by x.ty) && y.is_null then chosen_core question any_core (renumbered by x.ty) c null_constant
        else if x.is_null && is_pointer (renumbered by y.ty) then chosen_core question any_core (renumbered by y.ty) null_constant d
        else refused BadOperand question)
        (rw (void_by by x.ty) (rw (void_by by y.ty) refl)) (λ e. refl)
        (λ e. both_if (Both SameOperand) ((is_struct x.ty || is_pointer x.ty) && same_type x.ty y.ty) ((is_struct (renumbered by x.ty) || is_pointer (renumbered by x.ty)) && same_type (renumbered by x.ty) (renumbered by y.ty))
        (chosen_core question condition x.ty x.core y.core)
        (if is_pointer x.ty && y.is_null then chosen_core question condition x.ty x.core null_constant
        else if x.is_null && is_pointer y.ty then chosen_core question condition y.ty null_constant y.core
        else refused BadOperand question)
        (chosen_core question any_core (renumbered by x.ty) c d)
        (if is_pointer (renumbered by x.ty) && y.is_null then chosen_core question any_core (renumbered by x.ty) c null_constant
        else if x.is_null && is_pointer (renumbered by y.ty) then chosen_core question any_core (renumbered by y.ty) null_constant d
        else refused BadOperand question)
        (rw (struct_type_by by x.ty) (rw (pointer_by by x.ty) (rw (same_by by keeps x.ty y.ty) refl)))
        (λ f. of_value_same x.ty (renumbered by x.ty) question question (choose condition x.core y.core) (choose any_core c d) refl known)
        (λ f. both_if (Both SameOperand) (is_pointer x.ty && y.is_null) (is_pointer (renumbered by x.ty) && y.is_null)
        (chosen_core question condition x.ty x.core null_constant)
        (if x.is_null && is_pointer y.ty then chosen_core question condition y.ty null_constant y.core else refused BadOperand question)
        (chosen_core question any_core (renumbered by x.ty) c null_constant)
        (if x.is_null && is_pointer (renumbered by y.ty) then chosen_core question any_core (renumbered by y.ty) null_constant d else refused BadOperand question)
        (rw (pointer_by by x.ty) refl)
        (λ g. of_value_same x.ty (renumbered by x.ty) question question (choose condition x.core null_constant) (choose any_core c null_constant) refl known)
        (λ g. both_if (Both SameOperand) (x.is_null && is_pointer y.ty) (x.is_null && is_pointer (renumbered by y.ty))
        (chosen_core question condition y.ty null_constant y.core) (refused BadOperand question)
        (chosen_core question any_core (renumbered by y.ty) null_constant d) (refused BadOperand question)
        (rw (pointer_by by y.ty) refl)
        (λ i. of_value_same y.ty (renumbered by y.ty) question question (choose condition null_constant y.core) (choose any_core null_constant d) refl
        (second (integer_no_struct x.ty (is_number x null ((and_parts x.is_null (is_pointer y.ty) i).0)))))
        (λ i. tt)))))
