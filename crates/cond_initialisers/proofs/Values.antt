-- Which values of expressions of file scope may be first values.
use Rattle.std.proofs.Common.{◌≡◌, ℕ, Bool, true, false, ◌&&◌, ◌||◌, List, refl, sym, ap, subst, ◌∙◌}
use Rattle.std.specs.Prelude.{ℤ, Option, Some, None, is_some, option_map, if◌then◌else◌}
use Rattle.std.proofs.lemmas.Bool.{false≢true}
use Rattle.c_types.specs.Types.{PlainType, void, pointer_to, array_of}
use Rattle.c_types.specs.Integers.{is_integer, converted}
use Rattle.core_meaning.specs.declared.refusals.TypeKind.TheVariants.{Incomplete}
use Rattle.core_meaning.specs.Program.{type_of, PlainExpression, PlainPlace, constant, null_constant, read, address, first_element, convert, global, literal}
use Rattle.core_meaning.specs.Values.{number}
use Rattle.core_meaning.specs.Checking.{refused, give}
use Rattle.core_meaning.specs.Entities.{Struct}
use Rattle.core_meaning.specs.Typing.{Designation, value, object, Operand, Typed, typed, loaded_from, is_complete, is_struct, is_pointer, same_type, integer_type, number_in_type, fits_into}
use Rattle.core_meaning.specs.Constancy as constancy
use Rattle.core_meaning.specs.Constancy.{constant_value, value_if_constant, address_scalar, first_scalar}
use Rattle.cond_initialisers.specs.declared.forms.Form.{Form}
use Rattle.cond_initialisers.specs.declared.forms.Form.TheVariants.{Address, Other}
use Rattle.cond_initialisers.specs.Constants.{is_array, gives_address}
use Rattle.cond_initialisers.proofs.Each.{Each, each_of_both}
use Rattle.cond_initialisers.proofs.Addresses.{is_address, place_form, designated, PlaceFits, ValueFits, TypeFits, NullFits}

-- ---- values

pub record HasValue (f : Form) (names_array : Bool) (v : Typed) : Type 0 where
  pub form : is_address v.core ≡ gives_address names_array f
  pub fits : ValueFits (is_address v.core) v.ty
  pub null : NullFits v.is_null (value v.core)

read_value : (ty : PlainType) (place : PlainPlace) → is_array ty ≡ false → PlaceFits place ty → HasValue (place_form place) (is_array ty) (typed ty (read place))
read_value ty (global n) no_array fits = record { form = sym no_array; fits = tt; null = tt }
read_value ty (literal n) no_array fits = absurd (false≢true (sym no_array ∙ fits))
read_value ty place no_array fits = record { form = refl; fits = tt; null = tt }

element_value : (element : PlainType) (place : PlainPlace) → HasValue (place_form place) true (typed (pointer_to element) (first_element place))
element_value element (global n) = record { form = refl; fits = tt; null = tt }
element_value element (literal n) = record { form = refl; fits = tt; null = tt }
element_value element place = record { form = refl; fits = tt; null = tt }

value_form : (names_array b : Bool) → b ≡ gives_address names_array (if b then Address else Other)
value_form names_array true = refl
value_form names_array false = refl

pub loaded_form : (structs : List Struct) (x : Operand) (ty : PlainType) (d : Designation) → TypeFits d ty → NullFits x.is_null d → Each (HasValue (designated d) (is_array ty)) (loaded_from structs x ty d)
loaded_form structs x ty (value core) fits null = record { form = value_form (is_array ty) (is_address core); fits = fits; null = null }
loaded_form structs x (array_of element count) (object place free) fits null = element_value element place
loaded_form structs x void (object place free) fits null = read_value void place refl fits
loaded_form structs x ty (object place free) fits null =
    each_of_both (HasValue (place_form place) (is_array ty)) (is_complete structs ty) (give (typed ty (read place))) (refused Incomplete x.stands_at) (read_value ty place refl fits) tt

-- ---- first values

or_false : (b : Bool) → (b || false) ≡ b
or_false true = refl
or_false false = refl

scalar_of_address : (g : ℕ) (e : PlainExpression) → is_some (address_scalar g e) ≡ is_address e
scalar_of_address g (address (global n)) = refl
scalar_of_address g (first_element (global n)) = refl
scalar_of_address g (first_element (literal n)) = refl
scalar_of_address g e = refl

number_is_no_address : (e : PlainExpression) → constancy.is_constant e ≡ true → is_address e ≡ false
number_is_no_address null_constant is = absurd (false≢true is)
number_is_no_address (address (global n)) is = absurd (false≢true is)
number_is_no_address (first_element (global n)) is = absurd (false≢true is)
number_is_no_address (first_element (literal n)) is = absurd (false≢true is)
number_is_no_address e is = refl

number_there : (o : Option ℤ) → is_some (option_map number o) ≡ is_some o
number_there None = refl
number_there (Some z) = refl

-- a number with a value, or an address
first_there : (g : ℕ) (e : PlainExpression) → is_some (first_scalar g e) ≡ (is_some (value_if_constant e) || is_address e)
first_there g e = by_test (constancy.is_constant e) refl where
  by_test : (b : Bool) → constancy.is_constant e ≡ b
      → is_some (if b then option_map number (constant_value e) else address_scalar g e) ≡ (is_some (if b then constant_value e else None) || is_address e)
  by_test true is = number_there (constant_value e) ∙ (sym (or_false (is_some (constant_value e))) ∙ ap (λ b. is_some (constant_value e) || b) (sym (number_is_no_address e is)))
  by_test false is = scalar_of_address g e

number_is_no_pointer : (b : Bool) (ty : PlainType) → ValueFits b ty → is_integer ty ≡ true → b ≡ false
number_is_no_pointer false ty fits is = refl
number_is_no_pointer true (pointer_to ty) fits is = absurd (false≢true is)
number_is_no_pointer true ty fits is = absurd fits

null_there : (e : PlainExpression) → NullFits true (value e) → is_some (value_if_constant e) ≡ true
null_there (constant z) null = refl
null_there e null = absurd null

converted_there : (b : Bool) (h : ℤ → ℤ) (o : Option ℤ) → is_some (if b then option_map number (option_map h o) else None) ≡ is_some (if b then o else None)
converted_there true h None = refl
converted_there true h (Some z) = refl
converted_there false h o = refl

some_same : {A : Type 0} (x y : A) → Some x ≡ Some y → x ≡ y
some_same x y e = cc

module _ (g : ℕ) (ty : PlainType) (v : Typed) (fits : ValueFits (is_address v.core) v.ty) (null : NullFits v.is_null (value v.core)) where
  abbrev IsFirst : PlainExpression → Type 0
  IsFirst core = is_some (first_scalar g core) ≡ (is_some (value_if_constant v.core) || is_address v.core)

  number_first : (b : Bool) → is_integer v.ty ≡ true → IsFirst (if b then v.core else convert (integer_type ty) v.core)
  number_first true is = first_there g v.core
  number_first false is =
      converted_there (constancy.is_constant v.core) (converted (type_of (integer_type ty))) (constant_value v.core)
      ∙ (sym (or_false (is_some (value_if_constant v.core))) ∙ ap (λ b. is_some (value_if_constant v.core) || b) (sym (number_is_no_pointer (is_address v.core) v.ty fits is)))

  null_first : v.is_null ≡ true → IsFirst null_constant
  null_first is = ap (λ b. b || is_address v.core) (sym (null_there v.core (subst (λ b. NullFits b (value v.core)) is null)))

  both_true : (a b : Bool) → (a && b) ≡ true → b ≡ true
  both_true true b is = is
  both_true false b is = absurd (false≢true is)

  -- the first value is what the expression has, whatever it is converted to
  fitted_first : (core : PlainExpression) (a b c : Bool) → (is_integer ty && is_integer v.ty) ≡ a → (is_pointer ty && v.is_null) ≡ b
      → (if a then Some (number_in_type ty v) else if b then Some null_constant else if c then Some v.core else None) ≡ Some core → IsFirst core
  fitted_first core true b c are_numbers is_null e = subst IsFirst (some_same (number_in_type ty v) core e) (number_first (same_type ty v.ty) (both_true (is_integer ty) (is_integer v.ty) are_numbers))
  fitted_first core false true c are_numbers is_null e = subst IsFirst (some_same null_constant core e) (null_first (both_true (is_pointer ty) v.is_null is_null))
  fitted_first core false false true are_numbers is_null e = subst IsFirst (some_same v.core core e) (first_there g v.core)
  fitted_first core false false false are_numbers is_null e = absurd cc

  pub first_of_fitted : (core : PlainExpression) → fits_into ty v ≡ Some core → IsFirst core
  first_of_fitted core e = fitted_first core (is_integer ty && is_integer v.ty) (is_pointer ty && v.is_null) ((is_pointer ty || is_struct ty) && same_type ty v.ty) refl refl e
