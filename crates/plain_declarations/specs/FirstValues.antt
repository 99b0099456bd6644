-- Which first values the scalars of globals may have.
use Rattle.std.proofs.Common.{◌≡◌, Bool, true, false, refl, sym}
use Rattle.std.specs.Prelude.{Option, Some, None, is_some, option_map}
use Rattle.core_meaning.specs.Program.{PlainExpression, address, first_element, PlainPlace, global, literal}
use Rattle.core_meaning.specs.Values.{number}
use Rattle.core_meaning.specs.Constancy.{is_constant, constant_value, address_scalar, first_scalar}

abbrev pub has_address : PlainPlace → Bool
has_address (global n) = true
has_address other = false

abbrev pub has_element : PlainPlace → Bool
has_element (global n) = true
has_element (literal n) = true
has_element other = false

address_of : (place : PlainPlace) → is_some (address_scalar 0 (address place)) ≡ has_address place
address_of (global n) = refl
address_of other = refl

element_of : (place : PlainPlace) → is_some (address_scalar 0 (first_element place)) ≡ has_element place
element_of (global n) = refl
element_of (literal n) = refl
element_of other = refl

pub by_address : (place : PlainPlace) (e : PlainExpression) → e ≡ address place → has_address place ≡ is_some (address_scalar 0 e)
by_address place e is = rw is (sym (address_of place))

pub by_element : (place : PlainPlace) (e : PlainExpression) → e ≡ first_element place → has_element place ≡ is_some (address_scalar 0 e)
by_element place e is = rw is (sym (element_of place))

pub ruleset addresses = (by_address, by_element)

mapped_some : {A B : Type 0} (f : A → B) (x : Option A) → is_some (option_map f x) ≡ is_some x
mapped_some f (Some x) = refl
mapped_some f None = refl

pub first_constant : (e : PlainExpression) → is_constant e ≡ true → is_some (constant_value e) ≡ is_some (first_scalar 0 e)
first_constant e is = rw is (sym (mapped_some number (constant_value e)))

pub first_address : (e : PlainExpression) → is_constant e ≡ false → is_some (address_scalar 0 e) ≡ is_some (first_scalar 0 e)
first_address e is = rw is refl
