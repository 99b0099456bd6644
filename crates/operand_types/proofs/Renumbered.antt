-- What types are where structs have other numbers.
use Rattle.std.proofs.Common.{◌≡◌, ℕ, zero, suc, Bool, true, false, List, refl, sym, ap, ◌∙◌}
use Rattle.std.specs.Prelude.{◌==◌, ◌&&◌, not, nat_le, Option, Some, None, option_map, slice_get, if◌then◌else◌}
use Rattle.std.proofs.lemmas.Bool.{false≢true}
use Rattle.c_types.specs.Types.{PlainType, void, char, unsigned_char, int, unsigned_int, long, unsigned_long, pointer_to, array_of, structure}
use Rattle.c_types.specs.Integers.{is_integer}
use Rattle.core_meaning.specs.Entities.{Struct}
use Rattle.core_meaning.specs.Typing.{promoted, rank, common, same_type, is_complete_struct, is_complete, is_struct, is_pointer, is_pointer_to_array, is_scalar_type, is_movable}
use Rattle.core_meaning.specs.Expressions.{is_any_pointer, may_be_assigned, is_void}
use Rattle.operand_types.specs.OperandTypes.{struct_in, is_known_complete, renumbered, structs_up_to, structs_with}
use Rattle.operand_types.specs.Operators.{same_number}
use Rattle.operand_types.specs.Laws.{KeepsApart}

pub renumbered_same : (t : PlainType) → renumbered same_number t ≡ t
renumbered_same void = refl
renumbered_same char = refl
renumbered_same unsigned_char = refl
renumbered_same int = refl
renumbered_same unsigned_int = refl
renumbered_same long = refl
renumbered_same unsigned_long = refl
renumbered_same (pointer_to t) = ap pointer_to (renumbered_same t)
renumbered_same (array_of t count) = ap (λ t. array_of t count) (renumbered_same t)
renumbered_same (structure n) = refl

pub integer_no_struct : (t : PlainType) → is_integer t ≡ true → struct_in t ≡ None
integer_no_struct void h = absurd (false≢true h)
integer_no_struct char h = refl
integer_no_struct unsigned_char h = refl
integer_no_struct int h = refl
integer_no_struct unsigned_int h = refl
integer_no_struct long h = refl
integer_no_struct unsigned_long h = refl
integer_no_struct (pointer_to t) h = absurd (false≢true h)
integer_no_struct (array_of t count) h = absurd (false≢true h)
integer_no_struct (structure n) h = absurd (false≢true h)

pub promoted_no_struct : (t : PlainType) → struct_in t ≡ None → struct_in (promoted t) ≡ None
promoted_no_struct char h = refl
promoted_no_struct unsigned_char h = refl
promoted_no_struct void h = h
promoted_no_struct int h = h
promoted_no_struct unsigned_int h = h
promoted_no_struct long h = h
promoted_no_struct unsigned_long h = h
promoted_no_struct (pointer_to t) h = h
promoted_no_struct (array_of t count) h = h
promoted_no_struct (structure n) h = h

module _ (by : ℕ → ℕ) where
  pub struct_by : (t : PlainType) → struct_in (renumbered by t) ≡ option_map by (struct_in t)
  struct_by void = refl
  struct_by char = refl
  struct_by unsigned_char = refl
  struct_by int = refl
  struct_by unsigned_int = refl
  struct_by long = refl
  struct_by unsigned_long = refl
  struct_by (pointer_to t) = struct_by t
  struct_by (array_of t count) = struct_by t
  struct_by (structure n) = refl

  -- a type without a struct is the same
  pub kept : (t : PlainType) → struct_in t ≡ None → renumbered by t ≡ t
  kept void h = refl
  kept char h = refl
  kept unsigned_char h = refl
  kept int h = refl
  kept unsigned_int h = refl
  kept long h = refl
  kept unsigned_long h = refl
  kept (pointer_to t) h = ap pointer_to (kept t h)
  kept (array_of t count) h = ap (λ t. array_of t count) (kept t h)
  kept (structure n) h = cc

  pub integer_by : (t : PlainType) → is_integer (renumbered by t) ≡ is_integer t
  integer_by void = refl
  integer_by char = refl
  integer_by unsigned_char = refl
  integer_by int = refl
  integer_by unsigned_int = refl
  integer_by long = refl
  integer_by unsigned_long = refl
  integer_by (pointer_to t) = refl
  integer_by (array_of t count) = refl
  integer_by (structure n) = refl

  pub to_array_by : (t : PlainType) → is_pointer_to_array (pointer_to (renumbered by t)) ≡ is_pointer_to_array (pointer_to t)
  to_array_by void = refl
  to_array_by char = refl
  to_array_by unsigned_char = refl
  to_array_by int = refl
  to_array_by unsigned_int = refl
  to_array_by long = refl
  to_array_by unsigned_long = refl
  to_array_by (pointer_to t) = refl
  to_array_by (array_of t count) = refl
  to_array_by (structure n) = refl

  pub pointer_by : (t : PlainType) → is_pointer (renumbered by t) ≡ is_pointer t
  pointer_by void = refl
  pointer_by char = refl
  pointer_by unsigned_char = refl
  pointer_by int = refl
  pointer_by unsigned_int = refl
  pointer_by long = refl
  pointer_by unsigned_long = refl
  pointer_by (pointer_to t) = ap not (to_array_by t)
  pointer_by (array_of t count) = refl
  pointer_by (structure n) = refl

  pub scalar_by : (t : PlainType) → is_scalar_type (renumbered by t) ≡ is_scalar_type t
  scalar_by t = rw (integer_by t) (rw (pointer_by t) refl)

  pub any_pointer_by : (t : PlainType) → is_any_pointer (renumbered by t) ≡ is_any_pointer t
  any_pointer_by void = refl
  any_pointer_by char = refl
  any_pointer_by unsigned_char = refl
  any_pointer_by int = refl
  any_pointer_by unsigned_int = refl
  any_pointer_by long = refl
  any_pointer_by unsigned_long = refl
  any_pointer_by (pointer_to t) = refl
  any_pointer_by (array_of t count) = refl
  any_pointer_by (structure n) = refl

  pub struct_type_by : (t : PlainType) → is_struct (renumbered by t) ≡ is_struct t
  struct_type_by void = refl
  struct_type_by char = refl
  struct_type_by unsigned_char = refl
  struct_type_by int = refl
  struct_type_by unsigned_int = refl
  struct_type_by long = refl
  struct_type_by unsigned_long = refl
  struct_type_by (pointer_to t) = refl
  struct_type_by (array_of t count) = refl
  struct_type_by (structure n) = refl

  pub void_by : (t : PlainType) → is_void (renumbered by t) ≡ is_void t
  void_by void = refl
  void_by char = refl
  void_by unsigned_char = refl
  void_by int = refl
  void_by unsigned_int = refl
  void_by long = refl
  void_by unsigned_long = refl
  void_by (pointer_to t) = refl
  void_by (array_of t count) = refl
  void_by (structure n) = refl

  pub assignable_by : (t : PlainType) → may_be_assigned (renumbered by t) ≡ may_be_assigned t
  assignable_by void = refl
  assignable_by char = refl
  assignable_by unsigned_char = refl
  assignable_by int = refl
  assignable_by unsigned_int = refl
  assignable_by long = refl
  assignable_by unsigned_long = refl
  assignable_by (pointer_to t) = refl
  assignable_by (array_of t count) = refl
  assignable_by (structure n) = refl

  pub promoted_by : (t : PlainType) → promoted (renumbered by t) ≡ renumbered by (promoted t)
  promoted_by void = refl
  promoted_by char = refl
  promoted_by unsigned_char = refl
  promoted_by int = refl
  promoted_by unsigned_int = refl
  promoted_by long = refl
  promoted_by unsigned_long = refl
  promoted_by (pointer_to t) = refl
  promoted_by (array_of t count) = refl
  promoted_by (structure n) = refl

  pub rank_by : (t : PlainType) → rank (promoted (renumbered by t)) ≡ rank (promoted t)
  rank_by void = refl
  rank_by char = refl
  rank_by unsigned_char = refl
  rank_by int = refl
  rank_by unsigned_int = refl
  rank_by long = refl
  rank_by unsigned_long = refl
  rank_by (pointer_to t) = refl
  rank_by (array_of t count) = refl
  rank_by (structure n) = refl

  one_of : (b : Bool) (s t : PlainType) → (if b then renumbered by s else renumbered by t) ≡ renumbered by (if b then s else t)
  one_of true s t = refl
  one_of false s t = refl

  pub common_by : (s t : PlainType) → common (renumbered by s) (renumbered by t) ≡ renumbered by (common s t)
  common_by s t = rw (rank_by s) (rw (rank_by t) (rw (promoted_by s) (rw (promoted_by t) (one_of (nat_le (rank (promoted s)) (rank (promoted t))) (promoted t) (promoted s)))))

  -- ---- the same types stay the same, and others others

  module _ (keeps : KeepsApart by) where
    pub same_by : (s t : PlainType) → same_type (renumbered by s) (renumbered by t) ≡ same_type s t
    same_by void void = refl
    same_by void char = refl
    same_by void unsigned_char = refl
    same_by void int = refl
    same_by void unsigned_int = refl
    same_by void long = refl
    same_by void unsigned_long = refl
    same_by void (pointer_to b) = refl
    same_by void (array_of b n) = refl
    same_by void (structure j) = refl
    same_by char void = refl
    same_by char char = refl
    same_by char unsigned_char = refl
    same_by char int = refl
    same_by char unsigned_int = refl
    same_by char long = refl
    same_by char unsigned_long = refl
    same_by char (pointer_to b) = refl
    same_by char (array_of b n) = refl
    same_by char (structure j) = refl
    same_by unsigned_char void = refl
    same_by unsigned_char char = refl
    same_by unsigned_char unsigned_char = refl
    same_by unsigned_char int = refl
    same_by unsigned_char unsigned_int = refl
    same_by unsigned_char long = refl
    same_by unsigned_char unsigned_long = refl
    same_by unsigned_char (pointer_to b) = refl
    same_by unsigned_char (array_of b n) = refl
    same_by unsigned_char (structure j) = refl
    same_by int void = refl
    same_by int char = refl
    same_by int unsigned_char = refl
    same_by int int = refl
    same_by int unsigned_int = refl
    same_by int long = refl
    same_by int unsigned_long = refl
    same_by int (pointer_to b) = refl
    same_by int (array_of b n) = refl
    same_by int (structure j) = refl
    same_by unsigned_int void = refl
    same_by unsigned_int char = refl
    same_by unsigned_int unsigned_char = refl
    same_by unsigned_int int = refl
    same_by unsigned_int unsigned_int = refl
    same_by unsigned_int long = refl
    same_by unsigned_int unsigned_long = refl
    same_by unsigned_int (pointer_to b) = refl
    same_by unsigned_int (array_of b n) = refl
    same_by unsigned_int (structure j) = refl
    same_by long void = refl
    same_by long char = refl
    same_by long unsigned_char = refl
    same_by long int = refl
    same_by long unsigned_int = refl
    same_by long long = refl
    same_by long unsigned_long = refl
    same_by long (pointer_to b) = refl
    same_by long (array_of b n) = refl
    same_by long (structure j) = refl
    same_by unsigned_long void = refl
    same_by unsigned_long char = refl
    same_by unsigned_long unsigned_char = refl
    same_by unsigned_long int = refl
    same_by unsigned_long unsigned_int = refl
    same_by unsigned_long long = refl
    same_by unsigned_long unsigned_long = refl
    same_by unsigned_long (pointer_to b) = refl
    same_by unsigned_long (array_of b n) = refl
    same_by unsigned_long (structure j) = refl
    same_by (pointer_to a) void = refl
    same_by (pointer_to a) char = refl
    same_by (pointer_to a) unsigned_char = refl
    same_by (pointer_to a) int = refl
    same_by (pointer_to a) unsigned_int = refl
    same_by (pointer_to a) long = refl
    same_by (pointer_to a) unsigned_long = refl
    same_by (pointer_to a) (pointer_to b) = same_by a b
    same_by (pointer_to a) (array_of b n) = refl
    same_by (pointer_to a) (structure j) = refl
    same_by (array_of a m) void = refl
    same_by (array_of a m) char = refl
    same_by (array_of a m) unsigned_char = refl
    same_by (array_of a m) int = refl
    same_by (array_of a m) unsigned_int = refl
    same_by (array_of a m) long = refl
    same_by (array_of a m) unsigned_long = refl
    same_by (array_of a m) (pointer_to b) = refl
    same_by (array_of a m) (array_of b n) = ap (λ x. m == n && x) (same_by a b)
    same_by (array_of a m) (structure j) = refl
    same_by (structure i) void = refl
    same_by (structure i) char = refl
    same_by (structure i) unsigned_char = refl
    same_by (structure i) int = refl
    same_by (structure i) unsigned_int = refl
    same_by (structure i) long = refl
    same_by (structure i) unsigned_long = refl
    same_by (structure i) (pointer_to b) = refl
    same_by (structure i) (array_of b n) = refl
    same_by (structure i) (structure j) = keeps.apart i j

-- ---- structs that are complete alike

-- a type among structs, and the same type with other numbers among others
pub record Alike (by : ℕ → ℕ) (structs others : List Struct) (t : PlainType) : Type 0 where
  pub known : is_known_complete structs (struct_in t) ≡ is_known_complete others (struct_in (renumbered by t))

pub alike_none : (by : ℕ → ℕ) (structs others : List Struct) (t : PlainType) → struct_in t ≡ None → Alike by structs others t
alike_none by structs others t h = record {
  known = rw h (rw (struct_by by t ∙ ap (option_map by) h) refl);
}

pub complete_alike : (by : ℕ → ℕ) (structs others : List Struct) (t : PlainType) → Alike by structs others t
    → is_complete others (renumbered by t) ≡ is_complete structs t
complete_alike by structs others void h = refl
complete_alike by structs others char h = refl
complete_alike by structs others unsigned_char h = refl
complete_alike by structs others int h = refl
complete_alike by structs others unsigned_int h = refl
complete_alike by structs others long h = refl
complete_alike by structs others unsigned_long h = refl
complete_alike by structs others (pointer_to t) h = refl
complete_alike by structs others (array_of t count) h = refl
complete_alike by structs others (structure n) h = sym h.known

pub movable_alike : (by : ℕ → ℕ) (structs others : List Struct) (t : PlainType) → Alike by structs others t
    → is_movable others (renumbered by t) ≡ is_movable structs t
movable_alike by structs others void h = refl
movable_alike by structs others char h = refl
movable_alike by structs others unsigned_char h = refl
movable_alike by structs others int h = refl
movable_alike by structs others unsigned_int h = refl
movable_alike by structs others long h = refl
movable_alike by structs others unsigned_long h = refl
movable_alike by structs others (pointer_to void) h = refl
movable_alike by structs others (pointer_to char) h = refl
movable_alike by structs others (pointer_to unsigned_char) h = refl
movable_alike by structs others (pointer_to int) h = refl
movable_alike by structs others (pointer_to unsigned_int) h = refl
movable_alike by structs others (pointer_to long) h = refl
movable_alike by structs others (pointer_to unsigned_long) h = refl
movable_alike by structs others (pointer_to (pointer_to t)) h = refl
movable_alike by structs others (pointer_to (array_of t count)) h = refl
movable_alike by structs others (pointer_to (structure n)) h = sym h.known
movable_alike by structs others (array_of t count) h = refl
movable_alike by structs others (structure n) h = refl

up_to_has : (n : ℕ) (complete : Bool) → is_complete_struct (slice_get (structs_up_to n complete) n) ≡ complete
up_to_has zero complete = refl
up_to_has (suc n) complete = up_to_has n complete

with_has : (structs : List Struct) (by : ℕ → ℕ) (m : Option ℕ)
    → is_known_complete structs m ≡ is_known_complete (structs_with (option_map by m) (is_known_complete structs m)) (option_map by m)
with_has structs by None = refl
with_has structs by (Some n) = sym (up_to_has (by n) (is_complete_struct (slice_get structs n)))

-- among the structs that stand for those of an operand the type is as complete as it is among these
pub alike_for : (by : ℕ → ℕ) (structs : List Struct) (t : PlainType)
    → Alike by structs (structs_with (struct_in (renumbered by t)) (is_known_complete structs (struct_in t))) t
alike_for by structs t = record { known = rw (struct_by by t) (with_has structs by (struct_in t)) }
