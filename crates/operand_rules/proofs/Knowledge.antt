-- Types among structs of which it is known whether they are complete.
use Rattle.std.proofs.Common.{◌≡◌, ℕ, zero, suc, Bool, false, List, refl, sym, ap, subst}
use Rattle.std.specs.Prelude.{not, ◌||◌, Option, Some, None, is_some, slice_get}
use Rattle.c_text.specs.Token.{PlainToken}
use Rattle.c_types.specs.Types.{PlainType, void, char, unsigned_char, int, unsigned_int, long, unsigned_long, pointer_to, array_of, structure}
use Rattle.core_meaning.specs.Program.{PlainPlace}
use Rattle.core_meaning.specs.Entities.{Struct}
use Rattle.core_meaning.specs.Typing.{promoted, is_complete_struct, is_complete, is_movable, of_object}
use Rattle.operand_types.specs.OperandTypes.{OperandType, Category, rvalue, lvalue, struct_in, is_known_complete, renumbered, type_of_operand, type_of_value, structs_up_to, structs_with, structs_for, asked_of, any_core}
use Rattle.operand_types.specs.Operators.{same_number}
use Rattle.operand_types.proofs.Renumbered.{renumbered_same}
use Rattle.operand_rules.specs.Rules.{has_struct, derived, own_value, completes, moves}

-- the type's struct is among these, and complete or not, or there is none
pub record Knows (structs : List Struct) (complete : Bool) (t : PlainType) : Type 0 where
  pub known : is_known_complete structs (struct_in t) ≡ (not (has_struct t) || complete)

pub knows_none : (structs : List Struct) (complete : Bool) (t : PlainType) → struct_in t ≡ None → Knows structs complete t
knows_none structs complete t h = record { known = rw h refl }

up_to_has : (n : ℕ) (complete : Bool) → is_complete_struct (slice_get (structs_up_to n complete) n) ≡ complete
up_to_has zero complete = refl
up_to_has (suc n) complete = up_to_has n complete

with_knows : (m : Option ℕ) (complete : Bool) → is_known_complete (structs_with m complete) m ≡ (not (is_some m) || complete)
with_knows None complete = refl
with_knows (Some n) complete = up_to_has n complete

pub knows_own : (o : OperandType) → Knows (structs_for o) o.has_complete_struct o.ty
knows_own o = record { known = with_knows (struct_in o.ty) o.has_complete_struct }

self_knows : (structs : List Struct) (m : Option ℕ) → is_known_complete structs m ≡ (not (is_some m) || is_known_complete structs m)
self_knows structs None = refl
self_knows structs (Some n) = refl

pub knows_self : (structs : List Struct) (t : PlainType) → Knows structs (is_known_complete structs (struct_in t)) t
knows_self structs t = record { known = self_knows structs (struct_in t) }

pub knows_pointer : (structs : List Struct) (complete : Bool) (t : PlainType) → Knows structs complete t → Knows structs complete (pointer_to t)
knows_pointer structs complete t h = record { known = h.known }

pub knows_target : (structs : List Struct) (complete : Bool) (t : PlainType) → Knows structs complete (pointer_to t) → Knows structs complete t
knows_target structs complete t h = record { known = h.known }

pub knows_element : (structs : List Struct) (complete : Bool) (t : PlainType) (n : ℕ) → Knows structs complete (array_of t n) → Knows structs complete (pointer_to t)
knows_element structs complete t n h = record { known = h.known }

pub knows_promoted : (structs : List Struct) (complete : Bool) (t : PlainType) → Knows structs complete t → Knows structs complete (promoted t)
knows_promoted structs complete char h = record { known = refl }
knows_promoted structs complete unsigned_char h = record { known = refl }
knows_promoted structs complete void h = h
knows_promoted structs complete int h = h
knows_promoted structs complete unsigned_int h = h
knows_promoted structs complete long h = h
knows_promoted structs complete unsigned_long h = h
knows_promoted structs complete (pointer_to t) h = h
knows_promoted structs complete (array_of t count) h = h
knows_promoted structs complete (structure n) h = h

-- ---- two operands

left_at : (o p : OperandType) (m : Option ℕ) → struct_in o.ty ≡ m → Knows (structs_for (asked_of o p)) o.has_complete_struct o.ty
left_at o p None h = knows_none (structs_for (asked_of o p)) o.has_complete_struct o.ty h
left_at o p (Some n) h =
    let asked : o ≡ asked_of o p = sym (ap (λ m. elim m as (λ x. OperandType) [ Some n ↦ o | None ↦ p ]) h) in
    subst (λ q. Knows (structs_for q) o.has_complete_struct o.ty) asked (knows_own o)

pub knows_left : (o p : OperandType) → Knows (structs_for (asked_of o p)) o.has_complete_struct o.ty
knows_left o p = left_at o p (struct_in o.ty) refl

pub knows_right : (o p : OperandType) → struct_in o.ty ≡ None → Knows (structs_for (asked_of o p)) p.has_complete_struct p.ty
knows_right o p h =
    let asked : p ≡ asked_of o p = sym (ap (λ m. elim m as (λ x. OperandType) [ Some n ↦ o | None ↦ p ]) h) in
    subst (λ q. Knows (structs_for q) p.has_complete_struct p.ty) asked (knows_own p)

-- ---- complete types, and pointers that may be moved

pub completes_known : (structs : List Struct) (complete : Bool) (t : PlainType) → Knows structs complete t → is_complete structs t ≡ completes complete t
completes_known structs complete void h = refl
completes_known structs complete char h = refl
completes_known structs complete unsigned_char h = refl
completes_known structs complete int h = refl
completes_known structs complete unsigned_int h = refl
completes_known structs complete long h = refl
completes_known structs complete unsigned_long h = refl
completes_known structs complete (pointer_to t) h = refl
completes_known structs complete (array_of t count) h = refl
completes_known structs complete (structure n) h = h.known

pub moves_known : (structs : List Struct) (complete : Bool) (t : PlainType) → Knows structs complete t → is_movable structs t ≡ moves complete t
moves_known structs complete void h = refl
moves_known structs complete char h = refl
moves_known structs complete unsigned_char h = refl
moves_known structs complete int h = refl
moves_known structs complete unsigned_int h = refl
moves_known structs complete long h = refl
moves_known structs complete unsigned_long h = refl
moves_known structs complete (array_of t count) h = refl
moves_known structs complete (structure n) h = refl
moves_known structs complete (pointer_to void) h = refl
moves_known structs complete (pointer_to char) h = refl
moves_known structs complete (pointer_to unsigned_char) h = refl
moves_known structs complete (pointer_to int) h = refl
moves_known structs complete (pointer_to unsigned_int) h = refl
moves_known structs complete (pointer_to long) h = refl
moves_known structs complete (pointer_to unsigned_long) h = refl
moves_known structs complete (pointer_to (pointer_to t)) h = refl
moves_known structs complete (pointer_to (array_of t count)) h = refl
moves_known structs complete (pointer_to (structure n)) h = h.known

-- ---- operands of a type

abbrev made : PlainType → Category → Bool → Bool → OperandType
made t category is_null complete = record { ty = t; category = category; is_null = is_null; has_complete_struct = complete }

same_made : (s t : PlainType) (category : Category) (is_null a b : Bool) → s ≡ t → a ≡ b → made s category is_null a ≡ made t category is_null b
same_made s t category is_null a b e d = rw e (rw d refl)

-- a value of a type among structs
abbrev pub seen : List Struct → PlainType → OperandType
seen structs t = record {
  ty = renumbered same_number t;
  category = rvalue;
  is_null = false;
  has_complete_struct = is_known_complete structs (struct_in t);
}

pub seen_form : (structs : List Struct) (o : OperandType) (t : PlainType) → Knows structs o.has_complete_struct t → seen structs t ≡ derived o t rvalue
seen_form structs o t h =
    same_made (renumbered same_number t) t rvalue false (is_known_complete structs (struct_in t)) (not (has_struct t) || o.has_complete_struct) (renumbered_same t) h.known

pub object_form : (structs : List Struct) (o : OperandType) (sign : PlainToken) (t : PlainType) (place : PlainPlace) (free : Bool) → Knows structs o.has_complete_struct t
    → type_of_operand same_number structs (of_object sign t place free) ≡ derived o t (lvalue free)
object_form structs o sign t place free h =
    same_made (renumbered same_number t) t (lvalue free) false (is_known_complete structs (struct_in t)) (not (has_struct t) || o.has_complete_struct) (renumbered_same t) h.known

pub own_form : (structs : List Struct) (o : OperandType) → Knows structs o.has_complete_struct o.ty
    → type_of_value same_number structs (record { ty = o.ty; core = any_core; is_null = o.is_null }) ≡ own_value o
own_form structs o h =
    same_made (renumbered same_number o.ty) o.ty rvalue o.is_null (is_known_complete structs (struct_in o.ty)) (not (has_struct o.ty) || o.has_complete_struct) (renumbered_same o.ty) h.known
