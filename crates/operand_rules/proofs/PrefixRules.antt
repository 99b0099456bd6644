-- Operators before their operand, and casts.
use Rattle.std.proofs.Common.{◌≡◌, Bool, true, false, List, refl, sym, ap, ◌∙◌}
use Rattle.std.specs.Prelude.{codes, None, if◌then◌else◌}
use Rattle.std.specs.Str.{bytes_eq}
use Rattle.c_text.specs.Token.{PlainToken}
use Rattle.c_types.specs.Types.{PlainType, void, char, unsigned_char, int, unsigned_int, long, unsigned_long, pointer_to, array_of, structure}
use Rattle.c_types.specs.Integers.{is_integer}
use Rattle.core_meaning.specs.Program.{target}
use Rattle.core_meaning.specs.Checking as judged
use Rattle.core_meaning.specs.Checking.{◌>>=◌}
use Rattle.core_meaning.specs.Entities.{Struct}
use Rattle.core_meaning.specs.Typing.{promoted, is_scalar_type, Operand, Typed, loaded}
use Rattle.core_meaning.specs.Expressions.{pointed_at, dereferenced, negated, signed}
use Rattle.conditional.specs.Judgements.{Checked, fine, refused, bind}
use Rattle.operand_types.specs.OperandTypes.{OperandType, Category, rvalue, lvalue, struct_in, outcome_as, type_of_operand, type_of_value, structs_for, scope_for, an_operand, designates_as}
use Rattle.operand_types.specs.Operators.{same_number, prefixed_type, cast_type}
use Rattle.operand_types.proofs.Renumbered.{renumbered_same}
use Rattle.operand_rules.specs.Rules.{given, target_of, address_of, on_value, prefixed_rule, cast_rule}
use Rattle.operand_rules.proofs.Knowledge.{Knows, knows_none, knows_own, knows_self, knows_pointer, knows_target, knows_promoted, seen, seen_form, object_form}
use Rattle.operand_rules.proofs.Loads.{outcome_if, outcome_bind, loads}

abbrev operand_seen : List Struct → judged.Checked Operand → Checked OperandType (Unit {0})
operand_seen structs x = outcome_as (type_of_operand same_number structs) x

-- ---- one operator before a value

pub points_to : (structs : List Struct) (o : OperandType) (sign : PlainToken) (x : Typed) (t : PlainType) → Knows structs o.has_complete_struct t
    → operand_seen structs (dereferenced sign x t) ≡ target_of o t
points_to structs o sign x void h = refl
points_to structs o sign x char h = refl
points_to structs o sign x unsigned_char h = refl
points_to structs o sign x int h = refl
points_to structs o sign x unsigned_int h = refl
points_to structs o sign x long h = refl
points_to structs o sign x unsigned_long h = refl
points_to structs o sign x (pointer_to t) h = ap fine (object_form structs o sign t (target x.core) true (knows_target structs o.has_complete_struct t h))
points_to structs o sign x (array_of t count) h = refl
points_to structs o sign x (structure n) h = refl

value_points_to : (structs : List Struct) (sign : PlainToken) (x : Typed) → operand_seen structs (dereferenced sign x x.ty) ≡ target_of (type_of_value same_number structs x) (type_of_value same_number structs x).ty
value_points_to structs sign x =
    points_to structs (type_of_value same_number structs x) sign x x.ty (knows_self structs x.ty)
    ∙ ap (target_of (type_of_value same_number structs x)) (sym (renumbered_same x.ty))

value_negates : (structs : List Struct) (sign : PlainToken) (x : Typed)
    → operand_seen structs (negated sign x) ≡ (if is_scalar_type (type_of_value same_number structs x).ty then given (type_of_value same_number structs x) int else refused tt)
value_negates structs sign x = rw (renumbered_same x.ty) (outcome_if (type_of_operand same_number structs) (is_scalar_type x.ty) _ _)

value_promotes : (structs : List Struct) (sign : PlainToken) (x : Typed)
    → operand_seen structs (signed sign x) ≡ (if is_integer (type_of_value same_number structs x).ty then given (type_of_value same_number structs x) (promoted (type_of_value same_number structs x).ty) else refused tt)
value_promotes structs sign x =
    outcome_if (type_of_operand same_number structs) (is_integer x.ty) _ _
    ∙ ap (λ v. if is_integer x.ty then fine v else refused tt) (seen_form structs (type_of_value same_number structs x) (promoted x.ty) (knows_promoted structs _ x.ty (knows_self structs x.ty)))
    ∙ ap (λ t. if is_integer t then given (type_of_value same_number structs x) (promoted t) else refused tt) (sym (renumbered_same x.ty))

addresses : (sign : PlainToken) (o : OperandType) (category : Category) → operand_seen (structs_for o) (pointed_at sign o.ty (designates_as category)) ≡ address_of o category
addresses sign o rvalue = refl
addresses sign o (lvalue false) = refl
addresses sign o (lvalue true) = ap fine (seen_form (structs_for o) o (pointer_to o.ty) (knows_pointer (structs_for o) o.has_complete_struct o.ty (knows_own o)))

-- ---- the choice of the operator

by_operator : {A B P Q : Type 0} (form : B → Q) (source : A → P) (first second third : Bool)
    (a : judged.Checked B) (a' : Checked Q (Unit {0})) (f g h : A → judged.Checked B) (f' g' h' : P → Checked Q (Unit {0})) (c : judged.Checked A)
    → outcome_as form a ≡ a' → ((x : A) → outcome_as form (f x) ≡ f' (source x)) → ((x : A) → outcome_as form (g x) ≡ g' (source x)) → ((x : A) → outcome_as form (h x) ≡ h' (source x))
    → outcome_as form (if first then a else if second then c >>= f else if third then c >>= g else c >>= h)
    ≡ (if first then a' else bind (outcome_as source c) (λ x. if second then f' x else if third then g' x else h' x))
by_operator form source true second third a a' f g h f' g' h' c ea ef eg eh = ea
by_operator form source false true third a a' f g h f' g' h' c ea ef eg eh = outcome_bind form source f f' ef c
by_operator form source false false true a a' f g h f' g' h' c ea ef eg eh = outcome_bind form source g g' eg c
by_operator form source false false false a a' f g h f' g' h' c ea ef eg eh = outcome_bind form source h h' eh c

pub prefixes : (sign : PlainToken) (o : OperandType) → prefixed_type sign o ≡ prefixed_rule sign.text o
prefixes sign o =
    by_operator (type_of_operand same_number (structs_for o)) (type_of_value same_number (structs_for o))
    (bytes_eq sign.text (codes "&")) (bytes_eq sign.text (codes "*")) (bytes_eq sign.text (codes "!"))
    (pointed_at sign o.ty (designates_as o.category)) (address_of o o.category)
    (λ x. dereferenced sign x x.ty) (negated sign) (signed sign)
    (λ x. target_of x x.ty) (λ x. if is_scalar_type x.ty then given x int else refused tt) (λ x. if is_integer x.ty then given x (promoted x.ty) else refused tt)
    (loaded (scope_for o) (an_operand sign o))
    (addresses sign o o.category) (value_points_to (structs_for o) sign) (value_negates (structs_for o) sign) (value_promotes (structs_for o) sign)
    ∙ ap (λ c. if bytes_eq sign.text (codes "&") then address_of o o.category else bind c (on_value sign.text)) (loads sign o)

-- ---- casts

cast_form : (structs : List Struct) (o : OperandType) (ty : PlainType) (b : Bool) → struct_in ty ≡ None → (if b then fine (seen structs ty) else refused tt) ≡ (if b then given o ty else refused tt)
cast_form structs o ty b h = ap (λ v. if b then fine v else refused tt) (seen_form structs o ty (knows_none structs o.has_complete_struct ty h))

pub casts : (bracket : PlainToken) (ty : PlainType) (o : OperandType) → struct_in ty ≡ None → cast_type bracket ty o ≡ cast_rule ty o
casts bracket void o h = refl
casts bracket char o h = outcome_if (type_of_operand same_number (structs_for o)) (is_integer o.ty) _ _ ∙ cast_form (structs_for o) o char (is_integer o.ty) h
casts bracket unsigned_char o h = outcome_if (type_of_operand same_number (structs_for o)) (is_integer o.ty) _ _ ∙ cast_form (structs_for o) o unsigned_char (is_integer o.ty) h
casts bracket int o h = outcome_if (type_of_operand same_number (structs_for o)) (is_integer o.ty) _ _ ∙ cast_form (structs_for o) o int (is_integer o.ty) h
casts bracket unsigned_int o h = outcome_if (type_of_operand same_number (structs_for o)) (is_integer o.ty) _ _ ∙ cast_form (structs_for o) o unsigned_int (is_integer o.ty) h
casts bracket long o h = outcome_if (type_of_operand same_number (structs_for o)) (is_integer o.ty) _ _ ∙ cast_form (structs_for o) o long (is_integer o.ty) h
casts bracket unsigned_long o h = outcome_if (type_of_operand same_number (structs_for o)) (is_integer o.ty) _ _ ∙ cast_form (structs_for o) o unsigned_long (is_integer o.ty) h
casts bracket (pointer_to t) o h = outcome_if (type_of_operand same_number (structs_for o)) (is_integer o.ty) _ _ ∙ cast_form (structs_for o) o (pointer_to t) (is_integer o.ty) h
casts bracket (array_of t count) o h = outcome_if (type_of_operand same_number (structs_for o)) (is_integer o.ty) _ _ ∙ cast_form (structs_for o) o (array_of t count) (is_integer o.ty) h
casts bracket (structure n) o h = outcome_if (type_of_operand same_number (structs_for o)) (is_integer o.ty) _ _ ∙ cast_form (structs_for o) o (structure n) (is_integer o.ty) h
