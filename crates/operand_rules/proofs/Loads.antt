-- Outcomes of judgements by types, and values of operands.
use Rattle.std.proofs.Common.{◌≡◌, ℕ, Bool, true, false, List, refl, ap, ◌∙◌}
use Rattle.std.specs.Prelude.{slice_get, if◌then◌else◌}
use Rattle.c_text.specs.Token.{PlainToken}
use Rattle.c_types.specs.Types.{PlainType, void, char, unsigned_char, int, unsigned_int, long, unsigned_long, pointer_to, array_of, structure}
use Rattle.core_meaning.specs.Program.{PlainPlace, read}
use Rattle.core_meaning.specs.declared.refusals.TypeKind.TheVariants.{Incomplete}
use Rattle.core_meaning.specs.Checking as judged
use Rattle.core_meaning.specs.Checking.{Binding, with_bindings, give, ◌>>=◌}
use Rattle.core_meaning.specs.Entities.{Struct}
use Rattle.core_meaning.specs.Typing.{is_complete_struct, object, Operand, typed, loaded_from}
use Rattle.conditional.specs.Judgements.{Checked, fine, refused, bind}
use Rattle.operand_types.specs.OperandTypes.{OperandType, Category, rvalue, lvalue, outcome_as, type_of_value, structs_for, an_operand, designates_as}
use Rattle.operand_types.specs.Operators.{same_number, loaded_type}
use Rattle.operand_rules.specs.Rules.{loaded_object, loaded_as, loaded_rule}
use Rattle.operand_rules.proofs.Knowledge.{Knows, knows_own, knows_element, seen, seen_form, own_form}

-- ---- outcomes

pub outcome_with : {A P : Type 0} (form : A → P) (bindings : List Binding) (c : judged.Checked A) → outcome_as form (with_bindings bindings c) ≡ outcome_as form c
outcome_with form bindings (judged.fine x behind) = refl
outcome_with form bindings (judged.refused kind token) = refl
outcome_with form bindings judged.broken = refl

pub outcome_if : {A P : Type 0} (form : A → P) (b : Bool) (x : A) (c : judged.Checked A) → outcome_as form (if b then give x else c) ≡ (if b then fine (form x) else outcome_as form c)
outcome_if form true x c = refl
outcome_if form false x c = refl

-- a judgement, and then what its result leads to
pub outcome_bind : {A B P Q : Type 0} (form : B → Q) (source : A → P) (next : A → judged.Checked B) (rule : P → Checked Q (Unit {0})) → ((x : A) → outcome_as form (next x) ≡ rule (source x)) → (c : judged.Checked A) → outcome_as form (c >>= next) ≡ bind (outcome_as source c) rule
outcome_bind form source next rule same (judged.fine x bindings) = outcome_with form bindings (next x) ∙ same x
outcome_bind form source next rule same (judged.refused kind token) = refl
outcome_bind form source next rule same judged.broken = refl

-- ---- values

struct_object : (structs : List Struct) (o : OperandType) (x : Operand) (n : ℕ) (place : PlainPlace) (free : Bool) → Knows structs o.has_complete_struct (structure n)
    → outcome_as (type_of_value same_number structs) (loaded_from structs x (structure n) (object place free)) ≡ loaded_object o (structure n)
struct_object structs o x n place free h =
    outcome_if (type_of_value same_number structs) (is_complete_struct (slice_get structs n)) (typed (structure n) (read place)) (judged.refused Incomplete x.stands_at)
    ∙ ap (λ b. if b then fine (seen structs (structure n)) else refused tt) h.known
    ∙ ap (λ v. if o.has_complete_struct then fine v else refused tt) (seen_form structs o (structure n) h)

loads_object : (structs : List Struct) (o : OperandType) (x : Operand) (t : PlainType) (place : PlainPlace) (free : Bool) → Knows structs o.has_complete_struct t
    → outcome_as (type_of_value same_number structs) (loaded_from structs x t (object place free)) ≡ loaded_object o t
loads_object structs o x void place free h = refl
loads_object structs o x char place free h = refl
loads_object structs o x unsigned_char place free h = refl
loads_object structs o x int place free h = refl
loads_object structs o x unsigned_int place free h = refl
loads_object structs o x long place free h = refl
loads_object structs o x unsigned_long place free h = refl
loads_object structs o x (pointer_to t) place free h = ap fine (seen_form structs o (pointer_to t) h)
loads_object structs o x (array_of t count) place free h = ap fine (seen_form structs o (pointer_to t) (knows_element structs o.has_complete_struct t count h))
loads_object structs o x (structure n) place free h = struct_object structs o x n place free h

loads_as : (at : PlainToken) (o : OperandType) (category : Category)
    → outcome_as (type_of_value same_number (structs_for o)) (loaded_from (structs_for o) (an_operand at o) o.ty (designates_as category)) ≡ loaded_as o category
loads_as at o rvalue = ap fine (own_form (structs_for o) o (knows_own o))
loads_as at o (lvalue free) = loads_object (structs_for o) o (an_operand at o) o.ty _ free (knows_own o)

pub loads : (at : PlainToken) (o : OperandType) → loaded_type at o ≡ loaded_rule o
loads at o = loads_as at o o.category
