-- That operators make of operands what they make of the operands' types; the law is the contract of a function of this crate.
use Rattle.std.specs.Prelude.{◌≡◌, ℕ, ◌==◌, None, IsTrue}
use Rattle.c_text.specs.Token.{PlainToken}
use Rattle.c_types.specs.Types.{PlainType}
use Rattle.c_types.specs.Integers.{is_integer}
use Rattle.c_tree.specs.declared.kinds.Kind.{Kind}
use Rattle.core_meaning.specs.Program.{PlainExpression, PlainPlace}
use Rattle.core_meaning.specs.Checking.{◌>>=◌}
use Rattle.core_meaning.specs.Checking as judged
use Rattle.core_meaning.specs.declared.expressions.Change.{Change}
use Rattle.core_meaning.specs.Entities.{Scope}
use Rattle.core_meaning.specs.Typing.{loaded, Operand, Typed}
use Rattle.core_meaning.specs.Expressions.{prefixed, stepped, cast_to, combined_by, indexed, written_place, assignment, chosen, condition_value, passed}
use Rattle.conditional.specs.Judgements.{Checked}
use Rattle.operand_types.specs.OperandTypes.{OperandType, struct_in, renumbered, type_of_operand, type_of_value, outcome_as}
use Rattle.operand_types.specs.Operators.{test_outcome, loaded_type, prefixed_type, stepped_type, cast_type, combined_type, indexed_type, assigned_type, chosen_type, tested_type, fitted_type}

-- different structs have different numbers
pub record KeepsApart (by : ℕ → ℕ) : Type 0 where
  pub apart : (m n : ℕ) → (by m == by n) ≡ (m == n)

-- what is the null constant is a number
abbrev pub IsNumberIfNull : Typed → Type 0
IsNumberIfNull x = IsTrue x.is_null → IsTrue (is_integer x.ty)

module _ (by : ℕ → ℕ) (scope : Scope) where
  -- what comes of a judgement among the structs of the scope, where they have other numbers
  abbrev pub operand_seen : judged.Checked Operand → Checked OperandType (Unit {0})
  operand_seen x = outcome_as (type_of_operand by scope.structs) x

  abbrev pub value_seen : judged.Checked Typed → Checked OperandType (Unit {0})
  value_seen x = outcome_as (type_of_value by scope.structs) x

  abbrev pub operand_type : Operand → OperandType
  operand_type x = type_of_operand by scope.structs x

  abbrev pub value_type : Typed → OperandType
  value_type x = type_of_value by scope.structs x

  -- The type of what an operator makes of operands is what it makes of their types.
  pub record OperatorsKeepTypes : Type 0 where
    pub loads : (at : PlainToken) (x : Operand) → value_seen (loaded scope x) ≡ loaded_type at (operand_type x)
    pub prefixes : (sign : PlainToken) (x : Operand) → operand_seen (prefixed scope sign x) ≡ prefixed_type sign (operand_type x)
    pub steps : (sign : PlainToken) (make : Change → PlainPlace → PlainExpression → PlainExpression) (x : Operand)
        → operand_seen (stepped scope make sign x) ≡ stepped_type sign (operand_type x)
    pub casts : (bracket : PlainToken) (ty : PlainType) (x : Typed) → struct_in ty ≡ None
        → operand_seen (cast_to bracket x ty) ≡ cast_type bracket ty (value_type x)
    pub combines : (kind : Kind) (sign : PlainToken) (x y : Typed)
        → operand_seen (combined_by scope kind sign x y) ≡ combined_type kind sign (value_type x) (value_type y)
    pub indexes : (bracket : PlainToken) (x y : Typed)
        → operand_seen (indexed scope bracket x y) ≡ indexed_type bracket (value_type x) (value_type y)
    pub assigns : (sign : PlainToken) (x : Operand) (y : Typed)
        → operand_seen (written_place scope sign x >>= (λ place. assignment scope sign x place y)) ≡ assigned_type sign (operand_type x) (value_type y)
    pub chooses : (question : PlainToken) (condition : PlainExpression) (x y : Typed) → IsNumberIfNull x
        → operand_seen (chosen question condition x y) ≡ chosen_type question (value_type x) (value_type y)
    pub tests : (at first : PlainToken) (x : Operand) → test_outcome (condition_value scope at x) ≡ tested_type first (operand_type x)
    pub fits : (at first : PlainToken) (ty : PlainType) (x : Operand)
        → test_outcome (passed scope ty x at) ≡ fitted_type first (renumbered by ty) (operand_type x)

abbrev pub TypesAreKept : Type 0
TypesAreKept = (by : ℕ → ℕ) → KeepsApart by → (scope : Scope) → OperatorsKeepTypes by scope
