-- What operators make of types: what they make of any operands of these types (ISO/IEC 9899:2011, 6.3.2, 6.5).
use Rattle.std.specs.Prelude.{ℕ}
use Rattle.c_text.specs.Token.{PlainToken}
use Rattle.c_types.specs.Types.{PlainType}
use Rattle.c_tree.specs.declared.kinds.Kind.{Kind}
use Rattle.core_meaning.specs.Program.{update}
use Rattle.core_meaning.specs.Checking.{◌>>=◌}
use Rattle.core_meaning.specs.Checking as judged
use Rattle.core_meaning.specs.Entities.{Scope}
use Rattle.core_meaning.specs.Typing.{loaded, Operand, Typed}
use Rattle.core_meaning.specs.Expressions as expressions
use Rattle.conditional.specs.Judgements.{Checked}
use Rattle.operand_types.specs.OperandTypes.{OperandType, type_of_operand, type_of_value, outcome_as, scope_for, asked_of, any_core, an_operand, a_value}

abbrev pub same_number : ℕ → ℕ
same_number n = n

abbrev pub operand_outcome : Scope → judged.Checked Operand → Checked OperandType (Unit {0})
operand_outcome scope x = outcome_as (type_of_operand same_number scope.structs) x

abbrev pub value_outcome : Scope → judged.Checked Typed → Checked OperandType (Unit {0})
value_outcome scope x = outcome_as (type_of_value same_number scope.structs) x

abbrev pub test_outcome : {A : Type 0} → judged.Checked A → Checked (Unit {0}) (Unit {0})
test_outcome x = outcome_as (λ a. tt) x

-- an operand's value
abbrev pub loaded_type : PlainToken → OperandType → Checked OperandType (Unit {0})
loaded_type at o = value_outcome (scope_for o) (loaded (scope_for o) (an_operand at o))

-- one of `& * + - ~ !` before an operand
abbrev pub prefixed_type : PlainToken → OperandType → Checked OperandType (Unit {0})
prefixed_type sign o = operand_outcome (scope_for o) (expressions.prefixed (scope_for o) sign (an_operand sign o))

-- `++` or `--`
abbrev pub stepped_type : PlainToken → OperandType → Checked OperandType (Unit {0})
stepped_type sign o = operand_outcome (scope_for o) (expressions.stepped (scope_for o) update sign (an_operand sign o))

-- a cast of a value
abbrev pub cast_type : PlainToken → PlainType → OperandType → Checked OperandType (Unit {0})
cast_type bracket ty o = operand_outcome (scope_for o) (expressions.cast_to bracket (a_value o) ty)

-- an operator of this kind between two values
abbrev pub combined_type : Kind → PlainToken → OperandType → OperandType → Checked OperandType (Unit {0})
combined_type kind sign o p =
    operand_outcome (scope_for (asked_of o p)) (expressions.combined_by (scope_for (asked_of o p)) kind sign (a_value o) (a_value p))

-- `[ ]` behind a value
abbrev pub indexed_type : PlainToken → OperandType → OperandType → Checked OperandType (Unit {0})
indexed_type bracket o p =
    operand_outcome (scope_for (asked_of o p)) (expressions.indexed (scope_for (asked_of o p)) bracket (a_value o) (a_value p))

-- an assignment of a value
abbrev pub assigned_type : PlainToken → OperandType → OperandType → Checked OperandType (Unit {0})
assigned_type sign o p =
    operand_outcome (scope_for o) (expressions.written_place (scope_for o) sign (an_operand sign o)
    >>= (λ place. expressions.assignment (scope_for o) sign (an_operand sign o) place (a_value p)))

-- the two results of `?:`
abbrev pub chosen_type : PlainToken → OperandType → OperandType → Checked OperandType (Unit {0})
chosen_type question o p = operand_outcome (scope_for (asked_of o p)) (expressions.chosen question any_core (a_value o) (a_value p))

-- whether it may be a condition
abbrev pub tested_type : PlainToken → OperandType → Checked (Unit {0}) (Unit {0})
tested_type first o = test_outcome (expressions.condition_value (scope_for o) first (an_operand first o))

-- whether a value fits a type, where it is assigned, passed or returned
abbrev pub fitted_type : PlainToken → PlainType → OperandType → Checked (Unit {0}) (Unit {0})
fitted_type first ty o = test_outcome (expressions.passed (scope_for o) ty (an_operand first o) first)
