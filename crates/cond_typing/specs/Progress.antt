-- What a configuration sees of a node's variants that have been read so far, once one of them holds there.
use Rattle.std.specs.Prelude.{◌≡◌, ℕ, Bool, true, false, List, [], ◌∷◌, Option, None, option_map}
use Rattle.cond_formula.specs.Conditions.{condition_of, value}
use Rattle.conditional.specs.declared.entries.Guarded.{Guarded}
use Rattle.conditional.specs.declared.outcomes.Outcomes.{Outcomes}
use Rattle.conditional.specs.Entries.{listed, seen, first}
use Rattle.conditional.specs.Judgements.{Shows}
use Rattle.operand_rules.specs.declared.operands.OperandType.{OperandType}
use Rattle.operand_rules.specs.declared.operands.Refused.{Refused}
use Rattle.operand_rules.specs.PlainOperandTypes.{plain_operand_type, reason}
use Rattle.expression_types.specs.Known.{Callable}
use Rattle.expression_types.specs.Reading.{Read}
use Rattle.cond_nodes.specs.Reads.{callee_number}
use Rattle.cond_typing.specs.declared.variants.VariantReads.{VariantReads}

-- the number of the function that is named; none before a variant holds
abbrev pub NamesSoFar : (ℕ → Callable) → Option Callable → Bool → Option ℕ → Type 0
NamesSoFar callable f true number = option_map callable number ≡ f
NamesSoFar callable f false number = number ≡ None

pub record ShowsSoFar (on : ℕ → Bool) (callable : ℕ → Callable) (r : Read) (held : Bool) (all : VariantReads) : Type 0 where
  pub outcome : Shows plain_operand_type reason on held r.outcome all.outcomes
  pub callee : NamesSoFar callable r.callee held (first (seen on (listed callee_number all.callees)))

-- the argument that is there, if one is
abbrev pub ArgumentSoFar : (ℕ → Bool) → List Read → Bool → Guarded (Outcomes OperandType Refused) → Type 0
ArgumentSoFar on [] held argument = value on (condition_of argument.when) ≡ false
ArgumentSoFar on (r ∷ rest) held argument = (value on (condition_of argument.when) ≡ held) × Shows plain_operand_type reason on held r.outcome argument.what
