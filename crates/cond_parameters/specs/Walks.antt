-- What a configuration sees of parameters that are declared one after the other.
use Rattle.std.specs.Prelude.{◌≡◌, ℕ, Bool, true, false, List, [], ◌∷◌, ◌++◌, Option, Some, None}
use Rattle.cond_formula.specs.Conditions.{condition_of, value}
use Rattle.conditional.specs.Entries.{seen, listed}
use Rattle.conditional.specs.Judgements.{Checked, fine, refused}
use Rattle.c_text.specs.Token.{PlainToken}
use Rattle.c_types.specs.Types.{PlainType}
use Rattle.c_tree.specs.Trees.{PlainTree}
use Rattle.core_meaning.specs.Entities.{Scope}
use Rattle.core_meaning.specs.Declarations.{Parameter, one_parameter}
use Rattle.operand_types.specs.OperandTypes.{outcome_as}
use Rattle.type_tables.specs.Forms.{declared_type_form}
use Rattle.type_tables.specs.Seen.{seen_tables}
use Rattle.type_tables.specs.Steps.{with_local}
use Rattle.type_tables.specs.Tables as plain
use Rattle.type_tables.specs.declared.tables.Tables.{Tables}
use Rattle.type_tables.specs.Follows.{FollowsInBlock}
use Rattle.cond_parameters.specs.Parameters.{Declares}
use Rattle.cond_parameters.specs.Readings.{Reading}
use Rattle.cond_parameters.specs.Types.{renumbered_parameter, HaveNames}
use Rattle.cond_parameters.specs.declared.walks.DeclaredParameters.{DeclaredParameters}

-- the types of parameters so far, whether one is refused, and the tables behind them
pub record State : Type 0 where
  pub types : List PlainType
  pub refused : Bool
  pub tables : plain.Tables

abbrev pub state_of : (ℕ → Bool) → DeclaredParameters → Tables → State
state_of on all tables =
    record { types = seen on (listed declared_type_form all.types); refused = value on (condition_of all.refused); tables = seen_tables on tables }

-- tables with a local, if it has a name
abbrev pub with_named : Option PlainToken → PlainType → plain.Tables → plain.Tables
with_named None ty t = t
with_named (Some name) ty t = with_local name.text ty t

-- a parameter or a refusal is added where a condition is true
abbrev pub added : Bool → Checked Parameter (Unit {0}) → State → State
added false found s = s
added true (fine p) s = record s { types = s.types ++ p.ty ∷ []; tables = with_named p.name p.ty s.tables }
added true (refused why) s = record s { refused = true }

-- a parameter that isn't the lone `void` is added where a condition is true, by what comes of it behind others
pub record Adds (defining here is_void : Bool) (tree : PlainTree) (old new : State) : Type 0 where
  pub elsewhere : here ≡ false → new ≡ old
  pub keeps : old.refused ≡ true → new.refused ≡ true
  pub void_adds : is_void ≡ true → new ≡ old
  pub adds : here ≡ true → is_void ≡ false → (scope : Scope) (f : FollowsInBlock old.tables scope) (before : List Parameter) (behind : PlainToken) → HaveNames scope before
      → new ≡ added true (outcome_as (renumbered_parameter f.follows.by) (one_parameter defining scope before tree behind)) old

-- what has stood, and the state, are those of a reading
pub record IsStateOf (by : ℕ → ℕ) (scope : Scope) (r : Reading) (some void : Bool) (s : State) : Type 0 where
  pub some_is : some ≡ r.some
  pub void_is : void ≡ r.void
  pub declares : Declares by scope r.parameters s.types s.refused s.tables
