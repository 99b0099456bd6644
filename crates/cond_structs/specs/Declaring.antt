-- The declarators of a declaration of members, one after the other (ISO/IEC 9899:2011, 6.7.2.1).
use Rattle.std.specs.Prelude.{◌≡◌, ℕ, Bool, true, false, if◌then◌else◌}
use Rattle.cond_formula.specs.Conditions.{condition_of, value}
use Rattle.c_types.specs.Types.{PlainType}
use Rattle.c_tree.specs.Trees.{PlainTree}
use Rattle.conditional.specs.Judgements.{fine}
use Rattle.core_meaning.specs.Entities.{Scope}
use Rattle.core_meaning.specs.UnitNames.{Members, one_member}
use Rattle.declarator_lists.specs.Lists.{Declared}
use Rattle.declaration_readings.specs.Readings.{Going, after}
use Rattle.operand_types.specs.OperandTypes.{renumbered}
use Rattle.conditional.specs.declared.outcomes.Outcomes.{Outcomes}
use Rattle.operand_rules.specs.declared.operands.Refused.{Refused}
use Rattle.type_tables.specs.declared.entries.DeclaredType.{DeclaredType}
use Rattle.type_tables.specs.Tables.{Tables}
use Rattle.type_tables.specs.Seen.{seen_tables}
use Rattle.type_tables.specs.Follows.{IsThere, Follows}
use Rattle.cond_declarators.specs.Types.{ShowsType}
use Rattle.cond_structs.specs.Gathered.{gathered}
use Rattle.cond_structs.specs.Standing.{GathersSoFar}
use Rattle.cond_structs.specs.declared.declaring.Declaration.{Declaration}

-- in one configuration: what is visible, the struct's number, the type before the declarators, the numbers of structs in all configurations, whether
-- the declaration is there, and the members so far
pub record Declaring : Type 0 where
  pub scope : Scope
  pub number : ℕ
  pub ty : PlainType
  pub by : ℕ → ℕ
  pub here : Bool
  pub known : Going Members

abbrev pub next_tree : Declaring → PlainTree → Declaring
next_tree m tree = record {
  scope = m.scope;
  number = m.number;
  ty = m.ty;
  by = m.by;
  here = m.here;
  known = if m.here then after m.known (one_member m.scope m.number m.known.state m.ty tree) else m.known;
}

abbrev pub next_declarator : Declaring → Declared → Declaring
next_declarator m d = next_tree m d.declarator

-- the type before the declarators is known
pub record IsBefore (on : ℕ → Bool) (t : Tables) (base : Outcomes DeclaredType Refused) (m : Declaring) : Type 0 where
  pub follows : Follows t m.scope
  pub numbers : follows.by ≡ m.by
  pub shows : ShowsType on (fine (renumbered m.by m.ty)) base
  pub there : IsThere m.scope.structs m.ty

pub record IsDeclaring (on : ℕ → Bool) (d : Declaration) (m : Declaring) : Type 0 where
  pub here_is : value on (condition_of d.here) ≡ m.here
  pub so_far : GathersSoFar m.by m.scope.structs (gathered on d.all) m.known
  pub before : m.here ≡ true → m.known.refused ≡ false → IsBefore on (seen_tables on d.tables.now) d.base.now m
