-- What units are by their types with the names that they use, as a configuration sees it (ISO/IEC 9899:2011, 6.2.2, 6.9).
use Rattle.std.specs.Prelude.{◌≡◌, ℕ, Bool, true, false}
use Rattle.cond_formula.specs.Conditions.{condition_of, value}
use Rattle.core_meaning.specs.Checking.{Checked, fine}
use Rattle.core_meaning.specs.Linking.{Units}
use Rattle.type_tables.specs.Seen.{seen_tables}
use Rattle.link_faults.specs.SeenUnits.{LeaveAlike}
use Rattle.link_faults.specs.Faulty.{StructsFollow}
use Rattle.cond_types.specs.declared.typing.CondTypes.{CondTypes}

-- The units that are present leave what these do, and each struct is one of the tables', by its number.
pub record IsLinkable (on : ℕ → Bool) (linked : Units) (t : CondTypes) : Type 0 where
  pub by : ℕ → ℕ
  pub leave : LeaveAlike on t.tables by linked t.units.items
  pub structs : StructsFollow by (seen_tables on t.tables) linked.structs

-- what units are is what is seen of those that are present; or they are refused
abbrev pub IsTypedAs : (ℕ → Bool) → Checked Units → CondTypes → Type 0
IsTypedAs on (fine linked bindings) t = (value on (condition_of t.refused) ≡ false) × IsLinkable on linked t
IsTypedAs on other t = value on (condition_of t.refused) ≡ true
