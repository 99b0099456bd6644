-- What comes of declaring a name at file scope (ISO/IEC 9899:2011, 6.2.2, 6.7).
use Rattle.std.specs.Prelude.{◌≡◌, ℕ, Bool, true, false}
use Rattle.core_meaning.specs.Checking.{Checked, fine}
use Rattle.core_meaning.specs.Entities.{Scope}
use Rattle.type_tables.specs.Tables.{Tables}
use Rattle.type_tables.specs.Numbers.{FollowsBy}

-- the tables follow what is visible behind the declaration, or it is refused
abbrev pub Named : (ℕ → ℕ) → Checked Scope → Bool → Tables → Type 0
Named by (fine scope bindings) refused t = (refused ≡ false) × FollowsBy by t scope
Named by other refused t = refused ≡ true
