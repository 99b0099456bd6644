-- What comes of the declarations of locals (ISO/IEC 9899:2011, 6.2.1, 6.7, 6.8).
use Rattle.std.specs.Prelude.{◌≡◌, ℕ, Bool, true, false}
use Rattle.core_meaning.specs.Checking.{Checked, fine}
use Rattle.core_meaning.specs.Declarations.{Locals}
use Rattle.type_tables.specs.Tables as plain
use Rattle.type_tables.specs.Numbers.{FollowsInBlockBy}

-- what the judgement of a declaration gives is in the tables, or it is refused
abbrev pub Declared : (ℕ → ℕ) → Checked Locals → Bool → plain.Tables → Type 0
Declared by (fine locals bindings) refused t = (refused ≡ false) × FollowsInBlockBy by t locals.scope
Declared by other refused t = refused ≡ true
