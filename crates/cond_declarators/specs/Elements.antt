-- Numbers of elements and arrays with so many, as the code judges them.
use Rattle.std.specs.Prelude.{ℕ, nat_le, Option, Some, None, if◌then◌else◌}
use Rattle.c_types.specs.Types.{PlainType, array_of, structure}
use Rattle.core_meaning.specs.Constancy.{most_elements}
use Rattle.conditional.specs.Judgements.{Checked, fine, refused}

-- so many elements, at most as many as an array may have
abbrev pub within_limit : ℕ → Checked ℕ (Unit {0})
within_limit n = if nat_le n most_elements then fine n else refused tt

abbrev pub array_type : PlainType → ℕ → Checked PlainType (Unit {0})
array_type element n = fine (array_of element n)

-- the struct of a tag, if one is visible
abbrev pub struct_if_any : Option ℕ → Checked PlainType (Unit {0})
struct_if_any (Some n) = fine (structure n)
struct_if_any None = refused tt
