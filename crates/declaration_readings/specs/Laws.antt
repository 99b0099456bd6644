-- That declarators are judged so; the laws are contracts of functions of this crate.
use Rattle.std.specs.Prelude.{ℕ}
use Rattle.c_types.specs.Types.{PlainType}
use Rattle.c_tree.specs.Trees.{PlainTrees}
use Rattle.c_tree.specs.Grammar.{Role, member_of}
use Rattle.tree_derivations.specs.Derivations.{Declared}
use Rattle.core_meaning.specs.Entities.{Scope}
use Rattle.core_meaning.specs.UnitNames.{Storage, UnitState, declared_from, Members, members_from}
use Rattle.declaration_readings.specs.Readings.{Going, after, goes_through, IsSame, Slots, next_local, all_locals, next_member, next_name}

-- the locals of a list of declarators
abbrev pub LocalsAreRead : Type 0
LocalsAreRead =
    (ty : PlainType) (g : Going Slots) (role : Role) (list : PlainTrees) → Declared role list
    → IsSame (goes_through (next_local ty) g list) (after g (all_locals ty g.state list))

-- the members of a declaration in a struct, of which none has an initialiser
abbrev pub MembersAreRead : Type 0
MembersAreRead =
    (scope : Scope) (number : ℕ) (ty : PlainType) (g : Going Members) (list : PlainTrees) → Declared member_of list
    → IsSame (goes_through (next_member scope number ty) g list) (after g (members_from scope number g.state ty list))

-- the names of a declaration at file scope
abbrev pub NamesAreRead : Type 0
NamesAreRead =
    (globals : ℕ) (storage : Storage) (ty : PlainType) (behind : PlainTrees) (g : Going UnitState) (role : Role) (list : PlainTrees) → Declared role list
    → IsSame (goes_through (next_name globals storage ty behind) g list) (after g (declared_from globals g.state storage ty list behind))
