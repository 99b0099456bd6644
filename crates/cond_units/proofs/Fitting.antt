-- An object may be of a type by the tables exactly where it may be in the scope that they follow.
use Rattle.std.proofs.Common.{◌≡◌, ℕ, Bool, true, false, not, refl, sym, ap, ap₂, ◌∙◌}
use Rattle.std.specs.Prelude.{◌&&◌, ◌||◌, Option, if◌then◌else◌}
use Rattle.c_types.specs.Types.{PlainType, void, char, unsigned_char, int, unsigned_int, long, unsigned_long, pointer_to, array_of, structure}
use Rattle.c_tree.specs.Trees.{PlainTrees}
use Rattle.core_meaning.specs.Entities.{Struct, Scope}
use Rattle.core_meaning.specs.Expressions.{is_void}
use Rattle.core_meaning.specs.Typing.{is_complete}
use Rattle.core_meaning.specs.UnitNames as spec
use Rattle.core_meaning.specs.UnitNames.{Storage, by_static, by_extern, by_none, is_completed_in, struct_is_completed}
use Rattle.operand_types.specs.OperandTypes.{renumbered}
use Rattle.type_tables.specs.Tables.{Tables}
use Rattle.type_tables.specs.Follows.{IsThere, Follows}
use Rattle.type_tables.proofs.ScalarLaws.{small_same}
use Rattle.cond_declarators.proofs.DeclaratorTypes.{complete_followed}
use Rattle.cond_units.specs.Definitions.{is_completed_later, may_be_incomplete, is_unfit}
use Rattle.cond_units.proofs.Judging.{is_unfit_in}

void_same : (by : ℕ → ℕ) (ty : PlainType) → is_void (renumbered by ty) ≡ is_void ty
void_same by void = refl
void_same by char = refl
void_same by unsigned_char = refl
void_same by int = refl
void_same by unsigned_int = refl
void_same by long = refl
void_same by unsigned_long = refl
void_same by (pointer_to ty) = refl
void_same by (array_of ty count) = refl
void_same by (structure n) = refl

module _ (t : Tables) (scope : Scope) (f : Follows t scope) (rest : PlainTrees) where
  later_same : (ty : PlainType) → IsThere scope.structs ty → is_completed_later t (renumbered f.by ty) rest ≡ spec.is_completed_later scope.structs ty rest
  later_same void there = refl
  later_same char there = refl
  later_same unsigned_char there = refl
  later_same int there = refl
  later_same unsigned_int there = refl
  later_same long there = refl
  later_same unsigned_long there = refl
  later_same (pointer_to ty) there = refl
  later_same (array_of ty count) there = refl
  later_same (structure n) there =
      let found = there n refl in
      ap (λ tag. is_completed_in tag rest) (f.structs n found.0 found.1).named ∙ sym (ap (λ (o : Option Struct). struct_is_completed o rest) found.1)

  may_same : (storage : Storage) (initialised : Bool) (ty : PlainType) → IsThere scope.structs ty
      → may_be_incomplete t storage initialised (renumbered f.by ty) rest ≡ spec.may_be_incomplete storage initialised scope.structs ty rest
  may_same by_static true ty there = refl
  may_same by_static false ty there = refl
  may_same by_extern true ty there = refl
  may_same by_extern false ty there = ap not (void_same f.by ty)
  may_same by_none true ty there = refl
  may_same by_none false ty there = later_same ty there

  pub unfit_same : (storage : Storage) (initialised : Bool) (ty : PlainType) → IsThere scope.structs ty
      → is_unfit t storage initialised (renumbered f.by ty) rest ≡ is_unfit_in storage initialised scope.structs ty rest
  unfit_same storage initialised ty there =
      ap (λ b. if b then not (Rattle.type_tables.specs.Tables.is_small t (renumbered f.by ty)) else not (may_be_incomplete t storage initialised (renumbered f.by ty) rest)) (complete_followed t scope f ty there)
      ∙ ap₂ (λ (s m : Bool). if is_complete scope.structs ty then not s else not m) (small_same t scope f ty there) (may_same storage initialised ty there)

  -- a struct that such a type is is declared
  pub is_declared : (ty : PlainType) → IsThere scope.structs ty → (number : ℕ) → renumbered f.by ty ≡ structure number → t.declared number ≡ true
  is_declared void there number e = absurd cc
  is_declared char there number e = absurd cc
  is_declared unsigned_char there number e = absurd cc
  is_declared int there number e = absurd cc
  is_declared unsigned_int there number e = absurd cc
  is_declared long there number e = absurd cc
  is_declared unsigned_long there number e = absurd cc
  is_declared (pointer_to ty) there number e = absurd cc
  is_declared (array_of ty count) there number e = absurd cc
  is_declared (structure n) there number e = let found = there n refl in ap t.declared (sym (number_of e)) ∙ (f.structs n found.0 found.1).declared
    where
      number_of : structure (f.by n) ≡ structure number → f.by n ≡ number
      number_of e = cc

-- one or the other is the matter
pub matters : (complete small may : Bool) → ((complete && not small) || not (complete || may)) ≡ (if complete then not small else not may)
matters true true may = refl
matters true false may = refl
matters false small may = refl
