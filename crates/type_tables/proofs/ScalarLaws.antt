-- An object has as many scalars in tables that follow a scope as it has there.
use Rattle.std.proofs.Common.{◌≡◌, ◌*◌, refl, sym, ap, ◌∙◌}
use Rattle.std.specs.Prelude.{nat_le}
use Rattle.c_types.specs.Types.{PlainType, void, char, unsigned_char, int, unsigned_int, long, unsigned_long, pointer_to, array_of, structure}
use Rattle.core_meaning.specs.Entities.{Scope}
use Rattle.core_meaning.specs.Constancy as spec
use Rattle.operand_types.specs.OperandTypes.{renumbered}
use Rattle.type_tables.specs.Tables.{Tables, scalars_in, is_small}
use Rattle.type_tables.specs.Follows.{IsThere, Follows}

module _ (t : Tables) (scope : Scope) (f : Follows t scope) where
  pub scalars_same : (ty : PlainType) → IsThere scope.structs ty → scalars_in t (renumbered f.by ty) ≡ spec.scalars_in scope.structs ty
  scalars_same void there = refl
  scalars_same char there = refl
  scalars_same unsigned_char there = refl
  scalars_same int there = refl
  scalars_same unsigned_int there = refl
  scalars_same long there = refl
  scalars_same unsigned_long there = refl
  scalars_same (pointer_to ty) there = refl
  scalars_same (array_of ty count) there = ap (λ n. spec.capped (count * n)) (scalars_same ty there)
  scalars_same (structure n) there = let found = there n refl in (f.structs n found.0 found.1).scalars ∙ sym (ap spec.scalars_of found.1)

  pub small_same : (ty : PlainType) → IsThere scope.structs ty → is_small t (renumbered f.by ty) ≡ spec.is_small scope.structs ty
  small_same ty there = ap (λ n. nat_le n spec.most_scalars) (scalars_same ty there)
