-- A type by words, without pointers and room in memory.
use Rattle.c_types.specs.Types.{plain_type}
use Rattle.c_types.specs.declared.types.CType.{CType}
use Rattle.core_meaning.specs.Declarations as spec
use Rattle.plain_scope.specs.declared.entities.Scope.{Scope}
use Rattle.plain_scope.specs.PlainScope.{plain_scope}

-- a type by words, with what is visible behind them
abbrev pub plain_based : Scope → CType → spec.Based
plain_based scope ty = record { ty = plain_type ty; scope = plain_scope scope }
