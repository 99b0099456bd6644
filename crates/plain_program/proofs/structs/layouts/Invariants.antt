use Rattle.std.proofs.Common.{◌≡◌, map, take}
use Rattle.core_meaning.specs.Plain.{plain_layout}
use Rattle.plain_scope.specs.PlainScope.{plain_struct}
use Rattle.plain_program.proofs.structs.layouts.Given as goal

abbrev pub invariant-loop-structure : goal.invariant-loop-structure
invariant-loop-structure l = map plain_layout l.all.items ≡ map (λ s. map (λ m. m.ty) s.members) (map plain_struct (take l.structure-index l.structs))
