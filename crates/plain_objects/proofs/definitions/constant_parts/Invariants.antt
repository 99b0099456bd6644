use Rattle.std.proofs.Common.{◌≡◌, ℕ, map}
use Rattle.std.specs.Prelude.{Some}
use Rattle.core_meaning.specs.Plain.{plain_constant_part}
use Rattle.core_meaning.specs.UnitNames as spec
use Rattle.plain_declarations.specs.PlainDeclared.{plain_initial}
use Rattle.plain_objects.proofs.definitions.constant_parts.Given as goal

abbrev pub invariant-loop-initial : goal.invariant-loop-initial
invariant-loop-initial l = (globals : ℕ) → spec.constant_parts globals (map plain_initial l.yielded) ≡ Some (map (plain_constant_part globals) l.parts.items)
