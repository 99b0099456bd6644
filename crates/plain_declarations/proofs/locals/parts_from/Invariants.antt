use Rattle.std.proofs.Common.{◌≡◌, map}
use Rattle.core_meaning.specs.Plain.{plain_part}
use Rattle.core_meaning.specs.Declarations as spec
use Rattle.plain_declarations.specs.PlainDeclared.{plain_initial}
use Rattle.plain_declarations.proofs.locals.parts_from.Given as goal

abbrev pub invariant-loop-initial : goal.invariant-loop-initial
invariant-loop-initial l = map plain_part l.parts.items ≡ map spec.plain_part (map plain_initial l.yielded)
