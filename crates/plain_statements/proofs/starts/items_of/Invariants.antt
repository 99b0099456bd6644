use Rattle.std.proofs.Common.{◌≡◌, map}
use Rattle.core_meaning.specs.Plain.{plain_item}
use Rattle.plain_declarations.specs.PlainLocals.{plain_local_item}
use Rattle.plain_simple_statements.specs.Blocks.{placed}
use Rattle.plain_statements.proofs.starts.items_of.Given as goal

abbrev pub invariant-loop-local : goal.invariant-loop-local
invariant-loop-local l = map plain_item l.items.items ≡ map placed (map plain_local_item l.yielded)
