-- Where a declarator stands, without the code's type.
use Rattle.scope_readings.specs.Scopes.{Scope as PlainScope, file_scope, block_scope, members}
use Rattle.cond_bindings.specs.declared.occurrences.Scope.{Scope}
use Rattle.cond_bindings.specs.declared.occurrences.Scope.TheVariants.{File, Block, Members}

abbrev pub plain_scope : Scope → PlainScope
plain_scope File = file_scope
plain_scope Block = block_scope
plain_scope Members = members
