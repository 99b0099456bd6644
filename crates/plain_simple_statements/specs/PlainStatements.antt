-- Core statements, without pointers.
use Rattle.std.specs.Prelude.{Box}
use Rattle.std.specs.declared.alloc.Global.{Global}
use Rattle.core_meaning.specs.declared.statements.Statement.{Statement}
use Rattle.core_meaning.specs.Program.{PlainStatement}
use Rattle.core_meaning.specs.Plain.{plain_statement}

abbrev pub boxed_statement : Box Statement Global → PlainStatement
boxed_statement s = plain_statement s.value
