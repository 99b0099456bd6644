-- What a node does with an expression among its parts, as the code has it.
use Rattle.std.specs.Prelude.{Bool, true, false}
use Rattle.c_tree.specs.declared.kinds.Kind.{Kind}
use Rattle.c_tree.specs.declared.kinds.Kind.TheVariants as k
use Rattle.statement_readings.specs.Walks.{Use, condition, discarded, returned}
use Rattle.cond_statements.specs.declared.uses.Use as code
use Rattle.cond_statements.specs.declared.uses.Use.TheVariants.{Condition, Discarded, Returned}

abbrev pub use_of : code.Use → Use
use_of Condition = condition
use_of Discarded = discarded
use_of Returned = returned

-- a `;` among the parts turns what an expression is
abbrev pub may_turn : Kind → Bool
may_turn k.For = true
may_turn kind = false
