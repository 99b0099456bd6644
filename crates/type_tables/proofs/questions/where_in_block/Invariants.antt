use Rattle.std.proofs.Common.{◌≡◌, ℕ, Bool, reverse}
use Rattle.std.specs.Prelude.{take}
use Rattle.cond_formula.specs.Conditions.{condition_of, value}
use Rattle.type_tables.specs.Tables.{local_named, is_in_block}
use Rattle.type_tables.specs.Seen.{locals_in}
use Rattle.type_tables.proofs.questions.where_in_block.Given as goal

abbrev pub invariant-loop-local : goal.invariant-loop-local
invariant-loop-local l = (on : ℕ → Bool) → value on (condition_of l.found) ≡ is_in_block l.depth (local_named (locals_in on (reverse (take l.local-index l.locals))) l.name)
