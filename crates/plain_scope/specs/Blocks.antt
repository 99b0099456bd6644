-- Scopes at the begin and the end of a block.
use Rattle.std.specs.Prelude.{List, [], ◌∷◌}
use Rattle.core_meaning.specs.Entities.{Table, no_entry, Local, Scope}

abbrev pub with_block : Scope → Scope
with_block scope = record scope { blocks = no_entry ∷ scope.blocks }

-- what is visible in a block
abbrev pub within : Table Local → Scope → Scope
within block scope = record scope { blocks = block ∷ scope.blocks }

-- the blocks around the innermost one
abbrev pub outer : List (Table Local) → List (Table Local)
outer [] = []
outer (innermost ∷ others) = others

-- what is visible around the innermost block
abbrev pub without_block : Scope → Scope
without_block scope = record scope { blocks = outer scope.blocks }
