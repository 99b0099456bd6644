-- What is outside a block.
use Rattle.std.specs.Prelude.{◌≡◌, List, ◌++◌, length}
use Rattle.type_tables.specs.declared.entries.LocalName.{LocalName}
use Rattle.type_tables.specs.declared.tables.Tables.{Tables}
use Rattle.type_tables.specs.declared.blocks.Outside.{Outside}

-- this was there where the block began
pub record IsOutside (before : Tables) (o : Outside) : Type 0 where
  pub locals : o.locals ≡ length before.locals.items
  pub depth : o.depth ≡ before.depth

-- what was visible is still there, before what blocks have declared since
pub record KeepsOutside (before now : Tables) : Type 0 where
  pub since : List LocalName
  pub locals : now.locals.items ≡ before.locals.items ++ since

-- nothing but locals has changed, and what was there before a block is still there
pub record OnlyLocals (old new : Tables) : Type 0 where
  pub same : new ≡ record old { locals = new.locals }
  pub outside : (before : Tables) → KeepsOutside before old → KeepsOutside before new
