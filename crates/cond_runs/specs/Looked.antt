-- How items are compared.
use Rattle.std.specs.Prelude.{Bool, true, false, List, Option, None}
use Rattle.c_text.specs.Macros as spec
use Rattle.cond_bodies.specs.Cores.{core}

-- an item as it is, or but for what calls further out change of it
abbrev pub looked : Bool → spec.Item → spec.Item
looked true item = item
looked false item = core item

-- nothing where it is refused
abbrev pub unless : Bool → Option (List spec.Item) → Option (List spec.Item)
unless true items = None
unless false items = items
