-- A list of which some items are read.
use Rattle.std.specs.Prelude.{ℕ, List, map, Option, Vec}
use Rattle.std.specs.Option.{option_map}
use Rattle.std.specs.declared.alloc.Global.{Global}
use Rattle.c_text.specs.Macros as spec
use Rattle.c_text.specs.Macros.{Deeper, Replaced, fine, bad_call, before, outside, inside}
use Rattle.plain_macros.specs.PlainItems.{plain_item, item_token}
use Rattle.plain_macros.specs.PlainCalls.{plain_call}
use Rattle.plain_macros.specs.declared.items.Item.{Item}
use Rattle.plain_macros.specs.declared.runs.Run.{Run}
use Rattle.plain_macros.specs.declared.runs.Run.TheVariants.{Outside, Inside, Refused}
use Rattle.plain_macros.specs.declared.runs.Finished.{Finished}
use Rattle.plain_macros.specs.declared.runs.Finished.TheVariants.{Fine, BadCall}

abbrev pub plain_finished : Finished → Replaced
plain_finished (Fine items) = fine (map plain_item items.items)
plain_finished (BadCall name) = bad_call (item_token name)

-- what the list becomes, whose items so far gave this and whose others are these
abbrev pub reading : spec.Table → Deeper → List (List ℕ) → Run → List spec.Item → Replaced
reading table deeper active (Outside done) rest = before (map plain_item done.items) (outside table deeper active rest)
reading table deeper active (Inside done call) rest = before (map plain_item done.items) (inside table deeper active (plain_call call) rest)
reading table deeper active (Refused name) rest = bad_call (item_token name)

abbrev pub items_of : Option (Vec Item Global) → Option (List spec.Item)
items_of found = option_map (λ items. map plain_item items.items) found
