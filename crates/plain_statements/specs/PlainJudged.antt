-- What statements give, without pointers and room in memory.
use Rattle.std.specs.Prelude.{Box, List, map}
use Rattle.std.specs.declared.alloc.Global.{Global}
use Rattle.c_types.specs.Types.{plain_type}
use Rattle.c_types.specs.declared.types.CType.{CType}
use Rattle.core_meaning.specs.declared.statements.Item.{Item}
use Rattle.core_meaning.specs.declared.statements.Statement.{Statement}
use Rattle.core_meaning.specs.Plain.{plain_expression, plain_item, plain_items}
use Rattle.core_meaning.specs.Statements.{Judged, JudgedItems, judged_as, items_as}
use Rattle.plain_scope.specs.declared.entities.Scope.{Scope}
use Rattle.plain_scope.specs.PlainScope.{plain_scope}
use Rattle.plain_simple_statements.specs.Blocks.{put}
use Rattle.plain_simple_statements.specs.PlainStatements.{boxed_statement}
use Rattle.plain_statements.specs.Steps.{Begun, JudgedItem}
use Rattle.plain_simple_statements.specs.declared.cores.Begun as code

-- a statement, with the slots so far
abbrev pub plain_judged : List CType → Box Statement Global → Judged
plain_judged slots core = judged_as (map plain_type slots) (boxed_statement core)

abbrev pub plain_judged_items : List CType → List Item → JudgedItems
plain_judged_items slots items = items_as (map plain_type slots) (plain_items items)

-- items, with what is visible behind them and the slots so far
abbrev pub plain_item_of : Scope → List CType → List Item → JudgedItem
plain_item_of scope slots items = record { scope = plain_scope scope; slots = map plain_type slots; puts = put (map plain_item items) }

abbrev pub plain_begun : List CType → code.Begun → Begun
plain_begun slots x = record { condition = plain_expression x.condition.value; core = boxed_statement x.core; slots = map plain_type slots }
