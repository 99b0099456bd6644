-- Steps in judging statements.
use Rattle.std.specs.Prelude.{true, false, List, Option, Some, None}
use Rattle.c_text.specs.Token.{PlainToken}
use Rattle.c_types.specs.Types.{PlainType}
use Rattle.c_tree.specs.declared.kinds.Kind.TheVariants as k
use Rattle.c_tree.specs.Trees.{PlainTree, PlainTrees, node, none, more}
use Rattle.core_meaning.specs.Program.{PlainExpression, PlainStatement, block, selection, PlainItems, no_item, statement_item}
use Rattle.core_meaning.specs.Checking.{Checked, broken, ◌>>=◌, give}
use Rattle.core_meaning.specs.Entities.{Scope}
use Rattle.core_meaning.specs.Expressions.{judged_condition}
use Rattle.core_meaning.specs.Declarations.{judged_locals}
use Rattle.plain_scope.specs.Blocks.{with_block, without_block}
use Rattle.core_meaning.specs.Statements.{Around, Judged, JudgedItems, judged_as, items_as, in_block, within_loop, before_items, one_item, nothing_to_do, discarded, condition_or_true, expression_statement, loop_of, judged_statement, judged_else, judged_items}

-- a statement that takes no slots
abbrev pub keeping : List PlainType → Checked PlainStatement → Checked Judged
keeping slots c = do
  core ← c
  give (judged_as slots core)

-- ---- blocks

abbrev pub block_of : Around → List PlainType → PlainTree → Checked Judged
block_of around slots (node k.Items items) = do
  inner ← judged_items (in_block around) slots items
  give (judged_as inner.slots (block inner.core))
block_of around slots (node k.Absent items) = give (judged_as slots (block no_item))
block_of around slots tree = broken

-- ---- selections

-- a selection up to its `else`
pub record Begun : Type 0 where
  pub condition : PlainExpression
  pub core : PlainStatement
  pub slots : List PlainType

abbrev pub begun_if : Around → List PlainType → PlainTree → PlainToken → PlainTree → Checked Begun
begun_if around slots condition close first = do
  c ← judged_condition around.scope condition close
  a ← judged_statement around slots first
  give (record { condition = c; core = a.core; slots = a.slots })

abbrev pub with_else : Around → PlainTree → Begun → Checked Judged
with_else around second begun = do
  b ← judged_else around begun.slots second
  give (judged_as b.slots (selection begun.condition begun.core b.core))

abbrev pub branches_of : Around → List PlainType → PlainTree → PlainToken → PlainTree → PlainTree → Checked Judged
branches_of around slots condition close first second = do
  begun ← begun_if around slots condition close first
  with_else around second begun

-- ---- loops

abbrev pub while_of : Around → List PlainType → PlainTree → PlainToken → PlainTree → Checked Judged
while_of around slots condition close body = do
  c ← judged_condition around.scope condition close
  s ← judged_statement (within_loop around) slots body
  give (loop_of true c nothing_to_do s)

abbrev pub do_of : Around → List PlainType → PlainTree → PlainToken → PlainTree → Checked Judged
do_of around slots condition close body = do
  s ← judged_statement (within_loop around) slots body
  c ← judged_condition around.scope condition close
  give (loop_of false c nothing_to_do s)

-- the turns of a `for`
abbrev pub for_of : Around → List PlainType → PlainTree → PlainToken → PlainTree → PlainTree → Checked Judged
for_of around slots condition end step body = do
  c ← condition_or_true around.scope condition end
  s ← discarded around.scope step nothing_to_do
  b ← judged_statement (within_loop around) slots body
  give (loop_of true c s b)

-- ---- items

-- an item of a block: what is visible behind it, the slots so far, and what it puts before those that follow
pub record JudgedItem : Type 0 where
  pub scope : Scope
  pub slots : List PlainType
  pub puts : PlainItems → PlainItems

-- the parts of a declaration
abbrev pub declaration_in : PlainTree → Option PlainTrees
declaration_in (node k.LocalDeclaration parts) = Some parts
declaration_in other = None

abbrev pub locals_item : Scope → List PlainType → PlainTrees → Checked JudgedItem
locals_item scope slots parts = do
  locals ← judged_locals scope slots parts
  give (record { scope = locals.scope; slots = locals.slots; puts = before_items locals.items })

abbrev pub single_item : Around → List PlainType → PlainTree → Checked JudgedItem
single_item around slots tree = do
  first ← judged_statement around slots tree
  give (record { scope = around.scope; slots = first.slots; puts = statement_item first.core })

abbrev pub item_by : Around → List PlainType → PlainTree → Option PlainTrees → Checked JudgedItem
item_by around slots tree (Some parts) = locals_item around.scope slots parts
item_by around slots tree None = single_item around slots tree

abbrev pub item_of : Around → List PlainType → PlainTree → Checked JudgedItem
item_of around slots tree = item_by around slots tree (declaration_in tree)

abbrev pub with_item : JudgedItem → JudgedItems → JudgedItems
with_item item others = items_as others.slots (item.puts others.core)

-- ---- what a `for` begins with

-- an expression, as what it puts before the turns
abbrev pub evaluated_item : Scope → PlainTree → Checked (PlainItems → PlainItems)
evaluated_item scope tree = do
  core ← expression_statement scope tree
  give (statement_item core)

abbrev pub started_item : Scope → PlainTree → Checked (PlainItems → PlainItems)
started_item scope (node k.ForStart (more first (more semicolon none))) = evaluated_item scope first
started_item scope other = broken

abbrev pub begun_by : Scope → List PlainType → PlainTree → Option PlainTrees → Checked JudgedItem
begun_by scope slots start (Some parts) = locals_item (with_block scope) slots parts
begun_by scope slots start None = do
  puts ← started_item scope start
  give (record { scope = scope; slots = slots; puts = puts })

-- a declaration stands in a block around the turns
abbrev pub begun_for : Scope → List PlainType → PlainTree → Checked JudgedItem
begun_for scope slots start = begun_by scope slots start (declaration_in start)

-- what is visible behind the turns
abbrev pub behind_for : Option PlainTrees → Scope → Scope
behind_for (Some parts) scope = without_block scope
behind_for None scope = scope

-- a `for` as the block of what it begins with and its turns
abbrev pub begun_block : (PlainItems → PlainItems) → Judged → Judged
begun_block begin turns = judged_as turns.slots (block (begin (one_item turns.core)))

abbrev pub turns_behind : Around → PlainTree → PlainToken → PlainTree → PlainTree → JudgedItem → Checked Judged
turns_behind around condition end step body begun = do
  turns ← for_of (record around { scope = begun.scope }) begun.slots condition end step body
  give (begun_block begun.puts turns)

abbrev pub for_by : Around → List PlainType → PlainTree → PlainTree → PlainToken → PlainTree → PlainTree → Checked Judged
for_by around slots start condition end step body = do
  begun ← begun_for around.scope slots start
  turns_behind around condition end step body begun
