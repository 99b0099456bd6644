-- Statements and blocks (ISO/IEC 9899:2011, 6.8).
use Rattle.std.specs.Prelude.{Bool, true, false, not, pos, List, [], ◌∷◌, if◌then◌else◌}
use Rattle.std.specs.Str.{bytes_eq}
use Rattle.std.specs.Prelude.{codes}
use Rattle.c_text.specs.Token.{PlainToken}
use Rattle.c_types.specs.Types.{PlainType}
use Rattle.c_tree.specs.declared.kinds.Kind.TheVariants as k
use Rattle.c_tree.specs.Trees.{PlainTree, PlainTrees, leaf, node, none, more}
use Rattle.core_meaning.specs.declared.refusals.TypeKind.TheVariants.{Misplaced}
use Rattle.core_meaning.specs.Program.{PlainExpression, constant, PlainStatement, block, evaluate, selection, loop, break_loop, continue_loop, return_nothing, return_value, PlainItems, no_item, local, statement_item}
use Rattle.core_meaning.specs.Checking.{Checked, broken, ◌>>=◌, give, unless_so, found_or}
use Rattle.core_meaning.specs.Entities.{no_entry, Scope}
use Rattle.core_meaning.specs.Typing.{fits_into}
use Rattle.core_meaning.specs.Expressions.{valued, judged_condition, is_void, unused}
use Rattle.core_meaning.specs.Declarations.{LocalItem, judged_locals}

-- where a statement stands: what is visible, what its function's result is, and whether a loop is around it
pub record Around : Type 0 where
  pub scope : Scope
  pub result : PlainType
  pub in_loop : Bool

-- a statement of a core program, and the types of all slots up to its end
pub record Judged : Type 0 where
  pub core : PlainStatement
  pub slots : List PlainType

pub record JudgedItems : Type 0 where
  pub core : PlainItems
  pub slots : List PlainType

abbrev pub judged_as : List PlainType → PlainStatement → Judged
judged_as slots core = record { core = core; slots = slots }

abbrev pub items_as : List PlainType → PlainItems → JudgedItems
items_as slots core = record { core = core; slots = slots }

-- a block within what is around
abbrev pub in_block : Around → Around
in_block around = record around { scope = record around.scope { blocks = no_entry ∷ around.scope.blocks } }

abbrev pub within_loop : Around → Around
within_loop around = record around { in_loop = true }

abbrev pub before_items : List LocalItem → PlainItems → PlainItems
before_items [] rest = rest
before_items (l ∷ others) rest = local l.slot l.parts (before_items others rest)

abbrev pub one_item : PlainStatement → PlainItems
one_item core = statement_item core no_item

abbrev pub nothing_to_do : PlainExpression
nothing_to_do = constant (pos 0)

-- an expression whose value isn't used; where it is left out, this one stands for it
abbrev pub discarded : Scope → PlainTree → PlainExpression → Checked PlainExpression
discarded scope (node k.Absent parts) otherwise = give otherwise
discarded scope tree otherwise = do
  x ← valued scope tree
  give (unused x.core)

-- a condition that is left out holds
abbrev pub condition_or_true : Scope → PlainTree → PlainToken → Checked PlainExpression
condition_or_true scope (node k.Absent parts) behind = give (constant (pos 1))
condition_or_true scope tree behind = judged_condition scope tree behind

abbrev pub expression_statement : Scope → PlainTree → Checked PlainStatement
expression_statement scope (node k.Absent parts) = give (block no_item)
expression_statement scope tree = do
  x ← valued scope tree
  give (evaluate (unused x.core))

abbrev pub jump : Around → PlainToken → Checked PlainStatement
jump around word = do
  placed ← unless_so around.in_loop Misplaced word
  give (if bytes_eq word.text (codes "break") then break_loop else continue_loop)

-- a `return` has a value that fits the result of its function, or none where there is none (6.8.6.4)
abbrev pub returned : Around → PlainToken → PlainTree → Checked PlainStatement
returned around word (node k.Absent parts) = do
  placed ← unless_so (is_void around.result) Misplaced word
  give return_nothing
returned around word tree = do
  placed ← unless_so (not (is_void around.result)) Misplaced word
  x ← valued around.scope tree
  core ← found_or (fits_into around.result x) Misplaced word
  give (return_value core)

-- a loop whose step is evaluated behind each turn
abbrev pub loop_of : Bool → PlainExpression → PlainExpression → Judged → Judged
loop_of asks_first condition step body = judged_as body.slots (loop asks_first condition step body.core)

abbrev mutual
  -- What a statement is, where these slots are taken.
  pub judged_statement : Around → List PlainType → PlainTree → Checked Judged
  judged_statement around slots (node k.Block (more brace (more (node k.Items items) (more last none)))) = do
    inner ← judged_items (in_block around) slots items
    give (judged_as inner.slots (block inner.core))
  judged_statement around slots (node k.Block (more brace (more (node k.Absent items) (more last none)))) =
      give (judged_as slots (block no_item))
  judged_statement around slots (node k.ExpressionStatement (more tree (more end none))) = do
    core ← expression_statement around.scope tree
    give (judged_as slots core)
  judged_statement around slots (node k.If (more word (more bracket (more condition (more (leaf close) (more first (more second none))))))) = do
    c ← judged_condition around.scope condition close
    a ← judged_statement around slots first
    b ← judged_else around a.slots second
    give (judged_as b.slots (selection c a.core b.core))
  judged_statement around slots (node k.While (more word (more bracket (more condition (more (leaf close) (more body none)))))) = do
    c ← judged_condition around.scope condition close
    s ← judged_statement (within_loop around) slots body
    give (loop_of true c nothing_to_do s)
  judged_statement around slots (node k.Do (more word (more body (more again (more bracket (more condition (more (leaf close) (more end none)))))))) = do
    s ← judged_statement (within_loop around) slots body
    c ← judged_condition around.scope condition close
    give (loop_of false c nothing_to_do s)
  judged_statement around slots (node k.For (more word (more bracket (more (node k.LocalDeclaration parts) (more condition (more (leaf end) (more step (more close (more body none))))))))) = do
    locals ← judged_locals (in_block around).scope slots parts
    c ← condition_or_true locals.scope condition end
    s ← discarded locals.scope step nothing_to_do
    b ← judged_statement (within_loop (record around { scope = locals.scope })) locals.slots body
    give (judged_as b.slots (block (before_items locals.items (one_item (loop true c s b.core)))))
  judged_statement around slots (node k.For (more word (more bracket (more (node k.ForStart (more first (more semicolon none))) (more condition (more (leaf end) (more step (more close (more body none))))))))) = do
    start ← expression_statement around.scope first
    c ← condition_or_true around.scope condition end
    s ← discarded around.scope step nothing_to_do
    b ← judged_statement (within_loop around) slots body
    give (judged_as b.slots (block (statement_item start (one_item (loop true c s b.core)))))
  judged_statement around slots (node k.Jump (more (leaf word) (more end none))) = do
    core ← jump around word
    give (judged_as slots core)
  judged_statement around slots (node k.Return (more (leaf word) (more tree (more end none)))) = do
    core ← returned around word tree
    give (judged_as slots core)
  judged_statement around slots tree = broken

  pub judged_else : Around → List PlainType → PlainTree → Checked Judged
  judged_else around slots (node k.Else (more word (more tree none))) = judged_statement around slots tree
  judged_else around slots (node k.Absent parts) = give (judged_as slots (block no_item))
  judged_else around slots tree = broken

  -- the items of a block, one after the other
  pub judged_items : Around → List PlainType → PlainTrees → Checked JudgedItems
  judged_items around slots none = give (items_as slots no_item)
  judged_items around slots (more (node k.LocalDeclaration parts) rest) = do
    locals ← judged_locals around.scope slots parts
    others ← judged_items (record around { scope = locals.scope }) locals.slots rest
    give (items_as others.slots (before_items locals.items others.core))
  judged_items around slots (more tree rest) = do
    first ← judged_statement around slots tree
    others ← judged_items around first.slots rest
    give (items_as others.slots (statement_item first.core others.core))
