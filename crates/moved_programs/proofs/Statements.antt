-- Statements whose tokens stand elsewhere are judged alike.
use Rattle.std.proofs.Common.{true, false, List, refl}
use Rattle.std.specs.Prelude.{not}
use Rattle.c_text.specs.Token.{PlainToken}
use Rattle.c_types.specs.Types.{PlainType}
use Rattle.c_tree.specs.declared.kinds.Kind.TheVariants as k
use Rattle.c_tree.specs.Trees.{PlainTree, PlainTrees, leaf, node, none, more}
use Rattle.core_meaning.specs.declared.refusals.TypeKind.{TypeKind}
use Rattle.core_meaning.specs.declared.refusals.TypeKind.TheVariants.{Misplaced}
use Rattle.core_meaning.specs.Program.{PlainExpression, PlainStatement, block, selection, loop, return_value, no_item, statement_item}
use Rattle.core_meaning.specs.Checking.{Checked, ◌>>=◌, give, unless_so, found_or}
use Rattle.core_meaning.specs.Entities.{Scope}
use Rattle.core_meaning.specs.Typing.{Typed, fits_into}
use Rattle.core_meaning.specs.Expressions.{valued, judged_condition, is_void, unused}
use Rattle.core_meaning.specs.Declarations.{judged_locals}
use Rattle.core_meaning.specs.Statements.{Around, in_block, within_loop, nothing_to_do, discarded, condition_or_true, expression_statement, jump, returned, judged_statement, judged_else, judged_items, judged_as, items_as, before_items, one_item, loop_of}
use Rattle.moved_programs.specs.Trees.{moved_tree, moved_trees}
use Rattle.moved_programs.proofs.Moves.{elsewhere, Moves, stays, same_then, give_moves, unless_moves, found_moves}
use Rattle.moved_programs.proofs.Follows.{Follows, kept, same_follows, given_follows, broken_follows}
use Rattle.moved_programs.proofs.Constants.{KeepsKinds}
use Rattle.moved_programs.proofs.Expressions.{value_moves, condition_is}
use Rattle.moved_programs.proofs.Locals.{locals_follow}

module _ (h : PlainToken → PlainToken) where
  value_then : {B : Type 0} (s : Scope) (tree : PlainTree) (m : Typed → Checked B) → ((x : Typed) → Moves h stays (m x) (m x)) → Moves h stays (valued s tree >>= m) (valued s (moved_tree (elsewhere h) tree) >>= m)
  value_then s tree m next = same_then h stays (valued s tree) (valued s (moved_tree (elsewhere h) tree)) m m (value_moves h s tree) next

  discarded_moves : (s : Scope) (tree : PlainTree) (otherwise : PlainExpression) → Moves h stays (discarded s tree otherwise) (discarded s (moved_tree (elsewhere h) tree) otherwise)
  discarded_moves s (node k.Absent parts) otherwise = give_moves h stays _ _ refl
  discarded_moves s tree otherwise = value_then s tree (λ x. give (unused x.core)) (λ x. give_moves h stays _ _ refl)

  condition_moves : (s : Scope) (tree : PlainTree) (behind : PlainToken) → Moves h stays (condition_or_true s tree behind) (condition_or_true s (moved_tree (elsewhere h) tree) (elsewhere h behind))
  condition_moves s (node k.Absent parts) behind = give_moves h stays _ _ refl
  condition_moves s tree behind = condition_is h s tree behind

  evaluated_moves : (s : Scope) (tree : PlainTree) → Moves h stays (expression_statement s tree) (expression_statement s (moved_tree (elsewhere h) tree))
  evaluated_moves s (node k.Absent parts) = give_moves h stays _ _ refl
  evaluated_moves s tree = value_then s tree _ (λ x. give_moves h stays _ _ refl)

  jump_moves : (around : Around) (word : PlainToken) → Moves h stays (jump around word) (jump around (elsewhere h word))
  jump_moves around word =
      same_then h stays (unless_so around.in_loop Misplaced word) (unless_so around.in_loop Misplaced (elsewhere h word)) _ _ (unless_moves h around.in_loop Misplaced word (elsewhere h word) refl) (λ placed. give_moves h stays _ _ refl)

  nothing_returned : (around : Around) (word : PlainToken) (parts : PlainTrees) → Moves h stays (returned around word (node k.Absent parts)) (returned around (elsewhere h word) (node k.Absent (moved_trees (elsewhere h) parts)))
  nothing_returned around word parts =
      same_then h stays (unless_so (is_void around.result) Misplaced word) (unless_so (is_void around.result) Misplaced (elsewhere h word)) _ _ (unless_moves h (is_void around.result) Misplaced word (elsewhere h word) refl)
      (λ placed. give_moves h stays _ _ refl)

  abbrev value_returned : Around → PlainToken → PlainTree → Checked PlainStatement
  value_returned around word tree = do
    placed ← unless_so (not (is_void around.result)) Misplaced word
    x ← valued around.scope tree
    core ← found_or (fits_into around.result x) Misplaced word
    give (return_value core)

  value_returned_moves : (around : Around) (word : PlainToken) (tree : PlainTree) → Moves h stays (value_returned around word tree) (value_returned around (elsewhere h word) (moved_tree (elsewhere h) tree))
  value_returned_moves around word tree =
      same_then h stays (unless_so (not (is_void around.result)) Misplaced word) (unless_so (not (is_void around.result)) Misplaced (elsewhere h word)) _ _ (unless_moves h (not (is_void around.result)) Misplaced word (elsewhere h word) refl)
      (λ placed. same_then h stays (valued around.scope tree) (valued around.scope (moved_tree (elsewhere h) tree)) _ _ (value_moves h around.scope tree)
      (λ x. same_then h stays (found_or (fits_into around.result x) Misplaced word) (found_or (fits_into around.result x) Misplaced (elsewhere h word)) _ _ (found_moves h (fits_into around.result x) Misplaced word (elsewhere h word) refl)
      (λ core. give_moves h stays _ _ refl)))

  returned_moves : (around : Around) (word : PlainToken) (tree : PlainTree) → Moves h stays (returned around word tree) (returned around (elsewhere h word) (moved_tree (elsewhere h) tree))
  returned_moves around word (node k.Absent parts) = nothing_returned around word parts
  returned_moves around word tree = value_returned_moves around word tree

module _ (told : TypeKind → TypeKind) (h : PlainToken → PlainToken) (alike : KeepsKinds told h) where
  abbrev StatementFollows : PlainTree → Type 0
  StatementFollows tree = (around : Around) (slots : List PlainType) → Follows told h stays (judged_statement around slots tree) (judged_statement around slots (moved_tree (elsewhere h) tree))

  abbrev ElseFollows : PlainTree → Type 0
  ElseFollows tree = (around : Around) (slots : List PlainType) → Follows told h stays (judged_else around slots tree) (judged_else around slots (moved_tree (elsewhere h) tree))

  abbrev ItemsFollow : PlainTrees → Type 0
  ItemsFollow items = (around : Around) (slots : List PlainType) → Follows told h stays (judged_items around slots items) (judged_items around slots (moved_trees (elsewhere h) items))

  block_follows : (brace : PlainTree) (items : PlainTrees) (last : PlainTree) → ItemsFollow items → StatementFollows (node k.Block (more brace (more (node k.Items items) (more last none))))
  block_follows brace items last i around slots =
      same_follows told h stays (judged_items (in_block around) slots items) (judged_items (in_block around) slots (moved_trees (elsewhere h) items)) _ _ (i (in_block around) slots) (λ inner. given_follows told h stays (judged_as inner.slots (block inner.core)))

  evaluation_follows : (tree end_ : PlainTree) → StatementFollows (node k.ExpressionStatement (more tree (more end_ none)))
  evaluation_follows tree end_ around slots =
      same_follows told h stays (expression_statement around.scope tree) (expression_statement around.scope (moved_tree (elsewhere h) tree)) _ _ (kept told h (evaluated_moves h around.scope tree)) (λ core. given_follows told h stays (judged_as slots core))

  if_statement_follows :
      (word bracket condition first second : PlainTree) (close : PlainToken) → StatementFollows first → ElseFollows second
      → StatementFollows (node k.If (more word (more bracket (more condition (more (leaf close) (more first (more second none)))))))
  if_statement_follows word bracket condition first second close i j around slots =
      same_follows told h stays (judged_condition around.scope condition close) (judged_condition around.scope (moved_tree (elsewhere h) condition) (elsewhere h close)) _ _ (kept told h (condition_is h around.scope condition close))
      (λ c. same_follows told h stays (judged_statement around slots first) (judged_statement around slots (moved_tree (elsewhere h) first)) _ _ (i around slots)
      (λ a. same_follows told h stays (judged_else around a.slots second) (judged_else around a.slots (moved_tree (elsewhere h) second)) _ _ (j around a.slots) (λ b. given_follows told h stays (judged_as b.slots (selection c a.core b.core)))))

  while_follows :
      (word bracket condition body : PlainTree) (close : PlainToken) → StatementFollows body → StatementFollows (node k.While (more word (more bracket (more condition (more (leaf close) (more body none))))))
  while_follows word bracket condition body close i around slots =
      same_follows told h stays (judged_condition around.scope condition close) (judged_condition around.scope (moved_tree (elsewhere h) condition) (elsewhere h close)) _ _ (kept told h (condition_is h around.scope condition close))
      (λ c. same_follows told h stays (judged_statement (within_loop around) slots body) (judged_statement (within_loop around) slots (moved_tree (elsewhere h) body)) _ _ (i (within_loop around) slots) (λ b. given_follows told h stays (loop_of true c nothing_to_do b)))

  do_follows :
      (word body again bracket condition end_ : PlainTree) (close : PlainToken) → StatementFollows body
      → StatementFollows (node k.Do (more word (more body (more again (more bracket (more condition (more (leaf close) (more end_ none))))))))
  do_follows word body again bracket condition end_ close i around slots =
      same_follows told h stays (judged_statement (within_loop around) slots body) (judged_statement (within_loop around) slots (moved_tree (elsewhere h) body)) _ _ (i (within_loop around) slots)
      (λ b. same_follows told h stays (judged_condition around.scope condition close) (judged_condition around.scope (moved_tree (elsewhere h) condition) (elsewhere h close)) _ _ (kept told h (condition_is h around.scope condition close)) (λ c. given_follows told h stays (loop_of false c nothing_to_do b)))

  for_local_follows :
      (word bracket : PlainTree) (parts : PlainTrees) (condition step close body : PlainTree) (end_ : PlainToken) → StatementFollows body
      → StatementFollows (node k.For (more word (more bracket (more (node k.LocalDeclaration parts) (more condition (more (leaf end_) (more step (more close (more body none)))))))))
  for_local_follows word bracket parts condition step close body end_ i around slots =
      same_follows told h stays (judged_locals (in_block around).scope slots parts) (judged_locals (in_block around).scope slots (moved_trees (elsewhere h) parts)) _ _ (locals_follow told h alike (in_block around).scope slots parts)
      (λ locals. same_follows told h stays (condition_or_true locals.scope condition end_) (condition_or_true locals.scope (moved_tree (elsewhere h) condition) (elsewhere h end_)) _ _ (kept told h (condition_moves h locals.scope condition end_))
      (λ c. same_follows told h stays (discarded locals.scope step nothing_to_do) (discarded locals.scope (moved_tree (elsewhere h) step) nothing_to_do) _ _ (kept told h (discarded_moves h locals.scope step nothing_to_do))
      (λ s. same_follows told h stays (judged_statement (within_loop (record around { scope = locals.scope })) locals.slots body) (judged_statement (within_loop (record around { scope = locals.scope })) locals.slots (moved_tree (elsewhere h) body)) _ _
      (i (within_loop (record around { scope = locals.scope })) locals.slots) (λ b. given_follows told h stays (judged_as b.slots (block (before_items locals.items (one_item (loop true c s b.core)))))))))

  for_start_follows :
      (word bracket first semicolon condition step close body : PlainTree) (end_ : PlainToken) → StatementFollows body
      → StatementFollows (node k.For (more word (more bracket (more (node k.ForStart (more first (more semicolon none))) (more condition (more (leaf end_) (more step (more close (more body none)))))))))
  for_start_follows word bracket first semicolon condition step close body end_ i around slots =
      same_follows told h stays (expression_statement around.scope first) (expression_statement around.scope (moved_tree (elsewhere h) first)) _ _ (kept told h (evaluated_moves h around.scope first))
      (λ start. same_follows told h stays (condition_or_true around.scope condition end_) (condition_or_true around.scope (moved_tree (elsewhere h) condition) (elsewhere h end_)) _ _ (kept told h (condition_moves h around.scope condition end_))
      (λ c. same_follows told h stays (discarded around.scope step nothing_to_do) (discarded around.scope (moved_tree (elsewhere h) step) nothing_to_do) _ _ (kept told h (discarded_moves h around.scope step nothing_to_do))
      (λ s. same_follows told h stays (judged_statement (within_loop around) slots body) (judged_statement (within_loop around) slots (moved_tree (elsewhere h) body)) _ _ (i (within_loop around) slots) (λ b. given_follows told h stays (judged_as b.slots (block (statement_item start (one_item (loop true c s b.core)))))))))

  jump_statement_follows : (word : PlainToken) (end_ : PlainTree) → StatementFollows (node k.Jump (more (leaf word) (more end_ none)))
  jump_statement_follows word end_ around slots = same_follows told h stays (jump around word) (jump around (elsewhere h word)) _ _ (kept told h (jump_moves h around word)) (λ core. given_follows told h stays (judged_as slots core))

  return_follows : (word : PlainToken) (tree end_ : PlainTree) → StatementFollows (node k.Return (more (leaf word) (more tree (more end_ none))))
  return_follows word tree end_ around slots =
      same_follows told h stays (returned around word tree) (returned around (elsewhere h word) (moved_tree (elsewhere h) tree)) _ _ (kept told h (returned_moves h around word tree)) (λ core. given_follows told h stays (judged_as slots core))

  local_item_follows : (parts rest : PlainTrees) → ItemsFollow rest → ItemsFollow (more (node k.LocalDeclaration parts) rest)
  local_item_follows parts rest i around slots =
      same_follows told h stays (judged_locals around.scope slots parts) (judged_locals around.scope slots (moved_trees (elsewhere h) parts)) _ _ (locals_follow told h alike around.scope slots parts)
      (λ locals. same_follows told h stays (judged_items (record around { scope = locals.scope }) locals.slots rest) (judged_items (record around { scope = locals.scope }) locals.slots (moved_trees (elsewhere h) rest)) _ _
      (i (record around { scope = locals.scope }) locals.slots) (λ others. given_follows told h stays (items_as others.slots (before_items locals.items others.core))))

  statement_then :
      (tree : PlainTree) (rest : PlainTrees) (around : Around) (slots : List PlainType) → StatementFollows tree → ItemsFollow rest
      → Follows told h stays (judged_statement around slots tree >>= (λ first. judged_items around first.slots rest >>= (λ others. give (items_as others.slots (statement_item first.core others.core)))))
      (judged_statement around slots (moved_tree (elsewhere h) tree) >>= (λ first. judged_items around first.slots (moved_trees (elsewhere h) rest) >>= (λ others. give (items_as others.slots (statement_item first.core others.core)))))
  statement_then tree rest around slots i j =
      same_follows told h stays (judged_statement around slots tree) (judged_statement around slots (moved_tree (elsewhere h) tree)) _ _ (i around slots)
      (λ first. same_follows told h stays (judged_items around first.slots rest) (judged_items around first.slots (moved_trees (elsewhere h) rest)) _ _ (j around first.slots) (λ others. given_follows told h stays (items_as others.slots (statement_item first.core others.core))))

  mutual
    pub statement_follows : (tree : PlainTree) → StatementFollows tree
    statement_follows (node k.Block (more brace (more (node k.Items items) (more last none)))) around slots = block_follows brace items last (items_follow items) around slots
    statement_follows (node k.Block (more brace (more (node k.Absent items) (more last none)))) around slots = given_follows told h stays (judged_as slots (block no_item))
    statement_follows (node k.ExpressionStatement (more tree (more end_ none))) around slots = evaluation_follows tree end_ around slots
    statement_follows (node k.If (more word (more bracket (more condition (more (leaf close) (more first (more second none))))))) around slots =
        if_statement_follows word bracket condition first second close (statement_follows first) (else_follows second) around slots
    statement_follows (node k.While (more word (more bracket (more condition (more (leaf close) (more body none)))))) around slots = while_follows word bracket condition body close (statement_follows body) around slots
    statement_follows (node k.Do (more word (more body (more again (more bracket (more condition (more (leaf close) (more end_ none)))))))) around slots =
        do_follows word body again bracket condition end_ close (statement_follows body) around slots
    statement_follows (node k.For (more word (more bracket (more (node k.LocalDeclaration parts) (more condition (more (leaf end_) (more step (more close (more body none))))))))) around slots =
        for_local_follows word bracket parts condition step close body end_ (statement_follows body) around slots
    statement_follows (node k.For (more word (more bracket (more (node k.ForStart (more first (more semicolon none))) (more condition (more (leaf end_) (more step (more close (more body none))))))))) around slots =
        for_start_follows word bracket first semicolon condition step close body end_ (statement_follows body) around slots
    statement_follows (node k.Jump (more (leaf word) (more end_ none))) around slots = jump_statement_follows word end_ around slots
    statement_follows (node k.Return (more (leaf word) (more tree (more end_ none)))) around slots = return_follows word tree end_ around slots
    statement_follows (leaf _) around slots = broken_follows told h stays
    statement_follows (node _ _) around slots = broken_follows told h stays

    else_follows : (tree : PlainTree) → ElseFollows tree
    else_follows (node k.Else (more word (more tree none))) around slots = statement_follows tree around slots
    else_follows (node k.Absent parts) around slots = given_follows told h stays (judged_as slots (block no_item))
    else_follows (leaf _) around slots = broken_follows told h stays
    else_follows (node _ _) around slots = broken_follows told h stays

    pub items_follow : (items : PlainTrees) → ItemsFollow items
    items_follow none around slots = given_follows told h stays (items_as slots no_item)
    items_follow (more (node k.LocalDeclaration parts) rest) around slots = local_item_follows parts rest (items_follow rest) around slots
    items_follow (more tree rest) around slots = statement_then tree rest around slots (statement_follows tree) (items_follow rest)
