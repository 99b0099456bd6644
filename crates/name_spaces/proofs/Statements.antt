-- Statements: what they bind is among their names.
use Rattle.std.proofs.Common.{ℕ, ◌+◌, Bool, true, false, List, [], arith}
use Rattle.std.specs.Prelude.{not, pos, codes, if◌then◌else◌}
use Rattle.std.specs.Str.{bytes_eq}
use Rattle.c_text.specs.Token.{PlainToken}
use Rattle.c_types.specs.Types.{PlainType}
use Rattle.c_tree.specs.declared.kinds.Kind.{Kind}
use Rattle.c_tree.specs.declared.kinds.Kind.TheVariants as k
use Rattle.c_tree.specs.Trees.{PlainTree, PlainTrees, leaf, node, none, more}
use Rattle.core_meaning.specs.declared.refusals.TypeKind.TheVariants.{Misplaced}
use Rattle.core_meaning.specs.Program.{PlainExpression, constant, block, evaluate, selection, loop, break_loop, continue_loop, return_nothing, return_value, no_item, statement_item}
use Rattle.core_meaning.specs.Checking.{Checked, ◌>>=◌, give, found_or}
use Rattle.core_meaning.specs.Entities.{Table, Scope}
use Rattle.core_meaning.specs.Typing.{fits_into}
use Rattle.core_meaning.specs.Expressions.{valued, judged_condition, is_void, unused}
use Rattle.core_meaning.specs.Declarations.{judged_locals}
use Rattle.core_meaning.specs.Statements.{Around, Judged, judged_as, items_as, in_block, within_loop, before_items, one_item, nothing_to_do, discarded, condition_or_true, expression_statement, jump, returned, loop_of, judged_statement, judged_else, judged_items}
use Rattle.bound_slots.specs.Laws.{SizesBindNothing}
use Rattle.name_spaces.specs.Spaces.{spaces_in_parts}
use Rattle.name_spaces.proofs.Formed.{IsFormed, AreFormed}
use Rattle.name_spaces.proofs.Embeddings.{Spaces}
use Rattle.name_spaces.proofs.Uses.{names, Uses, uses_give, valued_uses, condition_uses, fewer, uses_then, found_uses, unless_uses, Worded}
use Rattle.name_spaces.proofs.Listed.{spaces_at, Anything, Lists, lists_give, lists_last, part_uses, part_then, part_last, past}
use Rattle.name_spaces.proofs.Blocks.{WordedBehind, declarations_list}

-- ---- expressions that may be left out

module _ (s : Scope) (worded : Worded s) where
  statement_uses : (tree : PlainTree) → IsFormed tree → Uses (names tree) (expression_statement s tree)
  statement_uses (node k.Absent parts) h = uses_give (names (node k.Absent parts)) (block no_item)
  statement_uses tree h =
      fewer (names tree + 0) (names tree) _ (omega arith) (uses_then (names tree) 0 (valued s tree) (λ x. give (evaluate (unused x.core))) (valued_uses s worded tree h) (λ x. uses_give 0 (evaluate (unused x.core))))

  discarded_uses : (tree : PlainTree) (otherwise : PlainExpression) → IsFormed tree → Uses (names tree) (discarded s tree otherwise)
  discarded_uses (node k.Absent parts) otherwise h = uses_give (names (node k.Absent parts)) otherwise
  discarded_uses tree otherwise h =
      fewer (names tree + 0) (names tree) _ (omega arith) (uses_then (names tree) 0 (valued s tree) (λ x. give (unused x.core)) (valued_uses s worded tree h) (λ x. uses_give 0 (unused x.core)))

  true_uses : (tree : PlainTree) (behind : PlainToken) → IsFormed tree → Uses (names tree) (condition_or_true s tree behind)
  true_uses (node k.Absent parts) behind h = uses_give (names (node k.Absent parts)) (constant (pos 1))
  true_uses tree behind h = condition_uses s worded tree behind h

returned_uses : (a : Around) → Worded a.scope → (word : PlainToken) (tree : PlainTree) → IsFormed tree → Uses (names tree) (returned a word tree)
returned_uses a worded word (node k.Absent parts) h = unless_uses (names (node k.Absent parts)) (is_void a.result) Misplaced word _ (λ x. uses_give (names (node k.Absent parts)) return_nothing)
returned_uses a worded word tree h =
    unless_uses (names tree) (not (is_void a.result)) Misplaced word _
    (λ x. fewer (names tree + 0) (names tree) _ (omega arith)
    (uses_then (names tree) 0 (valued a.scope tree) (λ x. found_or (fits_into a.result x) Misplaced word >>= (λ core. give (return_value core))) (valued_uses a.scope worded tree h)
    (λ x. found_uses 0 (fits_into a.result x) Misplaced word (λ core. give (return_value core)) (λ core. uses_give 0 (return_value core)))))

jump_uses : (a : Around) (word : PlainToken) (n : ℕ) → Uses n (jump a word)
jump_uses a word n = unless_uses n a.in_loop Misplaced word _ (λ x. uses_give n (if bytes_eq word.text (codes "break") then break_loop else continue_loop))

-- ---- statements

module _ (known : Table ℕ) (counts : SizesBindNothing) (struct : List ℕ) (around : Kind) where
  abbrev Stated : {A : Type 0} → Spaces → Checked A → Type 0
  Stated spaces c = Lists known Anything spaces c

  -- a statement, and the items behind it
  item_then :
      (kind : Kind) (turned : Bool) (tree : PlainTree) (rest : PlainTrees) (a : Around) (c : Checked Judged) → Stated (spaces_at around struct kind turned tree) c
      → ((slots : List PlainType) (later : Bool) → Stated (spaces_in_parts around struct kind later rest) (judged_items a slots rest))
      → Stated (spaces_in_parts around struct kind turned (more tree rest))
      (c >>= (λ first. judged_items a first.slots rest >>= (λ others. give (items_as others.slots (statement_item first.core others.core)))))
  item_then kind turned tree rest a c h next =
      part_then known around struct kind Anything Anything turned tree rest c (λ first. judged_items a first.slots rest >>= (λ others. give (items_as others.slots (statement_item first.core others.core)))) h
      (λ first y later. lists_last known Anything Anything (spaces_in_parts around struct kind later rest) (judged_items a first.slots rest) (λ others. give (items_as others.slots (statement_item first.core others.core)))
      (next first.slots later) (λ others z. lists_give known Anything [] (items_as others.slots (statement_item first.core others.core)) tt))

  mutual
    pub statement_lists :
        (tree : PlainTree) (a : Around) → Worded a.scope → (slots : List PlainType) → IsFormed tree → (kind : Kind) (turned : Bool)
        → Stated (spaces_at around struct kind turned tree) (judged_statement a slots tree)
    statement_lists (node k.Block (more brace (more (node k.Items items) (more last none)))) a worded slots h kind turned =
        past known around struct k.Block Anything false brace (more (node k.Items items) (more last none)) _
        (λ one. part_then known around struct k.Block Anything Anything one (node k.Items items) (more last none) (judged_items (in_block a) slots items) (λ inner. give (judged_as inner.slots (block inner.core)))
        (items_list items (in_block a) worded slots h.1.1.0.1 k.Items false)
        (λ inner y two. lists_give known Anything (spaces_in_parts around struct k.Block two (more last none)) (judged_as inner.slots (block inner.core)) tt))
    statement_lists (node k.Block (more brace (more (node k.Absent items) (more last none)))) a worded slots h kind turned =
        lists_give known Anything (spaces_at around struct kind turned (node k.Block (more brace (more (node k.Absent items) (more last none))))) (judged_as slots (block no_item)) tt
    statement_lists (node k.ExpressionStatement (more tree (more end_ none))) a worded slots h kind turned =
        part_then known around struct k.ExpressionStatement Anything Anything false tree (more end_ none) (expression_statement a.scope tree) (λ core. give (judged_as slots core))
        (part_uses known around struct k.ExpressionStatement false tree (expression_statement a.scope tree) (statement_uses a.scope worded tree h.1.0))
        (λ core y one. lists_give known Anything (spaces_in_parts around struct k.ExpressionStatement one (more end_ none)) (judged_as slots core) tt)
    statement_lists (node k.If (more word (more bracket (more condition (more (leaf close) (more first (more second none))))))) a worded slots h kind turned =
        past known around struct k.If Anything false word (more bracket (more condition (more (leaf close) (more first (more second none))))) _
        (λ one. past known around struct k.If Anything one bracket (more condition (more (leaf close) (more first (more second none)))) _
        (λ two. part_then known around struct k.If Anything Anything two condition (more (leaf close) (more first (more second none))) (judged_condition a.scope condition close)
        (λ c. judged_statement a slots first >>= (λ x. judged_else a x.slots second >>= (λ b. give (judged_as b.slots (selection c x.core b.core)))))
        (part_uses known around struct k.If two condition (judged_condition a.scope condition close) (condition_uses a.scope worded condition close h.1.1.1.0))
        (λ c y three. past known around struct k.If Anything three (leaf close) (more first (more second none)) _
        (λ four. part_then known around struct k.If Anything Anything four first (more second none) (judged_statement a slots first)
        (λ x. judged_else a x.slots second >>= (λ b. give (judged_as b.slots (selection c x.core b.core))))
        (statement_lists first a worded slots h.1.1.1.1.1.0 k.If four)
        (λ x z five. part_then known around struct k.If Anything Anything five second none (judged_else a x.slots second) (λ b. give (judged_as b.slots (selection c x.core b.core)))
        (else_lists second a worded x.slots h.1.1.1.1.1.1.0 k.If five)
        (λ b w six. lists_give known Anything [] (judged_as b.slots (selection c x.core b.core)) tt))))))
    statement_lists (node k.While (more word (more bracket (more condition (more (leaf close) (more body none)))))) a worded slots h kind turned =
        past known around struct k.While Anything false word (more bracket (more condition (more (leaf close) (more body none)))) _
        (λ one. past known around struct k.While Anything one bracket (more condition (more (leaf close) (more body none))) _
        (λ two. part_then known around struct k.While Anything Anything two condition (more (leaf close) (more body none)) (judged_condition a.scope condition close)
        (λ c. judged_statement (within_loop a) slots body >>= (λ s. give (loop_of true c nothing_to_do s)))
        (part_uses known around struct k.While two condition (judged_condition a.scope condition close) (condition_uses a.scope worded condition close h.1.1.1.0))
        (λ c y three. past known around struct k.While Anything three (leaf close) (more body none) _
        (λ four. part_then known around struct k.While Anything Anything four body none (judged_statement (within_loop a) slots body) (λ s. give (loop_of true c nothing_to_do s))
        (statement_lists body (within_loop a) worded slots h.1.1.1.1.1.0 k.While four)
        (λ s z five. lists_give known Anything [] (loop_of true c nothing_to_do s) tt)))))
    statement_lists (node k.Do (more word (more body (more again (more bracket (more condition (more (leaf close) (more end_ none)))))))) a worded slots h kind turned =
        past known around struct k.Do Anything false word (more body (more again (more bracket (more condition (more (leaf close) (more end_ none)))))) _
        (λ one. part_then known around struct k.Do Anything Anything one body (more again (more bracket (more condition (more (leaf close) (more end_ none))))) (judged_statement (within_loop a) slots body)
        (λ s. judged_condition a.scope condition close >>= (λ c. give (loop_of false c nothing_to_do s)))
        (statement_lists body (within_loop a) worded slots h.1.1.0 k.Do one)
        (λ s y two. past known around struct k.Do Anything two again (more bracket (more condition (more (leaf close) (more end_ none)))) _
        (λ three. past known around struct k.Do Anything three bracket (more condition (more (leaf close) (more end_ none))) _
        (λ four. part_then known around struct k.Do Anything Anything four condition (more (leaf close) (more end_ none)) (judged_condition a.scope condition close) (λ c. give (loop_of false c nothing_to_do s))
        (part_uses known around struct k.Do four condition (judged_condition a.scope condition close) (condition_uses a.scope worded condition close h.1.1.1.1.1.0))
        (λ c z five. lists_give known Anything (spaces_in_parts around struct k.Do five (more (leaf close) (more end_ none))) (loop_of false c nothing_to_do s) tt)))))
    statement_lists (node k.For (more word (more bracket (more (node k.LocalDeclaration parts) (more condition (more (leaf end_) (more step (more close (more body none))))))))) a worded slots h kind turned =
        past known around struct k.For Anything false word (more bracket (more (node k.LocalDeclaration parts) (more condition (more (leaf end_) (more step (more close (more body none))))))) _
        (λ one. past known around struct k.For Anything one bracket (more (node k.LocalDeclaration parts) (more condition (more (leaf end_) (more step (more close (more body none)))))) _
        (λ two. part_then known around struct k.For WordedBehind Anything two (node k.LocalDeclaration parts) (more condition (more (leaf end_) (more step (more close (more body none))))) (judged_locals (in_block a).scope slots parts)
        (λ locals. condition_or_true locals.scope condition end_ >>= (λ c. discarded locals.scope step nothing_to_do >>= (λ s. judged_statement (within_loop (record a { scope = locals.scope })) locals.slots body
        >>= (λ b. give (judged_as b.slots (block (before_items locals.items (one_item (loop true c s b.core)))))))))
        (declarations_list known counts parts (in_block a).scope worded slots h.1.1.1.0 around struct k.For two)
        (λ locals w three. part_then known around struct k.For Anything Anything three condition (more (leaf end_) (more step (more close (more body none)))) (condition_or_true locals.scope condition end_)
        (λ c. discarded locals.scope step nothing_to_do >>= (λ s. judged_statement (within_loop (record a { scope = locals.scope })) locals.slots body >>= (λ b. give (judged_as b.slots (block (before_items locals.items (one_item (loop true c s b.core))))))))
        (part_uses known around struct k.For three condition (condition_or_true locals.scope condition end_) (true_uses locals.scope w condition end_ h.1.1.1.1.0))
        (λ c y four. past known around struct k.For Anything four (leaf end_) (more step (more close (more body none))) _
        (λ five. part_then known around struct k.For Anything Anything five step (more close (more body none)) (discarded locals.scope step nothing_to_do)
        (λ s. judged_statement (within_loop (record a { scope = locals.scope })) locals.slots body >>= (λ b. give (judged_as b.slots (block (before_items locals.items (one_item (loop true c s b.core)))))))
        (part_uses known around struct k.For five step (discarded locals.scope step nothing_to_do) (discarded_uses locals.scope w step nothing_to_do h.1.1.1.1.1.1.0))
        (λ s z six. past known around struct k.For Anything six close (more body none) _
        (λ seven. part_then known around struct k.For Anything Anything seven body none (judged_statement (within_loop (record a { scope = locals.scope })) locals.slots body)
        (λ b. give (judged_as b.slots (block (before_items locals.items (one_item (loop true c s b.core))))))
        (statement_lists body (within_loop (record a { scope = locals.scope })) w locals.slots h.1.1.1.1.1.1.1.1.0 k.For seven)
        (λ b v eight. lists_give known Anything [] (judged_as b.slots (block (before_items locals.items (one_item (loop true c s b.core))))) tt))))))))
    statement_lists (node k.For (more word (more bracket (more (node k.ForStart (more first (more semicolon none))) (more condition (more (leaf end_) (more step (more close (more body none))))))))) a worded slots h kind turned =
        past known around struct k.For Anything false word (more bracket (more (node k.ForStart (more first (more semicolon none))) (more condition (more (leaf end_) (more step (more close (more body none))))))) _
        (λ one. past known around struct k.For Anything one bracket (more (node k.ForStart (more first (more semicolon none))) (more condition (more (leaf end_) (more step (more close (more body none)))))) _
        (λ two. part_then known around struct k.For Anything Anything two (node k.ForStart (more first (more semicolon none))) (more condition (more (leaf end_) (more step (more close (more body none))))) (expression_statement a.scope first)
        (λ start. condition_or_true a.scope condition end_ >>= (λ c. discarded a.scope step nothing_to_do >>= (λ s. judged_statement (within_loop a) slots body
        >>= (λ b. give (judged_as b.slots (block (statement_item start (one_item (loop true c s b.core)))))))))
        (part_last known around struct k.ForStart Anything false first (more semicolon none) (expression_statement a.scope first)
        (part_uses known around struct k.ForStart false first (expression_statement a.scope first) (statement_uses a.scope worded first h.1.1.1.0.1.0)))
        (λ start w three. part_then known around struct k.For Anything Anything three condition (more (leaf end_) (more step (more close (more body none)))) (condition_or_true a.scope condition end_)
        (λ c. discarded a.scope step nothing_to_do >>= (λ s. judged_statement (within_loop a) slots body >>= (λ b. give (judged_as b.slots (block (statement_item start (one_item (loop true c s b.core))))))))
        (part_uses known around struct k.For three condition (condition_or_true a.scope condition end_) (true_uses a.scope worded condition end_ h.1.1.1.1.0))
        (λ c y four. past known around struct k.For Anything four (leaf end_) (more step (more close (more body none))) _
        (λ five. part_then known around struct k.For Anything Anything five step (more close (more body none)) (discarded a.scope step nothing_to_do)
        (λ s. judged_statement (within_loop a) slots body >>= (λ b. give (judged_as b.slots (block (statement_item start (one_item (loop true c s b.core)))))))
        (part_uses known around struct k.For five step (discarded a.scope step nothing_to_do) (discarded_uses a.scope worded step nothing_to_do h.1.1.1.1.1.1.0))
        (λ s z six. past known around struct k.For Anything six close (more body none) _
        (λ seven. part_then known around struct k.For Anything Anything seven body none (judged_statement (within_loop a) slots body)
        (λ b. give (judged_as b.slots (block (statement_item start (one_item (loop true c s b.core))))))
        (statement_lists body (within_loop a) worded slots h.1.1.1.1.1.1.1.1.0 k.For seven)
        (λ b v eight. lists_give known Anything [] (judged_as b.slots (block (statement_item start (one_item (loop true c s b.core))))) tt))))))))
    statement_lists (node k.Jump (more (leaf word) (more end_ none))) a worded slots h kind turned =
        part_then known around struct k.Jump Anything Anything false (leaf word) (more end_ none) (jump a word) (λ core. give (judged_as slots core))
        (part_uses known around struct k.Jump false (leaf word) (jump a word) (jump_uses a word (names (leaf word))))
        (λ core y one. lists_give known Anything (spaces_in_parts around struct k.Jump one (more end_ none)) (judged_as slots core) tt)
    statement_lists (node k.Return (more (leaf word) (more tree (more end_ none)))) a worded slots h kind turned =
        past known around struct k.Return Anything false (leaf word) (more tree (more end_ none)) _
        (λ one. part_then known around struct k.Return Anything Anything one tree (more end_ none) (returned a word tree) (λ core. give (judged_as slots core))
        (part_uses known around struct k.Return one tree (returned a word tree) (returned_uses a worded word tree h.1.1.0))
        (λ core y two. lists_give known Anything (spaces_in_parts around struct k.Return two (more end_ none)) (judged_as slots core) tt))
    statement_lists _ a worded slots h kind turned = record { listed = tt }

    else_lists :
        (tree : PlainTree) (a : Around) → Worded a.scope → (slots : List PlainType) → IsFormed tree → (kind : Kind) (turned : Bool)
        → Stated (spaces_at around struct kind turned tree) (judged_else a slots tree)
    else_lists (node k.Else (more word (more tree none))) a worded slots h kind turned =
        past known around struct k.Else Anything false word (more tree none) _
        (λ one. part_last known around struct k.Else Anything one tree none (judged_statement a slots tree) (statement_lists tree a worded slots h.1.1.0 k.Else one))
    else_lists (node k.Absent parts) a worded slots h kind turned = lists_give known Anything (spaces_at around struct kind turned (node k.Absent parts)) (judged_as slots (block no_item)) tt
    else_lists _ a worded slots h kind turned = record { listed = tt }

    pub items_list :
        (parts : PlainTrees) (a : Around) → Worded a.scope → (slots : List PlainType) → AreFormed parts → (kind : Kind) (turned : Bool)
        → Stated (spaces_in_parts around struct kind turned parts) (judged_items a slots parts)
    items_list none a worded slots h kind turned = lists_give known Anything [] (items_as slots no_item) tt
    items_list (more (node k.LocalDeclaration parts) rest) a worded slots h kind turned =
        part_then known around struct kind WordedBehind Anything turned (node k.LocalDeclaration parts) rest (judged_locals a.scope slots parts)
        (λ locals. judged_items (record a { scope = locals.scope }) locals.slots rest >>= (λ others. give (items_as others.slots (before_items locals.items others.core))))
        (declarations_list known counts parts a.scope worded slots h.0 around struct kind turned)
        (λ locals w later. lists_last known Anything Anything (spaces_in_parts around struct kind later rest) (judged_items (record a { scope = locals.scope }) locals.slots rest)
        (λ others. give (items_as others.slots (before_items locals.items others.core)))
        (items_list rest (record a { scope = locals.scope }) w locals.slots h.1 kind later) (λ others y. lists_give known Anything [] (items_as others.slots (before_items locals.items others.core)) tt))
    items_list (more tree rest) a worded slots h kind turned =
        item_then kind turned tree rest a (judged_statement a slots tree) (statement_lists tree a worded slots h.0 kind turned) (λ next later. items_list rest a worded next h.1 kind later)
