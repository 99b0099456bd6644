-- What each kind of statement is judged as, by its parts.
use Rattle.std.proofs.Common.{◌≡◌, true, List, [], ◌∷◌, length, get_or, ◌≤◌, ◌<◌, refl, sym, ap, ◌∙◌, arith}
use Rattle.c_text.specs.Token.{PlainToken}
use Rattle.c_types.specs.Types.{PlainType}
use Rattle.c_tree.specs.declared.trees.Tree.{Tree}
use Rattle.c_tree.specs.declared.kinds.Kind.{Kind}
use Rattle.c_tree.specs.declared.kinds.Kind.TheVariants as k
use Rattle.c_tree.specs.Trees.{PlainTree, PlainTrees, leaf, node, none, more, plain_tree, plain_trees}
use Rattle.core_meaning.specs.Program.{PlainExpression, PlainStatement, PlainItems, statement_item}
use Rattle.core_meaning.specs.Checking.{Checked, ◌>>=◌, give}
use Rattle.core_meaning.specs.Expressions.{judged_condition}
use Rattle.core_meaning.specs.Declarations.{Locals, judged_locals}
use Rattle.core_meaning.specs.Statements.{Around, Judged, in_block, within_loop, before_items, nothing_to_do, discarded, condition_or_true, expression_statement, loop_of, judged_statement, judged_else}
use Rattle.plain_simple_statements.specs.Laws.{returned_law}
use Rattle.plain_scope.specs.Bindings.{regroup, then_then, then_same}
use Rattle.plain_simple_statements.specs.Simple.{expression_in, jump_in, return_in, simple_of}
use Rattle.plain_statements.specs.Steps.{block_of, Begun, keeping, with_else, branches_of, while_of, do_of, for_of, JudgedItem, begun_block, turns_behind, for_by}

-- ---- statements that take no slots

pub expression_law : (around : Around) (slots : List PlainType) (parts : PlainTrees) → judged_statement around slots (node k.ExpressionStatement parts) ≡ keeping slots (expression_in around.scope parts)
expression_law around slots none = refl
expression_law around slots (more tree none) = refl
expression_law around slots (more tree (more end none)) = refl
expression_law around slots (more tree (more end (more other rest))) = refl

pub jump_law : (around : Around) (slots : List PlainType) (parts : PlainTrees) → judged_statement around slots (node k.Jump parts) ≡ keeping slots (jump_in around.in_loop parts)
jump_law around slots none = refl
jump_law around slots (more (leaf word) none) = refl
jump_law around slots (more (leaf word) (more end none)) = refl
jump_law around slots (more (leaf word) (more end (more other rest))) = refl
jump_law around slots (more (node kind parts) rest) = refl

pub return_law : (around : Around) (slots : List PlainType) (parts : PlainTrees) → judged_statement around slots (node k.Return parts) ≡ keeping slots (return_in around.scope around.result parts)
return_law around slots none = refl
return_law around slots (more (leaf word) none) = refl
return_law around slots (more (leaf word) (more tree none)) = refl
return_law around slots (more (leaf word) (more tree (more end none))) = ap (keeping slots) (returned_law around word tree)
return_law around slots (more (leaf word) (more tree (more end (more other rest)))) = refl
return_law around slots (more (node kind parts) rest) = refl

pub simple_law : (around : Around) (slots : List PlainType) (kind : Kind) (parts : PlainTrees) → (kind ≡ k.Block → ⊥) → (kind ≡ k.If → ⊥) → (kind ≡ k.While → ⊥) → (kind ≡ k.Do → ⊥) → (kind ≡ k.For → ⊥) → judged_statement around slots (node kind parts) ≡ keeping slots (simple_of around kind parts)
simple_law around slots k.Block parts a b c d e = absurd (a refl)
simple_law around slots k.If parts a b c d e = absurd (b refl)
simple_law around slots k.While parts a b c d e = absurd (c refl)
simple_law around slots k.Do parts a b c d e = absurd (d refl)
simple_law around slots k.For parts a b c d e = absurd (e refl)
simple_law around slots k.ExpressionStatement parts a b c d e = expression_law around slots parts
simple_law around slots k.Jump parts a b c d e = jump_law around slots parts
simple_law around slots k.Return parts a b c d e = return_law around slots parts
simple_law around slots other parts a b c d e = refl

-- ---- kinds, by their parts

pub block_law : (around : Around) (slots : List PlainType) (brace list last : PlainTree) → judged_statement around slots (node k.Block (more brace (more list (more last none)))) ≡ block_of around slots list
block_law around slots brace (leaf token) last = refl
block_law around slots brace (node k.Items items) last = refl
block_law around slots brace (node k.Absent items) last = refl
block_law around slots brace (node other items) last = refl

pub selection_law : (around : Around) (slots : List PlainType) (word bracket condition : PlainTree) (close : PlainToken) (first second : PlainTree) → judged_statement around slots (node k.If (more word (more bracket (more condition (more (leaf close) (more first (more second none))))))) ≡ branches_of around slots condition close first second
selection_law around slots word bracket condition close first second =
    let c = judged_condition around.scope condition close in
    let a = judged_statement around slots first in
    let begun : PlainExpression → Judged → Begun = λ x y. record { condition = x; core = y.core; slots = y.slots } in
    sym (then_then c (λ x. a >>= (λ y. give (begun x y))) (with_else around second)
    ∙ then_same c (λ x. (a >>= (λ y. give (begun x y))) >>= with_else around second) (λ x. a >>= (λ y. with_else around second (begun x y))) (λ x. regroup a (begun x) (with_else around second)))

for_law : (around : Around) (slots : List PlainType) (condition : PlainTree) (end : PlainToken) (step body : PlainTree) (begin : PlainItems → PlainItems) → (for_of around slots condition end step body >>= (λ turns. give (begun_block begin turns))) ≡ (condition_or_true around.scope condition end >>= (λ c. discarded around.scope step nothing_to_do >>= (λ s. judged_statement (within_loop around) slots body >>= (λ b. give (begun_block begin (loop_of true c s b))))))
for_law around slots condition end step body begin =
    let c = condition_or_true around.scope condition end in
    let d = discarded around.scope step nothing_to_do in
    let e = judged_statement (within_loop around) slots body in
    let last : Judged → Checked Judged = λ turns. give (begun_block begin turns) in
    then_then c (λ x. d >>= (λ y. e >>= (λ z. give (loop_of true x y z)))) last
    ∙ then_same c (λ x. (d >>= (λ y. e >>= (λ z. give (loop_of true x y z)))) >>= last) (λ x. d >>= (λ y. e >>= (λ z. last (loop_of true x y z)))) (λ x.
    then_then d (λ y. e >>= (λ z. give (loop_of true x y z))) last
    ∙ then_same d (λ y. (e >>= (λ z. give (loop_of true x y z))) >>= last) (λ y. e >>= (λ z. last (loop_of true x y z))) (λ y. regroup e (loop_of true x y) last))

-- the turns of a `for`, one judgement after the other
abbrev turns_of : Around → List PlainType → PlainTree → PlainToken → PlainTree → PlainTree → (PlainItems → PlainItems) → Checked Judged
turns_of around slots condition end step body begin = do
  c ← condition_or_true around.scope condition end
  s ← discarded around.scope step nothing_to_do
  b ← judged_statement (within_loop around) slots body
  give (begun_block begin (loop_of true c s b))

pub for_by_start : (around : Around) (slots : List PlainType) (word bracket start condition : PlainTree) (end : PlainToken) (step close body : PlainTree) → judged_statement around slots (node k.For (more word (more bracket (more start (more condition (more (leaf end) (more step (more close (more body none))))))))) ≡ for_by around slots start condition end step body
for_by_start around slots word bracket (leaf token) condition end step close body = refl
for_by_start around slots word bracket (node k.LocalDeclaration parts) condition end step close body =
    let locals_are = judged_locals (in_block around).scope slots parts in
    let item : Locals → JudgedItem = λ locals. record { scope = locals.scope; slots = locals.slots; puts = before_items locals.items } in
    let turns = turns_behind around condition end step body in
    then_same locals_are
    (λ locals. turns_of (record around { scope = locals.scope }) locals.slots condition end step body (before_items locals.items))
    (λ locals. turns (item locals))
    (λ locals. sym (for_law (record around { scope = locals.scope }) locals.slots condition end step body (before_items locals.items)))
    ∙ sym (regroup locals_are item turns)
for_by_start around slots word bracket (node k.ForStart (more first (more semicolon none))) condition end step close body =
    let start_is = expression_statement around.scope first in
    let item : (PlainItems → PlainItems) → JudgedItem = λ puts. record { scope = around.scope; slots = slots; puts = puts } in
    let before : PlainStatement → PlainItems → PlainItems = λ core rest. statement_item core rest in
    let turns = turns_behind around condition end step body in
    then_same start_is
    (λ start. turns_of around slots condition end step body (statement_item start))
    (λ start. turns (item (statement_item start)))
    (λ start. sym (for_law around slots condition end step body (statement_item start)))
    ∙ sym (ap (λ (d : Checked JudgedItem). d >>= turns) (regroup start_is before (λ puts. give (item puts)))
    ∙ regroup start_is (λ start. item (before start)) turns)
for_by_start around slots word bracket (node k.ForStart none) condition end step close body = refl
for_by_start around slots word bracket (node k.ForStart (more first none)) condition end step close body = refl
for_by_start around slots word bracket (node k.ForStart (more first (more semicolon (more other rest)))) condition end step close body = refl
for_by_start around slots word bracket (node other parts) condition end step close body = refl

-- ---- slices of so many parts

pub two_parts : (parts : List Tree) (b : Tree) → 2 ≤ length parts → length parts < 3 → b ≡ get_or parts 1 b → plain_trees parts ≡ more (plain_tree (get_or parts 0 b)) (more (plain_tree b) none)
two_parts [] b l h p = absurd (omega arith)
two_parts (x ∷ []) b l h p = absurd (omega arith)
two_parts (x ∷ y ∷ []) b l h p = let e : b ≡ y = p in rw e refl
two_parts (x ∷ y ∷ z ∷ rest) b l h p = absurd (omega arith)

pub three_parts : (parts : List Tree) (b : Tree) → 3 ≤ length parts → length parts < 4 → b ≡ get_or parts 1 b → plain_trees parts ≡ more (plain_tree (get_or parts 0 b)) (more (plain_tree b) (more (plain_tree (get_or parts 2 b)) none))
three_parts [] b l h p = absurd (omega arith)
three_parts (x ∷ []) b l h p = absurd (omega arith)
three_parts (x ∷ y ∷ []) b l h p = absurd (omega arith)
three_parts (x ∷ y ∷ z ∷ []) b l h p = let e : b ≡ y = p in rw e refl
three_parts (x ∷ y ∷ z ∷ u ∷ rest) b l h p = absurd (omega arith)

pub five_parts : (parts : List Tree) (a b c : Tree) → 5 ≤ length parts → length parts < 6 → a ≡ get_or parts 2 a → b ≡ get_or parts 3 b → c ≡ get_or parts 4 c → plain_trees parts ≡ more (plain_tree (get_or parts 0 a)) (more (plain_tree (get_or parts 1 a)) (more (plain_tree a) (more (plain_tree b) (more (plain_tree c) none))))
five_parts [] a b c l h p q r = absurd (omega arith)
five_parts (x ∷ []) a b c l h p q r = absurd (omega arith)
five_parts (x ∷ y ∷ []) a b c l h p q r = absurd (omega arith)
five_parts (x ∷ y ∷ z ∷ []) a b c l h p q r = absurd (omega arith)
five_parts (x ∷ y ∷ z ∷ u ∷ []) a b c l h p q r = absurd (omega arith)
five_parts (x ∷ y ∷ z ∷ u ∷ v ∷ []) a b c l h p q r = let e : a ≡ z = p in let f : b ≡ u = q in let g : c ≡ v = r in rw (e, f, g) refl
five_parts (x ∷ y ∷ z ∷ u ∷ v ∷ w ∷ rest) a b c l h p q r = absurd (omega arith)

pub six_parts : (parts : List Tree) (a b c d : Tree) → 6 ≤ length parts → length parts < 7 → a ≡ get_or parts 2 a → b ≡ get_or parts 3 b → c ≡ get_or parts 4 c → d ≡ get_or parts 5 d → plain_trees parts ≡ more (plain_tree (get_or parts 0 a)) (more (plain_tree (get_or parts 1 a)) (more (plain_tree a) (more (plain_tree b) (more (plain_tree c) (more (plain_tree d) none)))))
six_parts [] a b c d l h p q r s = absurd (omega arith)
six_parts (x ∷ []) a b c d l h p q r s = absurd (omega arith)
six_parts (x ∷ y ∷ []) a b c d l h p q r s = absurd (omega arith)
six_parts (x ∷ y ∷ z ∷ []) a b c d l h p q r s = absurd (omega arith)
six_parts (x ∷ y ∷ z ∷ u ∷ []) a b c d l h p q r s = absurd (omega arith)
six_parts (x ∷ y ∷ z ∷ u ∷ v ∷ []) a b c d l h p q r s = absurd (omega arith)
six_parts (x ∷ y ∷ z ∷ u ∷ v ∷ w ∷ []) a b c d l h p q r s = let e : a ≡ z = p in let f : b ≡ u = q in let g : c ≡ v = r in let i : d ≡ w = s in rw (e, f, g, i) refl
six_parts (x ∷ y ∷ z ∷ u ∷ v ∷ w ∷ x7 ∷ rest) a b c d l h p q r s = absurd (omega arith)

pub seven_parts : (parts : List Tree) (a b c : Tree) → 7 ≤ length parts → length parts < 8 → a ≡ get_or parts 1 a → b ≡ get_or parts 4 b → c ≡ get_or parts 5 c → plain_trees parts ≡ more (plain_tree (get_or parts 0 a)) (more (plain_tree a) (more (plain_tree (get_or parts 2 a)) (more (plain_tree (get_or parts 3 a)) (more (plain_tree b) (more (plain_tree c) (more (plain_tree (get_or parts 6 a)) none))))))
seven_parts [] a b c l h p q r = absurd (omega arith)
seven_parts (x ∷ []) a b c l h p q r = absurd (omega arith)
seven_parts (x ∷ y ∷ []) a b c l h p q r = absurd (omega arith)
seven_parts (x ∷ y ∷ z ∷ []) a b c l h p q r = absurd (omega arith)
seven_parts (x ∷ y ∷ z ∷ u ∷ []) a b c l h p q r = absurd (omega arith)
seven_parts (x ∷ y ∷ z ∷ u ∷ v ∷ []) a b c l h p q r = absurd (omega arith)
seven_parts (x ∷ y ∷ z ∷ u ∷ v ∷ w ∷ []) a b c l h p q r = absurd (omega arith)
seven_parts (x ∷ y ∷ z ∷ u ∷ v ∷ w ∷ x7 ∷ []) a b c l h p q r = let e : a ≡ y = p in let f : b ≡ v = q in let g : c ≡ w = r in rw (e, f, g) refl
seven_parts (x ∷ y ∷ z ∷ u ∷ v ∷ w ∷ x7 ∷ x8 ∷ rest) a b c l h p q r = absurd (omega arith)

pub eight_parts : (parts : List Tree) (a b c d e : Tree) → 8 ≤ length parts → length parts < 9 → a ≡ get_or parts 2 a → b ≡ get_or parts 3 b → c ≡ get_or parts 4 c → d ≡ get_or parts 5 d → e ≡ get_or parts 7 e → plain_trees parts ≡ more (plain_tree (get_or parts 0 a)) (more (plain_tree (get_or parts 1 a)) (more (plain_tree a) (more (plain_tree b) (more (plain_tree c) (more (plain_tree d) (more (plain_tree (get_or parts 6 a)) (more (plain_tree e) none)))))))
eight_parts [] a b c d e l h p q r s t = absurd (omega arith)
eight_parts (x ∷ []) a b c d e l h p q r s t = absurd (omega arith)
eight_parts (x ∷ y ∷ []) a b c d e l h p q r s t = absurd (omega arith)
eight_parts (x ∷ y ∷ z ∷ []) a b c d e l h p q r s t = absurd (omega arith)
eight_parts (x ∷ y ∷ z ∷ u ∷ []) a b c d e l h p q r s t = absurd (omega arith)
eight_parts (x ∷ y ∷ z ∷ u ∷ v ∷ []) a b c d e l h p q r s t = absurd (omega arith)
eight_parts (x ∷ y ∷ z ∷ u ∷ v ∷ w ∷ []) a b c d e l h p q r s t = absurd (omega arith)
eight_parts (x ∷ y ∷ z ∷ u ∷ v ∷ w ∷ x7 ∷ []) a b c d e l h p q r s t = absurd (omega arith)
eight_parts (x ∷ y ∷ z ∷ u ∷ v ∷ w ∷ x7 ∷ x8 ∷ []) a b c d e l h p q r s t = let i : a ≡ z = p in let j : b ≡ u = q in let m : c ≡ v = r in let n : d ≡ w = s in let o : e ≡ x8 = t in rw (i, j, m, n, o) refl
eight_parts (x ∷ y ∷ z ∷ u ∷ v ∷ w ∷ x7 ∷ x8 ∷ x9 ∷ rest) a b c d e l h p q r s t = absurd (omega arith)

-- ---- kinds, by their slices

pub else_slice : (around : Around) (slots : List PlainType) (parts : List Tree) (tree : Tree) → 2 ≤ length parts → length parts < 3 → tree ≡ get_or parts 1 tree → judged_else around slots (node k.Else (plain_trees parts)) ≡ judged_statement around slots (plain_tree tree)
else_slice around slots parts tree l h p = ap (λ (t : PlainTrees). judged_else around slots (node k.Else t)) (two_parts parts tree l h p)

pub block_slice : (around : Around) (slots : List PlainType) (parts : List Tree) (list : Tree) → 3 ≤ length parts → length parts < 4 → list ≡ get_or parts 1 list → judged_statement around slots (node k.Block (plain_trees parts)) ≡ block_of around slots (plain_tree list)
block_slice around slots parts list l h p = ap (λ (t : PlainTrees). judged_statement around slots (node k.Block t)) (three_parts parts list l h p) ∙ block_law around slots (plain_tree (get_or parts 0 list)) (plain_tree list) (plain_tree (get_or parts 2 list))

while_law : (around : Around) (slots : List PlainType) (word bracket condition stop body : PlainTree) (close : PlainToken) → stop ≡ leaf close → judged_statement around slots (node k.While (more word (more bracket (more condition (more stop (more body none)))))) ≡ while_of around slots condition close body
while_law around slots word bracket condition stop body close is = ap (λ (t : PlainTree). judged_statement around slots (node k.While (more word (more bracket (more condition (more t (more body none))))))) is

pub while_slice : (around : Around) (slots : List PlainType) (parts : List Tree) (condition stop body : Tree) (close : PlainToken) → 5 ≤ length parts → length parts < 6 → condition ≡ get_or parts 2 condition → stop ≡ get_or parts 3 stop → body ≡ get_or parts 4 body → plain_tree stop ≡ leaf close → judged_statement around slots (node k.While (plain_trees parts)) ≡ while_of around slots (plain_tree condition) close (plain_tree body)
while_slice around slots parts condition stop body close l h p q r is =
    ap (λ (t : PlainTrees). judged_statement around slots (node k.While t)) (five_parts parts condition stop body l h p q r)
    ∙ while_law around slots (plain_tree (get_or parts 0 condition)) (plain_tree (get_or parts 1 condition)) (plain_tree condition) (plain_tree stop) (plain_tree body) close is

do_law : (around : Around) (slots : List PlainType) (word body again bracket condition stop last : PlainTree) (close : PlainToken) → stop ≡ leaf close → judged_statement around slots (node k.Do (more word (more body (more again (more bracket (more condition (more stop (more last none)))))))) ≡ do_of around slots condition close body
do_law around slots word body again bracket condition stop last close is = ap (λ (t : PlainTree). judged_statement around slots (node k.Do (more word (more body (more again (more bracket (more condition (more t (more last none))))))))) is

pub do_slice : (around : Around) (slots : List PlainType) (parts : List Tree) (body condition stop : Tree) (close : PlainToken) → 7 ≤ length parts → length parts < 8 → body ≡ get_or parts 1 body → condition ≡ get_or parts 4 condition → stop ≡ get_or parts 5 stop → plain_tree stop ≡ leaf close → judged_statement around slots (node k.Do (plain_trees parts)) ≡ do_of around slots (plain_tree condition) close (plain_tree body)
do_slice around slots parts body condition stop close l h p q r is =
    ap (λ (t : PlainTrees). judged_statement around slots (node k.Do t)) (seven_parts parts body condition stop l h p q r)
    ∙ do_law around slots (plain_tree (get_or parts 0 body)) (plain_tree body) (plain_tree (get_or parts 2 body)) (plain_tree (get_or parts 3 body)) (plain_tree condition) (plain_tree stop) (plain_tree (get_or parts 6 body)) close is

selection_at : (around : Around) (slots : List PlainType) (word bracket condition stop first second : PlainTree) (close : PlainToken) → stop ≡ leaf close → judged_statement around slots (node k.If (more word (more bracket (more condition (more stop (more first (more second none))))))) ≡ branches_of around slots condition close first second
selection_at around slots word bracket condition stop first second close is = ap (λ (t : PlainTree). judged_statement around slots (node k.If (more word (more bracket (more condition (more t (more first (more second none)))))))) is ∙ selection_law around slots word bracket condition close first second

pub selection_slice : (around : Around) (slots : List PlainType) (parts : List Tree) (condition stop first second : Tree) (close : PlainToken) → 6 ≤ length parts → length parts < 7 → condition ≡ get_or parts 2 condition → stop ≡ get_or parts 3 stop → first ≡ get_or parts 4 first → second ≡ get_or parts 5 second → plain_tree stop ≡ leaf close → judged_statement around slots (node k.If (plain_trees parts)) ≡ branches_of around slots (plain_tree condition) close (plain_tree first) (plain_tree second)
selection_slice around slots parts condition stop first second close l h p q r s is =
    ap (λ (t : PlainTrees). judged_statement around slots (node k.If t)) (six_parts parts condition stop first second l h p q r s)
    ∙ selection_at around slots (plain_tree (get_or parts 0 condition)) (plain_tree (get_or parts 1 condition)) (plain_tree condition) (plain_tree stop) (plain_tree first) (plain_tree second) close is

for_at : (around : Around) (slots : List PlainType) (word bracket start condition stop step close body : PlainTree) (end : PlainToken) → stop ≡ leaf end → judged_statement around slots (node k.For (more word (more bracket (more start (more condition (more stop (more step (more close (more body none))))))))) ≡ for_by around slots start condition end step body
for_at around slots word bracket start condition stop step close body end is = ap (λ (t : PlainTree). judged_statement around slots (node k.For (more word (more bracket (more start (more condition (more t (more step (more close (more body none)))))))))) is ∙ for_by_start around slots word bracket start condition end step close body

pub for_slice : (around : Around) (slots : List PlainType) (parts : List Tree) (start condition stop step body : Tree) (end : PlainToken) → 8 ≤ length parts → length parts < 9 → start ≡ get_or parts 2 start → condition ≡ get_or parts 3 condition → stop ≡ get_or parts 4 stop → step ≡ get_or parts 5 step → body ≡ get_or parts 7 body → plain_tree stop ≡ leaf end → judged_statement around slots (node k.For (plain_trees parts)) ≡ for_by around slots (plain_tree start) (plain_tree condition) end (plain_tree step) (plain_tree body)
for_slice around slots parts start condition stop step body end l h p q r s t is =
    ap (λ (u : PlainTrees). judged_statement around slots (node k.For u)) (eight_parts parts start condition stop step body l h p q r s t)
    ∙ for_at around slots (plain_tree (get_or parts 0 start)) (plain_tree (get_or parts 1 start)) (plain_tree start) (plain_tree condition) (plain_tree stop) (plain_tree step) (plain_tree (get_or parts 6 start)) (plain_tree body) end is
