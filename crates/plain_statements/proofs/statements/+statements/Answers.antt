use Rattle.std.proofs.Common.{◌≡◌, true, false, map, ◌++◌, rules, arith, refl, ap, sym, subst, ◌∙◌}
use Rattle.std.specs.Prelude.{Vec}
use Rattle.std.specs.declared.alloc.Global.{Global}
use Rattle.core_meaning.specs.declared.statements.Item.{Item}
use Rattle.plain_scope.specs.Blocks.{without_block}
use Rattle.c_text.specs.Token.{plain_token}
use Rattle.c_types.specs.Types.{plain_type}
use Rattle.c_tree.specs.declared.kinds.Kind.{Kind}
use Rattle.c_tree.specs.declared.kinds.Kind.TheVariants as k
use Rattle.c_tree.specs.Trees.{PlainTree, node, plain_tree, plain_trees}
use Rattle.c_tree.specs.TreeLaws.{plain_tree-Node}
use Rattle.core_meaning.specs.Plain.{plain_item}
use Rattle.core_meaning.specs.Program.{PlainExpression, PlainStatement, block, loop, selection, statement_item}
use Rattle.core_meaning.specs.Checking.{Checked, ◌>>=◌, give}
use Rattle.core_meaning.specs.Expressions.{judged_condition}
use Rattle.core_meaning.specs.Statements.{one_item, nothing_to_do, discarded, condition_or_true, loop_of, judged_statement, judged_else, judged_items}
use Rattle.plain_scope.specs.PlainScope.{plain_scope, uses_of}
use Rattle.plain_scope.specs.Judgements.{Gives, RefusedAs}
use Rattle.plain_scope.specs.JudgementLaws.{refused_first}
use Rattle.plain_declarators.specs.Sequences.{gives_of, refused_of}
use Rattle.plain_operands.specs.PlainOperands.{boxed_expression}
use Rattle.plain_simple_statements.specs.Blocks.{put}
use Rattle.plain_simple_statements.specs.PlainStatements.{boxed_statement}
use Rattle.plain_simple_statements.specs.Handing.{judges_handed, on_ok_handed, on_ok_always, given_handed, refused_handed}
use Rattle.plain_statements.specs.PlainJudged.{plain_begun, plain_item_of, plain_judged, plain_judged_items}
use Rattle.plain_simple_statements.specs.Simple.{around_of, simple_of}
use Rattle.plain_statements.specs.Steps.{Begun, JudgedItem, item_of, begun_if, with_else, block_of, branches_of, while_of, do_of, for_of, for_by, begun_for, turns_behind, declaration_in, behind_for, single_item, keeping}
use Rattle.plain_statements.specs.Kinds.{simple_law, else_slice, block_slice, while_slice, do_slice, selection_slice, for_slice}
use Rattle.plain_expressions.proofs.Answering.{judges_as}
use Rattle.plain_statements.specs.Answers.{keeping_judges, absent_block, absent_else}
use Rattle.plain_statements.specs.Within.{block_refused, block_given, begun_refused, begun_given, branches_refused, branches_given, do_refused, do_given, while_refused, while_given, step_refused, turns_refused, turns_given, for_refused, for_given}
use Rattle.plain_statements.specs.Items.{single_given, items_begin, items_continue, items_refused, items_done}
use Rattle.plain_statements.proofs.statements.+statements.Goals as goal

pub while_loop-returns-clause-judged : goal.while_loop-returns-clause-judged
while_loop-returns-clause-judged t c =
    let around = around_of (plain_scope c.args.scope.now) (plain_type c.args.returns.now) c.args.in_loop in
    let slots = map plain_type c.args.slots.now.items in
    judges_as (judged_statement around slots (node k.While (plain_trees c.args.parts.now))) (while_of around slots (plain_tree c.test-item.result) (plain_token c.in_ok-close.close.now) (plain_tree c.body-item.result)) (plain_judged c.while_turns.new.slots.items) c.args.used.now c.while_turns.new.used c.while_turns.result
    (while_slice around slots c.args.parts.now c.test-item.result c.close-item.result c.body-item.result (plain_token c.in_ok-close.close.now) c.in-len5.len_at_least c.in-len5.len_below c.test-item.is c.close-item.is c.body-item.is c.in_ok-close.ensures)
    c.while_turns.ensures.judged

pub do_loop-returns-clause-judged : goal.do_loop-returns-clause-judged
do_loop-returns-clause-judged t c =
    let around = around_of (plain_scope c.args.scope.now) (plain_type c.args.returns.now) c.args.in_loop in
    let slots = map plain_type c.args.slots.now.items in
    judges_as (judged_statement around slots (node k.Do (plain_trees c.args.parts.now))) (do_of around slots (plain_tree c.test-item.result) (plain_token c.in_ok-close.close.now) (plain_tree c.body-item.result)) (plain_judged c.do_turns.new.slots.items) c.args.used.now c.do_turns.new.used c.do_turns.result
    (do_slice around slots c.args.parts.now c.body-item.result c.test-item.result c.close-item.result (plain_token c.in_ok-close.close.now) c.in-len7.len_at_least c.in-len7.len_below c.body-item.is c.test-item.is c.close-item.is c.in_ok-close.ensures)
    c.do_turns.ensures.judged

pub for_loop-returns-clause-judged : goal.for_loop-returns-clause-judged
for_loop-returns-clause-judged t c =
    let around = around_of (plain_scope c.args.scope.now) (plain_type c.args.returns.now) c.args.in_loop in
    let slots = map plain_type c.args.slots.now.items in
    judges_as (judged_statement around slots (node k.For (plain_trees c.args.parts.now))) (for_by around slots (plain_tree c.start-item.result) (plain_tree c.test-item.result) (plain_token c.in_ok-end.end.now) (plain_tree c.step-item.result) (plain_tree c.body-item.result)) (plain_judged c.begun_turns.new.slots.items) c.args.used.now c.begun_turns.new.used c.begun_turns.result
    (for_slice around slots c.args.parts.now c.start-item.result c.test-item.result c.end-item.result c.step-item.result c.body-item.result (plain_token c.in_ok-end.end.now) c.in-len8.len_at_least c.in-len8.len_below c.start-item.is c.test-item.is c.end-item.is c.step-item.is c.body-item.is c.in_ok-end.ensures)
    c.begun_turns.ensures.judged

pub else_in-returns-clause-judged : goal.else_in-returns-clause-judged
else_in-returns-clause-judged t c =
    let around = around_of (plain_scope c.args.scope.now) (plain_type c.args.returns.now) c.args.in_loop in
    let slots = map plain_type c.args.slots.now.items in
    judges_as (judged_else around slots (node k.Else (plain_trees c.args.parts.now))) (judged_statement around slots (plain_tree c.tree-item.result)) (plain_judged c.statement.new.slots.items) c.args.used.now c.statement.new.used c.statement.result
    (else_slice around slots c.args.parts.now c.tree-item.result c.in-len2.len_at_least c.in-len2.len_below c.tree-item.is)
    c.statement.ensures.judged

pub block-returns-clause-judged : goal.block-returns-clause-judged
block-returns-clause-judged t c =
    let around = around_of (plain_scope c.args.scope.now) (plain_type c.args.returns.now) c.args.in_loop in
    let slots = map plain_type c.args.slots.now.items in
    judges_as (judged_statement around slots (node k.Block (plain_trees c.args.parts.now))) (block_of around slots (plain_tree c.list-item.result)) (plain_judged c.block_by.new.slots.items) c.args.used.now c.block_by.new.used c.block_by.result
    (block_slice around slots c.args.parts.now c.list-item.result c.in-len3.len_at_least c.in-len3.len_below c.list-item.is)
    c.block_by.ensures.judged

pub node_of-returns-in-Block-clause-judged : goal.node_of-returns-in-Block-clause-judged
node_of-returns-in-Block-clause-judged t c =
    let around = around_of (plain_scope c.args.scope.now) (plain_type c.args.returns.now) c.args.in_loop in
    let slots = map plain_type c.args.slots.now.items in
    judges_as (judged_statement around slots (node c.args.kind (plain_trees c.args.parts.now))) (judged_statement around slots (node k.Block (plain_trees c.args.parts.now))) (plain_judged c.block.new.slots.items) c.args.used.now c.block.new.used c.block.result
    (ap (λ (x : Kind). judged_statement around slots (node x (plain_trees c.args.parts.now))) c.in-Block.is)
    c.block.ensures.judged

pub node_of-returns-in-If-clause-judged : goal.node_of-returns-in-If-clause-judged
node_of-returns-in-If-clause-judged t c =
    let around = around_of (plain_scope c.args.scope.now) (plain_type c.args.returns.now) c.args.in_loop in
    let slots = map plain_type c.args.slots.now.items in
    judges_as (judged_statement around slots (node c.args.kind (plain_trees c.args.parts.now))) (judged_statement around slots (node k.If (plain_trees c.args.parts.now))) (plain_judged c.selection.new.slots.items) c.args.used.now c.selection.new.used c.selection.result
    (ap (λ (x : Kind). judged_statement around slots (node x (plain_trees c.args.parts.now))) c.in-If.is)
    c.selection.ensures.judged

pub node_of-returns-in-While-clause-judged : goal.node_of-returns-in-While-clause-judged
node_of-returns-in-While-clause-judged t c =
    let around = around_of (plain_scope c.args.scope.now) (plain_type c.args.returns.now) c.args.in_loop in
    let slots = map plain_type c.args.slots.now.items in
    judges_as (judged_statement around slots (node c.args.kind (plain_trees c.args.parts.now))) (judged_statement around slots (node k.While (plain_trees c.args.parts.now))) (plain_judged c.while_loop.new.slots.items) c.args.used.now c.while_loop.new.used c.while_loop.result
    (ap (λ (x : Kind). judged_statement around slots (node x (plain_trees c.args.parts.now))) c.in-While.is)
    c.while_loop.ensures.judged

pub node_of-returns-in-Do-clause-judged : goal.node_of-returns-in-Do-clause-judged
node_of-returns-in-Do-clause-judged t c =
    let around = around_of (plain_scope c.args.scope.now) (plain_type c.args.returns.now) c.args.in_loop in
    let slots = map plain_type c.args.slots.now.items in
    judges_as (judged_statement around slots (node c.args.kind (plain_trees c.args.parts.now))) (judged_statement around slots (node k.Do (plain_trees c.args.parts.now))) (plain_judged c.do_loop.new.slots.items) c.args.used.now c.do_loop.new.used c.do_loop.result
    (ap (λ (x : Kind). judged_statement around slots (node x (plain_trees c.args.parts.now))) c.in-Do.is)
    c.do_loop.ensures.judged

pub node_of-returns-in-For-clause-judged : goal.node_of-returns-in-For-clause-judged
node_of-returns-in-For-clause-judged t c =
    let around = around_of (plain_scope c.args.scope.now) (plain_type c.args.returns.now) c.args.in_loop in
    let slots = map plain_type c.args.slots.now.items in
    judges_as (judged_statement around slots (node c.args.kind (plain_trees c.args.parts.now))) (judged_statement around slots (node k.For (plain_trees c.args.parts.now))) (plain_judged c.for_loop.new.slots.items) c.args.used.now c.for_loop.new.used c.for_loop.result
    (ap (λ (x : Kind). judged_statement around slots (node x (plain_trees c.args.parts.now))) c.in-For.is)
    c.for_loop.ensures.judged

pub node_of-returns-in_default-clause-judged : goal.node_of-returns-in_default-clause-judged
node_of-returns-in_default-clause-judged t c =
    let around = around_of (plain_scope c.args.scope.now) (plain_type c.args.returns.now) c.args.in_loop in
    let slots = map plain_type c.args.slots.now.items in
    judges_as (judged_statement around slots (node c.args.kind (plain_trees c.args.parts.now))) (keeping slots (simple_of around c.args.kind (plain_trees c.args.parts.now))) (plain_judged c.args.slots.now.items) c.args.used.now c.simple.new.used _
    (simple_law around slots c.args.kind (plain_trees c.args.parts.now) c.in_default.not-Block c.in_default.not-If c.in_default.not-While c.in_default.not-Do c.in_default.not-For)
    (keeping_judges (simple_of around c.args.kind (plain_trees c.args.parts.now)) c.args.slots.now.items c.args.used.now c.simple.new.used c.simple.result c.simple.ensures)

pub otherwise-returns-in-Else-clause-judged : goal.otherwise-returns-in-Else-clause-judged
otherwise-returns-in-Else-clause-judged t c =
    let around = around_of (plain_scope c.args.scope.now) (plain_type c.args.returns.now) c.args.in_loop in
    let slots = map plain_type c.args.slots.now.items in
    let node_is : plain_tree c.args.tree.now ≡ node c.in-Node.kind (plain_trees c.deref.result.now) = ap plain_tree c.in-Node.is ∙ plain_tree-Node c.in-Node.kind c.in-Node.parts ∙ ap (λ l. node c.in-Node.kind (plain_trees l)) (sym c.deref.ensures.value) in
    judges_as (judged_else around slots (plain_tree c.args.tree.now)) (judged_else around slots (node k.Else (plain_trees c.deref.result.now))) (plain_judged c.else_in.new.slots.items) c.args.used.now c.else_in.new.used c.else_in.result
    (ap (λ (x : PlainTree). judged_else around slots x) (node_is ∙ ap (λ (x : Kind). node x (plain_trees c.deref.result.now)) c.in-Else.is))
    c.else_in.ensures.judged

pub block_by-returns-in-Items-clause-judged : goal.block_by-returns-in-Items-clause-judged
block_by-returns-in-Items-clause-judged t c =
    let around = around_of (plain_scope c.args.scope.now) (plain_type c.args.returns.now) c.args.in_loop in
    let slots = map plain_type c.args.slots.now.items in
    let node_is : plain_tree c.args.list.now ≡ node c.in-Node.kind (plain_trees c.deref.result.now) = ap plain_tree c.in-Node.is ∙ plain_tree-Node c.in-Node.kind c.in-Node.parts ∙ ap (λ l. node c.in-Node.kind (plain_trees l)) (sym c.deref.ensures.value) in
    judges_as (block_of around slots (plain_tree c.args.list.now)) (block_of around slots (node k.Items (plain_trees c.deref.result.now))) (plain_judged c.block_items.new.slots.items) c.args.used.now c.block_items.new.used c.block_items.result
    (ap (λ (x : PlainTree). block_of around slots x) (node_is ∙ ap (λ (x : Kind). node x (plain_trees c.deref.result.now)) c.in-Items.is))
    c.block_items.ensures.judged

pub otherwise-returns-in_ok-nothing-in-Absent-clause-judged : goal.otherwise-returns-in_ok-nothing-in-Absent-clause-judged
otherwise-returns-in_ok-nothing-in-Absent-clause-judged t c =
    let around = around_of (plain_scope c.args.scope.now) (plain_type c.args.returns.now) c.args.in_loop in
    let slots = map plain_type c.args.slots.now.items in
    let node_is : plain_tree c.args.tree.now ≡ node c.in-Node.kind (plain_trees c.in-Node.parts.items) = ap plain_tree c.in-Node.is ∙ plain_tree-Node c.in-Node.kind c.in-Node.parts in
    absent_else around slots (plain_tree c.args.tree.now) c.in-Node.kind (plain_trees c.in-Node.parts.items) (boxed_statement c.in_ok-nothing-in-Absent.field-0) (uses_of c.args.used.now) node_is c.in-Absent.is c.in_ok-nothing-in-Absent.ensures

pub block_by-returns-in_ok-nothing-in-Absent-clause-judged : goal.block_by-returns-in_ok-nothing-in-Absent-clause-judged
block_by-returns-in_ok-nothing-in-Absent-clause-judged t c =
    let around = around_of (plain_scope c.args.scope.now) (plain_type c.args.returns.now) c.args.in_loop in
    let slots = map plain_type c.args.slots.now.items in
    let node_is : plain_tree c.args.list.now ≡ node c.in-Node.kind (plain_trees c.in-Node.parts.items) = ap plain_tree c.in-Node.is ∙ plain_tree-Node c.in-Node.kind c.in-Node.parts in
    absent_block around slots (plain_tree c.args.list.now) c.in-Node.kind (plain_trees c.in-Node.parts.items) (boxed_statement c.in_ok-nothing-in-Absent.field-0) (uses_of c.args.used.now) node_is c.in-Absent.is c.in_ok-nothing-in-Absent.ensures

pub statement-returns-in-Node-clause-judged : goal.statement-returns-in-Node-clause-judged
statement-returns-in-Node-clause-judged t c =
    let around = around_of (plain_scope c.args.scope.now) (plain_type c.args.returns.now) c.args.in_loop in
    let slots = map plain_type c.args.slots.now.items in
    let node_is : plain_tree c.args.tree.now ≡ node c.in-Node.kind (plain_trees c.deref.result.now) = ap plain_tree c.in-Node.is ∙ plain_tree-Node c.in-Node.kind c.in-Node.parts ∙ ap (λ l. node c.in-Node.kind (plain_trees l)) (sym c.deref.ensures.value) in
    judges_as (judged_statement around slots (plain_tree c.args.tree.now)) (judged_statement around slots (node c.in-Node.kind (plain_trees c.deref.result.now))) (plain_judged c.node_of.new.slots.items) c.args.used.now c.node_of.new.used c.node_of.result
    (ap (λ (x : PlainTree). judged_statement around slots x) node_is)
    c.node_of.ensures.judged

pub statement_items-loop-tree-init : goal.statement_items-loop-tree-init
statement_items-loop-tree-init t c = record {
  outside = refl;
  so_far = items_begin (judged_items (around_of (plain_scope c.args.scope.now) (plain_type c.args.returns.now) c.args.in_loop) (map plain_type c.args.slots.now.items) (plain_trees c.args.list.now)) (map plain_item c.new-items.result.items) (uses_of c.args.used.now) (ap (map plain_item) c.new-items.ensures.items);
}

pub statement_items-loop-tree-preserved : goal.statement_items-loop-tree-preserved
statement_items-loop-tree-preserved t c =
    let returns = plain_type c.args.returns.now in
    let whole = judged_items (around_of (plain_scope c.args.scope.now) returns c.args.in_loop) (map plain_type c.args.slots.now.items) (plain_trees c.args.list.now) in
    let first = item_of (around_of (plain_scope c.loop-tree.scope) returns c.args.in_loop) (map plain_type c.loop-tree.slots.items) (plain_tree c.tree-item.result) in
    let found_as : Vec Item Global → JudgedItem = λ found. plain_item_of c.item.new.scope c.item.new.slots.items found.items in
    let made : Vec Item Global → Vec Item Global → Type 0 = λ found all. map plain_item all.items ≡ map plain_item c.loop-tree.items.items ++ map plain_item found.items in
    let outside : Type 0 = without_block (plain_scope c.item.new.scope) ≡ without_block (plain_scope c.loop-tree.scope) in
    record {
      outside = given_handed first found_as made outside c.loop-tree.used c.item.new.used c.item.result c.in_ok-items.items c.in_ok-items.ensures c.item.ensures.judged c.item.ensures.outside (λ found is g same. same ∙ c.loop-tree.invariant.outside);
      so_far = given_handed first found_as made outside c.loop-tree.used c.item.new.used c.item.result c.in_ok-items.items c.in_ok-items.ensures c.item.ensures.judged c.item.ensures.outside
          (λ found is g same. items_continue returns c.args.in_loop (plain_scope c.loop-tree.scope) (plain_scope c.item.new.scope) (map plain_type c.loop-tree.slots.items) (map plain_type c.item.new.slots.items) c.args.list.now c.tree-item.result c.loop-tree.tree-index whole
          (map plain_item c.loop-tree.items.items) (map plain_item found.items) (map plain_item c.in_ok-items.items.items) (uses_of c.args.used.now) (uses_of c.loop-tree.used) (uses_of c.item.new.used) (omega arith) c.tree-item.is c.loop-tree.invariant.so_far g is);
    }

pub statement_items-returns-in_err-items-clause-judged : goal.statement_items-returns-in_err-items-clause-judged
statement_items-returns-in_err-items-clause-judged t c =
    let returns = plain_type c.args.returns.now in
    let whole = judged_items (around_of (plain_scope c.args.scope.now) returns c.args.in_loop) (map plain_type c.args.slots.now.items) (plain_trees c.args.list.now) in
    let first = item_of (around_of (plain_scope c.loop-tree.scope) returns c.args.in_loop) (map plain_type c.loop-tree.slots.items) (plain_tree c.tree-item.result) in
    let found_as : Vec Item Global → JudgedItem = λ found. plain_item_of c.item.new.scope c.item.new.slots.items found.items in
    let made : Vec Item Global → Vec Item Global → Type 0 = λ found all. map plain_item all.items ≡ map plain_item c.loop-tree.items.items ++ map plain_item found.items in
    let outer : RefusedAs whole c.in_err-items.field-0.0 = refused_handed first whole found_as made c.loop-tree.used c.item.new.used c.item.result c.in_err-items.field-0.0 c.in_err-items.ensures c.item.ensures.judged
    (λ error r. items_refused (around_of (plain_scope c.loop-tree.scope) returns c.args.in_loop) (map plain_type c.loop-tree.slots.items) c.args.list.now c.tree-item.result c.loop-tree.tree-index whole (map plain_item c.loop-tree.items.items) (uses_of c.args.used.now) (uses_of c.loop-tree.used) error (omega arith) c.tree-item.is c.loop-tree.invariant.so_far r) in
    search (rules, outer)

pub statement_items-returns-clause-judged : goal.statement_items-returns-clause-judged
statement_items-returns-clause-judged t c =
    items_done (around_of (plain_scope c.loop-tree.scope) (plain_type c.args.returns.now) c.args.in_loop) (map plain_type c.loop-tree.slots.items) c.args.list.now c.loop-tree.tree-index (judged_items (around_of (plain_scope c.args.scope.now) (plain_type c.args.returns.now) c.args.in_loop) (map plain_type c.args.slots.now.items) (plain_trees c.args.list.now)) (map plain_item c.loop-tree.items.items) (uses_of c.args.used.now) (uses_of c.loop-tree.used) (omega arith) c.loop-tree.invariant.so_far

-- ---- one judgement after another

pub while_turns-returns-clause-judged : goal.while_turns-returns-clause-judged
while_turns-returns-clause-judged t c =
    let scope = plain_scope c.args.scope.now in
    let returns = plain_type c.args.returns.now in
    let slots = map plain_type c.args.slots.now.items in
    let before = uses_of c.args.used.now in
    judges_handed (judged_statement (around_of scope returns true) slots (plain_tree c.args.body.now)) (while_of (around_of scope returns c.args.in_loop) slots (plain_tree c.args.test.now) (plain_token c.args.close.now) (plain_tree c.args.body.now)) (plain_judged c.statement.new.slots.items) (plain_judged c.statement.new.slots.items) (λ body s. boxed_statement s ≡ loop true (boxed_expression c.in_ok-c.c) nothing_to_do (boxed_statement body)) c.args.used.now c.condition.new.used c.statement.new.used c.statement.result c.asked_first.result c.asked_first.ensures c.statement.ensures.judged
    (λ body s is g. while_given scope returns c.args.in_loop slots (plain_tree c.args.test.now) (plain_token c.args.close.now) (plain_tree c.args.body.now) (boxed_expression c.in_ok-c.c) (plain_judged c.statement.new.slots.items body) (boxed_statement s) before (uses_of c.condition.new.used) (uses_of c.statement.new.used) c.in_ok-c.ensures g is)
    (λ error r. while_refused scope returns c.args.in_loop slots (plain_tree c.args.test.now) (plain_token c.args.close.now) (plain_tree c.args.body.now) (boxed_expression c.in_ok-c.c) before (uses_of c.condition.new.used) error c.in_ok-c.ensures r)

pub while_turns-returns-clause-same : goal.while_turns-returns-clause-same
while_turns-returns-clause-same t c =
    let same : Type 0 = plain_scope c.statement.new.scope ≡ plain_scope c.args.scope.now in
    on_ok_handed (λ body s. boxed_statement s ≡ loop true (boxed_expression c.in_ok-c.c) nothing_to_do (boxed_statement body)) same same c.statement.result c.asked_first.result c.asked_first.ensures c.statement.ensures.same (λ e. e)

pub do_turns-returns-clause-judged : goal.do_turns-returns-clause-judged
do_turns-returns-clause-judged t c =
    let scope = plain_scope c.args.scope.now in
    let returns = plain_type c.args.returns.now in
    let slots = map plain_type c.args.slots.now.items in
    let before = uses_of c.args.used.now in
    let behind = plain_scope c.statement.new.scope in
    let body = plain_judged c.statement.new.slots.items c.in_ok-s.s in
    judges_handed (judged_condition behind (plain_tree c.args.test.now) (plain_token c.args.close.now)) (do_of (around_of scope returns c.args.in_loop) slots (plain_tree c.args.test.now) (plain_token c.args.close.now) (plain_tree c.args.body.now)) boxed_expression (plain_judged c.statement.new.slots.items) (λ test s. boxed_statement s ≡ loop false (boxed_expression test) nothing_to_do (boxed_statement c.in_ok-s.s)) c.args.used.now c.statement.new.used c.condition.new.used c.condition.result c.asked_behind.result c.asked_behind.ensures c.condition.ensures
    (λ test s is g. do_given scope behind returns c.args.in_loop slots (plain_tree c.args.test.now) (plain_token c.args.close.now) (plain_tree c.args.body.now) body (boxed_expression test) (boxed_statement s) before (uses_of c.statement.new.used) (uses_of c.condition.new.used) c.in_ok-s.ensures.judged c.in_ok-s.ensures.same g is)
    (λ error r. do_refused scope behind returns c.args.in_loop slots (plain_tree c.args.test.now) (plain_token c.args.close.now) (plain_tree c.args.body.now) body before (uses_of c.statement.new.used) error c.in_ok-s.ensures.judged c.in_ok-s.ensures.same r)

pub do_turns-returns-clause-same : goal.do_turns-returns-clause-same
do_turns-returns-clause-same t c = on_ok_always (plain_scope c.statement.new.scope ≡ plain_scope c.args.scope.now) c.asked_behind.result c.in_ok-s.ensures.same

pub for_turns-returns-in_err-step-clause-judged : goal.for_turns-returns-in_err-step-clause-judged
for_turns-returns-in_err-step-clause-judged t c =
    let scope = plain_scope c.args.scope.now in
    let returns = plain_type c.args.returns.now in
    let slots = map plain_type c.args.slots.now.items in
    let before = uses_of c.args.used.now in
    let outer : RefusedAs (for_of (around_of scope returns c.args.in_loop) slots (plain_tree c.args.test.now) (plain_token c.args.end.now) (plain_tree c.args.step.now) (plain_tree c.args.body.now)) c.in_err-step.field-0.0 = step_refused scope returns c.args.in_loop slots (plain_tree c.args.test.now) (plain_token c.args.end.now) (plain_tree c.args.step.now) (plain_tree c.args.body.now) (boxed_expression c.in_ok-c.c) before (uses_of c.condition_or_true.new.used) c.in_err-step.field-0.0 c.in_ok-c.ensures c.in_err-step.ensures in
    search (rules, outer)

pub for_turns-returns-clause-judged : goal.for_turns-returns-clause-judged
for_turns-returns-clause-judged t c =
    let scope = plain_scope c.args.scope.now in
    let returns = plain_type c.args.returns.now in
    let slots = map plain_type c.args.slots.now.items in
    let before = uses_of c.args.used.now in
    judges_handed (judged_statement (around_of scope returns true) slots (plain_tree c.args.body.now)) (for_of (around_of scope returns c.args.in_loop) slots (plain_tree c.args.test.now) (plain_token c.args.end.now) (plain_tree c.args.step.now) (plain_tree c.args.body.now)) (plain_judged c.statement.new.slots.items) (plain_judged c.statement.new.slots.items) (λ body s. boxed_statement s ≡ loop true (boxed_expression c.in_ok-c.c) (boxed_expression c.in_ok-step.step) (boxed_statement body)) c.args.used.now c.discarded.new.used c.statement.new.used c.statement.result c.looped.result c.looped.ensures c.statement.ensures.judged
    (λ body s is g. turns_given scope returns c.args.in_loop slots (plain_tree c.args.test.now) (plain_token c.args.end.now) (plain_tree c.args.step.now) (plain_tree c.args.body.now) (boxed_expression c.in_ok-c.c) (boxed_expression c.in_ok-step.step) (plain_judged c.statement.new.slots.items body) (boxed_statement s) before (uses_of c.condition_or_true.new.used) (uses_of c.discarded.new.used) (uses_of c.statement.new.used) c.in_ok-c.ensures c.in_ok-step.ensures g is)
    (λ error r. turns_refused scope returns c.args.in_loop slots (plain_tree c.args.test.now) (plain_token c.args.end.now) (plain_tree c.args.step.now) (plain_tree c.args.body.now) (boxed_expression c.in_ok-c.c) (boxed_expression c.in_ok-step.step) before (uses_of c.condition_or_true.new.used) (uses_of c.discarded.new.used) error c.in_ok-c.ensures c.in_ok-step.ensures r)

pub for_turns-returns-clause-same : goal.for_turns-returns-clause-same
for_turns-returns-clause-same t c =
    let same : Type 0 = plain_scope c.statement.new.scope ≡ plain_scope c.args.scope.now in
    on_ok_handed (λ body s. boxed_statement s ≡ loop true (boxed_expression c.in_ok-c.c) (boxed_expression c.in_ok-step.step) (boxed_statement body)) same same c.statement.result c.looped.result c.looped.ensures c.statement.ensures.same (λ e. e)

pub begun_turns-returns-clause-judged : goal.begun_turns-returns-clause-judged
begun_turns-returns-clause-judged t c =
    let scope = plain_scope c.args.scope.now in
    let returns = plain_type c.args.returns.now in
    let slots = map plain_type c.args.slots.now.items in
    let before = uses_of c.args.used.now in
    let begun = plain_item_of c.begun_for.new.scope c.begun_for.new.slots.items c.in_ok-items.items.items in
    judges_handed (for_of (around_of begun.scope returns c.args.in_loop) begun.slots (plain_tree c.args.test.now) (plain_token c.args.end.now) (plain_tree c.args.step.now) (plain_tree c.args.body.now)) (for_by (around_of scope returns c.args.in_loop) slots (plain_tree c.args.start.now) (plain_tree c.args.test.now) (plain_token c.args.end.now) (plain_tree c.args.step.now) (plain_tree c.args.body.now)) (plain_judged c.for_turns-turns.new.slots.items) (plain_judged c.for_turns-turns.new.slots.items) (λ turns s. boxed_statement s ≡ block (put (map plain_item c.in_ok-items.items.items) (one_item (boxed_statement turns)))) c.args.used.now c.begun_for.new.used c.for_turns-turns.new.used c.for_turns-turns.result c.behind_items.result c.behind_items.ensures c.for_turns-turns.ensures.judged
    (λ turns s is g. for_given scope returns c.args.in_loop slots (plain_tree c.args.start.now) (plain_tree c.args.test.now) (plain_token c.args.end.now) (plain_tree c.args.step.now) (plain_tree c.args.body.now) begun (plain_judged c.for_turns-turns.new.slots.items turns) (boxed_statement s) before (uses_of c.begun_for.new.used) (uses_of c.for_turns-turns.new.used) c.in_ok-items.ensures.judged g is)
    (λ error r. for_refused scope returns c.args.in_loop slots (plain_tree c.args.start.now) (plain_tree c.args.test.now) (plain_token c.args.end.now) (plain_tree c.args.step.now) (plain_tree c.args.body.now) begun before (uses_of c.begun_for.new.used) error c.in_ok-items.ensures.judged r)

pub begun_turns-returns-clause-same : goal.begun_turns-returns-clause-same
begun_turns-returns-clause-same t c =
    let declared = declaration_in (plain_tree c.args.start.now) in
    on_ok_handed (λ turns s. boxed_statement s ≡ block (put (map plain_item c.in_ok-items.items.items) (one_item (boxed_statement turns)))) (plain_scope c.for_turns-turns.new.scope ≡ plain_scope c.begun_for.new.scope) (plain_scope c.end_for.new.scope ≡ plain_scope c.args.scope.now) c.for_turns-turns.result c.behind_items.result c.behind_items.ensures c.for_turns-turns.ensures.same
    (λ e. c.end_for.ensures ∙ ap (behind_for declared) e ∙ c.in_ok-items.ensures.outside)

pub begun_if-returns-clause-judged : goal.begun_if-returns-clause-judged
begun_if-returns-clause-judged t c =
    let scope = plain_scope c.args.scope.now in
    let returns = plain_type c.args.returns.now in
    let slots = map plain_type c.args.slots.now.items in
    let before = uses_of c.args.used.now in
    let after = uses_of c.statement.new.used in
    let behind = map plain_type c.statement.new.slots.items in
    let condition : PlainExpression = boxed_expression c.in_ok-condition.condition in
    let whole : Checked Begun = begun_if (around_of scope returns c.args.in_loop) slots (plain_tree c.args.test.now) (plain_token c.args.close.now) (plain_tree c.args.first.now) in
    let begun : PlainExpression → PlainStatement → Begun = λ x y. record { condition = x; core = y; slots = behind } in
    judges_handed (judged_statement (around_of scope returns c.args.in_loop) slots (plain_tree c.args.first.now)) whole (plain_judged c.statement.new.slots.items) (plain_begun c.statement.new.slots.items) (λ core b. (boxed_expression b.condition ≡ condition) × (boxed_statement b.core ≡ boxed_statement core)) c.args.used.now c.condition.new.used c.statement.new.used c.statement.result c.begun_with.result c.begun_with.ensures c.statement.ensures.judged
    (λ core b is g. subst (λ (x : PlainExpression). Gives whole (begun x (boxed_statement b.core)) before after) (sym is.0)
    (subst (λ (y : PlainStatement). Gives whole (begun condition y) before after) (sym is.1)
    (begun_given scope returns c.args.in_loop slots (plain_tree c.args.test.now) (plain_token c.args.close.now) (plain_tree c.args.first.now) condition (plain_judged c.statement.new.slots.items core) before (uses_of c.condition.new.used) after c.in_ok-condition.ensures g)))
    (λ error r. begun_refused scope returns c.args.in_loop slots (plain_tree c.args.test.now) (plain_token c.args.close.now) (plain_tree c.args.first.now) condition before (uses_of c.condition.new.used) error c.in_ok-condition.ensures r)

pub begun_if-returns-clause-same : goal.begun_if-returns-clause-same
begun_if-returns-clause-same t c =
    let same : Type 0 = plain_scope c.statement.new.scope ≡ plain_scope c.args.scope.now in
    on_ok_handed (λ core b. (boxed_expression b.condition ≡ boxed_expression c.in_ok-condition.condition) × (boxed_statement b.core ≡ boxed_statement core)) same same c.statement.result c.begun_with.result c.begun_with.ensures c.statement.ensures.same (λ e. e)

pub selection-returns-in_err-begun-clause-judged : goal.selection-returns-in_err-begun-clause-judged
selection-returns-in_err-begun-clause-judged t c =
    let scope = plain_scope c.args.scope.now in
    let returns = plain_type c.args.returns.now in
    let slots = map plain_type c.args.slots.now.items in
    let before = uses_of c.args.used.now in
    let outer : RefusedAs (judged_statement (around_of scope returns c.args.in_loop) slots (node k.If (plain_trees c.args.parts.now))) c.in_err-begun.field-0.0 = refused_of (judged_statement (around_of scope returns c.args.in_loop) slots (node k.If (plain_trees c.args.parts.now))) (branches_of (around_of scope returns c.args.in_loop) slots (plain_tree c.test-item.result) (plain_token c.in_ok-close.close.now) (plain_tree c.first-item.result) (plain_tree c.second-item.result)) c.in_err-begun.field-0.0
    (selection_slice (around_of scope returns c.args.in_loop) slots c.args.parts.now c.test-item.result c.close-item.result c.first-item.result c.second-item.result (plain_token c.in_ok-close.close.now) c.in-len6.len_at_least c.in-len6.len_below c.test-item.is c.close-item.is c.first-item.is c.second-item.is c.in_ok-close.ensures)
    (refused_first (begun_if (around_of scope returns c.args.in_loop) slots (plain_tree c.test-item.result) (plain_token c.in_ok-close.close.now) (plain_tree c.first-item.result)) (with_else (around_of scope returns c.args.in_loop) (plain_tree c.second-item.result)) c.in_err-begun.field-0.0 c.in_err-begun.ensures.judged) in
    search (rules, outer)

pub selection-returns-clause-judged : goal.selection-returns-clause-judged
selection-returns-clause-judged t c =
    let scope = plain_scope c.args.scope.now in
    let returns = plain_type c.args.returns.now in
    let slots = map plain_type c.args.slots.now.items in
    let before = uses_of c.args.used.now in
    let whole = judged_statement (around_of scope returns c.args.in_loop) slots (node k.If (plain_trees c.args.parts.now)) in
    let branches = branches_of (around_of scope returns c.args.in_loop) slots (plain_tree c.test-item.result) (plain_token c.in_ok-close.close.now) (plain_tree c.first-item.result) (plain_tree c.second-item.result) in
    let is_branches : whole ≡ branches = selection_slice (around_of scope returns c.args.in_loop) slots c.args.parts.now c.test-item.result c.close-item.result c.first-item.result c.second-item.result (plain_token c.in_ok-close.close.now) c.in-len6.len_at_least c.in-len6.len_below c.test-item.is c.close-item.is c.first-item.is c.second-item.is c.in_ok-close.ensures in
    let behind = plain_scope c.begun_if.new.scope in
    let begun = plain_begun c.begun_if.new.slots.items c.in_ok-begun.begun in
    judges_handed (judged_else (around_of behind returns c.args.in_loop) begun.slots (plain_tree c.second-item.result)) whole (plain_judged c.otherwise.new.slots.items) (plain_judged c.otherwise.new.slots.items) (λ second s. boxed_statement s ≡ selection begun.condition begun.core (boxed_statement second)) c.args.used.now c.begun_if.new.used c.otherwise.new.used c.otherwise.result c.selected.result c.selected.ensures c.otherwise.ensures.judged
    (λ second s is g. gives_of whole branches (plain_judged c.otherwise.new.slots.items s) before (uses_of c.otherwise.new.used) is_branches
    (branches_given scope behind returns c.args.in_loop slots (plain_tree c.test-item.result) (plain_token c.in_ok-close.close.now) (plain_tree c.first-item.result) (plain_tree c.second-item.result) begun (plain_judged c.otherwise.new.slots.items second) (boxed_statement s) before (uses_of c.begun_if.new.used) (uses_of c.otherwise.new.used) c.in_ok-begun.ensures.judged c.in_ok-begun.ensures.same g is))
    (λ error r. refused_of whole branches error is_branches
    (branches_refused scope behind returns c.args.in_loop slots (plain_tree c.test-item.result) (plain_token c.in_ok-close.close.now) (plain_tree c.first-item.result) (plain_tree c.second-item.result) begun before (uses_of c.begun_if.new.used) error c.in_ok-begun.ensures.judged c.in_ok-begun.ensures.same r))

pub selection-returns-clause-same : goal.selection-returns-clause-same
selection-returns-clause-same t c =
    let begun = plain_begun c.begun_if.new.slots.items c.in_ok-begun.begun in
    on_ok_handed (λ second s. boxed_statement s ≡ selection begun.condition begun.core (boxed_statement second)) (plain_scope c.otherwise.new.scope ≡ plain_scope c.begun_if.new.scope) (plain_scope c.otherwise.new.scope ≡ plain_scope c.args.scope.now) c.otherwise.result c.selected.result c.selected.ensures c.otherwise.ensures.same
    (λ e. e ∙ c.in_ok-begun.ensures.same)

pub block_items-returns-in_err-inner-clause-judged : goal.block_items-returns-in_err-inner-clause-judged
block_items-returns-in_err-inner-clause-judged t c =
    let scope = plain_scope c.args.scope.now in
    let returns = plain_type c.args.returns.now in
    let slots = map plain_type c.args.slots.now.items in
    let before = uses_of c.args.used.now in
    let outer : RefusedAs (block_of (around_of scope returns c.args.in_loop) slots (node k.Items (plain_trees c.args.parts.now))) c.in_err-inner.field-0.0 = block_refused scope (plain_scope c.begin_block.new.self) returns c.args.in_loop slots (plain_trees c.args.parts.now) c.in_err-inner.field-0.0 c.in_ok-begin_block.ensures c.in_err-inner.ensures.judged in
    search (rules, outer)

pub block_items-returns-clause-judged : goal.block_items-returns-clause-judged
block_items-returns-clause-judged t c =
    let scope = plain_scope c.args.scope.now in
    let returns = plain_type c.args.returns.now in
    let slots = map plain_type c.args.slots.now.items in
    let before = uses_of c.args.used.now in
    block_given scope (plain_scope c.begin_block.new.self) returns c.args.in_loop slots (plain_trees c.args.parts.now) (plain_judged_items c.statement_items.new.slots.items c.in_ok-inner.inner.items) (boxed_statement c.in_ok-as_block.field-0) before (uses_of c.statement_items.new.used) c.in_ok-begin_block.ensures c.in_ok-inner.ensures.judged c.in_ok-as_block.ensures

pub single_item-returns-clause-judged : goal.single_item-returns-clause-judged
single_item-returns-clause-judged t c =
    let scope = plain_scope c.args.scope.now in
    let returns = plain_type c.args.returns.now in
    let slots = map plain_type c.args.slots.now.items in
    let before = uses_of c.args.used.now in
    single_given scope (plain_scope c.statement.new.scope) returns c.args.in_loop slots (plain_tree c.args.tree.now) (plain_judged c.statement.new.slots.items c.in_ok-core.core) (put (map plain_item c.in_ok-single.field-0.items)) before (uses_of c.statement.new.used) c.in_ok-core.ensures.same c.in_ok-core.ensures.judged c.in_ok-single.ensures

-- ---- the refusal of the first judgement

pub while_turns-returns-in_err-c-clause-judged : goal.while_turns-returns-in_err-c-clause-judged
while_turns-returns-in_err-c-clause-judged t c =
    let scope = plain_scope c.args.scope.now in
    let returns = plain_type c.args.returns.now in
    let slots = map plain_type c.args.slots.now.items in
    let outer : RefusedAs (while_of (around_of scope returns c.args.in_loop) slots (plain_tree c.args.test.now) (plain_token c.args.close.now) (plain_tree c.args.body.now)) c.in_err-c.field-0.0 = refused_first (judged_condition scope (plain_tree c.args.test.now) (plain_token c.args.close.now)) (λ test. judged_statement (around_of scope returns true) slots (plain_tree c.args.body.now) >>= (λ s. give (loop_of true test nothing_to_do s))) c.in_err-c.field-0.0 c.in_err-c.ensures in
    search (rules, outer)

pub do_turns-returns-in_err-s-clause-judged : goal.do_turns-returns-in_err-s-clause-judged
do_turns-returns-in_err-s-clause-judged t c =
    let scope = plain_scope c.args.scope.now in
    let returns = plain_type c.args.returns.now in
    let slots = map plain_type c.args.slots.now.items in
    let outer : RefusedAs (do_of (around_of scope returns c.args.in_loop) slots (plain_tree c.args.test.now) (plain_token c.args.close.now) (plain_tree c.args.body.now)) c.in_err-s.field-0.0 = refused_first (judged_statement (around_of scope returns true) slots (plain_tree c.args.body.now)) (λ s. judged_condition scope (plain_tree c.args.test.now) (plain_token c.args.close.now) >>= (λ test. give (loop_of false test nothing_to_do s))) c.in_err-s.field-0.0 c.in_err-s.ensures.judged in
    search (rules, outer)

pub for_turns-returns-in_err-c-clause-judged : goal.for_turns-returns-in_err-c-clause-judged
for_turns-returns-in_err-c-clause-judged t c =
    let scope = plain_scope c.args.scope.now in
    let returns = plain_type c.args.returns.now in
    let slots = map plain_type c.args.slots.now.items in
    let outer : RefusedAs (for_of (around_of scope returns c.args.in_loop) slots (plain_tree c.args.test.now) (plain_token c.args.end.now) (plain_tree c.args.step.now) (plain_tree c.args.body.now)) c.in_err-c.field-0.0 = refused_first (condition_or_true scope (plain_tree c.args.test.now) (plain_token c.args.end.now)) (λ test. discarded scope (plain_tree c.args.step.now) nothing_to_do >>= (λ step. judged_statement (around_of scope returns true) slots (plain_tree c.args.body.now) >>= (λ s. give (loop_of true test step s)))) c.in_err-c.field-0.0 c.in_err-c.ensures in
    search (rules, outer)

pub begun_turns-returns-in_err-items-clause-judged : goal.begun_turns-returns-in_err-items-clause-judged
begun_turns-returns-in_err-items-clause-judged t c =
    let scope = plain_scope c.args.scope.now in
    let returns = plain_type c.args.returns.now in
    let slots = map plain_type c.args.slots.now.items in
    let outer : RefusedAs (for_by (around_of scope returns c.args.in_loop) slots (plain_tree c.args.start.now) (plain_tree c.args.test.now) (plain_token c.args.end.now) (plain_tree c.args.step.now) (plain_tree c.args.body.now)) c.in_err-items.field-0.0 = refused_first (begun_for scope slots (plain_tree c.args.start.now)) (turns_behind (around_of scope returns c.args.in_loop) (plain_tree c.args.test.now) (plain_token c.args.end.now) (plain_tree c.args.step.now) (plain_tree c.args.body.now)) c.in_err-items.field-0.0 c.in_err-items.ensures.judged in
    search (rules, outer)

pub begun_if-returns-in_err-condition-clause-judged : goal.begun_if-returns-in_err-condition-clause-judged
begun_if-returns-in_err-condition-clause-judged t c =
    let scope = plain_scope c.args.scope.now in
    let returns = plain_type c.args.returns.now in
    let slots = map plain_type c.args.slots.now.items in
    let outer : RefusedAs (begun_if (around_of scope returns c.args.in_loop) slots (plain_tree c.args.test.now) (plain_token c.args.close.now) (plain_tree c.args.first.now)) c.in_err-condition.field-0.0 = refused_first (judged_condition scope (plain_tree c.args.test.now) (plain_token c.args.close.now)) (λ test. judged_statement (around_of scope returns c.args.in_loop) slots (plain_tree c.args.first.now) >>= (λ a. give (record { condition = test; core = a.core; slots = a.slots }))) c.in_err-condition.field-0.0 c.in_err-condition.ensures in
    search (rules, outer)

pub single_item-returns-in_err-core-clause-judged : goal.single_item-returns-in_err-core-clause-judged
single_item-returns-in_err-core-clause-judged t c =
    let scope = plain_scope c.args.scope.now in
    let returns = plain_type c.args.returns.now in
    let slots = map plain_type c.args.slots.now.items in
    let outer : RefusedAs (single_item (around_of scope returns c.args.in_loop) slots (plain_tree c.args.tree.now)) c.in_err-core.field-0.0 = refused_first (judged_statement (around_of scope returns c.args.in_loop) slots (plain_tree c.args.tree.now)) (λ first. give (record { scope = scope; slots = first.slots; puts = statement_item first.core })) c.in_err-core.field-0.0 c.in_err-core.ensures.judged in
    search (rules, outer)
