-- Expressions, each kind of node from what its parts are judged as.
use Rattle.std.proofs.Common.{rules, ◌≡◌, ℕ, ◌+◌, ◌*◌, List, true, Vec, Global, get_or, map, drop, refl, sym, ap, subst, ◌∙◌, arith}
use Rattle.c_types.specs.declared.types.CType.{CType}
use Rattle.c_types.specs.Types.{plain_type}
use Rattle.c_tree.specs.declared.trees.Tree.{Tree}
use Rattle.c_tree.specs.TreeLaws.{plain_tree-Node}
use Rattle.core_meaning.specs.declared.expressions.Expression.{Expression}
use Rattle.core_meaning.specs.Program.{PlainExpression}
use Rattle.plain_expressions.specs.Continuing.{Continues}
use Rattle.plain_expressions.proofs.ArgumentLaws.{from, step_at, refused_at, end_at, continues_none}
use Rattle.c_text.specs.Token.{PlainToken, plain_token}
use Rattle.c_tree.specs.declared.kinds.Kind.{Kind}
use Rattle.c_tree.specs.declared.kinds.Kind.TheVariants as k
use Rattle.c_tree.specs.Trees.{PlainTree, node, leaf, more, none, plain_tree, plain_trees}
use Rattle.core_meaning.specs.Plain.{plain_expression, plain_arguments}
use Rattle.core_meaning.specs.Checking.{Checked, ◌>>=◌, give, found_or}
use Rattle.core_meaning.specs.declared.refusals.TypeKind.TheVariants.{BadOperand}
use Rattle.core_meaning.specs.Typing.{Typed, Operand, fits_into, loaded}
use Rattle.core_meaning.specs.Expressions.{judged, valued, first_token, condition_value, judged_condition, judged_arguments, may_be_called, chosen, cast_to, arithmetic_words}
use Rattle.plain_scope.specs.PlainScope.{plain_scope, plain_signature, uses_of}
use Rattle.plain_scope.specs.Judgements.{Gives}
use Rattle.plain_scope.specs.JudgementLaws.{gives_then, refused_first}
use Rattle.plain_operands.specs.PlainOperands.{plain_operand, plain_typed, boxed_expression}
use Rattle.plain_expressions.specs.PlainSteps.{plain_two, plain_callee, plain_left}
use Rattle.plain_expressions.specs.Steps.{text_operand, passed_argument, both, two_values, two_in, on_two, joined_two, operated, written_object, assigned_to, assigned_in, cast_value, on_operand, called_by, called_with, not_called, call_of, is_list}
use Rattle.plain_expressions.proofs.Answering.{judges_as, answers_alone, passed_on, gives_as, refused_as, refused_behind, gives_last, answers_last, judges_last}
use Rattle.plain_expressions.proofs.Shapes.{two_parts, three_parts, three_first, three_around, three_inside, four_but_third, four_but_last, five_but_fourth}
use Rattle.plain_expressions.proofs.NodeLaws.{between_law, index_law, behind_law, before_law, prefix_law, inner_law, selection_law, cast_law, assigned_law, conditional_law, call_law, list_law, called_gives, cast_shape}
use Rattle.plain_expressions.proofs.expressions.+judge.Goals as goal

pub two_values-returns-in_err-a : goal.two_values-returns-in_err-a
two_values-returns-in_err-a t c =
    let scope = plain_scope c.args.scope.now in
    let first = plain_tree c.first-item.result in
    let second = plain_tree c.second-item.result in
    let shape = three_first c.args.parts.now c.first-item.result c.second-item.result c.in-len3-up.len_at_least c.first-item.is c.second-item.is in
    passed_on (two_in scope (plain_trees c.args.parts.now)) plain_two c.args.used.now c.valued.new.used c.from_residual.result c.in_err-a.field-0.0 c.from_residual.ensures.1
    (refused_as (two_in scope (plain_trees c.args.parts.now)) (two_values scope first second) c.in_err-a.field-0.0 (rw shape refl)
    (refused_first (valued scope first) (λ a. valued scope second >>= (λ b. give (both a b))) c.in_err-a.field-0.0 c.in_err-a.ensures))

pub two_values-returns-in_err-b : goal.two_values-returns-in_err-b
two_values-returns-in_err-b t c =
    let scope = plain_scope c.args.scope.now in
    let first = plain_tree c.first-item.result in
    let second = plain_tree c.second-item.result in
    let shape = three_first c.args.parts.now c.first-item.result c.second-item.result c.in-len3-up.len_at_least c.first-item.is c.second-item.is in
    let error = c.in_err-b.field-0.0 in
    passed_on (two_in scope (plain_trees c.args.parts.now)) plain_two c.args.used.now c.valued-2.new.used c.from_residual-in_err-b.result error c.from_residual-in_err-b.ensures.1
    (refused_as (two_in scope (plain_trees c.args.parts.now)) (two_values scope first second) error (rw shape refl)
    (refused_behind (valued scope first) (λ a. valued scope second >>= (λ b. give (both a b))) (plain_typed c.in_ok-a.a) (uses_of c.args.used.now) (uses_of c.valued.new.used) error c.in_ok-a.ensures
    (refused_first (valued scope second) (λ b. give (both (plain_typed c.in_ok-a.a) b)) error c.in_err-b.ensures)))

pub two_values-returns : goal.two_values-returns
two_values-returns t c =
    let scope = plain_scope c.args.scope.now in
    let first = plain_tree c.first-item.result in
    let second = plain_tree c.second-item.result in
    let shape = three_first c.args.parts.now c.first-item.result c.second-item.result c.in-len3-up.len_at_least c.first-item.is c.second-item.is in
    let a = plain_typed c.in_ok-a.a in
    let b = plain_typed c.in_ok-b.b in
    let two = both a b in
    gives_as (two_in scope (plain_trees c.args.parts.now)) (two_values scope first second) two (uses_of c.args.used.now) (uses_of c.valued-2.new.used) (rw shape refl)
    (gives_then (valued scope first) (λ x. valued scope second >>= (λ y. give (both x y))) a two (uses_of c.args.used.now) (uses_of c.valued.new.used) (uses_of c.valued-2.new.used) c.in_ok-a.ensures
    (gives_last (valued scope second) (λ y. give (both a y)) b two (uses_of c.valued.new.used) (uses_of c.valued-2.new.used) c.in_ok-b.ensures refl))

pub between-returns : goal.between-returns
between-returns t c =
    let scope = plain_scope c.args.scope.now in
    let parts = c.args.parts.now in
    let sign = c.sign-item.result in
    judges_as (judged scope (node c.args.kind (plain_trees parts))) (on_two scope c.args.kind (plain_token c.in_ok-leaf.field-0.now) (plain_trees parts)) plain_operand c.args.used.now c.on_two.new.used c.on_two.result
    (between_law scope c.args.kind (plain_token c.in_ok-leaf.field-0.now) (plain_trees parts) (plain_tree (get_or parts 0 sign)) (plain_tree sign) (plain_tree (get_or parts 2 sign)) c.requires (three_inside parts sign c.in-len3.len_at_least c.in-len3.len_below c.sign-item.is) c.in_ok-leaf.ensures)
    c.on_two.ensures

pub node_of_three-returns-in-Parenthesized : goal.node_of_three-returns-in-Parenthesized
node_of_three-returns-in-Parenthesized t c =
    let scope = plain_scope c.args.scope.now in
    let parts = c.args.parts.now in
    let shape = three_parts parts c.first-item.result c.second-item.result c.third-item.result c.in-len3.len_at_least c.in-len3.len_below c.first-item.is c.second-item.is c.third-item.is in
    judges_as (judged scope (node c.args.kind (plain_trees parts))) (judged scope (plain_tree c.second-item.result)) plain_operand c.args.used.now c.judged.new.used c.judged.result
    (ap (λ kind. judged scope (node kind (plain_trees parts))) c.in-Parenthesized.is ∙ inner_law scope (plain_trees parts) (plain_tree c.first-item.result) (plain_tree c.second-item.result) (plain_tree c.third-item.result) shape)
    c.judged.ensures

pub node_of_three-returns-in_ok-leaf-in-Selection-2 : goal.node_of_three-returns-in_ok-leaf-in-Selection-2
node_of_three-returns-in_ok-leaf-in-Selection-2 t c =
    let scope = plain_scope c.args.scope.now in
    let parts = c.args.parts.now in
    judges_as (judged scope (node c.args.kind (plain_trees parts))) (judged scope (node k.Selection (more (plain_tree c.first-item.result) (more (leaf (plain_token c.in_ok-leaf-in-Selection.field-0.now)) (more (leaf (plain_token c.in_ok-leaf-in-Selection-2.field-0.now)) none))))) plain_operand c.args.used.now c.selection.new.used c.selection.result
    (ap (λ kind. judged scope (node kind (plain_trees parts))) c.in-Selection.is ∙ selection_law scope (plain_token c.in_ok-leaf-in-Selection.field-0.now) (plain_token c.in_ok-leaf-in-Selection-2.field-0.now) (plain_trees parts) (plain_tree c.first-item.result) (plain_tree c.second-item.result) (plain_tree c.third-item.result) (three_parts parts c.first-item.result c.second-item.result c.third-item.result c.in-len3.len_at_least c.in-len3.len_below c.first-item.is c.second-item.is c.third-item.is) c.in_ok-leaf-in-Selection.ensures c.in_ok-leaf-in-Selection-2.ensures)
    c.selection.ensures

pub node_of_three-returns-in_ok-leaf-in-Assignment : goal.node_of_three-returns-in_ok-leaf-in-Assignment
node_of_three-returns-in_ok-leaf-in-Assignment t c =
    let scope = plain_scope c.args.scope.now in
    let parts = c.args.parts.now in
    judges_as (judged scope (node c.args.kind (plain_trees parts))) (assigned_in scope (plain_token c.in_ok-leaf-in-Assignment.field-0.now) (plain_trees parts)) plain_operand c.args.used.now c.assigned.new.used c.assigned.result
    (ap (λ kind. judged scope (node kind (plain_trees parts))) c.in-Assignment.is ∙ assigned_law scope (plain_token c.in_ok-leaf-in-Assignment.field-0.now) (plain_trees parts) (plain_tree c.first-item.result) (plain_tree c.second-item.result) (plain_tree c.third-item.result) (three_parts parts c.first-item.result c.second-item.result c.third-item.result c.in-len3.len_at_least c.in-len3.len_below c.first-item.is c.second-item.is c.third-item.is) c.in_ok-leaf-in-Assignment.ensures)
    c.assigned.ensures

pub node_of_four-returns-in_ok-leaf-in-Cast : goal.node_of_four-returns-in_ok-leaf-in-Cast
node_of_four-returns-in_ok-leaf-in-Cast t c =
    let scope = plain_scope c.args.scope.now in
    let parts = c.args.parts.now in
    judges_as (judged scope (node c.args.kind (plain_trees parts))) (cast_value scope (plain_token c.in_ok-leaf-in-Cast.field-0.now) (plain_tree c.second-item.result) (plain_tree c.fourth-item.result)) plain_operand c.args.used.now c.cast.new.used c.cast.result
    (ap (λ kind. judged scope (node kind (plain_trees parts))) c.in-Cast.is ∙ cast_law scope (plain_token c.in_ok-leaf-in-Cast.field-0.now) (plain_trees parts) (plain_tree c.first-item.result) (plain_tree c.second-item.result) (plain_tree (get_or parts 2 c.first-item.result)) (plain_tree c.fourth-item.result) (four_but_third parts c.first-item.result c.second-item.result c.fourth-item.result c.in-len4.len_at_least c.in-len4.len_below c.first-item.is c.second-item.is c.fourth-item.is) c.in_ok-leaf-in-Cast.ensures)
    c.cast.ensures

pub node_of_four-returns-in_ok-leaf-in-Index : goal.node_of_four-returns-in_ok-leaf-in-Index
node_of_four-returns-in_ok-leaf-in-Index t c =
    let scope = plain_scope c.args.scope.now in
    let parts = c.args.parts.now in
    judges_as (judged scope (node c.args.kind (plain_trees parts))) (on_two scope c.args.kind (plain_token c.in_ok-leaf-in-Index.field-0.now) (plain_trees parts)) plain_operand c.args.used.now c.on_two.new.used c.on_two.result
    (ap (λ kind. judged scope (node kind (plain_trees parts))) c.in-Index.is ∙ index_law scope (plain_token c.in_ok-leaf-in-Index.field-0.now) (plain_trees parts) (plain_tree c.first-item.result) (plain_tree c.second-item.result) (plain_tree (get_or parts 2 c.first-item.result)) (plain_tree c.fourth-item.result) (four_but_third parts c.first-item.result c.second-item.result c.fourth-item.result c.in-len4.len_at_least c.in-len4.len_below c.first-item.is c.second-item.is c.fourth-item.is) c.in_ok-leaf-in-Index.ensures ∙ sym (ap (λ kind. on_two scope kind (plain_token c.in_ok-leaf-in-Index.field-0.now) (plain_trees parts)) c.in-Index.is))
    c.on_two.ensures

pub node_of_two-returns-in_ok-leaf-in-PostfixStep : goal.node_of_two-returns-in_ok-leaf-in-PostfixStep
node_of_two-returns-in_ok-leaf-in-PostfixStep t c =
    let scope = plain_scope c.args.scope.now in
    let parts = c.args.parts.now in
    judges_as (judged scope (node c.args.kind (plain_trees parts))) (on_operand scope c.args.kind (plain_token c.in_ok-leaf-in-PostfixStep.field-0.now) (plain_tree c.first-item.result)) plain_operand c.args.used.now c.on_operand.new.used c.on_operand.result
    (ap (λ kind. judged scope (node kind (plain_trees parts))) c.in-PostfixStep.is ∙ behind_law scope (plain_token c.in_ok-leaf-in-PostfixStep.field-0.now) (plain_trees parts) (plain_tree c.first-item.result) (plain_tree c.second-item.result) (two_parts parts c.first-item.result c.second-item.result c.in-len2.len_at_least c.in-len2.len_below c.first-item.is c.second-item.is) c.in_ok-leaf-in-PostfixStep.ensures ∙ sym (ap (λ kind. on_operand scope kind (plain_token c.in_ok-leaf-in-PostfixStep.field-0.now) (plain_tree c.first-item.result)) c.in-PostfixStep.is))
    c.on_operand.ensures

pub node_of_two-returns-in_ok-leaf-in-PrefixStep : goal.node_of_two-returns-in_ok-leaf-in-PrefixStep
node_of_two-returns-in_ok-leaf-in-PrefixStep t c =
    let scope = plain_scope c.args.scope.now in
    let parts = c.args.parts.now in
    judges_as (judged scope (node c.args.kind (plain_trees parts))) (on_operand scope c.args.kind (plain_token c.in_ok-leaf-in-PrefixStep.field-0.now) (plain_tree c.second-item.result)) plain_operand c.args.used.now c.on_operand-in-PrefixStep.new.used c.on_operand-in-PrefixStep.result
    (ap (λ kind. judged scope (node kind (plain_trees parts))) c.in-PrefixStep.is ∙ before_law scope (plain_token c.in_ok-leaf-in-PrefixStep.field-0.now) (plain_trees parts) (plain_tree c.first-item.result) (plain_tree c.second-item.result) (two_parts parts c.first-item.result c.second-item.result c.in-len2.len_at_least c.in-len2.len_below c.first-item.is c.second-item.is) c.in_ok-leaf-in-PrefixStep.ensures ∙ sym (ap (λ kind. on_operand scope kind (plain_token c.in_ok-leaf-in-PrefixStep.field-0.now) (plain_tree c.second-item.result)) c.in-PrefixStep.is))
    c.on_operand-in-PrefixStep.ensures

pub node_of_two-returns-in_ok-leaf-in-Prefix : goal.node_of_two-returns-in_ok-leaf-in-Prefix
node_of_two-returns-in_ok-leaf-in-Prefix t c =
    let scope = plain_scope c.args.scope.now in
    let parts = c.args.parts.now in
    judges_as (judged scope (node c.args.kind (plain_trees parts))) (on_operand scope c.args.kind (plain_token c.in_ok-leaf-in-Prefix.field-0.now) (plain_tree c.second-item.result)) plain_operand c.args.used.now c.on_operand-in-Prefix.new.used c.on_operand-in-Prefix.result
    (ap (λ kind. judged scope (node kind (plain_trees parts))) c.in-Prefix.is ∙ prefix_law scope (plain_token c.in_ok-leaf-in-Prefix.field-0.now) (plain_trees parts) (plain_tree c.first-item.result) (plain_tree c.second-item.result) (two_parts parts c.first-item.result c.second-item.result c.in-len2.len_at_least c.in-len2.len_below c.first-item.is c.second-item.is) c.in_ok-leaf-in-Prefix.ensures ∙ sym (ap (λ kind. on_operand scope kind (plain_token c.in_ok-leaf-in-Prefix.field-0.now) (plain_tree c.second-item.result)) c.in-Prefix.is))
    c.on_operand-in-Prefix.ensures

pub assigned-returns-in_err-left : goal.assigned-returns-in_err-left
assigned-returns-in_err-left t c =
    let scope = plain_scope c.args.scope.now in
    let parts = c.args.parts.now in
    let sign = plain_token c.args.sign.now in
    let first = plain_tree c.first-item.result in
    let second = plain_tree c.second-item.result in
    let whole = assigned_in scope sign (plain_trees parts) in
    let chain = written_object scope first sign >>= (λ l. valued scope second >>= assigned_to scope sign l) in
    let is : whole ≡ chain = ap (assigned_in scope sign) (three_around parts c.first-item.result c.second-item.result c.in-len3.len_at_least c.in-len3.len_below c.first-item.is c.second-item.is) in
    let error = c.in_err-left.field-0.0 in
    passed_on whole plain_operand c.args.used.now c.written.new.used c.from_residual.result error c.from_residual.ensures.1
    (refused_as whole chain error is (refused_first (written_object scope first sign) (λ l. valued scope second >>= assigned_to scope sign l) error c.in_err-left.ensures))

pub assigned-returns-in_err-right : goal.assigned-returns-in_err-right
assigned-returns-in_err-right t c =
    let scope = plain_scope c.args.scope.now in
    let parts = c.args.parts.now in
    let sign = plain_token c.args.sign.now in
    let first = plain_tree c.first-item.result in
    let second = plain_tree c.second-item.result in
    let whole = assigned_in scope sign (plain_trees parts) in
    let chain = written_object scope first sign >>= (λ l. valued scope second >>= assigned_to scope sign l) in
    let is : whole ≡ chain = ap (assigned_in scope sign) (three_around parts c.first-item.result c.second-item.result c.in-len3.len_at_least c.in-len3.len_below c.first-item.is c.second-item.is) in
    let error = c.in_err-right.field-0.0 in
    let left = plain_left c.in_ok-left.left in
    passed_on whole plain_operand c.args.used.now c.valued.new.used c.from_residual-in_err-right.result error c.from_residual-in_err-right.ensures.1
    (refused_as whole chain error is (refused_behind (written_object scope first sign) (λ l. valued scope second >>= assigned_to scope sign l) left (uses_of c.args.used.now) (uses_of c.written.new.used) error c.in_ok-left.ensures
    (refused_first (valued scope second) (assigned_to scope sign left) error c.in_err-right.ensures)))

pub conditional-returns-in_err-tested : goal.conditional-returns-in_err-tested
conditional-returns-in_err-tested t c =
    let scope = plain_scope c.args.scope.now in
    let parts = c.args.parts.now in
    let question = plain_token c.in_ok-question.question.now in
    let first = plain_tree c.first-item.result in
    let second = plain_tree c.second-item.result in
    let third = plain_tree c.third-item.result in
    let whole = judged scope (node k.Conditional (plain_trees parts)) in
    let from_a : PlainExpression → Typed → Checked Operand = λ e a. valued scope third >>= (λ b. chosen question e a b) in
    let from_tested : PlainExpression → Checked Operand = λ e. valued scope second >>= from_a e in
    let chain = judged_condition scope first question >>= from_tested in
    let is : whole ≡ chain = conditional_law scope question (plain_trees parts) first (plain_tree c.question-item.result) second (plain_tree (get_or parts 3 c.first-item.result)) third (five_but_fourth parts c.first-item.result c.question-item.result c.second-item.result c.third-item.result c.in-len5.len_at_least c.in-len5.len_below c.first-item.is c.question-item.is c.second-item.is c.third-item.is) c.in_ok-question.ensures in
    let error = c.in_err-tested.field-0.0 in
    passed_on whole plain_operand c.args.used.now c.condition.new.used c.from_residual-in_err-tested.result error c.from_residual-in_err-tested.ensures.1
    (refused_as whole chain error is (refused_first (judged_condition scope first question) from_tested error c.in_err-tested.ensures))

pub conditional-returns-in_err-a : goal.conditional-returns-in_err-a
conditional-returns-in_err-a t c =
    let scope = plain_scope c.args.scope.now in
    let parts = c.args.parts.now in
    let question = plain_token c.in_ok-question.question.now in
    let first = plain_tree c.first-item.result in
    let second = plain_tree c.second-item.result in
    let third = plain_tree c.third-item.result in
    let whole = judged scope (node k.Conditional (plain_trees parts)) in
    let from_a : PlainExpression → Typed → Checked Operand = λ e a. valued scope third >>= (λ b. chosen question e a b) in
    let from_tested : PlainExpression → Checked Operand = λ e. valued scope second >>= from_a e in
    let chain = judged_condition scope first question >>= from_tested in
    let is : whole ≡ chain = conditional_law scope question (plain_trees parts) first (plain_tree c.question-item.result) second (plain_tree (get_or parts 3 c.first-item.result)) third (five_but_fourth parts c.first-item.result c.question-item.result c.second-item.result c.third-item.result c.in-len5.len_at_least c.in-len5.len_below c.first-item.is c.question-item.is c.second-item.is c.third-item.is) c.in_ok-question.ensures in
    let error = c.in_err-a.field-0.0 in
    let tested = plain_expression c.in_ok-tested.tested.value in
    passed_on whole plain_operand c.args.used.now c.valued.new.used c.from_residual-in_err-a.result error c.from_residual-in_err-a.ensures.1
    (refused_as whole chain error is (refused_behind (judged_condition scope first question) from_tested tested (uses_of c.args.used.now) (uses_of c.condition.new.used) error c.in_ok-tested.ensures (refused_first (valued scope second) (from_a tested) error c.in_err-a.ensures)))

pub conditional-returns-in_err-b : goal.conditional-returns-in_err-b
conditional-returns-in_err-b t c =
    let scope = plain_scope c.args.scope.now in
    let parts = c.args.parts.now in
    let question = plain_token c.in_ok-question.question.now in
    let first = plain_tree c.first-item.result in
    let second = plain_tree c.second-item.result in
    let third = plain_tree c.third-item.result in
    let whole = judged scope (node k.Conditional (plain_trees parts)) in
    let from_a : PlainExpression → Typed → Checked Operand = λ e a. valued scope third >>= (λ b. chosen question e a b) in
    let from_tested : PlainExpression → Checked Operand = λ e. valued scope second >>= from_a e in
    let chain = judged_condition scope first question >>= from_tested in
    let is : whole ≡ chain = conditional_law scope question (plain_trees parts) first (plain_tree c.question-item.result) second (plain_tree (get_or parts 3 c.first-item.result)) third (five_but_fourth parts c.first-item.result c.question-item.result c.second-item.result c.third-item.result c.in-len5.len_at_least c.in-len5.len_below c.first-item.is c.question-item.is c.second-item.is c.third-item.is) c.in_ok-question.ensures in
    let error = c.in_err-b.field-0.0 in
    let tested = plain_expression c.in_ok-tested.tested.value in
    let a = plain_typed c.in_ok-a.a in
    passed_on whole plain_operand c.args.used.now c.valued-2.new.used c.from_residual-in_err-b.result error c.from_residual-in_err-b.ensures.1
    (refused_as whole chain error is (refused_behind (judged_condition scope first question) from_tested tested (uses_of c.args.used.now) (uses_of c.condition.new.used) error c.in_ok-tested.ensures (refused_behind (valued scope second) (from_a tested) a (uses_of c.condition.new.used) (uses_of c.valued.new.used) error c.in_ok-a.ensures (refused_first (valued scope third) (λ b. chosen question tested a b) error c.in_err-b.ensures))))

pub call-returns-in-Some : goal.call-returns-in-Some
call-returns-in-Some t c =
    let scope = plain_scope c.args.scope.now in
    let parts = c.args.parts.now in
    let bracket = plain_token c.in_ok-bracket.bracket.now in
    let first = plain_tree c.first-item.result in
    let list = plain_tree c.list-item.result in
    let listed : is_list list ≡ true = cc in
    let law = call_law scope bracket (plain_trees parts) first (plain_tree c.bracket-item.result) list (plain_tree (get_or parts 3 c.first-item.result)) (four_but_last parts c.first-item.result c.bracket-item.result c.list-item.result c.in-len4.len_at_least c.in-len4.len_below c.first-item.is c.bracket-item.is c.list-item.is) c.in_ok-bracket.ensures listed in
    judges_as (judged scope (node k.Call (plain_trees parts))) (called_by scope (plain_callee c.in-Some.f) bracket list) plain_operand c.args.used.now c.called_by.new.used c.called_by.result
    (law ∙ ap (call_of scope bracket first list) (sym c.in-Some.ensures))
    c.called_by.ensures

pub call-returns-in-None : goal.call-returns-in-None
call-returns-in-None t c =
    let scope = plain_scope c.args.scope.now in
    let parts = c.args.parts.now in
    let bracket = plain_token c.in_ok-bracket.bracket.now in
    let first = plain_tree c.first-item.result in
    let list = plain_tree c.list-item.result in
    let listed : is_list list ≡ true = cc in
    let law = call_law scope bracket (plain_trees parts) first (plain_tree c.bracket-item.result) list (plain_tree (get_or parts 3 c.first-item.result)) (four_but_last parts c.first-item.result c.bracket-item.result c.list-item.result c.in-len4.len_at_least c.in-len4.len_below c.first-item.is c.bracket-item.is c.list-item.is) c.in_ok-bracket.ensures listed in
    judges_as (judged scope (node k.Call (plain_trees parts))) (not_called scope bracket first) plain_operand c.args.used.now c.not_called.new.used c.not_called.result
    (law ∙ ap (call_of scope bracket first list) (sym c.in-None.ensures))
    c.not_called.ensures

pub called-returns : goal.called-returns
called-returns t c =
    let scope = plain_scope c.args.scope.now in
    let parts = plain_trees c.args.parts.now in
    let types = c.args.f.now.signature.now.parameters.items in
    let bracket = plain_token c.args.bracket.now in
    let callable = ap (λ (n : ℕ). may_be_called scope (plain_signature c.args.f.now.signature.now) n bracket) (sym c.entry_count.ensures) ∙ c.in_ok-may_be_called.ensures in
    called_gives scope (plain_callee c.args.f.now) parts bracket (plain_arguments c.in_ok-given.given.items) (plain_operand c.in_ok-x.x) (uses_of c.args.used.now) (uses_of c.noted.new.used) (uses_of c.arguments.new.used) c.in_ok-noted.ensures callable
    (subst (λ (ts : List CType). Gives (judged_arguments scope (map plain_type ts) parts bracket) (plain_arguments c.in_ok-given.given.items) (uses_of c.noted.new.used) (uses_of c.arguments.new.used)) c.as_slice-types.ensures.value c.in_ok-given.ensures)
    c.in_ok-x.ensures

pub called_by-returns-in-Node : goal.called_by-returns-in-Node
called_by-returns-in-Node t c =
    let scope = plain_scope c.args.scope.now in
    let f = plain_callee c.args.f.now in
    let bracket = plain_token c.args.bracket.now in
    let list = plain_tree c.args.list.now in
    let kind = c.in-Node.field-0 in
    let parts = plain_trees c.in-Node.parts.items in
    let shape : list ≡ node kind parts = ap plain_tree c.in-Node.is ∙ plain_tree-Node kind c.in-Node.parts in
    let listed : is_list (node kind parts) ≡ true = subst (λ (l : PlainTree). is_list l ≡ true) shape c.requires in
    judges_as (called_by scope f bracket list) (called_with scope f (plain_trees c.deref.result.now) bracket) plain_operand c.args.used.now c.called.new.used c.called.result
    (ap (called_by scope f bracket) shape ∙ list_law scope f bracket kind parts listed ∙ ap (λ (ps : List Tree). called_with scope f (plain_trees ps) bracket) (sym c.deref.ensures.value))
    c.called.ensures

pub cast-returns-in_err-x : goal.cast-returns-in_err-x
cast-returns-in_err-x t c =
    let scope = plain_scope c.args.scope.now in
    let bracket = plain_token c.args.bracket.now in
    let words = plain_trees c.in_ok-words.words.now in
    let inner = plain_tree c.args.inner.now in
    let whole = cast_value scope bracket (plain_tree c.args.words.now) inner in
    let chain = valued scope inner >>= (λ x. cast_to bracket x (arithmetic_words words)) in
    let is : whole ≡ chain = cast_shape scope bracket (plain_tree c.args.words.now) inner words c.in_ok-words.ensures in
    let error = c.in_err-x.field-0.0 in
    passed_on whole plain_operand c.args.used.now c.valued.new.used c.from_residual-in_err-x.result error c.from_residual-in_err-x.ensures.1
    (refused_as whole chain error is (refused_first (valued scope inner) (λ y. cast_to bracket y (arithmetic_words words)) error c.in_err-x.ensures))

pub arguments-returns : goal.arguments-returns
arguments-returns t c =
    let scope = plain_scope c.args.scope.now in
    let bracket = plain_token c.args.bracket.now in
    end_at scope (from scope bracket c.args.types.now c.args.parts.now) c.args.types.now c.args.parts.now c.loop-i.i bracket c.loop-i.given.items (uses_of c.args.used.now) (uses_of c.loop-i.used) (omega arith) c.requires c.loop-i.invariant

pub arguments-returns-in_err-core : goal.arguments-returns-in_err-core
arguments-returns-in_err-core t c =
    let scope = plain_scope c.args.scope.now in
    let bracket = plain_token c.args.bracket.now in
    let whole = from scope bracket c.args.types.now c.args.parts.now in
    passed_on whole (λ (given : Vec Expression Global). plain_arguments given.items) c.args.used.now c.passed.new.used c.from_residual-in_err-core.result c.in_err-core.field-0.0 c.from_residual-in_err-core.ensures.1
    (refused_at scope whole c.args.types.now c.args.parts.now c.loop-i.i c.index-types-i.result c.in-Some.tree.now bracket (plain_arguments c.loop-i.given.items) (uses_of c.args.used.now) (uses_of c.loop-i.used) c.in_err-core.field-0.0 (omega arith) c.index-types-i.is c.in-Some.ensures.lookup.3.0 c.in-Some.ensures.lookup.1 c.loop-i.invariant c.in_err-core.ensures)

pub arguments-loop-i-init : goal.arguments-loop-i-init
arguments-loop-i-init t c =
    let scope = plain_scope c.args.scope.now in
    let bracket = plain_token c.args.bracket.now in
    let whole = from scope bracket c.args.types.now c.args.parts.now in
    subst (λ (es : List Expression). Continues whole whole (plain_arguments es) (uses_of c.args.used.now) (uses_of c.args.used.now)) (sym c.in_ok-given.ensures.items) (continues_none whole (uses_of c.args.used.now))

pub arguments-loop-i-preserved : goal.arguments-loop-i-preserved
arguments-loop-i-preserved t c =
    let scope = plain_scope c.args.scope.now in
    let bracket = plain_token c.args.bracket.now in
    let whole = from scope bracket c.args.types.now c.args.parts.now in
    let i = c.loop-i.i in
    let core = c.into_inner.result in
    let is : c.in_ok-core.core.value ≡ core = search rules in
    let given = subst (λ (e : Expression). Gives (passed_argument scope (plain_type c.index-types-i.result) (plain_tree c.in-Some.tree.now) bracket) (plain_expression e) (uses_of c.loop-i.used) (uses_of c.passed.new.used)) is c.in_ok-core.ensures in
    subst (λ (es : List Expression). Continues whole (from scope bracket (drop (i + 1) c.args.types.now) (drop (2 * (i + 1)) c.args.parts.now)) (plain_arguments es) (uses_of c.args.used.now) (uses_of c.passed.new.used)) (sym c.in_ok-push.ensures.items)
    (step_at scope whole c.args.types.now c.args.parts.now i c.index-types-i.result c.in-Some.tree.now bracket c.loop-i.given.items core (uses_of c.args.used.now) (uses_of c.loop-i.used) (uses_of c.passed.new.used) (omega arith) c.index-types-i.is c.in-Some.ensures.lookup.3.0 c.in-Some.ensures.lookup.1 c.loop-i.invariant given)

pub assigned-returns : goal.assigned-returns
assigned-returns t c =
    let scope = plain_scope c.args.scope.now in
    let parts = c.args.parts.now in
    let sign = plain_token c.args.sign.now in
    let first = plain_tree c.first-item.result in
    let second = plain_tree c.second-item.result in
    let whole = assigned_in scope sign (plain_trees parts) in
    let chain = written_object scope first sign >>= (λ l. valued scope second >>= assigned_to scope sign l) in
    let is : whole ≡ chain = ap (assigned_in scope sign) (three_around parts c.first-item.result c.second-item.result c.in-len3.len_at_least c.in-len3.len_below c.first-item.is c.second-item.is) in
    let left = plain_left c.in_ok-left.left in
    let right = plain_typed c.in_ok-right.right in
    judges_as whole chain plain_operand c.args.used.now c.valued.new.used c.assignment.result is
    (judges_last (written_object scope first sign) (λ l. valued scope second >>= assigned_to scope sign l) plain_operand left c.args.used.now c.written.new.used c.valued.new.used c.assignment.result c.in_ok-left.ensures
    (answers_last (valued scope second) (assigned_to scope sign left) (assigned_to scope sign left right) plain_operand right c.written.new.used c.valued.new.used c.assignment.result c.in_ok-right.ensures refl c.assignment.ensures))

pub conditional-returns : goal.conditional-returns
conditional-returns t c =
    let scope = plain_scope c.args.scope.now in
    let parts = c.args.parts.now in
    let question = plain_token c.in_ok-question.question.now in
    let first = plain_tree c.first-item.result in
    let second = plain_tree c.second-item.result in
    let third = plain_tree c.third-item.result in
    let whole = judged scope (node k.Conditional (plain_trees parts)) in
    let from_a : PlainExpression → Typed → Checked Operand = λ e a. valued scope third >>= (λ b. chosen question e a b) in
    let from_tested : PlainExpression → Checked Operand = λ e. valued scope second >>= from_a e in
    let chain = judged_condition scope first question >>= from_tested in
    let is : whole ≡ chain = conditional_law scope question (plain_trees parts) first (plain_tree c.question-item.result) second (plain_tree (get_or parts 3 c.first-item.result)) third (five_but_fourth parts c.first-item.result c.question-item.result c.second-item.result c.third-item.result c.in-len5.len_at_least c.in-len5.len_below c.first-item.is c.question-item.is c.second-item.is c.third-item.is) c.in_ok-question.ensures in
    let tested = plain_expression c.in_ok-tested.tested.value in
    let a = plain_typed c.in_ok-a.a in
    let b = plain_typed c.in_ok-b.b in
    judges_as whole chain plain_operand c.args.used.now c.valued-2.new.used c.chosen.result is
    (judges_last (judged_condition scope first question) from_tested plain_operand tested c.args.used.now c.condition.new.used c.valued-2.new.used c.chosen.result c.in_ok-tested.ensures
    (judges_last (valued scope second) (from_a tested) plain_operand a c.condition.new.used c.valued.new.used c.valued-2.new.used c.chosen.result c.in_ok-a.ensures
    (answers_last (valued scope third) (λ b. chosen question tested a b) (chosen question tested a b) plain_operand b c.valued.new.used c.valued-2.new.used c.chosen.result c.in_ok-b.ensures refl c.chosen.ensures)))

pub cast-returns : goal.cast-returns
cast-returns t c =
    let scope = plain_scope c.args.scope.now in
    let bracket = plain_token c.args.bracket.now in
    let words = plain_trees c.in_ok-words.words.now in
    let inner = plain_tree c.args.inner.now in
    let whole = cast_value scope bracket (plain_tree c.args.words.now) inner in
    let chain = valued scope inner >>= (λ x. cast_to bracket x (arithmetic_words words)) in
    let is : whole ≡ chain = cast_shape scope bracket (plain_tree c.args.words.now) inner words c.in_ok-words.ensures in
    let x = plain_typed c.in_ok-x.x in
    judges_as whole chain plain_operand c.args.used.now c.valued.new.used c.cast_to.result is
    (answers_last (valued scope inner) (λ y. cast_to bracket y (arithmetic_words words)) (cast_to bracket x (plain_type c.arithmetic_words.result)) plain_operand x c.args.used.now c.valued.new.used c.cast_to.result c.in_ok-x.ensures
    (ap (cast_to bracket x) (sym c.arithmetic_words.ensures)) c.cast_to.ensures)

-- ---- the last judgement's answer, handed on

pub valued-returns : goal.valued-returns
valued-returns t c =
    let scope = plain_scope c.args.scope.now in
    let operand = plain_operand c.in_ok-operand.operand in
    answers_last (judged scope (plain_tree c.args.tree.now)) (loaded scope) (loaded scope operand) plain_typed operand c.args.used.now c.judged.new.used c.loaded.result c.in_ok-operand.ensures refl c.loaded.ensures

pub condition-returns : goal.condition-returns
condition-returns t c =
    let scope = plain_scope c.args.scope.now in
    let tree = plain_tree c.args.tree.now in
    let operand = plain_operand c.in_ok-operand.operand in
    answers_last (judged scope tree) (condition_value scope (first_token tree (plain_token c.args.behind.now))) (condition_value scope (plain_token c.first_token.result.now) operand) boxed_expression operand c.args.used.now c.judged.new.used c.condition_value.result c.in_ok-operand.ensures
    (ap (λ (first : PlainToken). condition_value scope first operand) (sym c.first_token.ensures)) c.condition_value.ensures

pub passed-returns : goal.passed-returns
passed-returns t c =
    let scope = plain_scope c.args.scope.now in
    let tree = plain_tree c.args.tree.now in
    let ty = plain_type c.args.ty.now in
    let x = plain_typed c.in_ok-x.x in
    answers_last (valued scope tree) (λ y. found_or (fits_into ty y) BadOperand (first_token tree (plain_token c.args.bracket.now))) (found_or (fits_into ty x) BadOperand (plain_token c.first_token.result.now)) boxed_expression x c.args.used.now c.valued.new.used c.fitted.result c.in_ok-x.ensures
    (ap (λ (first : PlainToken). found_or (fits_into ty x) BadOperand first) (sym c.first_token.ensures)) c.fitted.ensures

pub on_operand-returns : goal.on_operand-returns
on_operand-returns t c =
    let scope = plain_scope c.args.scope.now in
    let operand = plain_operand c.in_ok-operand.operand in
    let last = operated scope c.args.kind (plain_token c.args.sign.now) in
    answers_last (judged scope (plain_tree c.args.inner.now)) last (last operand) plain_operand operand c.args.used.now c.judged.new.used c.operated.result c.in_ok-operand.ensures refl c.operated.ensures

pub on_two-returns : goal.on_two-returns
on_two-returns t c =
    let scope = plain_scope c.args.scope.now in
    let two = plain_two c.in_ok-two.two in
    let last = joined_two scope c.args.kind (plain_token c.args.sign.now) in
    answers_last (two_in scope (plain_trees c.args.parts.now)) last (last two) plain_operand two c.args.used.now c.two_values.new.used c.joined.result c.in_ok-two.ensures refl c.joined.ensures

pub judged-returns-in-Texts : goal.judged-returns-in-Texts
judged-returns-in-Texts t c =
    let scope = plain_scope c.args.scope.now in
    let parts = plain_trees c.deref.result.now in
    let node_is : plain_tree c.args.tree.now ≡ node c.in-Node.kind parts = ap plain_tree c.in-Node.is ∙ plain_tree-Node c.in-Node.kind c.in-Node.parts ∙ ap (λ (l : List Tree). node c.in-Node.kind (plain_trees l)) (sym c.deref.ensures.value) in
    answers_alone (judged scope (plain_tree c.args.tree.now)) (text_operand scope parts) plain_operand c.args.used.now c.text_operand.result
    (ap (λ (x : PlainTree). judged scope x) (node_is ∙ ap (λ (kind : Kind). node kind parts) c.in-Texts.is))
    c.text_operand.ensures
