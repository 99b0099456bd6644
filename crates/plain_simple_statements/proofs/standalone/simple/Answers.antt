use Rattle.std.proofs.Common.{ap}
use Rattle.c_types.specs.Types.{plain_type}
use Rattle.c_tree.specs.declared.kinds.Kind.{Kind}
use Rattle.c_tree.specs.Trees.{plain_trees}
use Rattle.plain_scope.specs.PlainScope.{plain_scope}
use Rattle.plain_expressions.proofs.Answering.{judges_as, answers_alone}
use Rattle.plain_simple_statements.specs.PlainStatements.{boxed_statement}
use Rattle.plain_simple_statements.specs.Simple.{around_of, simple_of, expression_in, jump_in, return_in}
use Rattle.plain_simple_statements.proofs.standalone.simple.Goals as goal

pub returns-in-ExpressionStatement : goal.returns-in-ExpressionStatement
returns-in-ExpressionStatement c =
    let scope = plain_scope c.args.scope.now in
    let around = around_of scope (plain_type c.args.returns.now) c.args.in_loop in
    let parts = plain_trees c.args.parts.now in
    judges_as (simple_of around c.args.kind parts) (expression_in scope parts) boxed_statement c.args.used.now c.expression_in.new.used c.expression_in.result
    (ap (λ (kind : Kind). simple_of around kind parts) c.in-ExpressionStatement.is)
    c.expression_in.ensures

pub returns-in-Jump : goal.returns-in-Jump
returns-in-Jump c =
    let around = around_of (plain_scope c.args.scope.now) (plain_type c.args.returns.now) c.args.in_loop in
    let parts = plain_trees c.args.parts.now in
    answers_alone (simple_of around c.args.kind parts) (jump_in c.args.in_loop parts) boxed_statement c.args.used.now c.jump_in.result
    (ap (λ (kind : Kind). simple_of around kind parts) c.in-Jump.is)
    c.jump_in.ensures

pub returns-in-Return : goal.returns-in-Return
returns-in-Return c =
    let scope = plain_scope c.args.scope.now in
    let returns = plain_type c.args.returns.now in
    let around = around_of scope returns c.args.in_loop in
    let parts = plain_trees c.args.parts.now in
    judges_as (simple_of around c.args.kind parts) (return_in scope returns parts) boxed_statement c.args.used.now c.return_in.new.used c.return_in.result
    (ap (λ (kind : Kind). simple_of around kind parts) c.in-Return.is)
    c.return_in.ensures
