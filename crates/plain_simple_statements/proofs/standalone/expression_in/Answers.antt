use Rattle.std.proofs.Common.{ap}
use Rattle.c_tree.specs.Trees.{plain_tree, plain_trees}
use Rattle.core_meaning.specs.Statements.{expression_statement}
use Rattle.plain_scope.specs.PlainScope.{plain_scope}
use Rattle.plain_expressions.proofs.Answering.{judges_as}
use Rattle.plain_simple_statements.specs.PlainStatements.{boxed_statement}
use Rattle.plain_simple_statements.specs.Simple.{expression_in}
use Rattle.plain_simple_statements.proofs.standalone.expression_in.Goals as goal

pub returns : goal.returns
returns c =
    let scope = plain_scope c.args.scope.now in
    judges_as (expression_in scope (plain_trees c.args.parts.now)) (expression_statement scope (plain_tree c.in_ok-tree.tree.now)) boxed_statement c.args.used.now c.expression_statement.new.used c.expression_statement.result
    (ap (expression_in scope) c.in_ok-tree.ensures)
    c.expression_statement.ensures
