use Rattle.std.proofs.Common.{ap, ◌∙◌}
use Rattle.c_text.specs.Token.{plain_token}
use Rattle.c_types.specs.Types.{plain_type}
use Rattle.c_tree.specs.Trees.{PlainTree, none, more, plain_tree, plain_trees}
use Rattle.plain_scope.specs.PlainScope.{plain_scope}
use Rattle.plain_expressions.proofs.Answering.{judges_as}
use Rattle.plain_simple_statements.specs.PlainStatements.{boxed_statement}
use Rattle.plain_simple_statements.specs.Simple.{returned_as, return_in}
use Rattle.plain_simple_statements.proofs.standalone.return_in.Goals as goal

pub returns : goal.returns
returns c =
    let scope = plain_scope c.args.scope.now in
    let returns = plain_type c.args.returns.now in
    let tree : PlainTree = plain_tree c.in_ok-word.tree.now in
    let end : PlainTree = plain_tree c.in_ok-word.field-0-2.now in
    judges_as (return_in scope returns (plain_trees c.args.parts.now)) (returned_as scope returns (plain_token c.in_ok-word-2.word.now) tree) boxed_statement c.args.used.now c.returned.new.used c.returned.result
    (ap (return_in scope returns) (c.in_ok-word.ensures ∙ ap (λ (first : PlainTree). more first (more tree (more end none))) c.in_ok-word-2.ensures))
    c.returned.ensures
