use Rattle.std.proofs.Common.{map, rules}
use Rattle.c_tree.specs.Trees.{plain_tree}
use Rattle.core_meaning.specs.Plain.{plain_item}
use Rattle.core_meaning.specs.Program.{statement_item}
use Rattle.core_meaning.specs.Checking.{give}
use Rattle.core_meaning.specs.Statements.{expression_statement}
use Rattle.plain_scope.specs.PlainScope.{plain_scope, uses_of}
use Rattle.plain_scope.specs.Judgements.{RefusedAs}
use Rattle.plain_scope.specs.JudgementLaws.{refused_first}
use Rattle.plain_simple_statements.specs.Blocks.{put}
use Rattle.plain_simple_statements.specs.PlainStatements.{boxed_statement}
use Rattle.plain_statements.specs.Items.{evaluated_given}
use Rattle.plain_statements.specs.Steps.{evaluated_item}
use Rattle.plain_statements.proofs.starts.evaluated_item.Goals as goal

pub returns : goal.returns
returns c =
    evaluated_given (plain_scope c.args.scope.now) (plain_tree c.args.tree.now) (boxed_statement c.in_ok-core.core) (put (map plain_item c.in_ok-single.field-0.items)) (uses_of c.args.used.now) (uses_of c.expression_statement.new.used) c.in_ok-core.ensures c.in_ok-single.ensures

pub returns-in_err-core : goal.returns-in_err-core
returns-in_err-core c =
    let scope = plain_scope c.args.scope.now in
    let tree = plain_tree c.args.tree.now in
    let outer : RefusedAs (evaluated_item scope tree) c.in_err-core.field-0.0 = refused_first (expression_statement scope tree) (λ core. give (statement_item core)) c.in_err-core.field-0.0 c.in_err-core.ensures in
    search (rules, outer)
