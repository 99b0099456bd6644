use Rattle.std.proofs.Common.{ap, sym, rules}
use Rattle.c_tree.specs.Trees.{PlainTree, plain_tree}
use Rattle.core_meaning.specs.Program.{PlainStatement, evaluate}
use Rattle.core_meaning.specs.Checking.{Checked, give}
use Rattle.core_meaning.specs.Entities.{Scope}
use Rattle.core_meaning.specs.Typing.{Typed}
use Rattle.core_meaning.specs.Expressions.{valued, unused}
use Rattle.plain_scope.specs.PlainScope.{plain_scope, uses_of}
use Rattle.plain_scope.specs.Judgements.{RefusedAs}
use Rattle.plain_scope.specs.JudgementLaws.{refused_first}
use Rattle.plain_declarators.specs.Sequences.{gives_as}
use Rattle.plain_operands.specs.PlainOperands.{plain_typed}
use Rattle.plain_simple_statements.specs.PlainStatements.{boxed_statement}
use Rattle.plain_simple_statements.specs.Simple.{evaluated}
use Rattle.plain_simple_statements.proofs.standalone.evaluated.Goals as goal

pub returns-in_err-x : goal.returns-in_err-x
returns-in_err-x c =
    let scope : Scope = plain_scope c.args.scope.now in
    let tree : PlainTree = plain_tree c.args.tree.now in
    let outer : RefusedAs (evaluated scope tree) c.in_err-x.field-0.0 = refused_first (valued scope tree) (λ x. give (evaluate (unused x.core))) c.in_err-x.field-0.0 c.in_err-x.ensures in
    search (rules, outer)

pub returns : goal.returns
returns c =
    let next : Typed → Checked PlainStatement = λ x. give (evaluate (unused x.core)) in
    gives_as (valued (plain_scope c.args.scope.now) (plain_tree c.args.tree.now)) next (plain_typed c.in_ok-x.x) (boxed_statement c.in_ok-evaluation.field-0) (uses_of c.args.used.now) (uses_of c.valued.new.used) c.in_ok-x.ensures
    (ap (λ (s : PlainStatement). give s) (sym c.in_ok-evaluation.ensures))
