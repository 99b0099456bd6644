use Rattle.std.proofs.Common.{ap, sym, ◌∙◌, rules}
use Rattle.c_text.specs.Token.{PlainToken, plain_token}
use Rattle.c_types.specs.Types.{PlainType, plain_type}
use Rattle.c_tree.specs.Trees.{PlainTree, plain_tree}
use Rattle.core_meaning.specs.declared.refusals.TypeKind.TheVariants.{Misplaced}
use Rattle.core_meaning.specs.Program.{PlainExpression, PlainStatement, return_value}
use Rattle.core_meaning.specs.Checking.{Checked, ◌>>=◌, give, found_or}
use Rattle.core_meaning.specs.Entities.{Scope}
use Rattle.core_meaning.specs.Typing.{Typed, fits_into}
use Rattle.core_meaning.specs.Expressions.{valued}
use Rattle.plain_scope.specs.PlainScope.{plain_scope, uses_of}
use Rattle.plain_scope.specs.Judgements.{RefusedAs}
use Rattle.plain_scope.specs.JudgementLaws.{refused_first}
use Rattle.plain_declarators.specs.Sequences.{next_of, gives_as, refused_behind}
use Rattle.plain_operands.specs.PlainOperands.{boxed_expression, plain_typed}
use Rattle.plain_simple_statements.specs.PlainStatements.{boxed_statement}
use Rattle.plain_simple_statements.specs.Simple.{returned_value}
use Rattle.plain_simple_statements.proofs.standalone.returned_value.Goals as goal

pub returns-in_err-x : goal.returns-in_err-x
returns-in_err-x c =
    let scope : Scope = plain_scope c.args.scope.now in
    let returns : PlainType = plain_type c.args.returns.now in
    let word : PlainToken = plain_token c.args.word.now in
    let tree : PlainTree = plain_tree c.args.tree.now in
    let last : PlainExpression → Checked PlainStatement = λ core. give (return_value core) in
    let next : Typed → Checked PlainStatement = λ x. found_or (fits_into returns x) Misplaced word >>= last in
    let outer : RefusedAs (returned_value scope returns word tree) c.in_err-x.field-0.0 = refused_first (valued scope tree) next c.in_err-x.field-0.0 c.in_err-x.ensures in
    search (rules, outer)

pub returns-in_err-core : goal.returns-in_err-core
returns-in_err-core c =
    let scope : Scope = plain_scope c.args.scope.now in
    let returns : PlainType = plain_type c.args.returns.now in
    let word : PlainToken = plain_token c.args.word.now in
    let tree : PlainTree = plain_tree c.args.tree.now in
    let x : Typed = plain_typed c.in_ok-x.x in
    let last : PlainExpression → Checked PlainStatement = λ core. give (return_value core) in
    let next : Typed → Checked PlainStatement = λ x. found_or (fits_into returns x) Misplaced word >>= last in
    let outer : RefusedAs (returned_value scope returns word tree) c.in_err-core.field-0.0 = refused_behind (valued scope tree) next x (uses_of c.args.used.now) (uses_of c.valued.new.used) c.in_err-core.field-0.0 c.in_ok-x.ensures
    (refused_first (found_or (fits_into returns x) Misplaced word) last c.in_err-core.field-0.0 c.in_err-core.ensures) in
    search (rules, outer)

pub returns : goal.returns
returns c =
    let returns : PlainType = plain_type c.args.returns.now in
    let word : PlainToken = plain_token c.args.word.now in
    let x : Typed = plain_typed c.in_ok-x.x in
    let last : PlainExpression → Checked PlainStatement = λ core. give (return_value core) in
    let next : Typed → Checked PlainStatement = λ x. found_or (fits_into returns x) Misplaced word >>= last in
    gives_as (valued (plain_scope c.args.scope.now) (plain_tree c.args.tree.now)) next x (boxed_statement c.in_ok-value_returned.field-0) (uses_of c.args.used.now) (uses_of c.valued.new.used) c.in_ok-x.ensures
    (next_of (found_or (fits_into returns x) Misplaced word) last (boxed_expression c.in_ok-core.core) c.in_ok-core.ensures ∙ ap (λ (s : PlainStatement). give s) (sym c.in_ok-value_returned.ensures))
