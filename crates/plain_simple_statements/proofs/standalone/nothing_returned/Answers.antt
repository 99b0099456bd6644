use Rattle.std.proofs.Common.{ap, sym, ◌∙◌, rules}
use Rattle.c_text.specs.Token.{PlainToken, plain_token}
use Rattle.c_types.specs.Types.{PlainType, plain_type}
use Rattle.core_meaning.specs.declared.refusals.TypeKind.TheVariants.{Misplaced}
use Rattle.core_meaning.specs.Program.{PlainStatement, return_nothing}
use Rattle.core_meaning.specs.Checking.{Checked, give}
use Rattle.core_meaning.specs.Expressions.{is_void}
use Rattle.plain_scope.specs.Judgements.{RefusedAs}
use Rattle.plain_declarators.specs.Sequences.{passed_is, failed_refused}
use Rattle.plain_simple_statements.specs.PlainStatements.{boxed_statement}
use Rattle.plain_simple_statements.specs.Simple.{nothing_returned}
use Rattle.plain_simple_statements.proofs.standalone.nothing_returned.Goals as goal

pub returns-in_err-unless : goal.returns-in_err-unless
returns-in_err-unless c =
    let returns : PlainType = plain_type c.args.returns.now in
    let word : PlainToken = plain_token c.args.word.now in
    let next : Unit {0} → Checked PlainStatement = λ placed. give return_nothing in
    let outer : RefusedAs (nothing_returned returns word) c.in_err-unless.field-0.0 = failed_refused (is_void returns) Misplaced word next c.in_err-unless.field-0.0 (sym c.is_void.ensures ∙ c.in_err-unless.ensures.0) c.in_err-unless.ensures.1 in
    search (rules, outer)

pub returns : goal.returns
returns c =
    let next : Unit {0} → Checked PlainStatement = λ placed. give return_nothing in
    passed_is (is_void (plain_type c.args.returns.now)) Misplaced (plain_token c.args.word.now) next (give (boxed_statement c.in_ok-return_without.field-0)) (sym c.is_void.ensures ∙ c.in_ok-unless.ensures) (ap (λ (s : PlainStatement). give s) (sym c.in_ok-return_without.ensures))
