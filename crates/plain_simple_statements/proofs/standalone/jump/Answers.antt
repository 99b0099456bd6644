use Rattle.std.proofs.Common.{ℕ, List, ap, sym, ◌∙◌, rules}
use Rattle.c_text.specs.Token.{PlainToken, plain_token}
use Rattle.core_meaning.specs.declared.refusals.TypeKind.TheVariants.{Misplaced}
use Rattle.core_meaning.specs.Program.{PlainStatement}
use Rattle.core_meaning.specs.Checking.{Checked, give}
use Rattle.plain_scope.specs.Judgements.{RefusedAs}
use Rattle.plain_declarators.specs.Sequences.{passed_is, failed_refused}
use Rattle.plain_simple_statements.specs.PlainStatements.{boxed_statement}
use Rattle.plain_simple_statements.specs.Simple.{jump_by, jump_if}
use Rattle.plain_simple_statements.proofs.standalone.jump.Goals as goal

pub returns-in_err-unless : goal.returns-in_err-unless
returns-in_err-unless c =
    let word : PlainToken = plain_token c.args.word.now in
    let next : Unit {0} → Checked PlainStatement = λ placed. give (jump_by word.text) in
    let outer : RefusedAs (jump_if c.args.in_loop word) c.in_err-unless.field-0.0 = failed_refused c.args.in_loop Misplaced word next c.in_err-unless.field-0.0 c.in_err-unless.ensures.0 c.in_err-unless.ensures.1 in
    search (rules, outer)

pub returns : goal.returns
returns c =
    let word : PlainToken = plain_token c.args.word.now in
    let next : Unit {0} → Checked PlainStatement = λ placed. give (jump_by word.text) in
    passed_is c.args.in_loop Misplaced word next (give (boxed_statement c.in_ok-jump_of.field-0)) c.in_ok-unless.ensures
    (ap (λ (text : List ℕ). give (jump_by text)) (sym c.as_slice.ensures.value) ∙ ap (λ (s : PlainStatement). give s) (sym c.in_ok-jump_of.ensures))
