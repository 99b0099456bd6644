use Rattle.std.proofs.Common.{◌≡◌, ◌≤◌, Some, length, ap, ◌∙◌, sym, refl, arith}
use Rattle.std.specs.Prelude.{option_map}
use Rattle.std.proofs.lemmas.Result.{err_from_is_err_and}
use Rattle.cond_formula.specs.Conditions.{condition_of}
use Rattle.feature_model.specs.View.{tokens_view}
use Rattle.feature_model.specs.Bytes.{tokens_of}
use Rattle.feature_model.specs.Constraints.{SaysTokens, WhyTokens}
use Rattle.feature_model.proofs.Uniqueness.{nothing_read}
use Rattle.feature_model.proofs.Refusals.{says_text, why_text}
use Rattle.feature_model.proofs.constraints.constraint_at.Goals as goal

pub returns-in-None : goal.returns-in-None
returns-in-None c = (
  refl,
  λ tree w. nothing_read c.args.text.now tree (sym c.in_ok-read.ensures ∙ ap (option_map tokens_view) c.in-None.is) w,
)

pub returns-in_err-formula-in-Some : goal.returns-in_err-formula-in-Some
returns-in_err-formula-in-Some c =
    let fs = c.args.features.now in
    let text = c.args.text.now in
    let tokens = tokens_view c.in-Some.tokens in
    let read : tokens_of text ≡ Some tokens = sym c.in_ok-read.ensures ∙ ap (option_map tokens_view) c.in-Some.is in
    let short : length text ≤ 1024 = omega arith in
    let error = c.in_err-formula-in-Some.field-0.0 in
    let why : WhyTokens fs tokens c.args.index error =
    rw (c.deref.ensures.value) at c.in_err-formula-in-Some.ensures
    in
    let p = err_from_is_err_and c.from_residual-in_err-formula-in-Some.result c.from_residual-in_err-formula-in-Some.ensures.1 in
    rw (p.1, p.2) (why_text fs text tokens c.args.index error read short why)

pub returns-in_ok-formula-in-Some : goal.returns-in_ok-formula-in-Some
returns-in_ok-formula-in-Some c =
    let fs = c.args.features.now in
    let text = c.args.text.now in
    let tokens = tokens_view c.in-Some.tokens in
    let read : tokens_of text ≡ Some tokens = sym c.in_ok-read.ensures ∙ ap (option_map tokens_view) c.in-Some.is in
    let short : length text ≤ 1024 = omega arith in
    let condition = condition_of c.in_ok-formula-in-Some.formula in
    let says : SaysTokens fs tokens condition = rw (c.deref.ensures.value) at c.in_ok-formula-in-Some.ensures in
    says_text fs text tokens condition read short says
