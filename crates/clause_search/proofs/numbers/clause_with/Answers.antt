use Rattle.std.proofs.Common.{ap, ◌∙◌}
use Rattle.std.specs.Option.{option_copied}
use Rattle.clause_search.proofs.NumberLaws.{found_given, found_step, found_none}
use Rattle.clause_search.proofs.numbers.clause_with.Goals as goal

pub returns-then-index-given : goal.returns-then-index-given
returns-then-index-given c =
    let index = c.in_ok-index.ensures in
    found_given c.args.given.now c.args.steps.now c.args.number c.in_ok-index.index c.index-given-index.result c.as_slice.result.now index.0 index.1 c.if-index-given.true c.index-given-index.is c.as_slice.ensures.value

pub returns-in_err-step : goal.returns-in_err-step
returns-in_err-step c =
    let index = c.in_ok-index.ensures in
    let past = c.in_err-step.ensures.lookup in
    ap option_copied c.from_residual-in_err-step.ensures
    ∙ found_none c.args.given.now c.args.steps.now c.args.number c.in_ok-index.index index.0 index.1 c.if-index-given.false past.3

pub returns : goal.returns
returns c =
    let index = c.in_ok-index.ensures in
    let found = c.in_ok-step.ensures.lookup in
    found_step c.args.given.now c.args.steps.now c.args.number c.in_ok-index.index c.in_ok-step.step.now c.as_slice-2.result.now index.0 index.1 c.if-index-given.false found.3.0 found.1 c.as_slice-2.ensures.value
