use Rattle.std.proofs.Common.{◌∙◌, ap, Some, None, sym}
use Rattle.std.specs.Prelude.{option_map}
use Rattle.std.specs.Bool.{if◌then◌else◌}
use Rattle.plain_parse.specs.Frames.{plain_built, plain_frames}
use Rattle.plain_parse.proofs.StepLemmas.{read-step, fault-at, fault-behind}
use Rattle.plain_parse.proofs.readings.read.Goals as goal

pub loop-place-preserved : goal.loop-place-preserved
loop-place-preserved c =
    let behind = plain_frames c.take_token.new.frames.items in
    read-step c.args.tokens.now c.loop-place.place (plain_frames c.loop-place.frames.items) c.loop-place.invariant
    c.index-tokens-place.result behind c.in_ok-take_token.field-0 c.loop-place-test.true c.index-tokens-place.is c.in_ok-take_token.ensures
    ∙ ap (λ b. if b then Some behind else None) c.if-not-branch.false

pub returns-then-not-branch : goal.returns-then-not-branch
returns-then-not-branch c =
    fault-at c.args.tokens.now c.loop-place.place (plain_frames c.loop-place.frames.items) c.loop-place.invariant
    c.index-tokens-place.result (plain_frames c.take_token.new.frames.items) c.in_ok-take_token.field-0 c.loop-place-test.true
    c.index-tokens-place.is c.in_ok-take_token.ensures c.if-not-branch.true

pub returns : goal.returns
returns c =
    fault-behind c.args.tokens.now c.loop-place.place (plain_frames c.loop-place.frames.items) c.loop-place.invariant
    c.loop-place-test.false c.loop-place.auto.place-end
    (ap (option_map plain_built) (sym c.in-None.is) ∙ c.in_ok-value.ensures)
