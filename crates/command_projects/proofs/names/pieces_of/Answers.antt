use Rattle.std.proofs.Common.{◌∙◌, rules, tests}
use Rattle.std.proofs.lemmas.Iterator.Consumers.{YieldsList-end, YieldsList-at}
use Rattle.std.proofs.lemmas.Iterator.Splits.{YieldsList-from_slice_split}
use Rattle.command_projects.proofs.names.pieces_of.Goals as goal

pub returns : goal.returns
returns c =
    let all = YieldsList-end (YieldsList-at c.into_iter-name-iterator.ensures.into_iter_gives (YieldsList-from_slice_split _ _ c.args.text.now c.split-name-items.ensures.rest c.split-name-items.ensures.done c.split-name-items.ensures.closure (λ x r q k. search (rules, tests)))) c.loop-name.yielded _ c.loop-name.yielded_by _ _ c.in-None.is c.next.ensures.steps in
    c.loop-name.invariant ∙ all.0
