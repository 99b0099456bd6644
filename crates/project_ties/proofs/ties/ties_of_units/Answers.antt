use Rattle.std.proofs.Common.{map, drop, length, arith}
use Rattle.cond_formula.specs.Features.{has}
use Rattle.tied_tokens.specs.Ties.{plain_tie}
use Rattle.told_ties.specs.Ties.{tied_seen, tied_in}
use Rattle.project_ties.proofs.Pushed.{ended, one_ends, tied_in_no_more}
use Rattle.project_ties.proofs.ties.ties_of_units.Goals as goal

pub returns-clause-tied : goal.returns-clause-tied
returns-clause-tied g c = λ c' own.
    let streams = c.args.streams.now in
    let told = c.args.told.now in
    let i = c.loop-i.i in
    ended (tied_seen (has c') (map plain_tie c.loop-i.ties.items)) (tied_in (has c') (drop i streams) (drop i told)) (tied_in (has c') streams told)
    (tied_in_no_more (has c') streams told i (one_ends (length streams) (length told) i (omega (arith, c.min-count.ensures)))) (c.loop-i.invariant.tied c' own)
