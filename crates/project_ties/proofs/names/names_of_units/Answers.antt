use Rattle.std.proofs.Common.{map, drop, length, arith}
use Rattle.cond_formula.specs.Features.{has}
use Rattle.tied_tokens.specs.Ties.{plain_declared_name}
use Rattle.told_ties.specs.Ties.{named_seen, named_in}
use Rattle.project_ties.proofs.Pushed.{ended, one_ends, named_in_no_more}
use Rattle.project_ties.proofs.names.names_of_units.Goals as goal

pub returns-clause-named : goal.returns-clause-named
returns-clause-named g c = λ c' own.
    let streams = c.args.streams.now in
    let told = c.args.told.now in
    let i = c.loop-i.i in
    ended (named_seen (has c') (map plain_declared_name c.loop-i.names.items)) (named_in (has c') (drop i streams) (drop i told)) (named_in (has c') streams told)
    (named_in_no_more (has c') streams told i (one_ends (length streams) (length told) i (omega (arith, c.min-count.ensures)))) (c.loop-i.invariant.named c' own)
