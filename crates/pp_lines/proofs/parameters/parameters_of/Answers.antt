use Rattle.std.proofs.Common.{map, sym, ◌∙◌, arith}
use Rattle.pp_lines.proofs.LineLemmas.{closed_at}
use Rattle.pp_lines.proofs.parameters.parameters_of.Goals as goal

pub returns-then-is_closed_by : goal.returns-then-is_closed_by
returns-then-is_closed_by c =
    let r = c.loop-i.reader in
    let e = closed_at (map (λ name. name.items) r.names.items) r.place c.args.tokens.now c.split_at.result.1.now c.loop-i.i c.index-tokens-i.result (omega arith) c.index-tokens-i.is c.split_at.ensures.back (sym c.is_closed_by.ensures ∙ c.if-is_closed_by.true) in
    cc (e, c.closed.ensures, c.loop-i.invariant)
