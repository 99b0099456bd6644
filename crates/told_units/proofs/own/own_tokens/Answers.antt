use Rattle.std.proofs.Common.{ap, ◌∙◌}
use Rattle.cond_pairings.specs.Pairs.{pairs_seen}
use Rattle.declared_tokens.specs.Declarations.{is_among}
use Rattle.told_units.proofs.Lists.{own_among}
use Rattle.told_units.proofs.own.own_tokens.Goals as goal

pub returns : goal.returns
returns c on number = ap (λ l. is_among l number) (c.in_ok-all.ensures on number) ∙ own_among number (pairs_seen on c.args.pairs.now)
