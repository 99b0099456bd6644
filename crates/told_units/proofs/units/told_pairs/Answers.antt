use Rattle.std.proofs.Common.{◌++◌, ap, ap₂, ◌∙◌}
use Rattle.cond_pairings.specs.Pairs.{pairs_seen}
use Rattle.told_units.proofs.Lists.{pairs_behind}
use Rattle.told_units.proofs.units.told_pairs.Goals as goal

pub returns : goal.returns
returns c on =
    ap (pairs_seen on) c.in_ok-append.ensures.items
    ∙ pairs_behind on c.in_ok-all.all.items c.in_ok-of_members.of_members.items
    ∙ ap₂ (λ xs ys. xs ++ ys) (c.in_ok-all.ensures on) (c.in_ok-of_members.ensures on)
