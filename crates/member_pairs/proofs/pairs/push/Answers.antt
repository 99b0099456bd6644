use Rattle.std.proofs.Common.{◌&&◌, ap, ◌∙◌}
use Rattle.cond_formula.specs.Conditions.{condition_of, value}
use Rattle.cond_pairings.specs.Pairs.{pairs_seen}
use Rattle.cond_pairings.specs.declared.pairs.CondPairing.{CondPairing}
use Rattle.member_pairs.proofs.Joining.{pushed}
use Rattle.member_pairs.proofs.pairs.push.Goals as goal

pub returns : goal.returns
returns c on =
    let p : CondPairing = record { identifier = c.args.one.now.what.name.origin.site.start; declared_by = c.args.declared.now.what.number; when = c.in_ok-when.when } in
    ap (pairs_seen on) c.in_ok-push.ensures.items
    ∙ pushed on c.args.all.now.items p (value on (condition_of c.args.one.now.when) && value on (condition_of c.args.declared.now.when)) (c.in_ok-when.ensures on)
