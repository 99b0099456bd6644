use Rattle.std.proofs.Common.{length, map}
use Rattle.cond_formula.specs.Features.{has}
use Rattle.cond_formula.specs.Conditions.{condition_of, value}
use Rattle.tied_tokens.specs.Ties.{plain_declared_name}
use Rattle.told_ties.specs.Ties.{named_seen}
use Rattle.class_captures.proofs.Captured.{as-long, captured-as-found}
use Rattle.class_captures.proofs.captures.where_captured.Goals as goal

pub told_of-requires : goal.told_of-requires
told_of-requires g c =
    as-long c.args.class.now c.args.new.now c.args.numbered.now c.in_ok-renamed.renamed.items c.deref.result.now (length c.args.units.now) c.in_ok-renamed.ensures c.deref.ensures.value c.requires

pub returns-clause-captured : goal.returns-clause-captured
returns-clause-captured g c = λ n admitted known may.
    let after = c.in_ok-after.after in
    captured-as-found c.changes_are_seen.ensures c.renamings_are_seen.ensures c.leaves_are_spelled.ensures c.captures_are_told.ensures c.args.class.now c.args.old.now c.args.new.now (has n)
    c.args.units.now c.args.numbered.now c.in_ok-renamed.renamed.items c.in_ok-renamed.ensures c.args.told.now after.units.items
    (named_seen (has n) (map plain_declared_name c.args.names.now)) known may c.deref.result.now c.deref-2.result.now c.deref.ensures.value c.deref-2.ensures.value
    (value (has n) (condition_of after.broken)) (value (has n) (condition_of c.in_ok-captured.captured)) (value (has n) (condition_of c.in_ok-f.f)) (c.in_ok-f.ensures (has n))
    (λ written. c.in_ok-after.ensures.broken n admitted written)
    (λ linked bindings written judged numbers. c.in_ok-after.ensures.told n linked bindings admitted written judged numbers) (c.in_ok-captured.ensures (has n))
