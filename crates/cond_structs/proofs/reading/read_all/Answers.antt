use Rattle.std.proofs.Common.{◌&&◌, refl, ap, ◌∙◌}
use Rattle.cond_formula.specs.Features.{has}
use Rattle.cond_formula.specs.Conditions.{condition_of, value}
use Rattle.conditional.specs.Entries.{seen}
use Rattle.type_tables.specs.Seen.{seen_tables}
use Rattle.cond_structs.specs.Gathered.{gathered}
use Rattle.cond_structs.specs.Listing.{declarations_at}
use Rattle.cond_structs.proofs.Outcome.{less_by}
use Rattle.cond_structs.proofs.Reaching.{reaches_next, reached_all}
use Rattle.cond_structs.proofs.reading.read_all.Goals as goal

pub loop-d-init : goal.loop-d-init
loop-d-init g c = record {
  kept = refl;
  elsewhere = λ on off. refl;
  reaches = λ n by before number k admitted here derived s. record { now = k; stands = s; rest_is = refl; derived = derived };
}

pub loop-d-preserved : goal.loop-d-preserved
loop-d-preserved g c =
    let d = c.d-item.result in
    record {
      kept = c.in_ok-members.ensures.kept ∙ c.loop-d.invariant.kept;
      elsewhere = λ on off.
          c.in_ok-members.ensures.elsewhere on
          (less_by (value on (condition_of c.args.when.now)) (value on (condition_of d.when)) (value on (condition_of c.in_ok-here.here))
          (c.in_ok-here.ensures on) off)
          ∙ c.loop-d.invariant.elsewhere on off;
      reaches = λ n by before number k admitted here derived s.
          reaches_next by before number k (seen (has n) (declarations_at (has n) c.args.list.now)) (has n) c.args.list.now c.loop-d.d-index d (value (has n) (condition_of c.in_ok-here.here))
          (seen_tables (has n) c.loop-d.tables) (seen_tables (has n) c.read_declaration.new.tables) (gathered (has n) c.loop-d.members) (gathered (has n) c.in_ok-members.members) c.loop-d-test.true c.d-item.is
          (c.in_ok-here.ensures (has n) ∙ ap (λ b. b && value (has n) (condition_of d.when)) here)
          (λ state derived_ stands. c.in_ok-members.ensures.stands n by before number state (ap (value (has n)) c.loop-d.invariant.kept ∙ admitted) derived_ stands)
          (c.loop-d.invariant.reaches n by before number k admitted here derived s);
    }

pub returns-clause-stands : goal.returns-clause-stands
returns-clause-stands g c = λ n by before number k admitted here derived s.
    reached_all by before number k (seen (has n) (declarations_at (has n) c.args.list.now)) (has n) c.args.list.now c.loop-d.d-index (seen_tables (has n) c.loop-d.tables) (gathered (has n) c.loop-d.members) c.loop-d-test.false
    (c.loop-d.invariant.reaches n by before number k admitted here derived s)
