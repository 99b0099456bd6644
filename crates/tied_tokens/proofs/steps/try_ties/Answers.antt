use Rattle.std.proofs.Common.{arith}
use Rattle.std.proofs.lemmas.List.Elements.{All-map}
use Rattle.tied_tokens.specs.Tokens.{plain_file_token, plain_file_tokens}
use Rattle.tied_tokens.specs.Ties.{plain_tie, plain_tied_tokens}
use Rattle.tied_tokens.specs.Search.{LeadsInto}
use Rattle.tied_tokens.proofs.Growth.{grows_on, leads_still, all_more, all_taken}
use Rattle.tied_tokens.proofs.steps.try_ties.Goals as goal

pub loop-tie-preserved : goal.loop-tie-preserved
loop-tie-preserved c =
    let all = plain_tied_tokens c.args.all.now in
    let member = plain_file_token c.args.member.now in
    let grew = c.in_ok-try_tie.ensures.grows in
    record {
      grows = grows_on all member c.loop-tie.invariant.grows grew;
      leads =
          all_more (λ x. LeadsInto all member (plain_file_tokens c.loop-tie.found.items) (plain_tie x)) (λ x. LeadsInto all member (plain_file_tokens c.try_tie.new.found.items) (plain_tie x))
          c.args.all.now.ties.now c.loop-tie.tie-index c.tie-item.result c.loop-tie-test.true c.tie-item.is (λ x h. leads_still all member grew (plain_tie x) h) c.loop-tie.invariant.leads
          c.in_ok-try_tie.ensures.leads;
    }

pub returns-clause-leads : goal.returns-clause-leads
returns-clause-leads c =
    let all = plain_tied_tokens c.args.all.now in
    let member = plain_file_token c.args.member.now in
    let found = plain_file_tokens c.loop-tie.found.items in
    All-map (LeadsInto all member found) plain_tie c.args.all.now.ties.now
    (all_taken (λ x. LeadsInto all member found (plain_tie x)) c.args.all.now.ties.now c.loop-tie.tie-index (omega arith) c.loop-tie.invariant.leads)
