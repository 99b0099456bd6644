use Rattle.std.proofs.Common.{arith}
use Rattle.std.proofs.lemmas.List.Elements.{All-map}
use Rattle.tied_tokens.specs.Tokens.{plain_file_token, plain_file_tokens}
use Rattle.tied_tokens.specs.Ties.{plain_declared_name, plain_tied_tokens}
use Rattle.tied_tokens.specs.Search.{NamesLeadInto}
use Rattle.tied_tokens.proofs.Growth.{grows_on, names_lead_still, all_more, all_taken}
use Rattle.tied_tokens.proofs.steps.try_names.Goals as goal

pub loop-own-preserved : goal.loop-own-preserved
loop-own-preserved c =
    let all = plain_tied_tokens c.args.all.now in
    let member = plain_file_token c.args.member.now in
    let grew = c.in_ok-try_own_name.ensures.grows in
    record {
      grows = grows_on all member c.loop-own.invariant.grows grew;
      lead =
          all_more (λ x. NamesLeadInto all member (plain_file_tokens c.loop-own.found.items) (plain_declared_name x)) (λ x. NamesLeadInto all member (plain_file_tokens c.try_own_name.new.found.items) (plain_declared_name x))
          c.args.all.now.names.now c.loop-own.own-index c.own-item.result c.loop-own-test.true c.own-item.is (λ x h. names_lead_still all member grew (plain_declared_name x) h) c.loop-own.invariant.lead
          c.in_ok-try_own_name.ensures.lead;
    }

pub returns-clause-lead : goal.returns-clause-lead
returns-clause-lead c =
    let all = plain_tied_tokens c.args.all.now in
    let member = plain_file_token c.args.member.now in
    let found = plain_file_tokens c.loop-own.found.items in
    All-map (NamesLeadInto all member found) plain_declared_name c.args.all.now.names.now
    (all_taken (λ x. NamesLeadInto all member found (plain_declared_name x)) c.args.all.now.names.now c.loop-own.own-index (omega arith) c.loop-own.invariant.lead)
