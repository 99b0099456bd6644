use Rattle.std.proofs.Common.{arith}
use Rattle.std.proofs.lemmas.List.Elements.{All-map}
use Rattle.tied_tokens.specs.Tokens.{plain_file_tokens}
use Rattle.tied_tokens.specs.Ties.{plain_declared_name, plain_tied_tokens}
use Rattle.tied_tokens.specs.Search.{NameLeadsInto}
use Rattle.tied_tokens.proofs.Growth.{grows_on, name_leads_still, all_more, all_taken}
use Rattle.tied_tokens.proofs.steps.try_names_from.Goals as goal

pub loop-other-preserved : goal.loop-other-preserved
loop-other-preserved c =
    let all = plain_tied_tokens c.args.all.now in
    let own = plain_declared_name c.args.own.now in
    let grew = c.in_ok-try_name.ensures.grows in
    record {
      grows = grows_on all own.token c.loop-other.invariant.grows grew;
      leads =
          all_more (λ x. NameLeadsInto all own (plain_file_tokens c.loop-other.found.items) (plain_declared_name x)) (λ x. NameLeadsInto all own (plain_file_tokens c.try_name.new.found.items) (plain_declared_name x))
          c.args.all.now.names.now c.loop-other.other-index c.other-item.result c.loop-other-test.true c.other-item.is (λ x h. name_leads_still all own.token grew own (plain_declared_name x) h) c.loop-other.invariant.leads
          c.in_ok-try_name.ensures.leads;
    }

pub returns-clause-leads : goal.returns-clause-leads
returns-clause-leads c =
    let all = plain_tied_tokens c.args.all.now in
    let own = plain_declared_name c.args.own.now in
    let found = plain_file_tokens c.loop-other.found.items in
    All-map (NameLeadsInto all own found) plain_declared_name c.args.all.now.names.now
    (all_taken (λ x. NameLeadsInto all own found (plain_declared_name x)) c.args.all.now.names.now c.loop-other.other-index (omega arith) c.loop-other.invariant.leads)
