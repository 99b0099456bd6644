use Rattle.std.proofs.lemmas.List.Elements.{All-weaker}
use Rattle.tied_tokens.specs.Tokens.{plain_file_token, plain_file_tokens}
use Rattle.tied_tokens.specs.Ties.{plain_tied_tokens}
use Rattle.tied_tokens.specs.Search.{LeadsInto}
use Rattle.tied_tokens.proofs.Growth.{grows_on, leads_still, is_visited}
use Rattle.tied_tokens.proofs.steps.visit.Goals as goal

pub returns-clause-grows : goal.returns-clause-grows
returns-clause-grows c = grows_on (plain_tied_tokens c.args.all.now) (plain_file_token c.args.member.now) c.in_ok-try_ties.ensures.grows c.in_ok-try_names.ensures.grows

pub returns-clause-visited : goal.returns-clause-visited
returns-clause-visited c =
    let all = plain_tied_tokens c.args.all.now in
    let member = plain_file_token c.args.member.now in
    let new = plain_file_tokens c.try_names.new.found.items in
    is_visited all member new
    (All-weaker (LeadsInto all member (plain_file_tokens c.try_ties.new.found.items)) (LeadsInto all member new) (λ tie h. leads_still all member c.in_ok-try_names.ensures.grows tie h) all.ties c.in_ok-try_ties.ensures.leads)
    c.in_ok-try_names.ensures.lead
