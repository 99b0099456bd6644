use Rattle.tied_tokens.specs.Tokens.{plain_file_token}
use Rattle.tied_tokens.specs.Ties.{plain_tie, plain_tied_tokens}
use Rattle.tied_tokens.proofs.Growth.{grows_on, found_still}
use Rattle.tied_tokens.proofs.steps.try_tie.Goals as goal

pub returns-clause-grows : goal.returns-clause-grows
returns-clause-grows c = grows_on (plain_tied_tokens c.args.all.now) (plain_file_token c.args.member.now) c.in_ok-try_declaration.ensures.grows c.in_ok-try_identifier.ensures.grows

pub returns-clause-leads : goal.returns-clause-leads
returns-clause-leads c = (
  λ e p. found_still (plain_tied_tokens c.args.all.now) (plain_file_token c.args.member.now) c.in_ok-try_identifier.ensures.grows (plain_tie c.args.tie.now).declared_by
      (c.in_ok-try_declaration.ensures.leads e p),
  c.in_ok-try_identifier.ensures.leads,
)
