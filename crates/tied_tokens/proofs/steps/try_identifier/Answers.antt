use Rattle.std.proofs.Common.{subst}
use Rattle.program_occurrences.specs.Classes.{PlainFileToken}
use Rattle.tied_tokens.specs.Tokens.{plain_file_token, plain_file_tokens}
use Rattle.tied_tokens.specs.Ties.{plain_tie, plain_tied_tokens}
use Rattle.tied_tokens.specs.Reached.{AreTied}
use Rattle.tied_tokens.proofs.Growth.{grows_tried, back_on_tie}
use Rattle.tied_tokens.proofs.steps.try_identifier.Goals as goal

pub returns-in_ok-try_token-clause-grows : goal.returns-in_ok-try_token-clause-grows
returns-in_ok-try_token-clause-grows c =
    let all = plain_tied_tokens c.args.all.now in
    let tie = plain_tie c.args.tie.now in
    grows_tried all (plain_file_token c.args.member.now) tie.when tie.identifier (plain_file_tokens c.args.found.now.items) (plain_file_tokens c.try_token.new.found.items) c.in_ok-try_token.ensures
    (λ p. subst (λ (member : PlainFileToken). AreTied all member tie.identifier) (c.is_same.ensures.0 c.if-is_same.true) (back_on_tie all tie c.requires.among p))
