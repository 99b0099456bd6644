use Rattle.copied_tokens.proofs.Copied.{all-copied}
use Rattle.copied_tokens.proofs.tokens_are_copied.Goals as goal

pub returns : goal.returns
returns c = all-copied c.projects_have_syntax.ensures
