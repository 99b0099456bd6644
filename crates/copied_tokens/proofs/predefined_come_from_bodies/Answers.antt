use Rattle.copied_tokens.proofs.Predefined.{from-bodies}
use Rattle.copied_tokens.proofs.predefined_come_from_bodies.Goals as goal

pub returns : goal.returns
returns c = from-bodies c.projects_have_syntax.ensures
