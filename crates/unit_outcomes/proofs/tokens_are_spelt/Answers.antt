use Rattle.unit_outcomes.proofs.TokensSpelt.{tokens-spelt}
use Rattle.unit_outcomes.proofs.tokens_are_spelt.Goals as goal

pub returns : goal.returns
returns c = λ s number has tokens given. let x = c.projects_have_syntax.ensures s in tokens-spelt s x.0 x.1 number has tokens given
