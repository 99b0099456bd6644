use Rattle.plain_pp.proofs.LawLemmas.{syntax_of}
use Rattle.plain_pp.proofs.laws.projects_have_syntax.Goals as goal

pub returns : goal.returns
returns c = syntax_of c.texts_have_lines.ensures c.lines_have_parts.ensures c.values_are_decided.ensures
