use Rattle.std.proofs.Common.{◌∙◌}
use Rattle.std.specs.Str.{bytes_eq}
use Rattle.project_file.proofs.DocumentLemmas.{list_any-map}
use Rattle.project_file.proofs.documents.is_listed.Goals as goal

pub returns : goal.returns
returns c = c.is_among.ensures ∙ list_any-map (bytes_eq c.args.key.now) (λ other. other.now) c.args.listed.now
