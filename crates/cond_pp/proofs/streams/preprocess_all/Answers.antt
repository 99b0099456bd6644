use Rattle.text_edits.specs.Files.{plain_files}
use Rattle.cond_formula.specs.Features.{has}
use Rattle.project_file.specs.View.{project_view}
use Rattle.plain_pp.specs.Units.{sources_of, file_of}
use Rattle.cond_pp.proofs.StreamLemmas.{stream-is, has-files}
use Rattle.cond_pp.proofs.streams.preprocess_all.Goals as goal

pub returns-clause-streams : goal.returns-clause-streams
returns-clause-streams g c =
    λ k adm.
    let features = has k in
    let p = c.args.project.now in
    let view = project_view p in
    stream-is c.units_have_outcomes.ensures features view.features (sources_of view (plain_files c.args.files.now) features) (file_of view c.args.unit)
    (has-files p c.args.files.now features c.args.unit c.requires.there c.requires.named) c.in_ok-reading.reading (λ x syntax. c.in_ok-reading.ensures.read k x adm syntax)
