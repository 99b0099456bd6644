use Rattle.std.specs.Prelude.{None}
use Rattle.text_edits.specs.Files.{plain_files}
use Rattle.cond_formula.specs.Features.{has}
use Rattle.cond_formula.specs.Conditions.{condition_of, value}
use Rattle.project_file.specs.View.{project_view}
use Rattle.plain_pp.specs.Units.{sources_of, file_of}
use Rattle.cond_pp.proofs.ActiveLemmas.{found-is}
use Rattle.cond_pp.proofs.StreamLemmas.{has-files}
use Rattle.cond_pp.proofs.activity.any_active.Goals as goal

pub returns-clause-active : goal.returns-clause-active
returns-clause-active g c =
    λ k adm.
    let p = c.args.project.now in
    let view = project_view p in
    found-is c.projects_have_syntax.ensures c.files_have_misplaced.ensures c.reads_are_one.ensures c.reads_are_tested.ensures.exact (sources_of view (plain_files c.args.files.now) (has k)) (file_of view c.args.unit)
    (has-files p c.args.files.now (has k) c.args.unit c.requires.there c.requires.named) c.args.tokens.now None (value (has k) (condition_of c.in_ok-found.found)) (λ x are misplaced am. c.in_ok-found.ensures.found k x are misplaced adm am)
