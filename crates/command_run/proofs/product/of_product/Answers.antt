use Rattle.text_edits.specs.Files.{plain_files}
use Rattle.cond_formula.specs.Features.{has}
use Rattle.project_file.specs.View.{project_view}
use Rattle.command_run.specs.Steps.{run_of}
use Rattle.command_run.proofs.Refusals.{refused_said}
use Rattle.command_run.proofs.product.of_product.Goals as goal

pub returns-in-Err : goal.returns-in-Err
returns-in-Err c =
    refused_said (run_of c.args.query.now) (project_view c.args.project.now) (plain_files c.args.files.now) c.args.input.now (has c.args.c) c.in-Err.error c.without_program.result
    c.requires.chosen.on c.in-Err.ensures c.without_program.ensures
