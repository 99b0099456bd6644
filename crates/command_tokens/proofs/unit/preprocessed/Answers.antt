use Rattle.std.proofs.Common.{ap, inr, subst}
use Rattle.text_edits.specs.Files.{plain_files}
use Rattle.cond_formula.specs.Features.{has}
use Rattle.project_file.specs.View.{project_view}
use Rattle.unit_files.specs.Refusals.{refusal_view}
use Rattle.plain_pp.specs.Units.{sources_of, file_of, WhyNone}
use Rattle.command_promises.specs.Courses.{says}
use Rattle.command_tokens.proofs.unit.preprocessed.Goals as goal

pub returns-in_ok-said-in-Err-Refused : goal.returns-in_ok-said-in-Err-Refused
returns-in_ok-said-in-Err-Refused c =
    let project = project_view c.args.project.now in
    let sources = sources_of project (plain_files c.args.files.now) (has c.args.c) in
    let why = subst (WhyNone sources (file_of project c.args.unit)) c.in-Err-Refused.field-0-is c.in-Err-Refused.ensures in
    inr (refusal_view c.in-Err-Refused.field-0-0 c.in-Err-Refused.field-0-1, why, ap (λ x. says x) c.in_ok-said-in-Err-Refused.ensures)
