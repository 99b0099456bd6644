use Rattle.std.proofs.Common.{Bool, List, Option, subst}
use Rattle.std.specs.Prelude.{MatchOption}
use Rattle.text_edits.specs.Files.{plain_files}
use Rattle.cond_formula.specs.Conditions.{condition_of}
use Rattle.project_file.specs.View.{project_view}
use Rattle.command_projects.specs.Least.{Nowhere, IsLeast}
use Rattle.project_questions.specs.Questions.{IsTrueIn}
use Rattle.project_check.proofs.LeastBroken.{no_program, is_least}
use Rattle.project_check.proofs.checking.check.Goals as goal

pub stage_at-requires-clause-broken : goal.stage_at-requires-clause-broken
stage_at-requires-clause-broken c =
    let view = project_view c.args.project.now in
    let f = condition_of c.in_ok-broken.broken in
    let least : IsLeast view (IsTrueIn f) c.in-Some.c = subst (λ (found : Option (List Bool)). MatchOption found (Nowhere view (IsTrueIn f)) (IsLeast view (IsTrueIn f))) c.in-Some.is c.in_ok-least_where.ensures in
    no_program c.programs_are_one.ensures view (plain_files c.args.files.now) f c.in_ok-broken.ensures c.in-Some.c least

pub returns : goal.returns
returns c =
    let view = project_view c.args.project.now in
    let f = condition_of c.in_ok-broken.broken in
    let least : IsLeast view (IsTrueIn f) c.in-Some.c = subst (λ (found : Option (List Bool)). MatchOption found (Nowhere view (IsTrueIn f)) (IsLeast view (IsTrueIn f))) c.in-Some.is c.in_ok-least_where.ensures in
    let stage = c.in_ok-stage-in-Some in
    (is_least c.programs_are_one.ensures view (plain_files c.args.files.now) f c.in_ok-broken.ensures c.in-Some.c least stage.stage stage.ensures, stage.ensures)
