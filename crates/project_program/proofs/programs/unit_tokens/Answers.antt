use Rattle.std.proofs.Common.{◌≡◌, ℕ, map, arith, subst}
use Rattle.text_edits.specs.Files.{plain_files}
use Rattle.cond_formula.specs.Features.{has}
use Rattle.c_text.specs.Token.{plain_token}
use Rattle.c_text.specs.Preprocessing.{is_refused, IsPreprocessed}
use Rattle.project_file.specs.View.{project_view}
use Rattle.unit_files.specs.Refusals.{refusal_view}
use Rattle.plain_pp.specs.Units.{sources_of, file_of}
use Rattle.project_program.specs.Programs.{UnitGives}
use Rattle.project_program.proofs.programs.unit_tokens.Goals as goal

pub returns-in-Ok-preprocess : goal.returns-in-Ok-preprocess
returns-in-Ok-preprocess c =
    let same : c.in-Ok.number ≡ c.args.place = omega (arith, c.in-Ok.ensures) in
    subst (λ (n : ℕ). UnitGives (project_view c.args.project.now) (plain_files c.args.files.now) (has c.args.c) n (map plain_token c.in-Ok-preprocess.tokens.items)) same c.in-Ok-preprocess.ensures

pub returns-in-Err-Refused : goal.returns-in-Err-Refused
returns-in-Err-Refused c =
    let same : c.in-Ok.number ≡ c.args.place = omega (arith, c.in-Ok.ensures) in
    let refusal = refusal_view c.in-Err-Refused.field-0-0 c.in-Err-Refused.field-0-1 in
    (refusal, subst (λ (n : ℕ). IsPreprocessed (sources_of (project_view c.args.project.now) (plain_files c.args.files.now) (has c.args.c)) (file_of (project_view c.args.project.now) n) (is_refused refusal)) same (rw c.in-Err-Refused.field-0-is at c.in-Err-Refused.ensures))
