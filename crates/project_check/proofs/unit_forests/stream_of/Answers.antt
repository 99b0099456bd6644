use Rattle.std.proofs.Common.{◌≡◌, ℕ, arith, subst}
use Rattle.text_edits.specs.Files.{plain_files}
use Rattle.cond_formula.specs.Features.{has}
use Rattle.project_file.specs.View.{project_view}
use Rattle.plain_pp.specs.Units.{sources_of, file_of}
use Rattle.cond_pp.specs.Streams.{IsStreamAt}
use Rattle.project_check.proofs.unit_forests.stream_of.Goals as goal

pub returns-clause-streams : goal.returns-clause-streams
returns-clause-streams g c = λ c' admitted.
    let view = project_view c.args.project.now in
    let same : c.in-Ok.number ≡ c.args.place = omega (arith, c.in-Ok.ensures) in
    subst (λ (n : ℕ). IsStreamAt (has c') (sources_of view (plain_files c.args.files.now) (has c')) (file_of view n) c.in_ok-stream.stream) same (c.in_ok-stream.ensures.streams c' admitted)
