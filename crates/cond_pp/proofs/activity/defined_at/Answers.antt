use Rattle.text_edits.specs.Files.{plain_files}
use Rattle.text_edits.specs.Span.{plain_span}
use Rattle.c_text.specs.declared.origin.FileToken.{FileToken}
use Rattle.cond_formula.specs.Features.{has}
use Rattle.active_tokens.specs.Active.{IsDefinedAt}
use Rattle.project_file.specs.View.{project_view}
use Rattle.plain_pp.specs.Units.{sources_of, file_of}
use Rattle.cond_pp.proofs.ActiveLemmas.{any-of-one}
use Rattle.cond_pp.proofs.activity.defined_at.Goals as goal

pub returns-clause-defined : goal.returns-clause-defined
returns-clause-defined g c =
    λ k adm.
    let view = project_view c.args.project.now in
    let found = c.in_ok-found.ensures.defined k adm in
    let one = any-of-one (λ (at : FileToken). IsDefinedAt (sources_of view (plain_files c.args.files.now) (has k)) (file_of view c.args.unit) at.file (plain_span at.span) c.args.name.now) c.from_ref.result.now c.args.at.now c.from_ref.ensures.value in
    (λ h. one.0 (found.0 h), λ is. found.1 (one.1 is))
