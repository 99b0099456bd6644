use Rattle.std.proofs.Common.{Bool, ◌||◌, Option, ap, ◌∙◌, option_map}
use Rattle.text_edits.specs.Files.{plain_files}
use Rattle.cond_formula.specs.Features.{has}
use Rattle.active_tokens.specs.Active.{reads_of_unit}
use Rattle.project_file.specs.View.{project_view}
use Rattle.cond_pp.specs.declared.watch.Sought.{Sought}
use Rattle.plain_pp.specs.Units.{sources_of, file_of}
use Rattle.cond_pp.specs.Watches.{plain_sought, is_read_in, is_seen}
use Rattle.cond_pp.proofs.activity.found_in.Goals as goal

pub returns-clause-found : goal.returns-clause-found
returns-clause-found g c =
    λ k x are misplaced adm am.
    let view = project_view c.args.project.now in
    let reads = reads_of_unit (sources_of view (plain_files c.args.files.now) (has k)) x misplaced (file_of view c.args.unit) in
    c.in_ok-read_unit.ensures.found k x are misplaced adm am
    ∙ ap (λ (b : Bool). b || is_seen c.new-watch.result reads) (c.new-watch.ensures.found (has k))
    ∙ ap (λ (q : Option Sought). is_read_in (option_map plain_sought q) reads) c.new-watch.ensures.sought
