use Rattle.std.proofs.Common.{◌≡◌, ℕ, ◌||◌, List, length, sym, ap, ap₂, subst, ◌∙◌}
use Rattle.std.proofs.lemmas.List.{length-map}
use Rattle.text_edits.specs.Files.{PlainFile, plain_files}
use Rattle.cond_formula.specs.Features.{has}
use Rattle.cond_formula.specs.Conditions.{condition_of, value}
use Rattle.project_file.specs.View.{project_view}
use Rattle.project_store.specs.Reads.{names_of}
use Rattle.project_check.specs.Broken.{TellsProgram}
use Rattle.project_check.proofs.Present.{trees_are_written, trees_are_one}
use Rattle.project_check.proofs.BrokenLemmas.{tells_program}
use Rattle.project_check.proofs.broken.where_parsed_broken.Goals as goal

pub returns : goal.returns
returns c = λ c' are_parsed tells.
    let project = c.args.project.now in
    let view = project_view project in
    let files = plain_files c.args.files.now in
    let parsed = c.args.parsed.now in
    let filed : length files ≡ length (names_of view) = sym (length-map files (λ (f : PlainFile). f.name)) ∙ ap (λ (names : List (List ℕ)). length names) c.requires in
    let unread = value (has c') (condition_of parsed.unread) in
    let treeless = value (has c') (condition_of parsed.treeless) in
    let badly_made = value (has c') (condition_of c.args.badly_made) in
    let copied : value (has c') (condition_of c.in_ok-unread.unread) ≡ unread = ap (value (has c')) c.in_ok-unread.ensures in
    let copied-too : value (has c') (condition_of c.in_ok-treeless.treeless) ≡ treeless = ap (value (has c')) c.in_ok-treeless.ensures in
    let is : value (has c') (condition_of c.in_ok-f.f) ≡ ((unread || treeless) || badly_made)
    = c.in_ok-f.ensures (has c') ∙ ap (λ b. b || badly_made) (c.in_ok-unparsed.ensures (has c') ∙ ap₂ (λ a b. a || b) copied copied-too) in
    subst (λ b. TellsProgram b view files (has c')) (sym is)
    (tells_program c.programs_are_one.ensures (has c') project files parsed.forests.items unread treeless badly_made
    (trees_are_written c.tokens_are_spelt.ensures view files (has c') filed)
    (trees_are_one c.outcomes_are_one.ensures c.tokens_spell_one_unit.ensures view files (has c'))
    are_parsed tells)
