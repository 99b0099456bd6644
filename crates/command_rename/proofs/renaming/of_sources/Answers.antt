use Rattle.std.proofs.Common.{List, ℕ, ap, sym, subst, ◌≡◌}
use Rattle.text_edits.specs.Files.{plain_files}
use Rattle.cond_formula.specs.Features.{has}
use Rattle.project_file.specs.Projects.{names_on}
use Rattle.project_file.specs.View.{project_view}
use Rattle.project_refactorings.specs.Refactorings.{refused_at}
use Rattle.command_promises.specs.Courses.{says}
use Rattle.command_promises.specs.Sayings.{saying}
use Rattle.tied_tokens.specs.Tokens.{plain_file_tokens}
use Rattle.c_text.specs.declared.origin.FileToken.{FileToken}
use Rattle.rename_op.specs.Outcomes.{plain_precondition, HasOldName, IsRefused, IsRenamed, IsOutcome}
use Rattle.rename_words.specs.Steps.{query_of}
use Rattle.command_rename.specs.Steps.{source_of}
use Rattle.command_rename.proofs.Said.{same-name-said, refusal-said, renaming-said}
use Rattle.command_rename.proofs.renaming.of_sources.Goals as goal

pub returns-in_ok-said-in-SameName : goal.returns-in_ok-said-in-SameName
returns-in_ok-said-in-SameName c =
    let q = query_of c.args.query.now in
    let text = c.args.text.now in
    let project = project_view text.project in
    let sources = plain_files c.args.files.now in
    let outcome : IsOutcome project sources c.args.number q.offset q.new c.in_ok-outcome.outcome = subst (λ (new : List ℕ). IsOutcome project sources c.args.number q.offset new c.in_ok-outcome.outcome) c.as_bytes-new.ensures.value c.in_ok-outcome.ensures in
    let same : HasOldName project sources c.args.number q.offset q.new = subst (IsOutcome project sources c.args.number q.offset q.new) c.in-SameName.is outcome in
    same-name-said q (source_of q text) project c.args.number sources same (says (saying c.in_ok-said-in-SameName.said)) (ap (λ x. says x) c.in_ok-said-in-SameName.ensures)

pub returns-in_ok-said-in-Refused : goal.returns-in_ok-said-in-Refused
returns-in_ok-said-in-Refused c =
    let q = query_of c.args.query.now in
    let text = c.args.text.now in
    let project = project_view text.project in
    let sources = plain_files c.args.files.now in
    let outcome : IsOutcome project sources c.args.number q.offset q.new c.in_ok-outcome.outcome = subst (λ (new : List ℕ). IsOutcome project sources c.args.number q.offset new c.in_ok-outcome.outcome) c.as_bytes-new.ensures.value c.in_ok-outcome.ensures in
    let refused : IsRefused project sources c.args.number q.offset q.new (plain_precondition c.in-Refused.precondition) c.in-Refused.least = subst (IsOutcome project sources c.args.number q.offset q.new) c.in-Refused.is outcome in
    refusal-said q (source_of q text) project c.args.number sources (plain_precondition c.in-Refused.precondition) c.in-Refused.least refused (says (saying c.in_ok-said-in-Refused.said))
    (subst (λ (word : List ℕ). says (saying c.in_ok-said-in-Refused.said) ≡ says (refused_at word (names_on (has c.in-Refused.least) project.features))) c.name.ensures (ap (λ x. says x) c.in_ok-said-in-Refused.ensures))

pub returns-in_ok-said-in-Renamed : goal.returns-in_ok-said-in-Renamed
returns-in_ok-said-in-Renamed c =
    let q = query_of c.args.query.now in
    let text = c.args.text.now in
    let project = project_view text.project in
    let sources = plain_files c.args.files.now in
    let outcome : IsOutcome project sources c.args.number q.offset q.new c.in_ok-outcome.outcome = subst (λ (new : List ℕ). IsOutcome project sources c.args.number q.offset new c.in_ok-outcome.outcome) c.as_bytes-new.ensures.value c.in_ok-outcome.ensures in
    let renamed : IsRenamed project sources c.args.number q.offset q.new (plain_file_tokens c.in-Renamed.found.class.items) c.in-Renamed.found.proofs.items = subst (IsOutcome project sources c.args.number q.offset q.new) c.in-Renamed.is outcome in
    let seen : IsRenamed project sources c.args.number q.offset q.new (plain_file_tokens c.deref.result.now) c.in-Renamed.found.proofs.items = subst (λ (tokens : List FileToken). IsRenamed project sources c.args.number q.offset q.new (plain_file_tokens tokens) c.in-Renamed.found.proofs.items) (sym c.deref.ensures.value) renamed in
    renaming-said q (source_of q text) project c.args.number sources (plain_file_tokens c.deref.result.now) c.in-Renamed.found.proofs.items seen (says (saying c.in_ok-said-in-Renamed.said))
    (λ old. ap (λ x. says x) (c.in_ok-said-in-Renamed.ensures old))
