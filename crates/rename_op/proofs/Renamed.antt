-- The identifiers that copy a token of a listed class are those that its renaming renames.
use Rattle.std.proofs.Common.{◌≡◌, ℕ, ◌<◌, ◌≤◌, true, List, [], length, inl, inr, sym, ap, ◌∙◌}
use Rattle.std.specs.Prelude.{◌⊎◌}
use Rattle.std.specs.List.{list_any}
use Rattle.std.specs.Cmp.{both_ways}
use Rattle.std.proofs.lemmas.Bool.{cases_lt, false≢true}
use Rattle.text_edits.specs.Span.{PlainSpan}
use Rattle.text_edits.specs.Files.{PlainFile}
use Rattle.renamings.specs.Renamings.{Renaming, same_span, is_renamed}
use Rattle.program_occurrences.specs.Classes.{copied_by}
use Rattle.changed_forests.specs.Renamed.{is_name, is_of_class}
use Rattle.class_occurrences.specs.Laws.{TestsAreOfPreconditions}
use Rattle.renamed_classes.specs.Laws.{ClassesStandInFiles}
use Rattle.rename_op.specs.Analysed.{IdentifiersAreRenamed}
use Rattle.rename_op.proofs.Members.{of_class_in, in_of_class}

-- what is renamed stands in one of the files, if elsewhere nothing is
in_some_file : (r : Renaming) (files : List PlainFile) → ((number : ℕ) → length files ≤ number → r.spans number ≡ []) → (number : ℕ) (span : PlainSpan)
    → is_renamed r number span ≡ true → number < length files
in_some_file r files elsewhere number span h = by (cases_lt number (length files))
  where
    by : (number < length files) ⊎ (length files ≤ number) → number < length files
    by (inl below) = below
    by (inr past) = absurd (false≢true (sym (ap (λ (spans : List PlainSpan). list_any (same_span span) spans) (elsewhere number past)) ∙ h))

pub identifiers_are : TestsAreOfPreconditions → ClassesStandInFiles → IdentifiersAreRenamed
identifiers_are tests in_files project files there place class new r lists renames found unhindered unfixed token name =
    let number = token.origin.file in
    let span = token.origin.span in
    both_ways (is_of_class class new token) (is_renamed r number span)
    (λ h. let member = of_class_in tests class new project files place lists token h in
    (renames.members (copied_by token) (in_files project files place r there found unhindered unfixed (copied_by token) member)).1 member)
    (λ h. in_of_class tests class new project files place lists token (ap is_name name)
    ((renames.members (copied_by token) (in_some_file r files renames.elsewhere number span h)).0 h))
