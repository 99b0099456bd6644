-- Configurations in which no unit reads a renamed token outside every skipped group (ISO/IEC 9899:2011, 6.10.1).
use Rattle.std.specs.Prelude.{◌≡◌, ℕ, Bool, List, Contains, IsTrue}
use Rattle.text_edits.specs.Span.{PlainSpan}
use Rattle.text_edits.specs.Files.{PlainFile}
use Rattle.c_text.specs.Preprocessing.{Sources, Outcome, IsPreprocessed}
use Rattle.project_file.specs.Projects.{PlainProject}
use Rattle.plain_pp.specs.Units.{sources_of, file_of}
use Rattle.project_program.specs.Programs.{present_units}
use Rattle.active_tokens.specs.Active.{IsActive}
use Rattle.renamings.specs.Renamings.{Renaming, is_renamed, FitsFiles}
use Rattle.renamed_units.specs.Renamed.{renamed_outcome}
use Rattle.renamed_units.specs.Laws.{ReadsNoRenamed, SameOutcomes}
use Rattle.renamed_sources.specs.Projects.{HasItsFiles}

-- The unit reads a renamed token.
pub record ReadsRenamed (r : Renaming) (s : Sources) (number : ℕ) : Type 0 where
  pub file : ℕ
  pub span : PlainSpan
  pub renamed : IsTrue (is_renamed r file span)
  pub active : IsActive s number file span

-- A unit that is present reads a renamed token.
pub record ReadRenamed (r : Renaming) (project : PlainProject) (files : List PlainFile) (on : ℕ → Bool) : Type 0 where
  pub unit : ℕ
  pub present : Contains (present_units project on) unit
  pub reads : ReadsRenamed r (sources_of project files on) (file_of project unit)

-- No unit that is present reads a renamed token.
abbrev pub ReadNoRenamed : Renaming → PlainProject → List PlainFile → (ℕ → Bool) → Type 0
ReadNoRenamed r project files on =
    (unit : ℕ) → Contains (present_units project on) unit → ReadsNoRenamed r (sources_of project files on) (file_of project unit)

-- The renaming fits the project's files, and leaves this configuration untouched.
pub record IsUntouched (r : Renaming) (project : PlainProject) (files : List PlainFile) (on : ℕ → Bool) : Type 0 where
  pub has_files : HasItsFiles project files
  pub fits : FitsFiles r files
  pub unread : ReadNoRenamed r project files on

-- what became of the unit before its project's files were renamed: tokens of the same spellings, or a refusal for the same reason
pub record WasAlike (r : Renaming) (project : PlainProject) (files : List PlainFile) (on : ℕ → Bool) (unit : ℕ) (outcome : Outcome) : Type 0 where
  pub before : Outcome
  pub was : IsPreprocessed (sources_of project files on) (file_of project unit) before
  pub renamed : outcome ≡ renamed_outcome r before
  pub alike : SameOutcomes before outcome
