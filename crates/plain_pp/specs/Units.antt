-- The sources of a project in one configuration, and what an answer about a unit says.
use Rattle.std.specs.Prelude.{ℕ, ◌+◌, Bool, List, length, ⊤}
use Rattle.text_edits.specs.Files.{PlainFile}
use Rattle.c_text.specs.Preprocessing.{Sources, is_refused, IsPreprocessed}
use Rattle.project_file.specs.Projects.{PlainProject, names_on}
use Rattle.plain_pp.specs.declared.errors.PpError.{PpError}
use Rattle.plain_pp.specs.declared.errors.PpError.TheVariants.{Refused, Memory}
use Rattle.unit_files.specs.Refusals.{refusal_view}

-- a project's files, headers first, and its features with those that are on
abbrev pub sources_of : PlainProject → List PlainFile → (ℕ → Bool) → Sources
sources_of project files on = record {
  files = files;
  headers = project.headers;
  features = project.features;
  on_features = names_on on project.features;
}

-- the number of a unit's file
abbrev pub file_of : PlainProject → ℕ → ℕ
file_of project unit = length project.headers + unit

-- why a unit gives no tokens
abbrev pub WhyNone : Sources → ℕ → PpError → Type 0
WhyNone sources number (Refused kind at) = IsPreprocessed sources number (is_refused (refusal_view kind at))
WhyNone sources number Memory = ⊤
