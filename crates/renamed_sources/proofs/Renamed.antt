-- The files of a project after they were renamed.
use Rattle.std.proofs.Common.{◌≡◌, ℕ, suc, ◌≤◌, List, [], ◌∷◌, length, refl, sym, ap, subst, ◌∙◌}
use Rattle.text_edits.specs.Files.{PlainFile}
use Rattle.c_text.specs.Preprocessing.{built_in_file}
use Rattle.project_file.specs.Projects.{PlainProject}
use Rattle.renamings.specs.Renamings.{Renaming, renamed_files}
use Rattle.renamed_sources.specs.Projects.{HasItsFiles}
use Rattle.renamed_sources.specs.Laws.{SourcesAreRenamed}
use Rattle.renamed_sources.proofs.Present.{is_unit, are_units}

as_many : (r : Renaming) (number : ℕ) (files : List PlainFile) → length (renamed_files r number files) ≡ length files
as_many r number [] = refl
as_many r number (f ∷ files) = ap (λ n. suc n) (as_many r (suc number) files)

still_has_files : (r : Renaming) (project : PlainProject) (files : List PlainFile) → HasItsFiles project files → HasItsFiles project (renamed_files r 0 files)
still_has_files r project files has = record {
  one_each = as_many r 0 files ∙ has.one_each;
  few = subst (λ (n : ℕ). n ≤ built_in_file) (sym (as_many r 0 files)) has.few;
}

pub sources_renamed : SourcesAreRenamed
sources_renamed = record {
  sources = λ r project files on. refl;
  has_files = still_has_files;
  unit = λ project files on unit has h. is_unit project files on has unit h;
  units = are_units;
}
