-- Renamings that may be made in a configuration of a project, and names that are bound alike there (ISO/IEC 9899:2011, 5.1.1.2, 6.2.1,
-- 6.2.2).
use Rattle.std.specs.Prelude.{◌≡◌, ℕ, Bool, false, List, [], All}
use Rattle.std.specs.List.{list_any}
use Rattle.std.specs.Str.{bytes_eq}
use Rattle.text_edits.specs.Files.{PlainFile}
use Rattle.c_text.specs.Directives.{predefined_names}
use Rattle.c_tree.specs.Trees.{PlainTree}
use Rattle.project_file.specs.Projects.{PlainProject}
use Rattle.plain_pp.specs.Units.{sources_of}
use Rattle.renamings.specs.Renamings.{Renaming, FitsFiles}
use Rattle.renamed_units.specs.Laws.{AreNoMacros}
use Rattle.renamed_programs.specs.Entities.{Correspondence}
use Rattle.renamed_programs.specs.Laws.{BindAlike, AreNamedAlike}
use Rattle.renamed_sources.specs.Projects.{present_files}

-- The renaming may be made in the configuration: the old name isn't predefined, and where a unit that is present reads a renamed token,
-- neither the old nor the new name is a macro.
pub record MayBeRenamedIn (project : PlainProject) (files : List PlainFile) (on : ℕ → Bool) (r : Renaming) : Type 0 where
  pub fits : FitsFiles r files
  pub free : list_any (bytes_eq r.old) predefined_names ≡ false
  pub no_macros : All (AreNoMacros r (sources_of project files on)) (present_files project on)

-- The names of file scope of the units correspond in such a way that each identifier means what corresponds to what it meant, and is
-- linked so.
pub record BindNamesAlike (trees others : List PlainTree) : Type 0 where
  pub named : ℕ → Correspondence
  pub bound : BindAlike named 0 [] [] trees others
  pub linked : AreNamedAlike named trees
