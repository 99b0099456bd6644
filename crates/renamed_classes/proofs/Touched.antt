-- A project that is renamed as it may be has the programs that it had.
use Rattle.std.proofs.Common.{◌≡◌, ℕ, Bool, List, sym, subst}
use Rattle.text_edits.specs.Files.{PlainFile}
use Rattle.cond_formula.specs.Features.{has}
use Rattle.core_meaning.specs.Program.{PlainProgram}
use Rattle.project_file.specs.Projects.{PlainProject}
use Rattle.project_program.specs.Programs.{IsProgram}
use Rattle.command_projects.specs.Least.{IsAdmitted}
use Rattle.renamings.specs.Renamings.{Renaming, renamed_files}
use Rattle.program_occurrences.specs.Classes.{PlainFileToken}
use Rattle.reference_classes.specs.Products.{Product, names_in}
use Rattle.reference_classes.specs.Preconditions.{HasNoProgram, not_accepted, bound_otherwise, IsTouched, broken, macro_name, capture}
use Rattle.product_programs.specs.Laws.{ProgramsAreFound}
use Rattle.renamed_sources.specs.Projects.{HasItsFiles}
use Rattle.renamed_sources.specs.Laws.{SourcesAreRenamed}
use Rattle.renamed_projects.specs.Projects.{MayBeRenamedIn}
use Rattle.renamed_projects.specs.Laws.{TouchedProjectsRunAlike}
use Rattle.renamed_classes.specs.Renaming.{MayBeMade}
use Rattle.renamed_classes.specs.Laws.{ClassesMayBeRenamed, BoundAlikeOrNot, BindingsAreTold, TouchedClassesKeepPrograms}
use Rattle.renamed_classes.proofs.Told.{on-text-lines}

-- the laws that it follows from
pub record ClassLaws : Type 0 where
  pub sources : SourcesAreRenamed
  pub may_be : ClassesMayBeRenamed
  pub alike_or_not : BoundAlikeOrNot
  pub tell : BindingsAreTold
  pub found : ProgramsAreFound
  pub run_alike : TouchedProjectsRunAlike

module _ (laws : ClassLaws) (project : PlainProject) (files : List PlainFile) (place : PlainFileToken) (new : List ℕ) (r : Renaming) (c : List Bool) (may : MayBeMade project files place new r) (admitted : IsAdmitted project c) (touched : IsTouched project files place c) where
  may-be : MayBeRenamedIn project files (has c) r
  may-be = laws.may_be project files place new r c (on-text-lines project files place new r may) (may.unhindered macro_name) admitted

  after-files : HasItsFiles project (renamed_files r 0 files)
  after-files = laws.sources.has_files r project files may.has_files

  accepted-before : HasNoProgram project files c → ⊥
  accepted-before none = may.unhindered broken c admitted (record { touched = touched; stands_in_the_way = none })

  accepted-after : HasNoProgram project (renamed_files r 0 files) c → ⊥
  accepted-after none = may.unhindered capture c admitted (record { touched = touched; stands_in_the_way = not_accepted none })

  one-program : (p q : PlainProgram) → IsProgram project files (has c) p → IsProgram project (renamed_files r 0 files) (has c) q → p ≡ q
  one-program p q before after =
      let first : Product project files c = record { admitted = admitted; program = p; is_program = before } in
      let second : Product project (renamed_files r 0 files) c = record { admitted = admitted; program = q; is_program = after } in
      laws.run_alike.one_program project files (has c) r p q may.has_files may-be before after
      (laws.tell project files place new r c may admitted touched first second (laws.alike_or_not (names_in first) (names_in second)
      (λ not. may.unhindered capture c admitted (record { touched = touched; stands_in_the_way = bound_otherwise first second not }))))

  forth : (p : PlainProgram) → IsProgram project files (has c) p → IsProgram project (renamed_files r 0 files) (has c) p
  forth p before =
      let after = laws.found project (renamed_files r 0 files) (has c) after-files.one_each accepted-after in
      subst (IsProgram project (renamed_files r 0 files) (has c)) (sym (one-program p after.program before after.is_program)) after.is_program

  back : (p : PlainProgram) → IsProgram project (renamed_files r 0 files) (has c) p → IsProgram project files (has c) p
  back p after =
      let before = laws.found project files (has c) may.has_files.one_each accepted-before in
      subst (IsProgram project files (has c)) (one-program before.program p before.is_program after) before.is_program

pub touched-keep : ClassLaws → TouchedClassesKeepPrograms
touched-keep laws project files place new r c p may admitted touched =
    (forth laws project files place new r c may admitted touched p, back laws project files place new r c may admitted touched p)
