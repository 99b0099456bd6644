-- Where a configuration has a program, by what its units are and by how they are judged.
use Rattle.std.proofs.Common.{◌≡◌, ℕ, Bool, true, false, ◌||◌, List, subst}
use Rattle.text_edits.specs.Files.{PlainFile}
use Rattle.c_tree.specs.Trees.{PlainTree}
use Rattle.choice_trees.specs.declared.trees.Forest.{Forest}
use Rattle.core_meaning.specs.Linking.{IsElaborated}
use Rattle.bindings.specs.Laws.{AreWritten}
use Rattle.project_file.specs.declared.projects.Project.{Project}
use Rattle.project_file.specs.declared.projects.Unit.{Unit}
use Rattle.project_file.specs.View.{project_view}
use Rattle.project_program.specs.declared.programs.Stage.TheVariants.{Preprocess, Parse}
use Rattle.project_program.specs.Programs.{AreTrees}
use Rattle.project_program.specs.Laws.{ProgramsAreOne}
use Rattle.cond_types.specs.Elaborated.{TellsElaborated}
use Rattle.cond_scopes.specs.Units.{present_trees}
use Rattle.project_check.specs.Parsed.{AreReadUnits}
use Rattle.project_check.specs.Broken.{TellsProgram}

-- the same, of units and forests that are these
pub at_these :
    (on : ℕ → Bool) (units us : List Unit) (forests fs : List Forest) (b : Bool) → us ≡ units → fs ≡ forests
    → (AreWritten (present_trees on us fs) → TellsElaborated b (present_trees on us fs)) → AreWritten (present_trees on units forests) → TellsElaborated b (present_trees on units forests)
at_these on units us forests fs b units_are forests_are h =
    subst (λ (x : List Unit). AreWritten (present_trees on x forests) → TellsElaborated b (present_trees on x forests)) units_are
    (subst (λ (x : List Forest). AreWritten (present_trees on us x) → TellsElaborated b (present_trees on us x)) forests_are h)

module _ (one : ProgramsAreOne) (on : ℕ → Bool) (project : Project) (files : List PlainFile) (forests : List Forest) where
  trees_tell : (trees : List PlainTree) (b : Bool) → (only : (others : List PlainTree) → AreTrees (project_view project) files on others → others ≡ trees) → AreTrees (project_view project) files on trees → TellsElaborated b trees → TellsProgram b (project_view project) files on
  trees_tell trees true only are none = λ program is. none program (subst (λ (ts : List PlainTree). IsElaborated ts program) (only is.trees is.are_trees) is.elaborated)
  trees_tell trees false only are some = (some.0, record { trees = trees; are_trees = are; elaborated = some.1 })

  pub tells_program :
      (unread treeless badly_made : Bool)
      → ((trees : List PlainTree) → AreTrees (project_view project) files on trees → AreWritten trees)
      → ((trees others : List PlainTree) → AreTrees (project_view project) files on trees → AreTrees (project_view project) files on others → others ≡ trees)
      → AreReadUnits on project files unread treeless forests
      → (AreWritten (present_trees on project.units.items forests) → TellsElaborated badly_made (present_trees on project.units.items forests))
      → TellsProgram ((unread || treeless) || badly_made) (project_view project) files on
  tells_program true treeless badly_made written only are tells = λ program is. one.not_both (project_view project) files on program Preprocess is are
  tells_program false true badly_made written only are tells = λ program is. one.not_both (project_view project) files on program Parse is are
  tells_program false false badly_made written only are tells =
      let trees = present_trees on project.units.items forests in
      trees_tell trees badly_made (λ others x. only trees others are x) are (tells (written trees are))
