-- Trees that are the same but for the sites of their tokens have a core program alike.
use Rattle.std.proofs.Common.{ℕ, Bool, true, false, List, refl, sym}
use Rattle.std.specs.List.{AllZip}
use Rattle.c_tree.specs.Trees.{PlainTree}
use Rattle.choice_trees.specs.declared.trees.Forest.{Forest}
use Rattle.core_meaning.specs.Program.{PlainProgram}
use Rattle.core_meaning.specs.Linking.{program_of, IsElaborated}
use Rattle.bindings.specs.Laws.{AreWritten}
use Rattle.project_file.specs.declared.projects.Unit.{Unit}
use Rattle.cond_scopes.specs.Units.{present_trees}
use Rattle.cond_types.specs.Elaborated.{TellsElaborated}
use Rattle.moved_trees.specs.Laws.{UnitsStayUnits}
use Rattle.changed_forests.specs.Numbered.{AreSameButSites, IsNumbered}
use Rattle.changed_forests.specs.Laws.{NumberingsAreSeen, SitesDontMatter}
use Rattle.told_ties.proofs.Told.{same_trees}
use Rattle.project_analysis.proofs.Written.{all_written}

module _ (sites : SitesDontMatter) (trees others : List PlainTree) (alike : AreSameButSites trees others) where
  elaborated : (program : PlainProgram) (is : IsElaborated trees program) → IsElaborated others (program_of others is.linked)
  elaborated program is = record {
    linked = is.linked;
    bindings = is.bindings;
    judged = sites.programs trees others alike is.linked is.bindings is.judged;
    links = is.links;
    program = refl;
  }

tells_elaborated : SitesDontMatter → (trees others : List PlainTree) → AreSameButSites trees others → (b : Bool) → TellsElaborated b trees → TellsElaborated b others
tells_elaborated sites trees others alike true none = λ program is. none (program_of trees is.linked) (elaborated sites others trees (sym alike) program is)
tells_elaborated sites trees others alike false one = (program_of others one.1.linked, elaborated sites trees others alike one.0 one.1)

-- what is told of trees whose tokens tell their numbers is told of the trees themselves
pub tells_trees :
    NumberingsAreSeen → SitesDontMatter → UnitsStayUnits → (on : ℕ → Bool) (units : List Unit) (forests numbered : List Forest) → AllZip IsNumbered forests numbered → (b : Bool)
    → (AreWritten (present_trees on units numbered) → TellsElaborated b (present_trees on units numbered)) → AreWritten (present_trees on units forests) → TellsElaborated b (present_trees on units forests)
tells_trees seen sites stay on units forests numbered are b tells written =
    let trees = present_trees on units forests in
    let sited = present_trees on units numbered in
    let alike : AreSameButSites sited trees = same_trees seen on units forests numbered are in
    tells_elaborated sites sited trees alike b (tells (all_written stay trees sited (sym alike) written))
