-- Where the renaming of a class captures a name, told by the trees of a configuration's units (ISO/IEC 9899:2011, 6.2.1, 6.2.2).
use Rattle.std.specs.Prelude.{◌≡◌, ◌↔◌, ◌⊎◌, ℕ, Bool, true, false, List, map, Contains}
use Rattle.c_text.specs.declared.origin.FileToken.{FileToken}
use Rattle.c_tree.specs.Trees.{PlainTree}
use Rattle.choice_trees.specs.declared.trees.Forest.{Forest}
use Rattle.core_meaning.specs.Checking.{Binding, fine}
use Rattle.core_meaning.specs.Program.{PlainProgram}
use Rattle.core_meaning.specs.Linking.{Units, judged_program, IsElaborated}
use Rattle.bindings.specs.Laws.{AreWritten}
use Rattle.project_file.specs.declared.projects.Unit.{Unit}
use Rattle.cond_scopes.specs.Units.{present_trees}
use Rattle.program_occurrences.specs.Occurrences.{names_of_units, CommonName}
use Rattle.program_occurrences.specs.Classes.{PlainFileToken}
use Rattle.program_occurrences.specs.Links.{AreBoundAlike}
use Rattle.tied_classes.specs.Told.{DeclaresName}
use Rattle.told_occurrences.specs.declared.told.ToldUnit.{ToldUnit}
use Rattle.told_occurrences.specs.Units.{AreTold}
use Rattle.told_units.specs.Units.{UnitsTellNumbers}
use Rattle.told_ties.specs.Ties.{NamedToken, named}
use Rattle.changed_forests.specs.Renamed.{is_of_class, renamed_tree}
use Rattle.bound_otherwise.specs.Otherwise.{AreToldAlike}
use Rattle.linked_otherwise.specs.Otherwise.{AreWrittenSo, AreRenamedTogether}
use Rattle.class_captures.specs.Links.{LinksOtherwise}
use Rattle.class_captures.specs.Laws.{HaveNames}

-- With the new name the trees have no core program, or some identifier is bound or linked to another declaration than before.
pub data AreCaptured (class : List FileToken) (new : List ℕ) (trees : List PlainTree) : Type 0 where
  not_elaborated : ((program : PlainProgram) → IsElaborated (map (renamed_tree class new) trees) program → ⊥) → AreCaptured class new trees
  bound_otherwise :
      (program : PlainProgram) → IsElaborated (map (renamed_tree class new) trees) program
      → (AreBoundAlike (names_of_units trees) (names_of_units (map (renamed_tree class new) trees)) → ⊥) → AreCaptured class new trees

-- some identifier is told to be declared by another than before, or some declaration is linked otherwise; or neither
abbrev pub TellsCaptures : Bool → (ℕ → Bool) → List ToldUnit → List ToldUnit → List FileToken → List ℕ → List ℕ → List NamedToken → Type 0
TellsCaptures true on before after class old new seen = (AreToldAlike on before after → ⊥) ⊎ LinksOtherwise class old new seen
TellsCaptures false on before after class old new seen = AreToldAlike on before after × (LinksOtherwise class old new seen → ⊥)

-- the trees of a product are judged well, and told by the numbers of their tokens and by the names that tokens of files declare
pub record AreWellTold (on : ℕ → Bool) (units : List Unit) (forests : List Forest) (told : List ToldUnit) (seen : List NamedToken) : Type 0 where
  pub linked : Units
  pub bindings : List Binding
  pub judged : judged_program (present_trees on units forests) ≡ fine linked bindings
  pub written : AreWritten (present_trees on units forests)
  pub are_names : HaveNames (names_of_units (present_trees on units forests))
  pub numbers : UnitsTellNumbers on units forests
  pub are_told : AreTold on units forests (names_of_units (present_trees on units forests)) told
  pub names : (token : PlainFileToken) (name : CommonName) → Contains seen (named token name) ↔ DeclaresName (names_of_units (present_trees on units forests)) token name

-- The class has all declarations of a name or none, and one old name; with the new one the trees are written well.
pub record MayGetName (class : List FileToken) (old new : List ℕ) (trees : List PlainTree) : Type 0 where
  pub together : AreRenamedTogether (is_of_class class new) (names_of_units trees)
  pub one_name : AreWrittenSo (is_of_class class new) old (names_of_units trees)
  pub written : AreWritten (map (renamed_tree class new) trees)
