-- What tests of what is told of units say of their occurrences; each is the contract of a function of this crate.
use Rattle.std.specs.Prelude.{◌↔◌, ℕ, Bool, List, IsTrue}
use Rattle.std.specs.List.{AllZip}
use Rattle.text_edits.specs.Files.{PlainFile}
use Rattle.cond_formula.specs.Features.{has}
use Rattle.c_text.specs.declared.origin.FileToken.{FileToken}
use Rattle.choice_trees.specs.declared.trees.Forest.{Forest}
use Rattle.project_file.specs.declared.projects.Project.{Project}
use Rattle.project_file.specs.declared.projects.Unit.{Unit}
use Rattle.project_file.specs.View.{project_view}
use Rattle.cond_tokens.specs.declared.tokens.CondStream.{CondStream}
use Rattle.cond_scopes.specs.Units.{present_trees}
use Rattle.project_check.specs.declared.forests.ParsedUnits.{ParsedUnits}
use Rattle.project_check.specs.Parsed.{AreLeaves, AreParsed, HaveLeaves}
use Rattle.program_occurrences.specs.Occurrences.{UnitNames, Occurrence, OccursIn, names_of_units}
use Rattle.program_occurrences.specs.Classes.{PlainFileToken}
use Rattle.reference_classes.specs.Products.{Product}
use Rattle.reference_classes.specs.Preconditions.{SomeOccurrence, ComesFromMacroBody, IsFixed}
use Rattle.tied_tokens.specs.Tokens.{plain_file_tokens}
use Rattle.changed_forests.specs.Numbered.{IsNumbered}
use Rattle.class_touches.specs.Laws.{IsListOf}
use Rattle.class_occurrences.specs.Occurring.{Occurring, comes_from_macro_body, is_fixed_of}
use Rattle.class_occurrences.specs.Laws.{tokens_of}
use Rattle.told_occurrences.specs.declared.told.ToldUnit.{ToldUnit}
use Rattle.told_occurrences.specs.Units.{AreTold}
use Rattle.class_conditions.specs.Told.{some_unit_passes}

-- ---- units

-- an occurrence in one of these units of which this holds
pub record OccursAnd (units : List UnitNames) (Holds : Occurrence → Type 0) : Type 0 where
  pub found : OccursIn units
  pub holds : Holds found.occurrence

-- Where occurrences are told by numbers, of trees whose tokens tell their numbers, those that pass a test by the tokens of the streams are
-- those of the units before that pass it by their own.
abbrev pub ToldPassAsOccurrences : Type 0
ToldPassAsOccurrences =
    (on : ℕ → Bool) (units : List Unit) (streams : List CondStream) (forests numbered : List Forest) (all : List ToldUnit)
    → AreLeaves on units streams forests → AllZip IsNumbered forests numbered → AreTold on units numbered (names_of_units (present_trees on units numbered)) all
    → (test : Occurring → Bool)
    → IsTrue (some_unit_passes on test streams all) ↔ OccursAnd (names_of_units (present_trees on units forests)) (λ o. IsTrue (test (tokens_of o)))

-- ---- products

-- The units of a project are parsed so in a configuration, and told by the numbers of their tokens.
pub record AreParsedAndTold (project : Project) (files : List PlainFile) (parsed : ParsedUnits) (numbered : List Forest) (told : List ToldUnit) (c : List Bool) : Type 0 where
  pub are_parsed : AreParsed (has c) project files parsed
  pub have_leaves : HaveLeaves (has c) project parsed
  pub are_numbered : AllZip IsNumbered parsed.forests.items numbered
  pub are_told : AreTold (has c) project.units.items numbered (names_of_units (present_trees (has c) project.units.items numbered)) told

-- The tests of a list of tokens ask what the preconditions say of the class of a place.
pub record TellPreconditions (project : Project) (files : List PlainFile) (parsed : ParsedUnits) (told : List ToldUnit) (place : PlainFileToken) (class : List FileToken) (c : List Bool) : Type 0 where
  pub in_macro_body :
      IsTrue (some_unit_passes (has c) (comes_from_macro_body class) parsed.streams.items told) ↔ SomeOccurrence (project_view project) files place c ComesFromMacroBody
  pub fixed : IsTrue (some_unit_passes (has c) (is_fixed_of class) parsed.streams.items told) ↔ SomeOccurrence (project_view project) files place c IsFixed

-- So it is in each product whose units are parsed and told, where the list is the class.
abbrev pub ConditionsTellPreconditions : Type 0
ConditionsTellPreconditions =
    (project : Project) (files : List PlainFile) (parsed : ParsedUnits) (numbered : List Forest) (told : List ToldUnit) (c : List Bool)
    → Product (project_view project) files c → AreParsedAndTold project files parsed numbered told c
    → (place : PlainFileToken) (class : List FileToken) → IsListOf (project_view project) files place (plain_file_tokens class)
    → TellPreconditions project files parsed told place class c
