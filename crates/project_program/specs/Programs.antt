-- The program of a project in one configuration, or the stage that refuses it (ISO/IEC 9899:2011, 5.1.1.2).
use Rattle.std.specs.Prelude.{ℕ, ◌+◌, Bool, List, [], ◌∷◌, codes, Contains, if◌then◌else◌, ⊤}
use Rattle.std.specs.List.{AllZip}
use Rattle.text_edits.specs.Files.{PlainFile}
use Rattle.cond_formula.specs.Conditions.{value}
use Rattle.c_text.specs.Token.{PlainToken}
use Rattle.c_text.specs.Preprocessing.{Refusal, gives, is_refused, IsPreprocessed}
use Rattle.c_tree.specs.Trees.{PlainTree}
use Rattle.c_tree.specs.Units.{IsTreeOf}
use Rattle.core_meaning.specs.declared.refusals.TypeKind.{TypeKind}
use Rattle.core_meaning.specs.declared.refusals.LinkKind.{LinkKind}
use Rattle.core_meaning.specs.Program.{PlainProgram}
use Rattle.core_meaning.specs.Linking.{IsElaborated, IsBadlyTyped, IsBadlyLinked}
use Rattle.project_file.specs.Projects.{PlainUnit, PlainProject}
use Rattle.plain_pp.specs.Units.{sources_of, file_of}
use Rattle.project_program.specs.declared.programs.Stage.{Stage}
use Rattle.project_program.specs.declared.programs.Stage.TheVariants.{Preprocess, Parse, Types, Link}
use Rattle.project_program.specs.declared.programs.ProgramError.{ProgramError}
use Rattle.project_program.specs.declared.programs.ProgramError.TheVariants.{NotAccepted, Memory}

-- the places of the units that are present, counted from this one on
abbrev pub present_from : (ℕ → Bool) → ℕ → List PlainUnit → List ℕ
present_from on place [] = []
present_from on place (unit ∷ units) =
    if value on unit.when then place ∷ present_from on (place + 1) units else present_from on (place + 1) units

abbrev pub present_units : PlainProject → (ℕ → Bool) → List ℕ
present_units project on = present_from on 0 project.units

-- the unit gives these tokens
abbrev pub UnitGives : PlainProject → List PlainFile → (ℕ → Bool) → ℕ → List PlainToken → Type 0
UnitGives project files on unit tokens =
    IsPreprocessed (sources_of project files on) (file_of project unit) (gives tokens)

-- the tokens of each unit that is present
abbrev pub AreTokens : PlainProject → List PlainFile → (ℕ → Bool) → List (List PlainToken) → Type 0
AreTokens project files on tokens = AllZip (UnitGives project files on) (present_units project on) tokens

-- the trees of the units that are present
pub record AreTrees (project : PlainProject) (files : List PlainFile) (on : ℕ → Bool) (trees : List PlainTree) : Type 0 where
  pub tokens : List (List PlainToken)
  pub preprocessed : AreTokens project files on tokens
  pub parsed : AllZip IsTreeOf tokens trees

-- The core program of the units that are present.
pub record IsProgram (project : PlainProject) (files : List PlainFile) (on : ℕ → Bool) (p : PlainProgram) : Type 0 where
  pub trees : List PlainTree
  pub are_trees : AreTrees project files on trees
  pub elaborated : IsElaborated trees p

-- ---- refusals: each stage is asked of all units before the next

-- the preprocessing of a unit that is present is refused
pub record IsNotPreprocessed (project : PlainProject) (files : List PlainFile) (on : ℕ → Bool) : Type 0 where
  pub unit : ℕ
  pub present : Contains (present_units project on) unit
  pub why : Refusal
  pub refused : IsPreprocessed (sources_of project files on) (file_of project unit) (is_refused why)

-- all units give tokens, and those of one have no tree
pub record IsNotParsed (project : PlainProject) (files : List PlainFile) (on : ℕ → Bool) : Type 0 where
  pub tokens : List (List PlainToken)
  pub preprocessed : AreTokens project files on tokens
  pub of_unit : List PlainToken
  pub one : Contains tokens of_unit
  pub treeless : (tree : PlainTree) → IsTreeOf of_unit tree → ⊥

-- all units have trees, and a type is refused
pub record IsNotTyped (project : PlainProject) (files : List PlainFile) (on : ℕ → Bool) : Type 0 where
  pub trees : List PlainTree
  pub are_trees : AreTrees project files on trees
  pub kind : TypeKind
  pub token : PlainToken
  pub refused : IsBadlyTyped trees kind token

-- all units type, and they don't link
pub record IsNotLinked (project : PlainProject) (files : List PlainFile) (on : ℕ → Bool) : Type 0 where
  pub trees : List PlainTree
  pub are_trees : AreTrees project files on trees
  pub kind : LinkKind
  pub name : List ℕ
  pub refused : IsBadlyLinked trees kind name

-- The configuration is refused at this stage.
abbrev pub IsRefusedAt : PlainProject → List PlainFile → (ℕ → Bool) → Stage → Type 0
IsRefusedAt project files on Preprocess = IsNotPreprocessed project files on
IsRefusedAt project files on Parse = IsNotParsed project files on
IsRefusedAt project files on Types = IsNotTyped project files on
IsRefusedAt project files on Link = IsNotLinked project files on

-- the name of a stage of translation
abbrev pub stage_name : Stage → List ℕ
stage_name Preprocess = codes "preprocess"
stage_name Parse = codes "parse"
stage_name Types = codes "type"
stage_name Link = codes "link"

-- why there is no program
abbrev pub WhyNone : PlainProject → List PlainFile → (ℕ → Bool) → ProgramError → Type 0
WhyNone project files on (NotAccepted stage) = IsRefusedAt project files on stage
WhyNone project files on Memory = ⊤
