-- What becomes of the units of a project before they are judged, as a configuration sees it (ISO/IEC 9899:2011, 5.1.1.2).
use Rattle.std.specs.Prelude.{◌≡◌, ℕ, Bool, true, false, List, [], ◌∷◌, IsTrue, ⊤}
use Rattle.cond_formula.specs.Conditions.{condition_of, value}
use Rattle.text_edits.specs.Files.{PlainFile}
use Rattle.c_text.specs.Token.{PlainToken}
use Rattle.c_text.specs.Preprocessing.{Refusal, IsPreprocessed, is_refused}
use Rattle.c_tree.specs.Units.{IsTreeOf}
use Rattle.choice_trees.specs.declared.trees.Forest.{Forest}
use Rattle.choice_trees.specs.ChoiceTrees.{forest_at}
use Rattle.choice_trees.specs.Leaves.{forest_leaves}
use Rattle.cond_tokens.specs.declared.tokens.CondStream.{CondStream}
use Rattle.choice_parser.specs.Units.{numbered_at}
use Rattle.project_file.specs.declared.projects.Unit.{Unit}
use Rattle.project_file.specs.declared.projects.Project.{Project}
use Rattle.project_file.specs.Projects.{PlainProject}
use Rattle.project_file.specs.View.{project_view}
use Rattle.plain_pp.specs.Units.{sources_of, file_of}
use Rattle.project_program.specs.Programs.{UnitGives, AreTrees, IsNotPreprocessed, IsNotParsed}
use Rattle.project_program.specs.Steps.{HasNoTree}
use Rattle.cond_scopes.specs.Units.{present_trees}
use Rattle.project_check.specs.declared.forests.ParsedUnits.{ParsedUnits}

-- tokens have no tree, or this one
abbrev pub HaveTree : (ℕ → Bool) → List PlainToken → Bool → Forest → Type 0
HaveTree on tokens true forest = HasNoTree tokens
HaveTree on tokens false forest = IsTreeOf tokens (forest_at on forest)

-- a unit that gives tokens
pub record IsUnitRead (on : ℕ → Bool) (project : PlainProject) (files : List PlainFile) (place : ℕ) (treeless : Bool) (forest : Forest) : Type 0 where
  pub tokens : List PlainToken
  pub given : UnitGives project files on place tokens
  pub tree : HaveTree on tokens treeless forest

-- a unit is refused, or it gives tokens
abbrev pub IsUnitParsed : (ℕ → Bool) → PlainProject → List PlainFile → ℕ → Bool → Bool → Forest → Type 0
IsUnitParsed on project files place true treeless forest =
    (why : Refusal) × IsPreprocessed (sources_of project files on) (file_of project place) (is_refused why)
IsUnitParsed on project files place false treeless forest = IsUnitRead on project files place treeless forest

-- a unit that is present isn't preprocessed; else the tokens of one have no tree; else these are the trees
abbrev pub AreReadUnits : (ℕ → Bool) → Project → List PlainFile → Bool → Bool → List Forest → Type 0
AreReadUnits on project files true treeless forests = IsNotPreprocessed (project_view project) files on
AreReadUnits on project files false true forests = IsNotParsed (project_view project) files on
AreReadUnits on project files false false forests = AreTrees (project_view project) files on (present_trees on project.units.items forests)

abbrev pub AreParsed : (ℕ → Bool) → Project → List PlainFile → ParsedUnits → Type 0
AreParsed on project files all =
    AreReadUnits on project files (value on (condition_of all.unread)) (value on (condition_of all.treeless)) all.forests.items

-- where a unit is present, the leaves of its trees are the tokens of its stream, under their numbers there
abbrev pub AreLeaves : (ℕ → Bool) → List Unit → List CondStream → List Forest → Type 0
AreLeaves on (unit ∷ units) (stream ∷ streams) (forest ∷ forests) =
    (IsTrue (value on (condition_of unit.when)) → forest_leaves on forest ≡ numbered_at on 0 stream.tokens.items) × AreLeaves on units streams forests
AreLeaves on [] [] [] = ⊤
AreLeaves on units streams forests = ⊥

-- so it is where the tokens of each unit that is present have a tree
abbrev pub HaveLeaves : (ℕ → Bool) → Project → ParsedUnits → Type 0
HaveLeaves on project all = value on (condition_of all.treeless) ≡ false → AreLeaves on project.units.items all.streams.items all.forests.items
