-- A product has a program, or a stage refuses it.
use Rattle.std.proofs.Common.{◌≡◌, ℕ, Bool, List, length, inl, inr}
use Rattle.text_edits.specs.Files.{PlainFile}
use Rattle.c_tree.specs.Trees.{PlainTree}
use Rattle.c_tree.specs.ReadingLaws.{ReadIsSpelt, SpeltIsRead, TreesAreOne}
use Rattle.core_meaning.specs.Program.{PlainProgram}
use Rattle.core_meaning.specs.Judgings.{NoUnitsAreLeftOut}
use Rattle.bindings.specs.Laws.{ProgramsAreJudged}
use Rattle.project_file.specs.Projects.{PlainProject}
use Rattle.project_store.specs.Reads.{names_of}
use Rattle.project_program.specs.declared.programs.Stage.{Stage}
use Rattle.project_program.specs.declared.programs.Stage.TheVariants.{Preprocess, Parse, Types, Link}
use Rattle.project_program.specs.Programs.{present_units, AreTrees, IsProgram, IsRefusedAt}
use Rattle.unit_outcomes.specs.Laws.{UnitsHaveOutcomes, TokensAreSpelt}
use Rattle.product_outcomes.specs.Laws.{NoProductIsLeftOut}
use Rattle.product_outcomes.proofs.Units.{Given, present, given-or-refused, all-spelt}
use Rattle.product_outcomes.proofs.Trees.{trees-or-none, are-written}

-- the laws on units that it follows from
pub record UnitLaws : Type 0 where
  pub outcomes : UnitsHaveOutcomes
  pub spelt : TokensAreSpelt
  pub read_is_spelt : ReadIsSpelt
  pub spelt_is_read : SpeltIsRead
  pub trees_are_one : TreesAreOne
  pub judged : ProgramsAreJudged
  pub none_left : NoUnitsAreLeftOut

module _ (laws : UnitLaws) (project : PlainProject) (files : List PlainFile) (on : ℕ → Bool) (filed : length files ≡ length (names_of project)) (none : (program : PlainProgram) → IsProgram project files on program → ⊥) (sound : (stage : Stage) → IsRefusedAt project files on stage → ⊥) where
  elaborated : (given : Given laws.outcomes laws.spelt project files on filed (present_units project on)) (trees : List PlainTree) → AreTrees project files on trees → ⊥
  elaborated given trees are =
      laws.none_left trees
      (λ program is. none program (record { trees = trees; are_trees = are; elaborated = is }))
      (λ kind token is. sound Types (record { trees = trees; are_trees = are; kind = kind; token = token; refused = is }))
      (λ kind name is. sound Link (record { trees = trees; are_trees = are; kind = kind; name = name; refused = is }))
      (laws.judged trees
      (are-written are.tokens trees (all-spelt laws.outcomes laws.spelt project files on filed (present_units project on) are.tokens (present laws.outcomes laws.spelt project files on filed) are.preprocessed) are.parsed))

  parsed : Given laws.outcomes laws.spelt project files on filed (present_units project on) → ⊥
  parsed given =
      elim (trees-or-none laws.read_is_spelt laws.spelt_is_read laws.trees_are_one given.tokens) [
        | inl have ↦ elaborated given have.trees (record { tokens = given.tokens; preprocessed = given.are_given; parsed = have.are_trees })
        | inr lacks ↦ sound Parse (record { tokens = given.tokens; preprocessed = given.are_given; of_unit = lacks.of_unit; one = lacks.among; treeless = lacks.treeless })
      ]

  pub left_out : ⊥
  left_out =
      elim (given-or-refused laws.outcomes laws.spelt project files on filed) [
        | inl given ↦ parsed given
        | inr refused ↦ sound Preprocess refused
      ]

pub none_left_out : UnitLaws → NoProductIsLeftOut
none_left_out laws project files on filed none sound = left_out laws project files on filed none sound
