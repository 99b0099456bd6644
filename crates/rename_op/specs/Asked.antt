-- What is known of a class when it is asked what stands in the way of its renaming, and what a condition tells of a precondition.
use Rattle.std.specs.Prelude.{◌↔◌, Bool, List, length, IsTrue}
use Rattle.std.specs.List.{AllByRecursion}
use Rattle.text_edits.specs.Files.{PlainFile, plain_files}
use Rattle.c_names.specs.Names.{is_new_name}
use Rattle.cond_formula.specs.Features.{has}
use Rattle.cond_formula.specs.Conditions.{Condition, value}
use Rattle.project_file.specs.Projects.{PlainProject}
use Rattle.project_file.specs.View.{project_view}
use Rattle.command_projects.specs.Least.{IsAdmitted, Nowhere, Somewhere}
use Rattle.renamings.specs.Renamings.{Renaming}
use Rattle.renamed_sources.specs.Projects.{HasItsFiles}
use Rattle.program_occurrences.specs.Classes.{PlainFileToken}
use Rattle.reference_classes.specs.Preconditions.{Precondition, IsFound, IsTouched, StandsInTheWay, Breaks}
use Rattle.reference_classes.specs.Renamed.{IsWrittenAt}
use Rattle.tied_tokens.specs.Tokens.{plain_file_tokens, AreInOrder}
use Rattle.class_touches.specs.Laws.{IsListOf}
use Rattle.class_edits.specs.Listed.{renaming_of}
use Rattle.project_analysis.specs.Analysed.{IsAnalysed}
use Rattle.rename_op.specs.Outcomes.{plain_precondition, earlier, IsFirstBroken, AreShown}
use Rattle.rename_op.specs.declared.asked.Asked.{Asked}
use Rattle.rename_op.specs.declared.asked.Answered.{Answered}
use Rattle.rename_op.specs.declared.asked.Answered.TheVariants.{FirstBroken, Unbroken}

module _ (asked : Asked) where
  abbrev pub project_of : PlainProject
  project_of = project_view asked.project.now

  abbrev pub files_of : List PlainFile
  files_of = plain_files asked.files.now

  abbrev pub renaming : Renaming
  renaming = renaming_of (length files_of) (plain_file_tokens asked.class.now) asked.old.now asked.new.now

  module _ (place : PlainFileToken) where
    -- The project is analysed. The tokens are the class of the place, where the old name is written and something is found.
    pub record IsAsked : Type 0 where
      pub has_files : HasItsFiles project_of files_of
      pub analysed : IsAnalysed asked.project.now files_of asked.analysis.now
      pub written : IsWrittenAt files_of place asked.old.now
      pub found : Somewhere project_of (IsFound project_of files_of place)
      pub members : IsListOf project_of files_of place (plain_file_tokens asked.class.now)
      pub in_order : AreInOrder (plain_file_tokens asked.class.now)
      pub good : IsTrue (is_new_name asked.new.now)

    abbrev pub BreaksIn : Precondition → List Bool → Type 0
    BreaksIn precondition c = Breaks project_of files_of place renaming precondition c

    -- nothing that is asked before it is broken anywhere
    abbrev pub NoneBefore : Precondition → Type 0
    NoneBefore precondition = AllByRecursion (λ other. Nowhere project_of (BreaksIn other)) (earlier precondition)

    -- in each admitted configuration that the class touches the condition is true exactly where the precondition's cause is there
    abbrev pub TellsCause : Precondition → Condition → Type 0
    TellsCause precondition condition =
        (c : List Bool) → IsAdmitted project_of c → IsTouched project_of files_of place c
        → IsTrue (value (has c) condition) ↔ StandsInTheWay project_of files_of place renaming precondition c

    -- What is answered of these preconditions: the first that is broken; or none is, as there is a proof for each.
    abbrev pub TellsFirst : List Precondition → Answered → Type 0
    TellsFirst preconditions (FirstBroken precondition c) = IsFirstBroken project_of files_of place renaming (plain_precondition precondition) c
    TellsFirst preconditions (Unbroken proofs) = AreShown project_of BreaksIn preconditions proofs.items

  -- so the condition does, whatever place it is that the class was asked of
  abbrev pub Tells : Precondition → Condition → Type 0
  Tells precondition condition = (place : PlainFileToken) → IsAsked place → NoneBefore place precondition → TellsCause place precondition condition
