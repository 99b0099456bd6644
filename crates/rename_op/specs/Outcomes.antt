-- What becomes of the renaming of what stands at a byte of a project's files.
use Rattle.std.specs.Prelude.{◌≡◌, ℕ, Bool, List, [], ◌∷◌, length, ⊤}
use Rattle.std.specs.List.{AllByRecursion}
use Rattle.text_edits.specs.Files.{PlainFile}
use Rattle.project_file.specs.Projects.{PlainProject}
use Rattle.command_projects.specs.Least.{Nowhere, IsLeast}
use Rattle.renamings.specs.Renamings.{Renaming}
use Rattle.program_occurrences.specs.Classes.{PlainFileToken}
use Rattle.reference_classes.specs.Preconditions as spec
use Rattle.reference_classes.specs.Preconditions.{Breaks}
use Rattle.tied_tokens.specs.Tokens.{plain_file_tokens}
use Rattle.class_edits.specs.Listed.{renaming_of, StandApart}
use Rattle.named_classes.specs.Classes.{NamedClass, Finds, IsNamedClass}
use Rattle.renamed_classes.specs.Renaming.{NothingStandsInTheWay}
use Rattle.sat_core.specs.declared.answers.Proof.{Proof}
use Rattle.project_questions.specs.Questions.{ShowsNone}
use Rattle.rename_op.specs.declared.outcomes.Precondition.{Precondition}
use Rattle.rename_op.specs.declared.outcomes.Precondition.TheVariants.{Broken, InMacroBody, MacroName, Fixed, Capture}
use Rattle.rename_op.specs.declared.outcomes.Outcome.{Outcome}
use Rattle.rename_op.specs.declared.outcomes.Outcome.TheVariants.{Nothing, SameName, Refused, Renamed}

abbrev pub plain_precondition : Precondition → spec.Precondition
plain_precondition Broken = spec.broken
plain_precondition InMacroBody = spec.in_macro_body
plain_precondition MacroName = spec.macro_name
plain_precondition Fixed = spec.fixed
plain_precondition Capture = spec.capture

-- the preconditions that are asked before one
abbrev pub earlier : spec.Precondition → List spec.Precondition
earlier spec.broken = []
earlier spec.in_macro_body = spec.broken ∷ []
earlier spec.macro_name = spec.broken ∷ spec.in_macro_body ∷ []
earlier spec.fixed = spec.broken ∷ spec.in_macro_body ∷ spec.macro_name ∷ []
earlier spec.capture = spec.broken ∷ spec.in_macro_body ∷ spec.macro_name ∷ spec.fixed ∷ []

-- The precondition is broken, in this configuration as the least, and none before it is in any that the project admits.
pub record IsFirstBroken (project : PlainProject) (files : List PlainFile) (place : PlainFileToken) (r : Renaming) (precondition : spec.Precondition) (c : List Bool) : Type 0 where
  pub none_before : AllByRecursion (λ other. Nowhere project (Breaks project files place r other)) (earlier precondition)
  pub least : IsLeast project (Breaks project files place r precondition) c

-- one proof for each precondition, in order, that no configuration that the project admits is such
abbrev pub AreShown : PlainProject → (spec.Precondition → List Bool → Type 0) → List spec.Precondition → List Proof → Type 0
AreShown project Holds [] [] = ⊤
AreShown project Holds (precondition ∷ preconditions) (proof ∷ proofs) = ShowsNone project (Holds precondition) proof × AreShown project Holds preconditions proofs
AreShown project Holds preconditions proofs = ⊥

-- the class with another name
abbrev pub renaming_to : List PlainFile → List ℕ → NamedClass → Renaming
renaming_to files new class = renaming_of (length files) class.tokens class.old new

module _ (project : PlainProject) (files : List PlainFile) (file offset : ℕ) (new : List ℕ) where
  pub record HasOldName : Type 0 where
    pub class : NamedClass
    pub is_class : IsNamedClass project files file offset class
    pub same_name : class.old ≡ new

  pub record IsRefused (precondition : spec.Precondition) (c : List Bool) : Type 0 where
    pub class : NamedClass
    pub is_class : IsNamedClass project files file offset class
    pub other_name : class.old ≡ new → ⊥
    pub first : IsFirstBroken project files class.place (renaming_to files new class) precondition c

  pub record IsRenamed (tokens : List PlainFileToken) (proofs : List Proof) : Type 0 where
    pub class : NamedClass
    pub is_class : IsNamedClass project files file offset class
    pub tokens_are : class.tokens ≡ tokens
    pub stand_apart : StandApart files tokens
    pub other_name : class.old ≡ new → ⊥
    pub unhindered : NothingStandsInTheWay project files class.place (renaming_to files new class)
    pub shown : AreShown project (Breaks project files class.place (renaming_to files new class)) spec.preconditions proofs

  -- There is nothing to rename; or the name is the old one; or a precondition is broken; or these tokens get the new name, and none is.
  abbrev pub IsOutcome : Outcome → Type 0
  IsOutcome Nothing = Nowhere project (Finds project files file offset)
  IsOutcome SameName = HasOldName
  IsOutcome (Refused precondition c) = IsRefused (plain_precondition precondition) c
  IsOutcome (Renamed found) = IsRenamed (plain_file_tokens found.class.items) found.proofs.items
