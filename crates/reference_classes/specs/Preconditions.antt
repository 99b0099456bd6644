-- What stands in the way of renaming a reference class. Each precondition is asked of one configuration at a time.
use Rattle.std.specs.Prelude.{◌≡◌, ◌⊎◌, ℕ, Bool, List, [], ◌∷◌, codes, Contains}
use Rattle.text_edits.specs.Files.{PlainFile}
use Rattle.cond_formula.specs.Features.{has}
use Rattle.c_text.specs.declared.origin.Place.TheVariants.{MacroBody}
use Rattle.c_text.specs.Preprocessing.{built_in_file}
use Rattle.core_meaning.specs.Program.{PlainProgram}
use Rattle.project_file.specs.Projects.{PlainProject}
use Rattle.plain_pp.specs.Units.{sources_of, file_of}
use Rattle.project_program.specs.Programs.{present_units, IsProgram}
use Rattle.active_tokens.specs.Active.{IsActive, IsDefinedAt}
use Rattle.renamings.specs.Renamings.{Renaming, renamed_files}
use Rattle.program_occurrences.specs.Occurrences.{Occurrence, OccursIn}
use Rattle.program_occurrences.specs.Links.{AreBoundAlike}
use Rattle.program_occurrences.specs.Classes.{PlainFileToken, file_token, declaring_token}
use Rattle.reference_classes.specs.Products.{Product, names_in, InClass}

-- ---- what is asked of a configuration, and of an occurrence in it

-- it isn't accepted
abbrev pub HasNoProgram : PlainProject → List PlainFile → List Bool → Type 0
HasNoProgram project files c = (program : PlainProgram) → IsProgram project files (has c) program → ⊥

-- the identifier comes out of the body of a macro
abbrev pub ComesFromMacroBody : Occurrence → Type 0
ComesFromMacroBody o = o.identifier.token.origin.place ≡ MacroBody

-- It is `main`, or it or what declares it stands in a built-in header.
pub data IsFixed (o : Occurrence) : Type 0 where
  is_main : o.identifier.token.text ≡ codes "main" → IsFixed o
  is_built_in : (file_token o).file ≡ built_in_file → IsFixed o
  declared_built_in : (declaring_token o).file ≡ built_in_file → IsFixed o

-- With these names changed it isn't accepted, or some identifier is bound or linked to another declaration than before.
pub data IsCaptured (project : PlainProject) (files : List PlainFile) (r : Renaming) (c : List Bool) : Type 0 where
  not_accepted : HasNoProgram project (renamed_files r 0 files) c → IsCaptured project files r c
  bound_otherwise :
      (before : Product project files c) (after : Product project (renamed_files r 0 files) c)
      → (AreBoundAlike (names_in before) (names_in after) → ⊥) → IsCaptured project files r c

-- ---- the class of a place

module _ (project : PlainProject) (files : List PlainFile) (place : PlainFileToken) where
  -- The configuration is accepted, and the token at the place has an occurrence in it. Where this is so of no configuration that the
  -- project admits, there is nothing to rename.
  pub record IsFound (c : List Bool) : Type 0 where
    pub product : Product project files c
    pub found : OccursIn (names_in product)
    pub there : file_token found.occurrence ≡ place

  -- A unit that is present reads a token of the class outside every skipped group.
  pub record IsTouched (c : List Bool) : Type 0 where
    pub token : PlainFileToken
    pub member : InClass project files place token
    pub unit : ℕ
    pub present : Contains (present_units project (has c)) unit
    pub active : IsActive (sources_of project files (has c)) (file_of project unit) token.file token.span

  -- an identifier that is a copy of a token of the class, and of which this holds
  pub record SomeOccurrence (c : List Bool) (Holds : Occurrence → Type 0) : Type 0 where
    pub product : Product project files c
    pub found : OccursIn (names_in product)
    pub member : InClass project files place (file_token found.occurrence)
    pub holds : Holds found.occurrence

  -- A unit that is present reads a token of the class while this name is defined as a macro.
  pub record IsReadAsMacro (c : List Bool) (name : List ℕ) : Type 0 where
    pub token : PlainFileToken
    pub member : InClass project files place token
    pub unit : ℕ
    pub present : Contains (present_units project (has c)) unit
    pub defined : IsDefinedAt (sources_of project files (has c)) (file_of project unit) token.file token.span name

-- ---- the preconditions

pub data Precondition : Type 0 where
  broken : Precondition
  in_macro_body : Precondition
  macro_name : Precondition
  fixed : Precondition
  capture : Precondition

-- in the order in which they are asked: each only where no admitted configuration breaks one before it
abbrev pub preconditions : List Precondition
preconditions = broken ∷ in_macro_body ∷ macro_name ∷ fixed ∷ capture ∷ []

abbrev pub precondition_name : Precondition → List ℕ
precondition_name broken = codes "Broken"
precondition_name in_macro_body = codes "InMacroBody"
precondition_name macro_name = codes "MacroName"
precondition_name fixed = codes "Fixed"
precondition_name capture = codes "Capture"

-- what breaks each, where the class of a place gets its new name by this renaming
module _ (project : PlainProject) (files : List PlainFile) (place : PlainFileToken) (r : Renaming) where
  abbrev pub StandsInTheWay : Precondition → List Bool → Type 0
  StandsInTheWay broken c = HasNoProgram project files c
  StandsInTheWay in_macro_body c = SomeOccurrence project files place c ComesFromMacroBody
  StandsInTheWay macro_name c = IsReadAsMacro project files place c r.old ⊎ IsReadAsMacro project files place c r.new
  StandsInTheWay fixed c = SomeOccurrence project files place c IsFixed
  StandsInTheWay capture c = IsCaptured project files r c

  -- A configuration that isn't touched breaks nothing.
  pub record Breaks (precondition : Precondition) (c : List Bool) : Type 0 where
    pub touched : IsTouched project files place c
    pub stands_in_the_way : StandsInTheWay precondition c

  -- the same by the name of a precondition
  pub record BreaksNamed (name : List ℕ) (c : List Bool) : Type 0 where
    pub precondition : Precondition
    pub named : precondition_name precondition ≡ name
    pub breaks : Breaks precondition c
