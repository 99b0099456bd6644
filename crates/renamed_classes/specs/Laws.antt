-- LAWS, each the contract of a function of this crate.
use Rattle.std.specs.Prelude.{◌≡◌, ◌↔◌, ◌<◌, ℕ, Bool, false, List, length, All}
use Rattle.std.specs.List.{list_any}
use Rattle.std.specs.Str.{bytes_eq}
use Rattle.text_edits.specs.Files.{PlainFile}
use Rattle.cond_formula.specs.Features.{has}
use Rattle.c_text.specs.declared.token.TokenKind.TheVariants.{Name}
use Rattle.c_text.specs.Token.{PlainToken}
use Rattle.c_text.specs.Directives.{predefined_names}
use Rattle.c_text.specs.Preprocessing.{file_at}
use Rattle.core_meaning.specs.Program.{PlainProgram}
use Rattle.project_file.specs.Projects.{PlainProject}
use Rattle.plain_pp.specs.Units.{sources_of}
use Rattle.project_program.specs.Programs.{IsProgram}
use Rattle.command_projects.specs.Least.{IsAdmitted, Nowhere, Somewhere}
use Rattle.renamings.specs.Renamings.{Renaming, renamed_files, FitsFiles}
use Rattle.renamed_units.specs.Laws.{AreNoMacros}
use Rattle.program_occurrences.specs.Occurrences.{UnitNames, OccursIn}
use Rattle.program_occurrences.specs.Classes.{PlainFileToken, copied_by, file_token}
use Rattle.program_occurrences.specs.Links.{AreBoundAlike}
use Rattle.reference_classes.specs.Products.{Product, names_in, InClass}
use Rattle.reference_classes.specs.Preconditions.{IsFound, IsTouched, in_macro_body, macro_name, fixed, Breaks}
use Rattle.reference_classes.specs.Renamed.{IsWrittenAt, RenamesClass}
use Rattle.copied_tokens.specs.Copies.{IsOnTextLine}
use Rattle.renamed_sources.specs.Projects.{HasItsFiles, present_files}
use Rattle.renamed_projects.specs.Projects.{MayBeRenamedIn}
use Rattle.renamed_classes.specs.Renaming.{RenamesOnTextLines, MayBeMade, BindingsTellNames}

-- a name that is a copy of a token of a file, on a text line there
pub record IsTextName (project : PlainProject) (files : List PlainFile) (on : ℕ → Bool) (token : PlainFileToken) : Type 0 where
  pub copy : PlainToken
  pub is_name : copy.kind ≡ Name
  pub copies : copied_by copy ≡ token
  pub on_line : IsOnTextLine token.file (file_at (sources_of project files on) token.file).bytes copy

-- the same in some configuration
pub record IsTextNameSomewhere (project : PlainProject) (files : List PlainFile) (token : PlainFileToken) : Type 0 where
  pub configuration : List Bool
  pub there : IsTextName project files (has configuration) token

-- Where something is found at a place, and nothing of its class comes out of the body of a macro, the tokens of the class in the project's
-- files are names on text lines.
abbrev pub ClassesStandOnTextLines : Type 0
ClassesStandOnTextLines =
    (project : PlainProject) (files : List PlainFile) (place : PlainFileToken) (r : Renaming) → HasItsFiles project files
    → Somewhere project (IsFound project files place) → Nowhere project (Breaks project files place r in_macro_body)
    → (token : PlainFileToken) → token.file < length files → InClass project files place token → IsTextNameSomewhere project files token

-- Where none of it is fixed either, all its tokens stand in the project's files: none stands in a built-in header.
abbrev pub ClassesStandInFiles : Type 0
ClassesStandInFiles =
    (project : PlainProject) (files : List PlainFile) (place : PlainFileToken) (r : Renaming) → HasItsFiles project files
    → Somewhere project (IsFound project files place) → Nowhere project (Breaks project files place r in_macro_body)
    → Nowhere project (Breaks project files place r fixed) → (token : PlainFileToken) → InClass project files place token → token.file < length files

-- Each token of the class in the project's files is written as the name.
abbrev pub AreWrittenAs : PlainProject → List PlainFile → PlainFileToken → List ℕ → Type 0
AreWrittenAs project files place name =
    (token : PlainFileToken) → token.file < length files → InClass project files place token → IsWrittenAt files token name

-- There all of them are written as the name that stands at the place, in whichever products they are brought along.
abbrev pub ClassesHaveOneName : Type 0
ClassesHaveOneName =
    (project : PlainProject) (files : List PlainFile) (place : PlainFileToken) (new : List ℕ) (r : Renaming) → HasItsFiles project files
    → RenamesClass project files place new r → Somewhere project (IsFound project files place) → Nowhere project (Breaks project files place r in_macro_body)
    → AreWrittenAs project files place r.old

-- So is each of their occurrences in a product, wherever the token stands.
abbrev pub OccurrencesHaveOneName : Type 0
OccurrencesHaveOneName =
    (project : PlainProject) (files : List PlainFile) (place : PlainFileToken) (new : List ℕ) (r : Renaming) → HasItsFiles project files
    → RenamesClass project files place new r → Somewhere project (IsFound project files place) → Nowhere project (Breaks project files place r in_macro_body)
    → (c : List Bool) (product : Product project files c) (o : OccursIn (names_in product)) → InClass project files place (file_token o.occurrence)
    → o.occurrence.identifier.token.text ≡ r.old

-- And that name isn't predefined, since a unit that has such a name on a text line is refused.
abbrev pub ClassNamesAreFree : Type 0
ClassNamesAreFree =
    (project : PlainProject) (files : List PlainFile) (place : PlainFileToken) (new : List ℕ) (r : Renaming) → HasItsFiles project files
    → RenamesClass project files place new r → Somewhere project (IsFound project files place) → Nowhere project (Breaks project files place r in_macro_body)
    → list_any (bytes_eq r.old) predefined_names ≡ false

-- A renaming of a class whose tokens are names on text lines fits the project's files.
abbrev pub ClassesFitFiles : Type 0
ClassesFitFiles =
    (project : PlainProject) (files : List PlainFile) (place : PlainFileToken) (new : List ℕ) (r : Renaming)
    → RenamesOnTextLines project files place new r → FitsFiles r files

-- Where no admitted configuration breaks MacroName, neither name is a macro where a renamed token is read in one.
abbrev pub NamesAreNoMacros : Type 0
NamesAreNoMacros =
    (project : PlainProject) (files : List PlainFile) (place : PlainFileToken) (new : List ℕ) (r : Renaming) (c : List Bool)
    → RenamesClass project files place new r → Nowhere project (Breaks project files place r macro_name) → IsAdmitted project c
    → All (AreNoMacros r (sources_of project files (has c))) (present_files project (has c))

-- So in each admitted configuration the files with the new name are read as those before, each token with its new name and place.
abbrev pub ClassesMayBeRenamed : Type 0
ClassesMayBeRenamed =
    (project : PlainProject) (files : List PlainFile) (place : PlainFileToken) (new : List ℕ) (r : Renaming) (c : List Bool)
    → RenamesOnTextLines project files place new r → Nowhere project (Breaks project files place r macro_name) → IsAdmitted project c
    → MayBeRenamedIn project files (has c) r

-- What can't be bound and linked otherwise is bound and linked alike.
abbrev pub BoundAlikeOrNot : Type 0
BoundAlikeOrNot = (before after : List UnitNames) → ((AreBoundAlike before after → ⊥) → ⊥) → AreBoundAlike before after

-- In an admitted configuration that the class touches, bindings that are as before tell which names correspond, where the renaming may be
-- made.
abbrev pub BindingsAreTold : Type 0
BindingsAreTold =
    (project : PlainProject) (files : List PlainFile) (place : PlainFileToken) (new : List ℕ) (r : Renaming) (c : List Bool)
    → MayBeMade project files place new r → IsAdmitted project c → IsTouched project files place c → BindingsTellNames project files r c

-- So in such a configuration a project that is renamed as it may be has the program that it had, and no other.
abbrev pub TouchedClassesKeepPrograms : Type 0
TouchedClassesKeepPrograms =
    (project : PlainProject) (files : List PlainFile) (place : PlainFileToken) (new : List ℕ) (r : Renaming) (c : List Bool) (p : PlainProgram)
    → MayBeMade project files place new r → IsAdmitted project c → IsTouched project files place c
    → IsProgram project files (has c) p ↔ IsProgram project (renamed_files r 0 files) (has c) p
