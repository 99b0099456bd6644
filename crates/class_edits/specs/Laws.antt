-- LAWS, each the contract of a function of this crate.
use Rattle.std.specs.Prelude.{◌≡◌, ◌↔◌, ◌<◌, ℕ, List, length, Contains, IsTrue}
use Rattle.text_edits.specs.Files.{PlainFile}
use Rattle.project_file.specs.Projects.{PlainProject}
use Rattle.renamings.specs.Renamings.{is_renamed}
use Rattle.program_occurrences.specs.Classes.{PlainFileToken}
use Rattle.tied_tokens.specs.Tokens.{AreInOrder}
use Rattle.reference_classes.specs.Products.{InClass}
use Rattle.reference_classes.specs.Renamed.{IsWrittenAt, RenamesClass}
use Rattle.class_edits.specs.Listed.{renaming_of, StandApart}
use Rattle.class_edits.specs.Places.{IsTokenOf, HoldsByte}

-- Exactly the listed tokens of the files are renamed.
abbrev pub ListedAreRenamed : Type 0
ListedAreRenamed =
    (count : ℕ) (tokens : List PlainFileToken) (old new : List ℕ) (token : PlainFileToken) → token.file < count
    → IsTrue (is_renamed (renaming_of count tokens old new) token.file token.span) ↔ Contains tokens token

-- Tokens of the files' texts that are listed in their order, each once, stand apart.
abbrev pub ListedStandApart : Type 0
ListedStandApart =
    (files : List PlainFile) (tokens : List PlainFileToken) → AreInOrder tokens
    → ((token : PlainFileToken) → token.file < length files → Contains tokens token → IsTokenOf files token) → StandApart files tokens

-- If they are the class of a place, the renaming is that of the class.
abbrev pub ListedClassesAreRenamed : Type 0
ListedClassesAreRenamed =
    (project : PlainProject) (files : List PlainFile) (place : PlainFileToken) (tokens : List PlainFileToken) (old new : List ℕ)
    → StandApart files tokens
    → ((token : PlainFileToken) → token.file < length files → Contains tokens token ↔ InClass project files place token)
    → IsWrittenAt files place old → RenamesClass project files place new (renaming_of (length files) tokens old new)

-- One token at most holds a byte.
abbrev pub BytesTellTokens : Type 0
BytesTellTokens =
    (files : List PlainFile) (number at : ℕ) (a b : PlainFileToken) → HoldsByte files number at a → HoldsByte files number at b → a ≡ b
