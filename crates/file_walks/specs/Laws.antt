-- LAWS, each the contract of a function of this crate: files are read line by line.
use Rattle.std.specs.Prelude.{◌≡◌, ℕ, [], List}
use Rattle.c_text.specs.Lines.{PlainLine}
use Rattle.c_text.specs.Trees.{Part, IsRead}
use Rattle.c_text.specs.Preprocessing.{Reading, Refusal, Setting, IsFile, read_part}
use Rattle.file_walks.specs.Walk.{walked, start}
use Rattle.file_walks.specs.Nests.{misplaced_in, break_of}

-- lines can be read as parts
pub record HasPart (lines : List PlainLine) : Type 0 where
  pub part : Part
  pub is_read : IsRead lines part

abbrev pub LinesHaveParts : Type 0
LinesHaveParts = (lines : List PlainLine) → HasPart lines

-- the part of a file is read by a walk over its lines
abbrev pub PartsAreWalked : Type 0
PartsAreWalked =
    (s : Setting) (file length : ℕ) (lines : List PlainLine) (part : Part) (r : Reading) → IsFile file length lines part s.broken
    → walked s (start r) lines ≡ read_part s r part

-- a file breaks at its first line that fits no group, or else at its end
abbrev pub FilesBreak : Type 0
FilesBreak =
    (file length : ℕ) (lines : List PlainLine) (part : Part) (broken : Refusal) → IsFile file length lines part broken
    → broken ≡ break_of file length (misplaced_in [] lines)
