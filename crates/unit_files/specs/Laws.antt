-- LAWS, each the contract of a function of this crate: how the files of a unit are read.
use Rattle.std.specs.Prelude.{◌≡◌, ℕ, List, [], length}
use Rattle.c_text.specs.Lines.{PlainLine, AreItsLines}
use Rattle.c_text.specs.Preprocessing.{Sources, Syntax, Reading, IsSyntaxOf, setting, read_source}
use Rattle.file_walks.specs.Walk.{walked, start}
use Rattle.file_walks.specs.Nests.{misplaced_in, break_of}
use Rattle.unit_files.specs.declared.inclusions.Source.{Source}
use Rattle.unit_files.specs.Inclusions.{plain_source, IsAmong}
use Rattle.unit_files.specs.SourceFiles.{source_number, text_of, its_lines, deeper_of}

-- a source is read by a walk over its lines, wherever it stands
abbrev pub SourcesAreWalked : Type 0
SourcesAreWalked =
    (s : Sources) (x : Syntax) → IsSyntaxOf s x → (source : Source) → IsAmong (length s.files) source → (more : ℕ) (all : List PlainLine)
    → AreItsLines (source_number (plain_source source)) (text_of s (plain_source source)) all → (r : Reading)
    → walked (setting s x (plain_source source) (deeper_of s x more)) (start r) (its_lines (plain_source source) all) ≡ read_source s x more (plain_source source) r

-- a source breaks at its first line that fits no group, or else at the end of its file
abbrev pub SourcesBreak : Type 0
SourcesBreak =
    (s : Sources) (x : Syntax) → IsSyntaxOf s x → (source : Source) → IsAmong (length s.files) source → (all : List PlainLine)
    → AreItsLines (source_number (plain_source source)) (text_of s (plain_source source)) all
    → x.broken_in (plain_source source) ≡ break_of (source_number (plain_source source)) (length (text_of s (plain_source source))) (misplaced_in [] (its_lines (plain_source source) all))
