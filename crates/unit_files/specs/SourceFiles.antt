-- The files of a unit.
use Rattle.std.specs.Prelude.{◌≡◌, ℕ, zero, suc, ◌<◌, ◌≤◌, List, map, length, take, drop, All, Option, Some, None}
use Rattle.std.specs.String.{string_bytes}
use Rattle.text_edits.specs.declared.files.SourceFile.{SourceFile}
use Rattle.text_edits.specs.Files.{plain_file}
use Rattle.c_text.specs.Lines.{PlainLine}
use Rattle.c_text.specs.Preprocessing as spec
use Rattle.c_text.specs.Preprocessing.{Flow, Syntax, built_in_file, built_in_text, file_at, read_source}
use Rattle.unit_files.specs.declared.sources.Sources.{Sources}

-- the number of a source's file, its text, and which of the text's lines are its
abbrev pub source_number : spec.Source → ℕ
source_number (spec.project_file number) = number
source_number spec.stdio = built_in_file
source_number spec.stdlib = built_in_file

abbrev pub text_of : spec.Sources → spec.Source → List ℕ
text_of s (spec.project_file number) = (file_at s number).bytes
text_of s spec.stdio = built_in_text
text_of s spec.stdlib = built_in_text

abbrev pub its_lines : spec.Source → List PlainLine → List PlainLine
its_lines (spec.project_file number) lines = lines
its_lines spec.stdio lines = take 5 lines
its_lines spec.stdlib lines = drop 5 lines

pub record AreSources (these : Sources) (s : spec.Sources) : Type 0 where
  pub files : s.files ≡ map plain_file these.files.now
  pub headers : s.headers ≡ map string_bytes these.headers.now
  pub features : s.features ≡ map string_bytes these.features.now

-- there are not too many files, and none is too long
pub record AreSmall (these : Sources) : Type 0 where
  pub short : All (λ (f : SourceFile). length f.bytes.items ≤ 4294967295) these.files.now
  pub few : length these.files.now < 4294967295
  pub headers : length these.headers.now ≤ length these.files.now

-- how an included file is read, where so many more may be nested
abbrev pub deeper_of : spec.Sources → Syntax → ℕ → Option (spec.Source → spec.Reading → Flow)
deeper_of s x zero = None
deeper_of s x (suc more) = Some (λ source r. read_source s x more source r)
