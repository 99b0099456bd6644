-- How the files of a unit are read.
use Rattle.std.proofs.Common.{◌≡◌, ℕ, zero, suc, List, length, refl, ◌∙◌, subst}
use Rattle.c_text.specs.Lines.{PlainLine, AreItsLines}
use Rattle.c_text.specs.Preprocessing as spec
use Rattle.c_text.specs.Preprocessing.{Reading, Syntax, IsSyntaxOf, IsFile, read_part, setting}
use Rattle.c_lexer.specs.Laws.{LinesAreOne}
use Rattle.file_walks.specs.Laws.{PartsAreWalked, FilesBreak}
use Rattle.unit_files.specs.declared.inclusions.Source.{Source}
use Rattle.unit_files.specs.declared.inclusions.Source.TheVariants.{ProjectFile, Stdio, Stdlib}
use Rattle.unit_files.specs.Inclusions.{plain_source, IsAmong}
use Rattle.unit_files.specs.SourceFiles.{source_number, text_of, its_lines, deeper_of}
use Rattle.unit_files.specs.Laws.{SourcesAreWalked, SourcesBreak}

source-file : LinesAreOne → (s : spec.Sources) (x : Syntax) → IsSyntaxOf s x → (source : Source) → IsAmong (length s.files) source → (all : List PlainLine) → AreItsLines (source_number (plain_source source)) (text_of s (plain_source source)) all → IsFile (source_number (plain_source source)) (length (text_of s (plain_source source))) (its_lines (plain_source source) all) (x.part_of (plain_source source)) (x.broken_in (plain_source source))
source-file one s x is (ProjectFile number) there all are =
    let e = one number (spec.file_at s number).bytes (is.lines number) all (is.are_lines number there) are in
    subst (λ (ls : List PlainLine). IsFile number (length (spec.file_at s number).bytes) ls (x.part_of (spec.project_file number)) (x.broken_in (spec.project_file number))) e (is.are_files number there)
source-file one s x is Stdio there all are =
    let e = one spec.built_in_file spec.built_in_text is.built_in_lines all is.are_built_in are in
    subst (λ (ls : List PlainLine). IsFile spec.built_in_file (length spec.built_in_text) (its_lines spec.stdio ls) (x.part_of spec.stdio) (x.broken_in spec.stdio)) e is.stdio_is
source-file one s x is Stdlib there all are =
    let e = one spec.built_in_file spec.built_in_text is.built_in_lines all is.are_built_in are in
    subst (λ (ls : List PlainLine). IsFile spec.built_in_file (length spec.built_in_text) (its_lines spec.stdlib ls) (x.part_of spec.stdlib) (x.broken_in spec.stdlib)) e is.stdlib_is

source-read : (s : spec.Sources) (x : Syntax) (more : ℕ) (source : spec.Source) (r : Reading) → read_part (setting s x source (deeper_of s x more)) r (x.part_of source) ≡ spec.read_source s x more source r
source-read s x zero source r = refl
source-read s x (suc more) source r = refl

pub sources-are_walked : LinesAreOne → PartsAreWalked → SourcesAreWalked
sources-are_walked one walked s x is source there more all are r =
    let p = plain_source source in
    walked (setting s x p (deeper_of s x more)) (source_number p) (length (text_of s p)) (its_lines p all) (x.part_of p) r (source-file one s x is source there all are)
    ∙ source-read s x more p r

pub sources-break : LinesAreOne → FilesBreak → SourcesBreak
sources-break one breaks s x is source there all are =
    let p = plain_source source in
    breaks (source_number p) (length (text_of s p)) (its_lines p all) (x.part_of p) (x.broken_in p) (source-file one s x is source there all are)
