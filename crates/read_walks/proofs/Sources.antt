-- The reads of a unit's sources.
use Rattle.std.proofs.Common.{◌≡◌, ℕ, zero, suc, List, [], length, refl, ap, sym, ◌∙◌, subst}
use Rattle.c_text.specs.Token.{PlainToken}
use Rattle.c_text.specs.Lines.{PlainLine}
use Rattle.c_text.specs.Preprocessing as spec
use Rattle.c_text.specs.Preprocessing.{Reading, Sources, Syntax, IsSyntaxOf, IsFile, setting}
use Rattle.c_lexer.specs.Laws.{LinesAreOne}
use Rattle.active_tokens.specs.Reads.{reads_of_part}
use Rattle.active_tokens.specs.Active.{misplaced_in, reads_of_source}
use Rattle.file_walks.specs.Walk.{start}
use Rattle.file_walks.specs.Nests as nests
use Rattle.unit_files.specs.declared.inclusions.Source.TheVariants.{ProjectFile, Stdio, Stdlib}
use Rattle.unit_files.specs.SourceFiles.{its_lines, deeper_of}
use Rattle.read_walks.specs.SourceReads.{following_in}
use Rattle.read_walks.specs.WalkReads.{by_token, reads_of_walk}
use Rattle.read_walks.specs.Laws.{SourceReadsAreWalked, FilesHaveMisplaced}
use Rattle.read_walks.proofs.Walks.{tokens_at, misplaced-is, reads-are_walked}

-- what a source reads, where more may be nested in it or not
part-reads : (s : Sources) (x : Syntax) (misplaced : spec.Source → List PlainToken) (more : ℕ) (source : spec.Source) (r : Reading) → reads_of_part (setting s x source (deeper_of s x more)) (following_in s x misplaced more source) r (x.part_of source) ≡ reads_of_source s x misplaced more source r
part-reads s x misplaced zero source r = refl
part-reads s x misplaced (suc more) source r = refl

-- the walk over these lines is that over the lines of the source's file
abbrev Walked : Sources → Syntax → (spec.Source → List PlainToken) → ℕ → spec.Source → Reading → List PlainLine → Type 0
Walked s x misplaced more source r lines =
    by_token (reads_of_walk (setting s x source (deeper_of s x more)) (following_in s x misplaced more source) (start r) lines)
    ≡ by_token (reads_of_source s x misplaced more source r)

file-walked : (s : Sources) (x : Syntax) (misplaced : spec.Source → List PlainToken) (more : ℕ) (source : spec.Source) (r : Reading) (file size : ℕ) (lines : List PlainLine) (is : IsFile file size lines (x.part_of source) (x.broken_in source)) → misplaced source ≡ misplaced_in is.is_read → Walked s x misplaced more source r lines
file-walked s x misplaced more source r file size lines is m =
    reads-are_walked (setting s x source (deeper_of s x more)) (following_in s x misplaced more source) file size lines (x.part_of source) r is m
    ∙ ap by_token (part-reads s x misplaced more source r)

pub source-reads-are_walked : LinesAreOne → SourceReadsAreWalked
source-reads-are_walked one s x are misplaced told (ProjectFile number) there more all is r =
    subst (Walked s x misplaced more (spec.project_file number) r) (one number (spec.file_at s number).bytes (are.lines number) all (are.are_lines number there) is) (file-walked s x misplaced more (spec.project_file number) r number (length (spec.file_at s number).bytes) (are.lines number) (are.are_files number there) (told.in_files number there))
source-reads-are_walked one s x are misplaced told Stdio there more all is r =
    subst (λ (ls : List PlainLine). Walked s x misplaced more spec.stdio r (its_lines spec.stdio ls)) (one spec.built_in_file spec.built_in_text are.built_in_lines all are.are_built_in is) (file-walked s x misplaced more spec.stdio r spec.built_in_file (length spec.built_in_text) (its_lines spec.stdio are.built_in_lines) are.stdio_is told.in_stdio)
source-reads-are_walked one s x are misplaced told Stdlib there more all is r =
    subst (λ (ls : List PlainLine). Walked s x misplaced more spec.stdlib r (its_lines spec.stdlib ls)) (one spec.built_in_file spec.built_in_text are.built_in_lines all are.are_built_in is) (file-walked s x misplaced more spec.stdlib r spec.built_in_file (length spec.built_in_text) (its_lines spec.stdlib are.built_in_lines) are.stdlib_is told.in_stdlib)

-- the tokens of the misplaced lines are those of the first line of each file that fits no group
abbrev lines_in : {s : Sources} {x : Syntax} → IsSyntaxOf s x → spec.Source → List PlainLine
lines_in are (spec.project_file number) = are.lines number
lines_in are spec.stdio = its_lines spec.stdio are.built_in_lines
lines_in are spec.stdlib = its_lines spec.stdlib are.built_in_lines

pub files-have-misplaced : FilesHaveMisplaced
files-have-misplaced s x are = record {
  misplaced = λ source. tokens_at (nests.misplaced_in [] (lines_in are source));
  are_misplaced = record {
    in_files = λ number below. sym (misplaced-is (are.lines number) (x.part_of (spec.project_file number)) (are.are_files number below).is_read);
    in_stdio = sym (misplaced-is (its_lines spec.stdio are.built_in_lines) (x.part_of spec.stdio) are.stdio_is.is_read);
    in_stdlib = sym (misplaced-is (its_lines spec.stdlib are.built_in_lines) (x.part_of spec.stdlib) are.stdlib_is.is_read);
  };
}
