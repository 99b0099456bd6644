-- The expressions and the files of each project can be read.
use Rattle.std.proofs.Common.{ℕ, List, length, take, drop, refl}
use Rattle.c_text.specs.Lines.{PlainLine}
use Rattle.c_text.specs.Trees.{Part}
use Rattle.c_text.specs.Preprocessing.{Source, project_file, stdio, stdlib, Refusal, unbalanced, Sources, Syntax, IsSyntaxOf, IsFile, span_of_break, file_at, built_in_file, built_in_text}
use Rattle.c_lexer.specs.Laws.{TextsHaveLines}
use Rattle.file_walks.specs.Laws.{LinesHaveParts}
use Rattle.pp_lines.specs.Laws.{ValuesAreDecided}

module _ (have : TextsHaveLines) (parted : LinesHaveParts) (decided : ValuesAreDecided) (s : Sources) where
  abbrev broken_at : ℕ → ℕ → List PlainLine → Refusal
  broken_at file size lines = record { kind = unbalanced; file = file; span = span_of_break size (parted lines).is_read }

  is-file : (file size : ℕ) (lines : List PlainLine) → IsFile file size lines (parted lines).part (broken_at file size lines)
  is-file file size lines = record { is_read = (parted lines).is_read; broken_is = refl }

  abbrev lines_at : ℕ → List PlainLine
  lines_at number = (have number (file_at s number).bytes).0

  abbrev built_in : List PlainLine
  built_in = (have built_in_file built_in_text).0

  abbrev parts : Source → Part
  parts (project_file number) = (parted (lines_at number)).part
  parts stdio = (parted (take 5 built_in)).part
  parts stdlib = (parted (drop 5 built_in)).part

  abbrev broken : Source → Refusal
  broken (project_file number) = broken_at number (length (file_at s number).bytes) (lines_at number)
  broken stdio = broken_at built_in_file (length built_in_text) (take 5 built_in)
  broken stdlib = broken_at built_in_file (length built_in_text) (drop 5 built_in)

  abbrev pub the_syntax : Syntax
  the_syntax = record { value_of = λ tokens. (decided tokens).0; part_of = parts; broken_in = broken }

  pub is-syntax : IsSyntaxOf s the_syntax
  is-syntax = record {
    values = λ tokens z. (decided tokens).1 z;
    lines = lines_at;
    are_lines = λ number h. (have number (file_at s number).bytes).1;
    are_files = λ number h. is-file number (length (file_at s number).bytes) (lines_at number);
    built_in_lines = built_in;
    are_built_in = (have built_in_file built_in_text).1;
    stdio_is = is-file built_in_file (length built_in_text) (take 5 built_in);
    stdlib_is = is-file built_in_file (length built_in_text) (drop 5 built_in);
  }
