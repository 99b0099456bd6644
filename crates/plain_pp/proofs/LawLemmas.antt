-- The syntax of a project.
use Rattle.std.proofs.Common.{ℕ, List, length, take, drop, refl}
use Rattle.c_text.specs.Lines.{PlainLine}
use Rattle.c_text.specs.Trees.{Part}
use Rattle.c_text.specs.Preprocessing.{Source, project_file, stdio, stdlib, Refusal, Sources, Syntax, IsSyntaxOf, IsFile, span_of_break, unbalanced, file_at, built_in_file, built_in_text}
use Rattle.c_lexer.specs.Laws.{TextsHaveLines}
use Rattle.pp_lines.specs.Laws.{ValuesAreDecided}
use Rattle.plain_pp.specs.Laws.{ProjectsHaveSyntax}
use Rattle.file_walks.specs.Laws.{LinesHaveParts}

module _ (have : TextsHaveLines) (parted : LinesHaveParts) (decided : ValuesAreDecided) (s : Sources) where
  abbrev part_of : List PlainLine → Part
  part_of lines = (parted lines).part

  abbrev break_in : ℕ → ℕ → List PlainLine → Refusal
  break_in file length lines = record { kind = unbalanced; file = file; span = span_of_break length (parted lines).is_read }

  is-file : (file length : ℕ) (lines : List PlainLine) → IsFile file length lines (part_of lines) (break_in file length lines)
  is-file file length lines = record { is_read = (parted lines).is_read; broken_is = refl }

  abbrev lines_at : ℕ → List PlainLine
  lines_at number = (have number (file_at s number).bytes).0

  abbrev built_in : List PlainLine
  built_in = (have built_in_file built_in_text).0

  abbrev parts : Source → Part
  parts (project_file number) = part_of (lines_at number)
  parts stdio = part_of (take 5 built_in)
  parts stdlib = part_of (drop 5 built_in)

  abbrev breaks_in : Source → Refusal
  breaks_in (project_file number) = break_in number (length (file_at s number).bytes) (lines_at number)
  breaks_in stdio = break_in built_in_file (length built_in_text) (take 5 built_in)
  breaks_in stdlib = break_in built_in_file (length built_in_text) (drop 5 built_in)

  abbrev the_syntax : Syntax
  the_syntax = record { value_of = λ tokens. (decided tokens).0; part_of = parts; broken_in = breaks_in }

  is-syntax : IsSyntaxOf s the_syntax
  is-syntax = record {
    values = λ tokens z. (decided tokens).1 z;
    lines = lines_at;
    are_lines = λ number h. (have number (file_at s number).bytes).1;
    are_files = λ number h. is-file number (length (file_at s number).bytes) (lines_at number);
    built_in_lines = built_in;
    are_built_in = (have built_in_file built_in_text).1;
    stdio_is = is-file built_in_file (length built_in_text) (take 5 built_in);
    stdlib_is = is-file built_in_file (length built_in_text) (drop 5 built_in);
  }

pub syntax_of : TextsHaveLines → LinesHaveParts → ValuesAreDecided → ProjectsHaveSyntax
syntax_of have parted decided s = (the_syntax have parted decided s, is-syntax have parted decided s)
