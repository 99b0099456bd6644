-- Preprocessing of one unit in one configuration: the tokens that it gives, or the first refusal.
use Rattle.std.specs.Prelude.{if◌then◌else◌, ◌≡◌, ◌↔◌, ◌<◌, ℕ, zero, suc, ◌-◌, false, ℤ, List, [], ◌∷◌, ◌++◌, length, take, drop, codes, Option, Some, None, slice_index_or}
use Rattle.std.specs.List.{list_any}
use Rattle.std.specs.Str.{bytes_eq}
use Rattle.c_names.specs.Bytes.{newline}
use Rattle.text_edits.specs.Span.{PlainSpan}
use Rattle.text_edits.specs.Files.{PlainFile}
use Rattle.c_text.specs.declared.origin.Place.TheVariants as place
use Rattle.c_text.specs.declared.token.TokenKind.TheVariants.{Number}
use Rattle.c_text.specs.Token.{PlainToken}
use Rattle.c_text.specs.Lines.{PlainLine, AreItsLines}
use Rattle.c_text.specs.Macros.{feature}
use Rattle.c_text.specs.Expressions.{HasValue}
use Rattle.c_text.specs.Trees.{Part, IsRead, whole_file, open_at_end, broken_at}
use Rattle.c_text.specs.Preprocessing.Refusals.{Refusal, unbalanced}
use Rattle.c_text.specs.Preprocessing.Flows.{Flow, Reading, on, refused}
use Rattle.c_text.specs.Preprocessing.Inclusions.{Source, joined, project_file, stdio, stdlib}
use Rattle.c_text.specs.Preprocessing.FileReading.{Setting, read_part}

-- a project in one configuration: its files in their order, headers first, its features, and those that are on
pub record Sources : Type 0 where
  pub files : List PlainFile
  pub headers : List (List ℕ)
  pub features : List (List ℕ)
  pub on_features : List (List ℕ)

-- how its expressions and files are read: the values, the files as parts, and the refusals where they break
pub record Syntax : Type 0 where
  pub value_of : List PlainToken → Option ℤ
  pub part_of : Source → Part
  pub broken_in : Source → Refusal

abbrev pub file_at : Sources → ℕ → PlainFile
file_at s number = slice_index_or s.files number (record { name = []; bytes = [] })

abbrev pub source_name : Sources → Source → List ℕ
source_name s (project_file number) = (file_at s number).name
source_name s stdio = []
source_name s stdlib = []

abbrev pub setting : Sources → Syntax → Source → Option (Source → Reading → Flow) → Setting
setting s x source deeper = record {
  value_of = x.value_of;
  is_feature = λ name. list_any (bytes_eq name) s.features;
  headers = s.headers;
  name = source_name s source;
  broken = x.broken_in source;
  deeper = deeper;
}

-- a file that so many more may be nested in
abbrev pub read_source : Sources → Syntax → ℕ → Source → Reading → Flow
read_source s x zero source r = read_part (setting s x source None) r (x.part_of source)
read_source s x (suc more) source r = read_part (setting s x source (Some (read_source s x more))) r (x.part_of source)

-- how deep files may be nested in a unit
abbrev pub most_nested : ℕ
most_nested = 16

-- the text of the built-in headers, `<stdio.h>` in its first five lines
abbrev pub built_in_text : List ℕ
built_in_text =
    codes "#define EOF (-1)" ++ newline ∷ codes "#define NULL 0" ++ newline ∷ codes "int putchar(int);" ++ newline ∷ codes "int getchar(void);"
    ++ newline ∷ codes "int puts(char *);" ++ newline ∷ codes "#define NULL 0" ++ newline ∷ codes "void exit(int);" ++ newline ∷ []

abbrev pub built_in_file : ℕ
built_in_file = 4294967295

-- the token that replaces a feature that is on: it stands at the end of the built-in file
abbrev pub feature_token : PlainToken
feature_token = record {
  kind = Number;
  text = codes "1";
  joined = false;
  origin = record {
    file = built_in_file;
    span = record { start = length built_in_text; end = length built_in_text };
    place = place.MacroBody;
    site = record { start = length built_in_text; end = length built_in_text };
    site_file = built_in_file;
  };
}

abbrev pub at_start : Sources → Reading
at_start s = record {
  table = λ name. if list_any (bytes_eq name) s.on_features then Some (feature feature_token) else None;
  tokens = [];
}

-- the unit in the file with this number
abbrev pub preprocessed : Sources → Syntax → ℕ → Flow
preprocessed s x number = read_source s x most_nested (project_file number) (at_start s)

-- the `#` of a line
abbrev pub span_of_hash : List PlainToken → PlainSpan → PlainSpan
-- (a misplaced line is a directive line, which has its `#`)
span_of_hash [] other = other
span_of_hash (hash ∷ rest) other = hash.origin.span

-- where a file with these lines breaks: at the `#` of the misplaced line, or at the end of the file
abbrev pub span_of_break : ℕ → {lines : List PlainLine} {part : Part} → IsRead lines part → PlainSpan
span_of_break length (whole_file formed are) = record { start = length; end = length }
span_of_break length (open_at_end formed open_ are) = record { start = length; end = length }
span_of_break length (broken_at line rest formed are misplaced) = span_of_hash line.tokens line.span

-- The part is that of lines of a file, and this is the refusal where it breaks.
pub record IsFile (file length : ℕ) (lines : List PlainLine) (part : Part) (broken : Refusal) : Type 0 where
  pub is_read : IsRead lines part
  pub broken_is : broken ≡ record { kind = unbalanced; file = file; span = span_of_break length is_read }

-- This is how the project's expressions and files are read.
pub record IsSyntaxOf (s : Sources) (x : Syntax) : Type 0 where
  pub values : (tokens : List PlainToken) (z : ℤ) → (x.value_of tokens ≡ Some z) ↔ HasValue tokens z
  pub lines : ℕ → List PlainLine
  pub are_lines : (number : ℕ) → number < length s.files → AreItsLines number (file_at s number).bytes (lines number)
  pub are_files :
      (number : ℕ) → number < length s.files
      → IsFile number (length (file_at s number).bytes) (lines number) (x.part_of (project_file number)) (x.broken_in (project_file number))
  pub built_in_lines : List PlainLine
  pub are_built_in : AreItsLines built_in_file built_in_text built_in_lines
  pub stdio_is : IsFile built_in_file (length built_in_text) (take 5 built_in_lines) (x.part_of stdio) (x.broken_in stdio)
  pub stdlib_is : IsFile built_in_file (length built_in_text) (drop 5 built_in_lines) (x.part_of stdlib) (x.broken_in stdlib)

-- what becomes of a unit
pub data Outcome : Type 0 where
  gives : List PlainToken → Outcome
  is_refused : Refusal → Outcome

abbrev pub outcome_of : Flow → Outcome
outcome_of (on r) = gives r.tokens
outcome_of (refused why) = is_refused why

-- What becomes of the unit in the file with this number: it gives these tokens, or this is its first refusal.
abbrev pub IsPreprocessed : Sources → ℕ → Outcome → Type 0
IsPreprocessed s number outcome = (x : Syntax) → IsSyntaxOf s x → outcome_of (preprocessed s x number) ≡ outcome
