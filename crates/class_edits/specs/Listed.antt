-- The renaming of tokens of files that are listed one by one.
use Rattle.std.specs.Prelude.{◌≡◌, ℕ, ◌<◌, ◌≤◌, ◌==◌, nat_lt, List, [], map, filter, length, Some, slice_get, Contains, if◌then◌else◌}
use Rattle.text_edits.specs.Span.{PlainSpan}
use Rattle.text_edits.specs.Files.{PlainFile}
use Rattle.file_edits.specs.Edits.{PlainEdit}
use Rattle.renamings.specs.Renamings.{Renaming, AreAscending}
use Rattle.program_occurrences.specs.Classes.{PlainFileToken}

-- the spans of the tokens of the file with this number, in the order of the list
abbrev pub spans_in : ℕ → List PlainFileToken → List PlainSpan
spans_in number tokens = map (λ token. token.span) (filter (λ token. token.file == number) tokens)

-- The tokens of the first so many files get the new name. Those that stand elsewhere, as in built-in headers, stay.
abbrev pub renaming_of : ℕ → List PlainFileToken → List ℕ → List ℕ → Renaming
renaming_of count tokens old new = record {
  spans = λ number. if nat_lt number count then spans_in number tokens else [];
  old = old;
  new = new;
}

-- The tokens of each of the files stand one behind the other there.
pub record StandApart (files : List PlainFile) (tokens : List PlainFileToken) : Type 0 where
  pub ascending : (number : ℕ) → number < length files → AreAscending (spans_in number tokens)
  pub within :
      (token : PlainFileToken) (f : PlainFile) → Contains tokens token → slice_get files token.file ≡ Some f → token.span.end ≤ length f.bytes

-- ---- edits

abbrev pub edit_of : List ℕ → PlainFileToken → PlainEdit
edit_of new token = record { file = token.file; span = token.span; text = new }

-- the tokens of the first so many files
abbrev pub tokens_below : ℕ → List PlainFileToken → List PlainFileToken
tokens_below count tokens = filter (λ token. nat_lt token.file count) tokens
