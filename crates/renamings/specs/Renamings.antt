-- A renaming in the files of a project: which tokens get another name, and what files, tokens and lines are then.
use Rattle.std.specs.Prelude.{◌≡◌, ⊤, ℕ, suc, ◌+◌, ◌-◌, ◌==◌, ◌≤◌, Bool, false, ◌&&◌, nat_lt, List, [], ◌∷◌, ◌++◌, map, length, All, Contains, IsTrue, if◌then◌else◌}
use Rattle.std.specs.List.{list_any}
use Rattle.c_names.specs.Names.{is_new_name}
use Rattle.text_edits.specs.Span.{PlainSpan}
use Rattle.text_edits.specs.Files.{PlainFile}
use Rattle.c_text.specs.declared.token.TokenKind.TheVariants.{Name}
use Rattle.c_text.specs.Token.{PlainOrigin, PlainToken}
use Rattle.c_text.specs.Lines.{PlainLine, AreItsLines}
use Rattle.file_edits.specs.Edits.{PlainEdit, edited}

-- the spans of the renamed tokens in each file, by its number, in the order of the text; the name that they have, and the one that they get
pub record Renaming : Type 0 where
  pub spans : ℕ → List PlainSpan
  pub old : List ℕ
  pub new : List ℕ

-- ---- files

abbrev pub edits_in : Renaming → ℕ → List PlainEdit
edits_in r number = map (λ span. record { file = number; span = span; text = r.new }) (r.spans number)

-- exactly the spans hold the new name, and every other byte stays
abbrev pub renamed_bytes : Renaming → ℕ → List ℕ → List ℕ
renamed_bytes r number bytes = edited (edits_in r number) bytes

-- the files from the one with this number on
abbrev pub renamed_files : Renaming → ℕ → List PlainFile → List PlainFile
renamed_files r number [] = []
renamed_files r number (f ∷ files) = record f { bytes = renamed_bytes r number f.bytes } ∷ renamed_files r (suc number) files

-- ---- places

-- an offset, where a name of this length stands in place of each of the spans that begin before it
abbrev pub moved_behind : ℕ → List PlainSpan → ℕ → ℕ
moved_behind new [] at = at
moved_behind new (span ∷ spans) at =
    if nat_lt span.start at then (moved_behind new spans at + new) - (span.end - span.start) else moved_behind new spans at

-- where a place of a file stands in the renamed file
abbrev pub moved : Renaming → ℕ → ℕ → ℕ
moved r number at = moved_behind (length r.new) (r.spans number) at

abbrev pub moved_span : Renaming → ℕ → PlainSpan → PlainSpan
moved_span r number span = record { start = moved r number span.start; end = moved r number span.end }

-- ---- tokens and lines

abbrev pub same_span : PlainSpan → PlainSpan → Bool
same_span a b = a.start == b.start && a.end == b.end

-- whether the file token with this span is renamed
abbrev pub is_renamed : Renaming → ℕ → PlainSpan → Bool
is_renamed r number span = list_any (same_span span) (r.spans number)

abbrev pub moved_origin : Renaming → PlainOrigin → PlainOrigin
moved_origin r o = record o { span = moved_span r o.file o.span; site = moved_span r o.site_file o.site }

-- A token with its new place, and with the new name if it is a copy of a renamed one.
abbrev pub renamed_token : Renaming → PlainToken → PlainToken
renamed_token r t = record t {
  text = if is_renamed r t.origin.file t.origin.span then r.new else t.text;
  origin = moved_origin r t.origin;
}

abbrev pub renamed_line : Renaming → ℕ → PlainLine → PlainLine
renamed_line r number line = record line { tokens = map (renamed_token r) line.tokens; span = moved_span r number line.span }

-- ---- which tokens may be renamed

-- the span is that of the name, on a line that is no directive line
pub record IsNameAt (name : List ℕ) (lines : List PlainLine) (span : PlainSpan) : Type 0 where
  pub line : PlainLine
  pub token : PlainToken
  pub among : Contains lines line
  pub text_line : line.directive ≡ false
  pub within : Contains line.tokens token
  pub is_name : token.kind ≡ Name
  pub text : token.text ≡ name
  pub there : token.origin.span ≡ span

-- in the order of the text, and none within another
abbrev pub AreAscending : List PlainSpan → Type 0
AreAscending [] = ⊤
AreAscending (only ∷ []) = ⊤
AreAscending (first ∷ second ∷ rest) = (first.end ≤ second.start) × AreAscending (second ∷ rest)

-- The spans are those of the name in a file with these lines, all of them or some.
pub record AreNamesOf (name : List ℕ) (lines : List PlainLine) (spans : List PlainSpan) : Type 0 where
  pub ascending : AreAscending spans
  pub names : All (IsNameAt name lines) spans

-- The renaming gives a good new name to names in these files, and to nothing else.
pub record FitsFiles (r : Renaming) (files : List PlainFile) : Type 0 where
  pub good : IsTrue (is_new_name r.new)
  pub in_files :
      (number : ℕ) (before : List PlainFile) (f : PlainFile) (behind : List PlainFile) (lines : List PlainLine) → length before ≡ number
      → files ≡ before ++ f ∷ behind → AreItsLines number f.bytes lines → AreNamesOf r.old lines (r.spans number)
  pub elsewhere : (number : ℕ) → length files ≤ number → r.spans number ≡ []
