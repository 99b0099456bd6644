-- What the search for the token that holds a byte finds.
use Rattle.std.proofs.Common.{◌≡◌, ℕ, ◌<◌, ◌≤◌, List, map, length, get_or, Some, refl, ap, sym, ◌∙◌, subst, arith}
use Rattle.std.specs.Prelude.{All, Contains, slice_get, option_map}
use Rattle.std.proofs.lemmas.List.Elements.{All-map, All-contains}
use Rattle.std.proofs.lemmas.Option.{same_Some, slice_get-map, slice_get_read}
use Rattle.text_edits.specs.Span.{PlainSpan, Covers}
use Rattle.text_edits.specs.Files.{PlainFile, plain_file}
use Rattle.text_edits.specs.declared.files.SourceFile.{SourceFile}
use Rattle.c_text.specs.declared.token.Token.{Token}
use Rattle.c_text.specs.declared.line.Line.{Line}
use Rattle.c_text.specs.Token.{PlainToken, plain_token}
use Rattle.c_text.specs.Lines.{PlainLine, plain_line, AreItsLines}
use Rattle.c_lexer.specs.Laws.{LinesAreOne}
use Rattle.program_occurrences.specs.Classes.{PlainFileToken}
use Rattle.tied_tokens.proofs.Members.{made_at}
use Rattle.reference_classes.specs.Renamed.{IsWrittenAt}
use Rattle.class_edits.specs.Places.{HoldsByte}
use Rattle.class_edits.specs.Search.{HoldsAmong, HoldsInLines, PlainNamedToken, IsNamedAt}
use Rattle.class_edits.proofs.Standing.{is-there}

pub none-among : (tokens : List Token) (at : ℕ) → All (λ token. Covers token.origin.span at → ⊥) tokens → (token : PlainToken) → HoldsAmong (map plain_token tokens) at token → ⊥
none-among tokens at none token h =
    All-contains (λ (t : PlainToken). (t.origin.span.start ≤ at) × (at < t.origin.span.end) → ⊥) (map plain_token tokens) token
    (All-map (λ (t : PlainToken). (t.origin.span.start ≤ at) × (at < t.origin.span.end) → ⊥) plain_token tokens none) h.among (h.from, h.to)

pub none-in-lines : (lines : List Line) (at : ℕ) → All (λ line. (token : PlainToken) → HoldsAmong (plain_line line).tokens at token → ⊥) lines → (token : PlainToken) → HoldsInLines (map plain_line lines) at token → ⊥
none-in-lines lines at none token h =
    All-contains (λ (line : PlainLine). (token : PlainToken) → HoldsAmong line.tokens at token → ⊥) (map plain_line lines) h.line
    (All-map (λ (line : PlainLine). (token : PlainToken) → HoldsAmong line.tokens at token → ⊥) plain_line lines none) h.among token h.within

pub in-line : (lines : List Line) (at i : ℕ) (line : Line) (token : PlainToken) → i < length lines → line ≡ get_or lines i line → HoldsAmong (plain_line line).tokens at token → HoldsInLines (map plain_line lines) at token
in-line lines at i line token inside is h = record { line = plain_line line; among = made_at plain_line lines i line inside is; within = h }

-- ---- the lines of a file

pub file-there : (files : List SourceFile) (number : ℕ) (f : SourceFile) → number < length files → f ≡ get_or files number f → slice_get (map plain_file files) number ≡ Some (plain_file f)
file-there files number f inside is = slice_get-map plain_file files number ∙ ap (option_map plain_file) (slice_get_read files (length files) number f refl inside is)

pub is-short : (files : List SourceFile) (number : ℕ) (f : SourceFile) → number < length files → f ≡ get_or files number f → All (λ file. length file.bytes ≤ 4294967295) (map plain_file files) → length f.bytes.items ≤ 4294967295
is-short files number f inside is short =
    All-contains (λ (file : PlainFile). length file.bytes ≤ 4294967295) (map plain_file files) (plain_file f) short (made_at plain_file files number f inside is)

module _ (lines_are_one : LinesAreOne) (files : List PlainFile) (number at : ℕ) (f : PlainFile) (there : slice_get files number ≡ Some f) (lines : List PlainLine) (are : AreItsLines number f.bytes lines) where
  pub named-in-lines : (token : PlainToken) → HoldsInLines lines at token → IsNamedAt files number at (record { token = record { file = number; span = token.origin.span }; name = token.text })
  named-in-lines token h = record {
    written = record {
      file = f;
      is_file = there;
      lines = lines;
      are_lines = are;
      line = h.line;
      among = h.among;
      there = token;
      within = h.within.among;
      span_is = refl;
      text = refl;
    };
    file_is = refl;
    from = h.within.from;
    to = h.within.to;
  }

  pub holds-in-lines : (found : PlainNamedToken) → (h : IsNamedAt files number at found) → HoldsInLines lines at h.written.there
  holds-in-lines found h =
      let w = h.written in
      let file_is : w.file ≡ f = same_Some w.file f (sym w.is_file ∙ (ap (slice_get files) h.file_is ∙ there)) in
      let same : w.lines ≡ lines =
      lines_are_one number f.bytes w.lines lines (subst (λ (g : PlainFile). AreItsLines number g.bytes w.lines) file_is (subst (λ (n : ℕ). AreItsLines n w.file.bytes w.lines) h.file_is w.are_lines)) are in
      record {
        line = w.line;
        among = subst (λ (ls : List PlainLine). Contains ls w.line) same w.among;
        within = record {
          among = w.within;
          from = subst (λ (s : PlainSpan). s.start ≤ at) (sym w.span_is) h.from;
          to = subst (λ (s : PlainSpan). at < s.end) (sym w.span_is) h.to;
        };
      }

-- what is written at a token holds its first byte
pub named-there : (files : List PlainFile) (token : PlainFileToken) (name : List ℕ) → IsWrittenAt files token name → IsNamedAt files token.file token.span.start (record { token = token; name = name })
named-there files token name w = record { written = w; file_is = refl; from = omega arith; to = (is-there files token (record { name = name; written = w })).some }

pub holds-byte : (files : List PlainFile) (number at : ℕ) (found : PlainNamedToken) → IsNamedAt files number at found → HoldsByte files number at found.token
holds-byte files number at found h = record { is_token = record { name = found.name; written = h.written }; file_is = h.file_is; from = h.from; to = h.to }

pub named-byte : (files : List PlainFile) (number at : ℕ) (token : PlainFileToken) → (h : HoldsByte files number at token) → IsNamedAt files number at (record { token = token; name = h.is_token.name })
named-byte files number at token h = record { written = h.is_token.written; file_is = h.file_is; from = h.from; to = h.to }
