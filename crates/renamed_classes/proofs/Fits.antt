-- A renaming of a class whose tokens are names on text lines fits the project's files.
use Rattle.std.proofs.Common.{◌≡◌, ℕ, suc, ◌+◌, ◌<◌, Bool, true, false, List, [], ◌∷◌, ◌++◌, length, Some, refl, ap, sym, ◌∙◌, subst, inl, inr, arith}
use Rattle.std.specs.Prelude.{◌||◌, ◌==◌, slice_index_or, IsTrue, Contains}
use Rattle.std.specs.List.{list_any, slice_get}
use Rattle.std.proofs.lemmas.Bool.{and_from, eq-eqb}
use Rattle.std.proofs.lemmas.List.{length-append}
use Rattle.std.proofs.lemmas.List.Elements.{All-from_recursion}
use Rattle.c_names.specs.Names.{is_new_name}
use Rattle.text_edits.specs.Span.{PlainSpan}
use Rattle.text_edits.specs.Files.{PlainFile}
use Rattle.c_text.specs.Lines.{PlainLine, AreItsLines}
use Rattle.c_text.specs.Token.{PlainToken}
use Rattle.c_lexer.specs.Laws.{LinesAreOne}
use Rattle.project_file.specs.Projects.{PlainProject}
use Rattle.renamings.specs.Renamings.{Renaming, same_span, IsNameAt, FitsFiles}
use Rattle.renamed_units.proofs.Tokens.{In, each-of}
use Rattle.program_occurrences.specs.Classes.{PlainFileToken}
use Rattle.reference_classes.specs.Products.{InClass}
use Rattle.copied_tokens.specs.Laws.{PlacesTellTokens}
use Rattle.renamed_classes.specs.Renaming.{RenamesOnTextLines}
use Rattle.renamed_classes.specs.Laws.{IsTextNameSomewhere, ClassesStandOnTextLines, ClassesHaveOneName, ClassesFitFiles}

-- ---- a span among those that are renamed

same-itself : (span : PlainSpan) → same_span span span ≡ true
same-itself span = and_from (span.start == span.start) (span.end == span.end) (eq-eqb span.start span.start refl) (eq-eqb span.end span.end refl)

renamed-in : (span : PlainSpan) (spans : List PlainSpan) → In span spans → list_any (same_span span) spans ≡ true
renamed-in span [] i = absurd i
renamed-in span (first ∷ spans) (inl e) = subst (λ (x : PlainSpan). (same_span span x || list_any (same_span span) spans) ≡ true) e (either (same_span span span) (list_any (same_span span) spans) (same-itself span))
  where
    either : (b c : Bool) → b ≡ true → (b || c) ≡ true
    either true c e = refl
    either false c e = absurd cc
renamed-in span (first ∷ spans) (inr i) = either (same_span span first) (list_any (same_span span) spans) (renamed-in span spans i)
  where
    either : (b c : Bool) → c ≡ true → (b || c) ≡ true
    either true c e = refl
    either false c e = e

-- ---- a file among others

file-there : (before : List PlainFile) (f : PlainFile) (behind : List PlainFile) → slice_get (before ++ f ∷ behind) (length before) ≡ Some f
file-there [] f behind = refl
file-there (first ∷ before) f behind = file-there before f behind

file-at : (before : List PlainFile) (f : PlainFile) (behind : List PlainFile) (other : PlainFile) → slice_index_or (before ++ f ∷ behind) (length before) other ≡ f
file-at [] f behind other = refl
file-at (first ∷ before) f behind other = file-at before f behind other

some-file : (f g : PlainFile) → Some f ≡ Some g → f ≡ g
some-file f g e = cc

module _ (one : LinesAreOne) (tell : PlacesTellTokens) (stand : ClassesStandOnTextLines) (named : ClassesHaveOneName) (project : PlainProject) (files : List PlainFile) (place : PlainFileToken) (new : List ℕ) (r : Renaming) (may : RenamesOnTextLines project files place new r) where
  module _ (number : ℕ) (before : List PlainFile) (f : PlainFile) (behind : List PlainFile) (lines : List PlainLine) (count : length before ≡ number) (split : files ≡ before ++ f ∷ behind) (are : AreItsLines number f.bytes lines) where
    there : slice_get files number ≡ Some f
    there = subst (λ (fs : List PlainFile). slice_get fs number ≡ Some f) (sym split) (subst (λ (n : ℕ). slice_get (before ++ f ∷ behind) n ≡ Some f) count (file-there before f behind))

    at-number : (other : PlainFile) → slice_index_or files number other ≡ f
    at-number other = subst (λ (fs : List PlainFile). slice_index_or fs number other ≡ f) (sym split) (subst (λ (n : ℕ). slice_index_or (before ++ f ∷ behind) n other ≡ f) count (file-at before f behind other))

    below : number < length files
    below =
        let all : length files ≡ length before + suc (length behind) = ap length split ∙ length-append before (f ∷ behind) in
        omega (arith, all, count)

    name-at : (span : PlainSpan) → In span (r.spans number) → IsNameAt r.old lines span
    name-at span i = by-text (stand project files place r may.has_files may.found may.on_text_lines token below member)
      where
        token : PlainFileToken
        token = record { file = number; span = span }

        member : InClass project files place token
        member = (may.renames.members token below).0 (renamed-in span (r.spans number) i)

        by-text : IsTextNameSomewhere project files token → IsNameAt r.old lines span
        by-text t =
            let text = t.there in
            let line_is = text.on_line in
            let w = named project files place new r may.has_files may.renames may.found may.on_text_lines token below member in
            let same_file : w.file ≡ f = some-file w.file f (sym w.is_file ∙ there) in
            let lines_of_copy : line_is.lines ≡ lines =
            one number f.bytes line_is.lines lines
            (subst (λ (g : PlainFile). AreItsLines number g.bytes line_is.lines) (at-number (record { name = []; bytes = [] })) line_is.are_lines) are in
            let lines_of_written : w.lines ≡ lines = one number f.bytes w.lines lines (subst (λ (g : PlainFile). AreItsLines number g.bytes w.lines) same_file w.are_lines) are in
            let among : Contains lines line_is.line = subst (λ (ls : List PlainLine). Contains ls line_is.line) lines_of_copy line_is.among in
            let written : Contains lines w.line = subst (λ (ls : List PlainLine). Contains ls w.line) lines_of_written w.among in
            let span_is : line_is.copied.origin.span ≡ span = line_is.span ∙ ap (λ (x : PlainFileToken). x.span) text.copies in
            let same_token : line_is.copied ≡ w.there =
            tell number f.bytes lines line_is.line w.line line_is.copied w.there are among line_is.within written w.within (span_is ∙ sym w.span_is) in
            record {
              line = line_is.line;
              token = line_is.copied;
              among = among;
              text_line = line_is.text_line;
              within = line_is.within;
              is_name = line_is.kind ∙ text.is_name;
              text = ap (λ (x : PlainToken). x.text) same_token ∙ w.text;
              there = span_is;
            }

  fit : FitsFiles r files
  fit = record {
    good = subst (λ (name : List ℕ). IsTrue (is_new_name name)) (sym may.renames.new_name) may.good;
    in_files = λ number before f behind lines count split are. record {
      ascending = may.renames.ascending number;
      names = All-from_recursion (IsNameAt r.old lines) (r.spans number) (each-of (IsNameAt r.old lines) (r.spans number) (name-at number before f behind lines count split are));
    };
    elsewhere = may.renames.elsewhere;
  }

pub classes-fit : LinesAreOne → PlacesTellTokens → ClassesStandOnTextLines → ClassesHaveOneName → ClassesFitFiles
classes-fit one tell stand named project files place new r may = fit one tell stand named project files place new r may
