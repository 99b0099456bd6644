-- A byte leads to one class at most.
use Rattle.std.proofs.Common.{◌≡◌, ℕ, List, ap, sym, ◌∙◌, subst}
use Rattle.std.specs.Prelude.{Contains}
use Rattle.std.proofs.lemmas.Option.{same_Some}
use Rattle.text_edits.specs.Files.{PlainFile}
use Rattle.c_text.specs.Token.{PlainToken}
use Rattle.c_text.specs.Lines.{PlainLine, AreItsLines}
use Rattle.c_lexer.specs.Laws.{LinesAreOne}
use Rattle.program_occurrences.specs.Classes.{PlainFileToken}
use Rattle.reference_classes.specs.Products.{InClass}
use Rattle.reference_classes.specs.Renamed.{IsWrittenAt}
use Rattle.class_edits.specs.Laws.{BytesTellTokens}
use Rattle.copied_tokens.specs.Laws.{PlacesTellTokens}
use Rattle.named_classes.specs.Classes.{NamedClass}
use Rattle.named_classes.specs.Laws.{NamedClassesAreOne}
use Rattle.named_classes.proofs.Ordered.{one-order}

-- one name at most is written at a token
one-name : LinesAreOne → PlacesTellTokens → (files : List PlainFile) (token : PlainFileToken) (first second : List ℕ) → IsWrittenAt files token first → IsWrittenAt files token second → first ≡ second
one-name one tell files token first second v w =
    let file : w.file ≡ v.file = same_Some w.file v.file (sym w.is_file ∙ v.is_file) in
    let lines : w.lines ≡ v.lines =
    one token.file v.file.bytes w.lines v.lines (subst (λ (f : PlainFile). AreItsLines token.file f.bytes w.lines) file w.are_lines) v.are_lines in
    let same : v.there ≡ w.there =
    tell token.file v.file.bytes v.lines v.line w.line v.there w.there v.are_lines v.among v.within
    (subst (λ (ls : List PlainLine). Contains ls w.line) lines w.among) w.within (v.span_is ∙ sym w.span_is) in
    sym v.text ∙ (ap (λ (t : PlainToken). t.text) same ∙ w.text)

abbrev class-of : PlainFileToken → List ℕ → List PlainFileToken → NamedClass
class-of place old tokens = record { place = place; old = old; tokens = tokens }

pub classes-one : BytesTellTokens → LinesAreOne → PlacesTellTokens → NamedClassesAreOne
classes-one bytes one tell project files file offset a b x y =
    ap (λ (p : PlainFileToken). class-of p a.old a.tokens) place
    ∙ (ap (λ (n : List ℕ). class-of b.place n a.tokens) old ∙ ap (λ (ts : List PlainFileToken). class-of b.place b.old ts) tokens)
  where
    place : a.place ≡ b.place
    place = bytes files file offset a.place b.place x.holds y.holds

    old : a.old ≡ b.old
    old = one-name one tell files b.place a.old b.old (subst (λ (p : PlainFileToken). IsWrittenAt files p a.old) place x.written) y.written

    tokens : a.tokens ≡ b.tokens
    tokens =
        one-order a.tokens b.tokens x.in_order y.in_order
        (λ token i. (y.members token).1 (subst (λ (p : PlainFileToken). InClass project files p token) place ((x.members token).0 i)))
        (λ token i. (x.members token).1 (subst (λ (p : PlainFileToken). InClass project files p token) (sym place) ((y.members token).0 i)))
