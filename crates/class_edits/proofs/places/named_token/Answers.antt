use Rattle.std.proofs.Common.{◌≡◌, ℕ, ◌<◌, List, length, get_or, map, sym, ap, ◌∙◌, subst, arith}
use Rattle.std.proofs.lemmas.Bool.{ltb-true}
use Rattle.text_edits.specs.declared.files.SourceFile.{SourceFile}
use Rattle.text_edits.specs.Files.{plain_file, plain_files}
use Rattle.c_text.specs.declared.line.Line.{Line}
use Rattle.c_text.specs.Token.{plain_token}
use Rattle.c_text.specs.Lines.{plain_line, AreItsLines}
use Rattle.class_edits.specs.Search.{HoldsInLines, IsNamedAt}
use Rattle.class_edits.proofs.Searching.{file-there, is-short, named-in-lines, holds-in-lines}
use Rattle.class_edits.proofs.places.named_token.Goals as goal

pub lex-requires : goal.lex-requires
lex-requires c =
    let list = c.args.files.now.list.items in
    let source = c.in-Some.source.now in
    let found = c.in-Some.ensures.lookup in
    let inside : c.args.file < length list = subst (λ (fs : List SourceFile). c.args.file < length fs) c.deref.ensures.value (ltb-true c.args.file (length c.deref.result.now) (sym found.0)) in
    let is : source ≡ get_or list c.args.file source = subst (λ (fs : List SourceFile). source ≡ get_or fs c.args.file source) c.deref.ensures.value found.1 in
    let short = is-short list c.args.file source inside is c.requires in
    let same = ap length c.deref-2.ensures.value in omega (arith, short, same)

pub returns-in-Some-token_in_lines : goal.returns-in-Some-token_in_lines
returns-in-Some-token_in_lines c =
    let list = c.args.files.now.list.items in
    let source = c.in-Some.source.now in
    let found = c.in-Some.ensures.lookup in
    let inside : c.args.file < length list = subst (λ (fs : List SourceFile). c.args.file < length fs) c.deref.ensures.value (ltb-true c.args.file (length c.deref.result.now) (sym found.0)) in
    let is : source ≡ get_or list c.args.file source = subst (λ (fs : List SourceFile). source ≡ get_or fs c.args.file source) c.deref.ensures.value found.1 in
    let token = plain_token c.in-Some-token_in_lines.token.now in
    let lines = map plain_line c.in_ok-lines.lines.items in
    let are : AreItsLines c.args.file source.bytes.items lines = subst (λ (bytes : List ℕ). AreItsLines c.args.file bytes lines) c.deref-2.ensures.value c.in_ok-lines.ensures in
    let holds : HoldsInLines lines c.args.at token = subst (λ (ls : List Line). HoldsInLines (map plain_line ls) c.args.at token) c.deref-3.ensures.value c.in-Some-token_in_lines.ensures in
    let name : token.text ≡ c.in_ok-from_slice-in-Some-token_in_lines.field-0.items =
    sym (c.in_ok-from_slice-in-Some-token_in_lines.ensures.items ∙ c.deref-in-Some-token_in_lines.ensures.value) in
    subst (λ (name : List ℕ). IsNamedAt (plain_files c.args.files.now) c.args.file c.args.at (record { token = record { file = c.args.file; span = token.origin.span }; name = name })) name
    (named-in-lines c.lines_are_one.ensures (plain_files c.args.files.now) c.args.file c.args.at (plain_file source) (file-there list c.args.file source inside is) lines are token holds)

pub returns : goal.returns
returns c = λ found h.
    let list = c.args.files.now.list.items in
    let source = c.in-Some.source.now in
    let got = c.in-Some.ensures.lookup in
    let inside : c.args.file < length list = subst (λ (fs : List SourceFile). c.args.file < length fs) c.deref.ensures.value (ltb-true c.args.file (length c.deref.result.now) (sym got.0)) in
    let is : source ≡ get_or list c.args.file source = subst (λ (fs : List SourceFile). source ≡ get_or fs c.args.file source) c.deref.ensures.value got.1 in
    let lines = map plain_line c.in_ok-lines.lines.items in
    let are : AreItsLines c.args.file source.bytes.items lines = subst (λ (bytes : List ℕ). AreItsLines c.args.file bytes lines) c.deref-2.ensures.value c.in_ok-lines.ensures in
    let holds = holds-in-lines c.lines_are_one.ensures (plain_files c.args.files.now) c.args.file c.args.at (plain_file source) (file-there list c.args.file source inside is) lines are found h in
    c.in-None.ensures h.written.there (subst (λ (ls : List Line). HoldsInLines (map plain_line ls) c.args.at h.written.there) (sym c.deref-3.ensures.value) holds)
