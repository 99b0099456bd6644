use Rattle.std.proofs.Common.{◌≡◌, sym, ap, ◌∙◌}
use Rattle.std.specs.Prelude.{None, Some}
use Rattle.std.specs.Str.{bytes_eq}
use Rattle.core_meaning.specs.Linking.{place_where}
use Rattle.plain_numbers.specs.PlainTexts.{plain_texts}
use Rattle.plain_numbers.proofs.TextLaws.{text_there, text_new}
use Rattle.plain_numbers.proofs.texts.Texts.add.Goals as goal

pub returns-in-Some-clause-texts : goal.returns-in-Some-clause-texts
returns-in-Some-clause-texts c =
    let texts = plain_texts c.args.self.now in
    let there : place_where (bytes_eq c.args.bytes.items) texts ≡ Some c.in-Some.field-0 =
    ap (λ b. place_where (bytes_eq b) texts) (sym c.as_slice.ensures.value) ∙ sym c.in-Some.ensures in
    sym (text_there texts c.args.bytes.items c.in-Some.field-0 there)

pub returns-in_ok-put-in-None-clause-texts : goal.returns-in_ok-put-in-None-clause-texts
returns-in_ok-put-in-None-clause-texts c =
    let texts = plain_texts c.args.self.now in
    let new : place_where (bytes_eq c.args.bytes.items) texts ≡ None =
    ap (λ b. place_where (bytes_eq b) texts) (sym c.as_slice.ensures.value) ∙ sym c.in-None.ensures in
    c.in_ok-put-in-None.ensures.texts ∙ sym (text_new texts c.args.bytes.items new)
