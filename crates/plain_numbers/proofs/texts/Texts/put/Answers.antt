use Rattle.std.proofs.Common.{◌≡◌, ◌∷◌, ◌++◌, [], ℕ, map, length, ap, ◌∙◌, Vec, Global, rules, arith}
use Rattle.std.proofs.lemmas.List.{length-map, map-append}
use Rattle.std.specs.Prelude.{Some, if◌then◌else◌}
use Rattle.std.specs.Str.{bytes_eq}
use Rattle.plain_scope.specs.PlainScope.{entry_of}
use Rattle.plain_link.specs.MapLaws.{put_there}
use Rattle.plain_numbers.specs.PlainTexts.{plain_texts}
use Rattle.plain_numbers.proofs.TextLaws.{numbered_more}
use Rattle.plain_numbers.proofs.texts.Texts.put.Goals as goal

pub returns-clause-numbered : goal.returns-clause-numbered
returns-clause-numbered c = λ q.
    let put = c.in_ok-insert.ensures.updates in
    let text = λ (bytes : Vec ℕ Global). bytes.items in
    let texts = plain_texts c.args.self.now in
    let old = entry_of c.args.self.now.numbers in
    let bytes = c.args.bytes.items in
    let number = c.in-Ok.number in
    let long : number ≡ length texts = omega (arith, length-map c.args.self.now.list.items text) in
    let same : c.in_ok-from_slice.field-0.items ≡ bytes = search rules in
    let by_key = put_there (λ k. k.items) c.in_ok-from_slice.field-0.items c.args.self.now.numbers.entries c.insert.new.self.entries number put.1 put.3 in
    let pushed : map text c.push.new.self.items ≡ texts ++ bytes ∷ [] =
    ap (map text) c.in_ok-push.ensures.items ∙ map-append text c.args.self.now.list.items (c.args.bytes ∷ []) in
    rw pushed (numbered_more old (entry_of c.insert.new.self) texts bytes number c.requires.numbered c.requires.new long
    (λ other. by_key other ∙ ap (λ n. if bytes_eq n other then Some number else old other) same) q)
