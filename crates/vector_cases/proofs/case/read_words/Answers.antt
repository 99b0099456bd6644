use Rattle.std.proofs.Common.{◌≡◌, map, sym, subst, ap, ◌∙◌, arith}
use Rattle.std.specs.String.{string_bytes}
use Rattle.std.proofs.lemmas.Grind.{common_steps}
use Rattle.std.proofs.lemmas.List.{length-map, map_push}
use Rattle.vector_cases.specs.Fields.{Reads, bytes}
use Rattle.vector_cases.proofs.LineLemmas.{one_word, all_words}
use Rattle.vector_cases.proofs.case.read_words.Goals as goal

pub loop-preserved : goal.loop-preserved
loop-preserved c =
    let pushed = c.in_ok-push.ensures.items in
    let words = map string_bytes c.loop.words.items in (
      grind (arith, common_steps),
      subst (λ all. Reads c.number.new.self c.text.new.self (map bytes all)) (sym (ap (map string_bytes) pushed ∙ map_push string_bytes c.loop.words.items c.in_ok-text.field-0))
          (one_word c.number.new.self c.loop.fields c.text.new.self words (string_bytes c.in_ok-text.field-0) c.loop.invariant.1 c.in_ok-text.ensures),
    )

pub returns : goal.returns
returns c =
    let count : c.loop.counter ≡ c.in_ok-count.count = omega (arith, c.loop-test.false, c.loop.auto.counter-end) in
    all_words c.args.fields.now c.number.new.self c.loop.fields c.in_ok-count.count (map string_bytes c.loop.words.items)
    (length-map c.loop.words.items string_bytes ∙ (c.loop.invariant.0 ∙ count)) c.in_ok-count.ensures c.loop.invariant.1
