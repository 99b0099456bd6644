use Rattle.std.proofs.Common.{List, map, length, ap, sym, ◌∙◌, ◌<◌, arith}
use Rattle.std.specs.String.{string_bytes}
use Rattle.cond_formula.specs.Features.{has}
use Rattle.cond_formula.specs.Conditions.{condition_of, value}
use Rattle.c_text.specs.declared.token.Token.{Token}
use Rattle.c_text.specs.Token.{plain_token}
use Rattle.std.proofs.lemmas.List.{length-map}
use Rattle.c_text.specs.Preprocessing.{Reading, directed, then_read}
use Rattle.pp_lines.specs.PlainDirectives.{plain_directive}
use Rattle.cond_readings.specs.Readings.{reading_at, taken}
use Rattle.cond_readings.proofs.DirectiveLemmas.{at-line}
use Rattle.cond_readings.proofs.directives.read_directive.Goals as goal

pub returns-in_ok-directed-in_default-clause-flow : goal.returns-in_ok-directed-in_default-clause-flow
returns-in_ok-directed-in_default-clause-flow c =
    λ k s is next.
    let items = c.args.line.now.tokens.items in
    let ts = map plain_token items in
    let h = value (has k) (condition_of c.args.here.now) in
    let old = reading_at (has k) (map string_bytes c.args.place.now.features.now) c.args.reading.now in
    let d = plain_directive c.in_ok-says-in_default.says in
    let same = ap (λ (xs : List Token). length xs) c.as_slice.ensures.value in
    let some : 0 < length ts = omega (arith, c.in_default.len_at_least, same, length-map items plain_token) in
    at-line s h ts d next old _ some c.in_ok-says-in_default.ensures
    (λ hash. ap (λ (xs : List Token). taken h (λ (r : Reading). then_read (directed s r hash (map plain_token xs) d) next) old) (sym c.as_slice.ensures.value) ∙ c.in_ok-directed-in_default.ensures.flow k s is hash next)
