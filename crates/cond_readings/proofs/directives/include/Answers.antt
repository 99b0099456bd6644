use Rattle.std.proofs.Common.{map, ap, sym, ◌∙◌}
use Rattle.std.specs.Prelude.{option_map}
use Rattle.std.specs.String.{string_bytes}
use Rattle.cond_formula.specs.Features.{has}
use Rattle.cond_formula.specs.Conditions.{Condition, condition_of, value}
use Rattle.c_text.specs.Token.{plain_token}
use Rattle.c_text.specs.Directives.{include_line}
use Rattle.c_text.specs.Preprocessing.{Reading, directed}
use Rattle.unit_files.specs.Inclusions.{plain_source}
use Rattle.cond_readings.specs.Readings.{reading_at, unless_refused}
use Rattle.unit_files.specs.Settings.{entered}
use Rattle.cond_readings.proofs.OptionLemmas.{is_some_map}
use Rattle.cond_readings.proofs.DirectiveLemmas.{found-then, refused-then, found-some, found-nothing}
use Rattle.cond_readings.proofs.directives.include.Goals as goal

pub returns-then-is_some-clause-flow : goal.returns-then-is_some-clause-flow
returns-then-is_some-clause-flow c =
    λ k s is hash tokens next.
    let names = map plain_token c.args.names.now in
    let source = option_map plain_source c.in_ok-found.found in
    let h = value (has k) (condition_of c.args.here.now) in
    let old = reading_at (has k) (map string_bytes c.args.place.now.features.now) c.args.reading.now in
    let some = is_some_map plain_source c.in_ok-found.found ∙ sym c.is_some.ensures ∙ c.if-is_some.true in
    found-then h (λ (r : Reading). directed s r hash tokens (include_line names)) (λ (r : Reading). entered s.deeper source r) next old (λ r. found-some s s.deeper source (directed s r hash tokens (include_line names)) r some (c.in_ok-found.ensures.flow s is hash tokens r))

pub returns-clause-flow : goal.returns-clause-flow
returns-clause-flow c =
    λ k s is hash tokens next.
    let names = map plain_token c.args.names.now in
    let source = option_map plain_source c.in_ok-found.found in
    let h = value (has k) (condition_of c.args.here.now) in
    let features = map string_bytes c.args.place.now.features.now in
    let old = reading_at (has k) features c.args.reading.now in
    let none = is_some_map plain_source c.in_ok-found.found ∙ sym c.is_some.ensures ∙ c.if-is_some.false in
    refused-then h (λ (r : Reading). directed s r hash tokens (include_line names)) next old (reading_at (has k) features c.refuse.new.self)
    (c.in_ok-refuse.ensures (has k) features ∙ ap (λ (a : Condition). unless_refused (value (has k) a) old) c.in_ok-try_clone.ensures)
    (λ r. found-nothing s.deeper source (directed s r hash tokens (include_line names)) r none (c.in_ok-found.ensures.flow s is hash tokens r))
