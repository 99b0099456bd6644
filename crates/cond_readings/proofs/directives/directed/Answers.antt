use Rattle.std.proofs.Common.{List, map, ap, sym, ◌∙◌}
use Rattle.std.specs.String.{string_bytes}
use Rattle.cond_formula.specs.Features.{has}
use Rattle.cond_formula.specs.Conditions.{condition_of, value}
use Rattle.c_text.specs.declared.token.Token.{Token}
use Rattle.c_text.specs.Token.{plain_token}
use Rattle.c_text.specs.Directives.{define_line, undef_line, include_line}
use Rattle.c_text.specs.PlainMacros.{plain_macro}
use Rattle.c_text.specs.Preprocessing.{Reading, directed, then_read}
use Rattle.pp_lines.specs.declared.forms.Directive.{Directive}
use Rattle.pp_lines.specs.PlainDirectives.{plain_directive}
use Rattle.cond_readings.specs.Readings.{reading_at, taken}
use Rattle.cond_readings.proofs.DirectiveLemmas.{step-then}
use Rattle.cond_readings.proofs.directives.directed.Goals as goal

pub returns-in_ok-define-in-Define-clause-flow : goal.returns-in_ok-define-in-Define-clause-flow
returns-in_ok-define-in-Define-clause-flow c =
    λ k s is hash next.
    let h = value (has k) (condition_of c.args.here.now) in
    let ts = map plain_token c.args.tokens.now in
    let features = map string_bytes c.args.place.now.features.now in
    let old = reading_at (has k) features c.args.reading.now in
    let new = reading_at (has k) features c.define.new.reading in
    ap (λ (d : Directive). taken h (λ (r : Reading). then_read (directed s r hash ts (plain_directive d)) next) old) c.in-Define.is
    ∙ step-then h (λ (r : Reading). directed s r hash ts (define_line (plain_macro c.in-Define.m))) next old new (c.in_ok-define-in-Define.ensures k s is hash)

pub returns-in_ok-undefine-in-Undef-clause-flow : goal.returns-in_ok-undefine-in-Undef-clause-flow
returns-in_ok-undefine-in-Undef-clause-flow c =
    λ k s is hash next.
    let h = value (has k) (condition_of c.args.here.now) in
    let ts = map plain_token c.args.tokens.now in
    let features = map string_bytes c.args.place.now.features.now in
    let old = reading_at (has k) features c.args.reading.now in
    let new = reading_at (has k) features c.undefine.new.reading in
    ap (λ (d : Directive). taken h (λ (r : Reading). then_read (directed s r hash ts (plain_directive d)) next) old) c.in-Undef.is
    ∙ step-then h (λ (r : Reading). directed s r hash ts (undef_line (plain_token c.in-Undef.name))) next old new (c.in_ok-undefine-in-Undef.ensures k s is hash)

pub returns-in_ok-include-in-Include-clause-flow : goal.returns-in_ok-include-in-Include-clause-flow
returns-in_ok-include-in-Include-clause-flow c =
    λ k s is hash next.
    let h = value (has k) (condition_of c.args.here.now) in
    let ts = map plain_token c.args.tokens.now in
    let old = reading_at (has k) (map string_bytes c.args.place.now.features.now) c.args.reading.now in
    ap (λ (d : Directive). taken h (λ (r : Reading). then_read (directed s r hash ts (plain_directive d)) next) old) c.in-Include.is
    ∙ ap (λ (xs : List Token). taken h (λ (r : Reading). then_read (directed s r hash ts (include_line (map plain_token xs))) next) old) (sym c.as_slice.ensures.value)
    ∙ c.in_ok-include-in-Include.ensures.flow k s is hash ts next
