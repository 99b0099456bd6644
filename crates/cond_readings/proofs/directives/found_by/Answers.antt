use Rattle.std.proofs.Common.{◌≡◌, ℕ, Bool, List, map, ap, sym, ◌∙◌, subst}
use Rattle.std.specs.Prelude.{◌&&◌, not, is_some, Option, option_map}
use Rattle.std.specs.String.{string_bytes}
use Rattle.c_text.specs.Token.{plain_token}
use Rattle.c_text.specs.Directives.{include_line}
use Rattle.c_text.specs.Preprocessing as spec
use Rattle.c_text.specs.Preprocessing.{directed, refused_token}
use Rattle.unit_files.specs.Inclusions.{plain_source}
use Rattle.cond_readings.specs.Settings.{IsFound}
use Rattle.cond_readings.proofs.DirectiveLemmas.{found-is, found-none, may-enter, both-left}
use Rattle.cond_readings.proofs.directives.found_by.Goals as goal

pub returns-then-not-may_be_found-clause-flow : goal.returns-then-not-may_be_found-clause-flow
returns-then-not-may_be_found-clause-flow c =
    λ s is hash tokens r.
    let names = map plain_token c.args.names.now in
    found-none s r hash names s.deeper (spec.source_of s.headers s.name names)
    (ap (λ (b : Bool). b && not (is_some (refused_token names))) is.deeper ∙ sym c.may_be_found.ensures ∙ c.if-not-may_be_found.true)

pub returns-clause-finds : goal.returns-clause-finds
returns-clause-finds c =
    may-enter c.args.place.now c.in_ok-found.found (both-left _ _ (sym c.may_be_found.ensures ∙ c.if-not-may_be_found.false)) c.in_ok-found.ensures.among

pub returns-clause-flow : goal.returns-clause-flow
returns-clause-flow c =
    λ s is hash tokens r.
    let names = map plain_token c.args.names.now in
    let place = c.args.place.now in
    let e : spec.source_of s.headers s.name names ≡ option_map plain_source c.in_ok-found.found =
    ap (λ (hs : List (List ℕ)). spec.source_of hs s.name names) is.headers
    ∙ ap (λ (n : List ℕ). spec.source_of (map string_bytes place.headers.now) n names) is.name
    ∙ sym c.in_ok-found.ensures.value
    in
    subst (λ (o : Option spec.Source). IsFound s.deeper o (directed s r hash tokens (include_line names)) r) e
    (found-is s r hash names s.deeper (spec.source_of s.headers s.name names)
    (ap (λ (b : Bool). b && not (is_some (refused_token names))) is.deeper ∙ sym c.may_be_found.ensures ∙ c.if-not-may_be_found.false))
