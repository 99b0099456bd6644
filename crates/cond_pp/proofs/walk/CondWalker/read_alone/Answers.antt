use Rattle.std.proofs.Common.{◌≡◌, map, IsTrue, sym, ap, ◌∙◌, subst}
use Rattle.std.specs.Prelude.{Option, Some, None, option_map, if◌then◌else◌}
use Rattle.std.specs.String.{string_bytes}
use Rattle.cond_formula.specs.Features.{has}
use Rattle.cond_formula.specs.Conditions.{Condition, condition_of, value}
use Rattle.c_text.specs.Lines.{plain_line}
use Rattle.c_text.specs.Directives.{directive_of}
use Rattle.c_text.specs.Preprocessing.{on, then_read}
use Rattle.active_tokens.specs.Reads.{reads_of_inclusion}
use Rattle.unit_files.specs.Inclusions.{plain_source}
use Rattle.cond_readings.specs.Readings.{reading_at, taken}
use Rattle.unit_files.specs.Settings.{entered}
use Rattle.cond_groups.specs.Groups.{groups_of, read_in}
use Rattle.unit_files.specs.declared.inclusions.Source.{Source}
use Rattle.cond_pp.specs.declared.walk.Inclusion.{Inclusion}
use Rattle.cond_pp.specs.Watches.{read_where}
use Rattle.cond_groups.specs.GroupLaws.{read-inside}
use Rattle.cond_pp.proofs.InclusionLemmas.{found-reads, no-reads}
use Rattle.cond_pp.proofs.WalkLemmas.{alone-finds, finds-none}
use Rattle.cond_pp.proofs.walk.CondWalker.read_alone.Goals as goal

pub returns-in_ok-when-in-Some-clause-inside : goal.returns-in_ok-when-in-Some-clause-inside
returns-in_ok-when-in-Some-clause-inside g c =
    λ on fit h.
    let self = c.args.self.now in
    let is : condition_of c.in_ok-when-in-Some.when ≡ _ = c.in_ok-when-in-Some.ensures ∙ c.here-here.ensures in
    read-inside on (condition_of self.entered) (groups_of self.groups) fit (subst (λ (a : Condition). IsTrue (value on a)) is h)

pub returns-in_ok-when-in-Some-clause-step : goal.returns-in_ok-when-in-Some-clause-step
returns-in_ok-when-in-Some-clause-step g c =
    λ k s adm is fit next.
    let features = has k in
    let self = c.args.self.now in
    let names = map string_bytes c.args.place.now.features.now in
    let here = condition_of c.here-here.result.now in
    let line = plain_line c.args.line.now in
    let before = reading_at features names c.args.reading.now in
    let after = reading_at features names c.read_directive.new.reading in
    let source = c.in-Some.source in
    let found : Inclusion = record { source = source; when = c.in_ok-when-in-Some.when } in
    alone-finds s features self here line before after (Some found) (Some (plain_source source)) next fit (sym c.here-here.ensures)
    (λ nx. c.in_ok-source.ensures.flow k s is nx ∙ ap (λ (o : Option Source). taken (value features here) (λ r. then_read (entered s.deeper (option_map plain_source o) r) nx) after) c.in-Some.is)
    (λ r. ap (λ (a : Condition). if value features a then entered s.deeper (Some (plain_source source)) r else on r) c.in_ok-when-in-Some.ensures)

pub returns-in-None-clause-step : goal.returns-in-None-clause-step
returns-in-None-clause-step g c =
    λ k s adm is fit next.
    let features = has k in
    let self = c.args.self.now in
    let names = map string_bytes c.args.place.now.features.now in
    let here = condition_of c.here-here.result.now in
    let line = plain_line c.args.line.now in
    let before = reading_at features names c.args.reading.now in
    let after = reading_at features names c.read_directive.new.reading in
    alone-finds s features self here line before after None None next fit (sym c.here-here.ensures)
    (λ nx. c.in_ok-source.ensures.flow k s is nx ∙ ap (λ (o : Option Source). taken (value features here) (λ r. then_read (entered s.deeper (option_map plain_source o) r) nx) after) c.in-None.is)
    (λ r. finds-none features s.deeper (value features here) r)

pub returns-in_ok-when-in-Some-clause-included : goal.returns-in_ok-when-in-Some-clause-included
returns-in_ok-when-in-Some-clause-included g c =
    λ k s f adm is alike.
    let features = has k in
    let names = map string_bytes c.args.place.now.features.now in
    let here = condition_of c.here-here.result.now in
    let line = plain_line c.args.line.now in
    let before = reading_at features names c.args.reading.now in
    let after = reading_at features names c.read_directive.new.reading in
    let found : Inclusion = record { source = c.in-Some.source; when = c.in_ok-when-in-Some.when } in
    found-reads c.args.place.now s is f features here line.tokens found before after c.in_ok-when-in-Some.ensures
    (sym (ap (λ (o : Option Source). option_map plain_source o) c.in-Some.is) ∙ c.in_ok-source.ensures.named)
    (λ t is_t nx. c.in_ok-source.ensures.flow k t is_t nx ∙ ap (λ (o : Option Source). taken (value features here) (λ r. then_read (entered t.deeper (option_map plain_source o) r) nx) after) c.in-Some.is)
    ∙ ap (λ (a : Condition). read_where (value features a) (λ r. reads_of_inclusion s f r (directive_of line.tokens)) before) c.here-here.ensures

pub returns-in-None-clause-included : goal.returns-in-None-clause-included
returns-in-None-clause-included g c =
    λ k s f adm is alike.
    let features = has k in
    let self = c.args.self.now in
    let names = map string_bytes c.args.place.now.features.now in
    let line = plain_line c.args.line.now in
    no-reads c.args.place.now s is f features (value features (read_in (condition_of self.entered) (groups_of self.groups))) line.tokens
    (reading_at features names c.args.reading.now) (reading_at features names c.read_directive.new.reading) alike
    (sym (ap (λ (o : Option Source). option_map plain_source o) c.in-None.is) ∙ c.in_ok-source.ensures.named)
