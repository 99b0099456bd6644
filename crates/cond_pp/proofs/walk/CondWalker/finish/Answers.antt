use Rattle.std.proofs.Common.{List, ◌||◌, map, sym, ap, ◌∙◌, option_map}
use Rattle.std.specs.String.{string_bytes}
use Rattle.cond_formula.specs.Features.{has}
use Rattle.cond_formula.specs.Conditions.{Condition, condition_of, value}
use Rattle.file_walks.specs.Walk.{end_of_file}
use Rattle.cond_readings.specs.Readings.{reading_at, unless_refused}
use Rattle.cond_groups.specs.Groups.{groups_of, plain_group}
use Rattle.active_tokens.specs.Reads.{Read}
use Rattle.cond_pp.specs.Watches.{plain_sought, is_read_in}
use Rattle.cond_pp.proofs.LineLemmas.{run-reads}
use Rattle.cond_pp.proofs.WalkLemmas.{ends-open, ends-closed}
use Rattle.cond_pp.proofs.walk.CondWalker.finish.Goals as goal

pub returns-in_ok-refuse-in-Some-clause-step : goal.returns-in_ok-refuse-in-Some-clause-step
returns-in_ok-refuse-in-Some-clause-step g c =
    λ k s adm fit.
    let on = has k in
    let walker = c.flush.new.self in
    let features = map string_bytes c.args.place.now.features.now in
    let between = reading_at on features c.flush.new.reading in
    c.in_ok-flush.ensures.step k adm fit (λ after. end_of_file s after.groups after.reading)
    ∙ ends-open s on (condition_of walker.entered) (groups_of walker.groups) (plain_group c.in-Some.field-0.now) between c.in-Some.ensures
    ∙ ap (λ (a : Condition). unless_refused (value on a) between) (sym c.in_ok-try_clone-in-Some.ensures)
    ∙ sym (c.in_ok-refuse-in-Some.ensures on features)

pub returns-in-None-clause-step : goal.returns-in-None-clause-step
returns-in-None-clause-step g c =
    λ k s adm fit.
    let on = has k in
    let walker = c.flush.new.self in
    let features = map string_bytes c.args.place.now.features.now in
    c.in_ok-flush.ensures.step k adm fit (λ after. end_of_file s after.groups after.reading)
    ∙ ends-closed s on (condition_of walker.entered) (groups_of walker.groups) (reading_at on features c.flush.new.reading) c.in-None.ensures

pub returns-in_ok-refuse-in-Some-clause-found : goal.returns-in_ok-refuse-in-Some-clause-found
returns-in_ok-refuse-in-Some-clause-found g c =
    λ k fit.
    let on = has k in
    let sought = option_map plain_sought c.args.watch.now.sought in
    let before = reading_at on (map string_bytes c.args.place.now.features.now) c.args.reading.now in
    c.in_ok-look_at_run.ensures.found k fit
    ∙ ap (λ (l : List Read). value on (condition_of c.args.watch.now.found) || is_read_in sought l) (run-reads on c.args.self.now before)

pub returns-in-None-clause-found : goal.returns-in-None-clause-found
returns-in-None-clause-found g c =
    λ k fit.
    let on = has k in
    let sought = option_map plain_sought c.args.watch.now.sought in
    let before = reading_at on (map string_bytes c.args.place.now.features.now) c.args.reading.now in
    c.in_ok-look_at_run.ensures.found k fit
    ∙ ap (λ (l : List Read). value on (condition_of c.args.watch.now.found) || is_read_in sought l) (run-reads on c.args.self.now before)
