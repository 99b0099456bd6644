use Rattle.std.proofs.Common.{map}
use Rattle.std.specs.String.{string_bytes}
use Rattle.cond_formula.specs.Features.{has}
use Rattle.cond_formula.specs.Conditions.{condition_of}
use Rattle.c_text.specs.Lines.{plain_line}
use Rattle.cond_readings.specs.Readings.{reading_at}
use Rattle.cond_groups.specs.Groups.{plain_group}
use Rattle.cond_groups.proofs.GroupLemmas.{fits-first, group-begins}
use Rattle.cond_groups.proofs.branches.begin_group.Goals as goal

pub returns-clause-fits : goal.returns-clause-fits
returns-clause-fits g c =
    λ on entered groups fit is.
    let made = c.in_ok-begun.ensures in
    fits-first on entered (condition_of c.args.here.now) groups (plain_group c.in_ok-begun.field-0) made.within (made.elsewhere on) (made.apart on) fit is

pub returns-clause-step : goal.returns-clause-step
returns-clause-step g c =
    λ k s adm is entered groups fit here_is run next.
    let on = has k in
    let features = map string_bytes c.args.place.now.features.now in
    let made = c.in_ok-begun.ensures in
    group-begins s on entered (condition_of c.args.here.now) groups (plain_group c.in_ok-begun.field-0) (plain_line c.args.line.now)
    (reading_at on features c.args.reading.now) (reading_at on features c.begun.new.reading) run next fit here_is made.within made.last
    (λ nx. made.step k s adm is (λ h. h) nx)
