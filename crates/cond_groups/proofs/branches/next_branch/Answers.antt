use Rattle.std.proofs.Common.{map}
use Rattle.std.specs.String.{string_bytes}
use Rattle.cond_formula.specs.Features.{has}
use Rattle.c_text.specs.Lines.{plain_line}
use Rattle.cond_readings.specs.Readings.{reading_at}
use Rattle.cond_groups.specs.Groups.{plain_group}
use Rattle.cond_groups.proofs.GroupLemmas.{fits-next, next-is}
use Rattle.cond_groups.proofs.branches.next_branch.Goals as goal

pub returns-clause-fits : goal.returns-clause-fits
returns-clause-fits g c =
    λ on entered fit.
    let old = plain_group c.args.group.now in
    let made = c.in_ok-begun.ensures in
    fits-next on entered old (plain_group c.in_ok-begun.field-0) made.within (made.elsewhere on) (made.apart on) fit

pub returns-clause-step : goal.returns-clause-step
returns-clause-step g c =
    λ k s adm is entered fit more run outer next.
    let on = has k in
    let features = map string_bytes c.args.place.now.features.now in
    let at = reading_at on features in
    let made = c.in_ok-begun.ensures in
    next-is on entered s (plain_group c.args.group.now) (plain_group c.in_ok-begun.field-0) c.args.last (plain_line c.args.line.now)
    (at c.args.reading.now) (at c.refuse_passed.new.reading) (at c.begun.new.reading) run outer next fit more made.within made.last
    (c.in_ok-refuse_passed.ensures on features) (made.elsewhere on)
    (λ nx. made.step k s adm is fit.waits nx)
