use Rattle.std.proofs.Common.{List, [], map, sym, ap, ◌∙◌, subst}
use Rattle.std.specs.String.{string_bytes}
use Rattle.cond_formula.specs.Features.{has}
use Rattle.cond_formula.specs.Conditions.{condition_of, value}
use Rattle.c_text.specs.Lines.{plain_line}
use Rattle.file_walks.specs.Walk.{group_read}
use Rattle.cond_readings.specs.Readings.{reading_at, taken}
use Rattle.cond_groups.specs.Groups.{PlainGroup, AllFit, groups_of, open_at}
use Rattle.cond_pp.specs.declared.walk.CondWalker.{CondWalker}
use Rattle.cond_pp.proofs.WalkLemmas.{emptied, ahead-emptied}
use Rattle.cond_pp.proofs.walk.CondWalker.begin_group.Goals as goal

pub returns-clause-fit : goal.returns-clause-fit
returns-clause-fit g c =
    λ on fit.
    let self = c.args.self.now in
    let at = condition_of self.entered in
    subst (λ (gs : List PlainGroup). AllFit on at gs) (sym c.in_ok-push.ensures) (c.in_ok-group.ensures.fits on at (groups_of self.groups) fit (sym c.here.ensures))

pub returns-clause-step : goal.returns-clause-step
returns-clause-step g c =
    λ k s adm is fit next.
    let on = has k in
    let self = c.args.self.now in
    let new : CondWalker = record { entered = self.entered; run = self.run; groups = c.push.new.self } in
    let features = map string_bytes c.args.place.now.features.now in
    let at = condition_of self.entered in
    let line = plain_line c.args.line.now in
    let before = reading_at on features c.args.reading.now in
    let after = reading_at on features c.begin_group.new.reading in
    ahead-emptied on self (λ v. group_read s v line next) before c.requires.empty
    ∙ c.in_ok-group.ensures.step k s adm is at (groups_of self.groups) fit (sym c.here.ensures) [] next
    ∙ ap (λ (gs : List PlainGroup). taken (value on at) (λ r. next (emptied r (map (open_at on) gs))) after) (sym c.in_ok-push.ensures)
    ∙ sym (ahead-emptied on new next after c.requires.empty)
