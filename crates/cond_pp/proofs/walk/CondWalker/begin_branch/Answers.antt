use Rattle.std.proofs.Common.{List, [], map, sym, ap, ◌∙◌, subst}
use Rattle.std.specs.String.{string_bytes}
use Rattle.cond_formula.specs.Features.{has}
use Rattle.cond_formula.specs.Conditions.{condition_of, value}
use Rattle.c_text.specs.Lines.{plain_line}
use Rattle.file_walks.specs.Walk.{branch_read}
use Rattle.cond_readings.specs.Readings.{reading_at, taken}
use Rattle.cond_groups.specs.Groups.{PlainGroup, AllFit, groups_of, open_at, plain_group}
use Rattle.cond_pp.specs.declared.walk.CondWalker.{CondWalker}
use Rattle.cond_pp.proofs.WalkLemmas.{emptied, ahead-emptied, branch-begins, branch-fits}
use Rattle.cond_pp.proofs.walk.CondWalker.begin_branch.Goals as goal

pub returns-in_ok-turn-in-Some-clause-fit : goal.returns-in_ok-turn-in-Some-clause-fit
returns-in_ok-turn-in-Some-clause-fit g c =
    λ on fit.
    let at = condition_of c.args.self.now.entered in
    let groups = groups_of c.args.self.now.groups in
    subst (λ (gs : List PlainGroup). AllFit on at gs) (sym c.in_ok-turn-in-Some.ensures)
    (branch-fits on at groups (plain_group c.in-Some.group.now) (plain_group c.in_ok-group-in-Some.group) c.in-Some.ensures fit (c.in_ok-group-in-Some.ensures.fits on at))

pub returns-in_ok-turn-in-Some-clause-step : goal.returns-in_ok-turn-in-Some-clause-step
returns-in_ok-turn-in-Some-clause-step g c =
    λ k s adm is fit next.
    let on = has k in
    let self = c.args.self.now in
    let new : CondWalker = record { entered = self.entered; run = self.run; groups = c.turn.new.self } in
    let features = map string_bytes c.args.place.now.features.now in
    let at = condition_of self.entered in
    let groups = groups_of self.groups in
    let line = plain_line c.args.line.now in
    let old = plain_group c.in-Some.group.now in
    let group = plain_group c.in_ok-group-in-Some.group in
    let before = reading_at on features c.args.reading.now in
    let after = reading_at on features c.next_branch.new.reading in
    ahead-emptied on self (λ v. branch_read s v line c.args.last v.groups next) before c.requires.empty
    ∙ branch-begins s on at groups old group line c.args.last before after next c.in-Some.ensures fit
    (λ fits outer. c.in_ok-group-in-Some.ensures.step k s adm is at fits c.if-not-group.true [] outer next)
    ∙ ap (λ (gs : List PlainGroup). taken (value on at) (λ r. next (emptied r (map (open_at on) gs))) after) (sym c.in_ok-turn-in-Some.ensures)
    ∙ sym (ahead-emptied on new next after c.requires.empty)
