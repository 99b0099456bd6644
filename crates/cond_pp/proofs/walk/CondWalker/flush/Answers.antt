use Rattle.std.proofs.Common.{◌≡◌, map, ap, sym, ◌∙◌}
use Rattle.std.specs.String.{string_bytes}
use Rattle.cond_formula.specs.Features.{has}
use Rattle.cond_formula.specs.Conditions.{Condition, condition_of, value}
use Rattle.c_text.specs.Token.{plain_token}
use Rattle.c_text.specs.Preprocessing.{read_run}
use Rattle.cond_readings.specs.Readings.{reading_at, taken}
use Rattle.cond_groups.specs.Groups.{groups_of, open_at, read_in}
use Rattle.cond_pp.specs.declared.walk.CondWalker.{CondWalker}
use Rattle.cond_groups.specs.GroupLaws.{read-inside}
use Rattle.cond_pp.proofs.WalkLemmas.{flush-is, ahead-emptied}
use Rattle.cond_pp.proofs.walk.CondWalker.flush.Goals as goal

pub returns-clause-step : goal.returns-clause-step
returns-clause-step g c =
    λ k adm fit next.
    let on = has k in
    let self = c.args.self.now in
    let new : CondWalker = record { entered = self.entered; run = c.new.result; groups = self.groups } in
    let features = map string_bytes c.args.place.now.features.now in
    let at = condition_of self.entered in
    let groups = groups_of self.groups in
    let h = value on (read_in at groups) in
    let run = map (λ t. plain_token t.now) self.run.items in
    let before = reading_at on features c.args.reading.now in
    let after = reading_at on features c.read_run.new.reading in
    let here_is : condition_of c.in_ok-here.here ≡ read_in at groups = c.in_ok-here.ensures ∙ c.here.ensures in
    let read : after ≡ taken h (λ r. read_run r run) before =
    c.in_ok-read_run.ensures.read k adm
    ∙ ap (λ (here : Condition). taken (value on here) (λ r. read_run r (map (λ t. plain_token t.now) c.as_slice.result.now)) before) here_is
    ∙ ap (λ ts. taken h (λ r. read_run r (map (λ t. plain_token t.now) ts)) before) c.as_slice.ensures.value
    in
    flush-is (value on at) h run (map (open_at on) groups) before after next (λ there. read-inside on at groups fit there) read
    ∙ sym (ahead-emptied on new next after c.new.ensures.items)
