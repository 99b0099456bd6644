use Rattle.std.proofs.Common.{true, subst, ap, ◌∙◌}
use Rattle.std.proofs.lemmas.Result.{IfOk-weaker}
use Rattle.cond_formula.specs.Features.{has}
use Rattle.cond_formula.specs.Conditions.{condition_of, conditions_of, all_true}
use Rattle.path_conditions.specs.Presences.{IsPresence}
use Rattle.grammar_moves.specs.PlainPlaces.{plain_place}
use Rattle.choice_states.specs.declared.states.State.{At}
use Rattle.choice_states.specs.Seen.{seen_in}
use Rattle.choice_states.specs.States.{at_place}
use Rattle.choice_states.specs.StateLaws.{standing-At}
use Rattle.choice_settling.specs.Steps.{stood, seen_of, ReadsAll}
use Rattle.choice_reading.proofs.ReadSplits.{so_absent, reads_where}
use Rattle.choice_reading.proofs.reading.read_at.Goals as goal

pub returns-in-Absent-clause-reads : goal.returns-in-Absent-clause-reads
returns-in-Absent-clause-reads g c =
    so_absent (g.O.Oracle.admits c.args.oracle.now) (condition_of c.args.reading.token.now.when) c.args.setting.path.now c.args.setting.here.now c.args.setting.outer c.args.reading.terminal (seen_of c.args.reading.number c.args.reading.token.now)
    (λ on. at_place (plain_place c.args.place) (seen_in on c.args.parts.now.items)) (stood (At c.args.place c.args.new) c.args.parts.now.items)
    (subst (λ p. IsPresence (g.O.Oracle.admits c.args.oracle.now) c.args.setting.path.now (condition_of c.args.reading.token.now.when) p) c.in-Absent.is c.in_ok-presence_on.ensures.presence)
    (λ on. standing-At c.args.place c.args.new on (seen_in on c.args.parts.now.items))

pub returns-in_ok-there-in-Unsure-clause-reads : goal.returns-in_ok-there-in-Unsure-clause-reads
returns-in_ok-there-in-Unsure-clause-reads g c =
    IfOk-weaker c.joined.result _ _ (λ new h d admitted.
    reads_where c.args.setting.path.now c.args.setting.here.now c.on.result.path.now c.on.result.here.now c.in_ok-when-in-Unsure.when (condition_of c.args.reading.token.now.when) c.args.parts.now.items c.read_there-in-Unsure.new.parts.items
    c.args.setting.outer c.args.reading.terminal (seen_of c.args.reading.number c.args.reading.token.now) c.in_ok-there-in-Unsure.there (At c.args.place true) new (at_place (plain_place c.args.place) (seen_in (has d) c.args.parts.now.items)) (has d)
    (c.in_ok-when-in-Unsure.ensures (has d))
    (ap (λ fs. all_true (has d) (conditions_of fs)) c.on.ensures.path ∙ c.in_ok-side-in-Unsure.ensures.path (has d))
    (ap (λ fs. all_true (has d) (conditions_of fs)) c.on.ensures.here ∙ c.in_ok-side-in-Unsure.ensures.here (has d))
    c.in_ok-there-in-Unsure.ensures.elsewhere (standing-At c.args.place true (has d) (seen_in (has d) c.args.parts.now.items)) h
    (subst (λ o. ReadsAll c.on.result.path.now c.on.result.here.now o c.args.reading.terminal (seen_of c.args.reading.number c.args.reading.token.now) (λ on. at_place (plain_place c.args.place) (seen_in on c.args.parts.now.items)) (stood c.in_ok-there-in-Unsure.there c.read_there-in-Unsure.new.parts.items))
    c.on.ensures.outer c.in_ok-there-in-Unsure.ensures.reads (has d))) c.joined.ensures
