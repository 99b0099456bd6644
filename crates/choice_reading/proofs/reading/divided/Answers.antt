use Rattle.std.proofs.Common.{subst, ap, ◌∙◌}
use Rattle.std.proofs.lemmas.Result.{IfOk-weaker}
use Rattle.cond_formula.specs.Conditions.{condition_of, conditions_of, all_true}
use Rattle.choice_states.specs.Seen.{seen_in}
use Rattle.choice_settling.specs.Steps.{stood, seen_of}
use Rattle.choice_reading.specs.Pushing.{ReadsPlaces}
use Rattle.choice_reading.proofs.ReadSplits.{reads_where}
use Rattle.choice_reading.proofs.reading.divided.Goals as goal

pub returns-clause-reads : goal.returns-clause-reads
returns-clause-reads c =
    IfOk-weaker c.joined.result _ _ (λ new h places on.
    reads_where c.args.setting.path.now c.args.setting.here.now c.on.result.path.now c.on.result.here.now c.in_ok-when.when (condition_of c.args.reading.token.now.when) c.args.parts.now.items c.read_places.new.parts.items
    c.args.setting.outer c.args.reading.terminal (seen_of c.args.reading.number c.args.reading.token.now) c.in_ok-there.there c.in_ok-otherwise.otherwise new (stood c.args.state c.args.parts.now.items on) on
    (c.in_ok-when.ensures on)
    (ap (λ fs. all_true on (conditions_of fs)) c.on.ensures.path ∙ c.in_ok-side.ensures.path on)
    (ap (λ fs. all_true on (conditions_of fs)) c.on.ensures.here ∙ c.in_ok-side.ensures.here on)
    c.in_ok-there.ensures.elsewhere (c.in_ok-otherwise.ensures on (seen_in on c.args.parts.now.items)) h
    (subst (λ outer. ReadsPlaces c.args.state c.on.result.path.now c.on.result.here.now outer c.args.reading.terminal (seen_of c.args.reading.number c.args.reading.token.now) (stood c.args.state c.args.parts.now.items) (stood c.in_ok-there.there c.read_places.new.parts.items))
    c.on.ensures.outer c.in_ok-there.ensures.reads on (places on))) c.joined.ensures
