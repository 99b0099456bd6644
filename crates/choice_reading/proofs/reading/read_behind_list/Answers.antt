use Rattle.std.proofs.Common.{false, not, refl, ap, ◌∙◌}
use Rattle.std.proofs.lemmas.Result.{IfOk-weaker}
use Rattle.choice_states.specs.declared.states.State.{Unbegun}
use Rattle.choice_states.specs.Seen.{seen_in}
use Rattle.choice_states.specs.Parts.{is_empty, values}
use Rattle.choice_settling.specs.Steps.{stood, seen_of}
use Rattle.choice_reading.proofs.PlaceReading.{read_unbegun, read_begun, read_either}
use Rattle.choice_reading.proofs.reading.read_behind_list.Goals as goal

pub returns-then-is_excluded-clause-reads : goal.returns-then-is_excluded-clause-reads
returns-then-is_excluded-clause-reads c = λ outer list.
    read_unbegun c.args.path.now c.args.here.now outer c.args.reading.terminal (seen_of c.args.reading.number c.args.reading.token.now) c.args.place c.args.around c.args.parts.now.items list c.in_ok-some.some
    (λ on p. c.in_ok-some.ensures on p ∙ ap (λ xs. not (is_empty (values (seen_in on xs)))) c.deref.ensures.value)
    (Unbegun c.args.around false) c.args.parts.now.items false refl (c.is_excluded.ensures c.if-is_excluded.true)

pub returns-then-follows-clause-reads : goal.returns-then-follows-clause-reads
returns-then-follows-clause-reads c = λ outer list.
    read_begun c.args.path.now c.args.here.now outer c.args.reading.terminal (seen_of c.args.reading.number c.args.reading.token.now) c.args.place c.args.around c.args.parts.now.items list c.in_ok-some.some
    (λ on p. c.in_ok-some.ensures on p ∙ ap (λ xs. not (is_empty (values (seen_in on xs)))) c.deref.ensures.value)
    (stood c.in_ok-begun.begun c.read_in_node.new.parts.items) (c.follows.ensures c.if-follows.true) (c.in_ok-begun.ensures.reads outer)

pub returns-clause-reads : goal.returns-clause-reads
returns-clause-reads c =
    IfOk-weaker c.joined.result _ _ (λ new h outer list.
    read_either c.args.path.now c.args.here.now outer c.args.reading.terminal (seen_of c.args.reading.number c.args.reading.token.now) c.args.place c.args.around c.args.parts.now.items list c.in_ok-some.some
    (λ on p. c.in_ok-some.ensures on p ∙ ap (λ xs. not (is_empty (values (seen_in on xs)))) c.deref.ensures.value)
    c.in_ok-begun.begun (Unbegun c.args.around false) new c.read_in_node.new.parts.items false refl h (c.in_ok-begun.ensures.reads outer)) c.joined.ensures
