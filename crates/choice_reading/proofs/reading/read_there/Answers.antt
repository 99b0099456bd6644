use Rattle.std.proofs.Common.{refl, sym, ◌∙◌}
use Rattle.std.proofs.lemmas.Result.{IfOk-weaker}
use Rattle.choice_settling.specs.Steps.{stood, seen_of}
use Rattle.choice_reading.proofs.PlaceReading.{read_no_list, read_entered}
use Rattle.choice_reading.proofs.reading.read_there.Goals as goal

pub returns-then-enters-clause-reads : goal.returns-then-enters-clause-reads
returns-then-enters-clause-reads c =
    IfOk-weaker c.read_in_node.result _ _ (λ new h.
    read_entered c.args.setting.path.now c.args.setting.here.now c.args.setting.outer c.args.reading.terminal (seen_of c.args.reading.number c.args.reading.token.now) c.args.place c.in-Some.around c.args.parts.now.items c.in-Some.ensures.some
    (stood new c.read_in_node.new.parts.items) (sym c.enters.ensures ∙ c.if-enters.true) (h c.args.setting.outer)) c.read_in_node.ensures.reads

pub returns-else-enters-clause-reads : goal.returns-else-enters-clause-reads
returns-else-enters-clause-reads c = IfOk-weaker c.read_behind_list.result _ _ (λ new h. h c.args.setting.outer c.in-Some.ensures.some) c.read_behind_list.ensures.reads

pub returns-in-None-clause-reads : goal.returns-in-None-clause-reads
returns-in-None-clause-reads c =
    IfOk-weaker c.read_in_node-in-None.result _ _ (λ new h.
    read_no_list c.args.setting.path.now c.args.setting.here.now c.args.setting.outer c.args.reading.terminal (seen_of c.args.reading.number c.args.reading.token.now) c.args.place c.args.parts.now.items (stood new c.read_in_node-in-None.new.parts.items) (c.in-None.ensures.none refl) (h c.args.setting.outer)) c.read_in_node-in-None.ensures.reads
