use Rattle.std.proofs.Common.{map}
use Rattle.std.specs.String.{string_bytes}
use Rattle.command_promises.specs.Commands.{CourseOf}
use Rattle.command_promises.proofs.Answering.{answers}
use Rattle.morpheus_top.specs.Commands.{commands}
use Rattle.morpheus_top.proofs.top.serve.Goals as goal

pub returns : goal.returns
returns g c =
    let S = g.S.Store in
    let K = g.K.Sink in
    answers (S.state c.args.store.now) (S.state c.answer-came.new.store) (S.state c.finish.new.store) c.answer-came.ensures.kept (K.state c.args.out.now) (K.state c.finish.new.out) c.finish.result
    (CourseOf commands (map string_bytes c.args.words.now)) (g.met.S.Store.room_is_told c.args.store.now) c.answer-came.result c.answer-came.ensures.came c.answer-came.ensures.cause c.finish.ensures
