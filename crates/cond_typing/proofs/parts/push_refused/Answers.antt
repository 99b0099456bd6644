use Rattle.std.proofs.Common.{None, refl}
use Rattle.expression_types.specs.Reading.{typed, no_outcome}
use Rattle.cond_typing.proofs.Pushed.{operand_pushed}
use Rattle.cond_typing.proofs.parts.push_refused.Goals as goal

pub returns : goal.returns
returns c = λ on callable known kind. record {
  reads = λ p parts.
      operand_pushed on callable p (typed no_outcome) (record { outcomes = c.in_ok-outcomes.outcomes; callee = c.nothing.result }) c.args.so_far.now
      (record { operands = c.push.new.self; signs = c.args.so_far.now.signs; words = c.args.so_far.now.words; arguments = c.args.so_far.now.arguments }) c.in_ok-push.ensures.items refl refl refl
      (record { outcome = c.in_ok-outcomes.ensures on; callee = record { number = None; seen = c.nothing.ensures on; same = refl } }) parts;
}
