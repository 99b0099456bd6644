use Rattle.std.proofs.Common.{◌++◌, sym, subst}
use Rattle.cond_nodes.specs.Reads.{ShowsEach}
use Rattle.cond_typing.proofs.ArgumentsPlaced.{argument_left_out, argument_pushed}
use Rattle.cond_typing.proofs.arguments.push_argument.Goals as goal

pub returns-then-is_never : goal.returns-then-is_never
returns-then-is_never c = λ on before reads shows last.
    argument_left_out on before reads c.args.all.now.items c.args.argument (c.is_never.ensures c.if-is_never.true on) shows last

pub returns : goal.returns
returns c = λ on before reads shows last.
    subst (ShowsEach on (before ++ reads)) (sym c.in_ok-push.ensures.items) (argument_pushed on before reads c.args.all.now.items c.args.argument shows last)
