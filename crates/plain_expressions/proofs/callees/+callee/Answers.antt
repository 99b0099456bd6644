use Rattle.std.proofs.Common.{sym}
use Rattle.plain_scope.specs.PlainScope.{plain_scope}
use Rattle.plain_expressions.proofs.NodeLaws.{callee_of_parts}
use Rattle.plain_expressions.proofs.callees.+callee.Goals as goal

pub callee_inside-returns-else-parts-eq3 : goal.callee_inside-returns-else-parts-eq3
callee_inside-returns-else-parts-eq3 t c = sym (callee_of_parts (plain_scope c.args.scope.now) c.args.parts.now c.if-parts-eq3.false)
