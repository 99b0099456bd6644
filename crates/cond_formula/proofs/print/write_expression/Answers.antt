use Rattle.std.proofs.Common.{map, string_bytes, arith}
use Rattle.std.proofs.lemmas.Grind.{common_steps}
use Rattle.cond_formula.proofs.PrintLaws.{printed-And, printed-Or}
use Rattle.cond_formula.proofs.print.write_expression.Goals as goal

pub returns-in_ok-write_parts-in-And : goal.returns-in_ok-write_parts-in-And
returns-in_ok-write_parts-in-And c =
    let text = printed-And (map string_bytes c.args.names.now) c.args.formula.now c.in-And.parts c.deref.result.now c.in-And.is c.deref.ensures.value in
    grind (arith, common_steps)

pub returns-in_ok-write_parts-in-Or : goal.returns-in_ok-write_parts-in-Or
returns-in_ok-write_parts-in-Or c =
    let text = printed-Or (map string_bytes c.args.names.now) c.args.formula.now c.in-Or.parts c.deref-in-Or.result.now c.in-Or.is c.deref-in-Or.ensures.value in
    grind (arith, common_steps)
