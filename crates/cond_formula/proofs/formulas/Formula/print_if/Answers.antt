use Rattle.std.proofs.Common.{arith}
use Rattle.std.proofs.lemmas.Grind.{common_steps}
use Rattle.cond_formula.specs.Conditions.{condition_of}
use Rattle.cond_formula.proofs.PrintLaws.{printed_spelling, printed_line}
use Rattle.cond_formula.proofs.formulas.Formula.print_if.Goals as goal

pub returns-clause-spelling : goal.returns-clause-spelling
returns-clause-spelling c =
    printed_spelling c.args.names.now (condition_of c.args.self.now) c.requires.numbered _ (grind (arith, common_steps))

pub returns-clause-one_line : goal.returns-clause-one_line
returns-clause-one_line c =
    printed_line c.args.names.now (condition_of c.args.self.now) c.requires.numbered c.requires.lawful _ (grind (arith, common_steps))
