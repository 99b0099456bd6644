use Rattle.reduced_conditions.proofs.LiteralLaws.{on_again, off_again}
use Rattle.reduced_conditions.proofs.literals.Literals.minus.Goals as goal

pub returns-clause-ahead : goal.returns-clause-ahead
returns-clause-ahead c = λ on are. record {
  each_on = λ i is. are.each_on i (c.without_bits.ensures.few i is);
  each_off = λ i is. are.each_off i (c.without_bits-2.ensures.few i is);
}

pub returns-clause-back : goal.returns-clause-back
returns-clause-back c = λ on rest more. record {
  each_on = on_again on c.args.self.now.on c.args.others.now.on c.without_bits.result c.without_bits.ensures rest.each_on more.each_on;
  each_off = off_again on c.args.self.now.off c.args.others.now.off c.without_bits-2.result c.without_bits-2.ensures rest.each_off more.each_off;
}
