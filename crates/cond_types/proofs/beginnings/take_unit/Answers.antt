use Rattle.std.proofs.Common.{ap}
use Rattle.cond_formula.specs.Features.{has}
use Rattle.cond_formula.specs.Conditions.{condition_of, value}
use Rattle.cond_types.proofs.beginnings.take_unit.Goals as goal

pub returns-clause-takes : goal.returns-clause-takes
returns-clause-takes g c = λ n admitted. record {
  at_end = c.declare_to_end.new.unit;
  left = c.in_ok-left.left;
  found = value (has n) (condition_of c.in_ok-found.found);
  declares = λ globals. c.in_ok-found.ensures.declares n globals admitted;
  refused_is = c.in_ok-refuse.ensures (has n);
  units_are = c.in_ok-push.ensures.items;
  signatures_are = c.in_ok-left.ensures.signatures;
  next_is = c.in_ok-left.ensures.begun (has n);
  when_is = ap (value (has n)) c.in_ok-left.ensures.when;
  names_are = c.in_ok-left.ensures.names (has n);
  defined_are = c.in_ok-left.ensures.defined (has n);
}
