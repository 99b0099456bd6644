use Rattle.std.proofs.Common.{subst}
use Rattle.cond_initialisers.proofs.Each.{Each}
use Rattle.cond_initialisers.proofs.FirstValues.{AreThere, values_there}
use Rattle.cond_initialisers.proofs.constant_laws.first_values_are_there.Goals as goal

pub returns : goal.returns
returns c = λ globals scope ty path tree behind parts bindings given. subst (Each (AreThere globals)) given (values_there globals scope tree ty path behind)
