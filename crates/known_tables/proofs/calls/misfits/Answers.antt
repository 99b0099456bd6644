use Rattle.c_types.specs.Types.{plain_type}
use Rattle.choice_trees.specs.ChoiceTrees.{semicolon}
use Rattle.conditional.specs.Judgements.{bind}
use Rattle.operand_types.specs.Operators.{fitted_type}
use Rattle.known_tables.proofs.Calling.{test_refuses}
use Rattle.known_tables.proofs.calls.misfits.Goals as goal

pub returns : goal.returns
returns c = λ on x shows.
    test_refuses on (bind x (fitted_type semicolon (plain_type c.args.parameter.now))) c.in_ok-tests.tests (c.in_ok-tests.ensures semicolon on x (c.in_ok-copied.ensures on x shows))
