use Rattle.std.proofs.Common.{sym, ◌∙◌}
use Rattle.core_meaning.specs.Plain.{plain_expression}
use Rattle.plain_objects.specs.FirstScalars.{number_there}
use Rattle.plain_objects.proofs.firsts.first_scalar.Goals as goal

pub returns-then-is_constant : goal.returns-then-is_constant
returns-then-is_constant c = λ globals. number_there globals (plain_expression c.args.e.now) _ (sym c.is_constant.ensures ∙ c.if-is_constant.true) (c.first_number.ensures globals)
