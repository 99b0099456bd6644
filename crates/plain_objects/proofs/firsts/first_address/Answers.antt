use Rattle.std.proofs.Common.{rules}
use Rattle.core_meaning.specs.Plain.{plain_expression, plain_place}
use Rattle.core_meaning.specs.PlainLaws.{expression_kinds}
use Rattle.plain_objects.specs.FirstScalars.{address_there}
use Rattle.plain_objects.proofs.firsts.first_address.Goals as goal

pub returns-in-Address : goal.returns-in-Address
returns-in-Address c = λ globals. address_there globals (plain_place c.deref.result.now) (plain_expression c.args.e.now) _ (search (rules, expression_kinds)) (c.object_address.ensures globals)
