use Rattle.std.proofs.Common.{arith}
use Rattle.decimal_numbers.proofs.OneNumber.{no_number, number_or_none}
use Rattle.decimal_numbers.proofs.numbers.number_in.Goals as goal

pub returns-in_ok-found-in-Ok : goal.returns-in_ok-found-in-Ok
returns-in_ok-found-in-Ok c = number_or_none c.args.largest (omega arith) c.args.text.now c.parse.result c.in-Ok.number c.in_ok-found-in-Ok.found c.in-Ok.is c.parse.ensures.value.0 c.in_ok-found-in-Ok.ensures

pub returns-in-Err : goal.returns-in-Err
returns-in-Err c = no_number c.args.largest (omega arith) c.args.text.now c.in-Err.field-0 c.in-Err.ensures.value.0
